-- The laws of `specs/`: what fits, and what a row and a range hold while they are written. Assumes nothing.
use Prim.Native.Nat.{ℕ, zero, suc, ◌+◌, ◌-◌, ◌*◌, ◌<◌, ◌≤◌, min}
use Rattle.std.proofs.Math.Nat.{zero-min, min-zero, suc-min-suc}
use mathlib.Core.Path.{◌≡◌, refl, sym, ap, ◌∙◌}
use mathlib.Core.Bool.{true, false}
use mathlib.Core.List.{List, [], ◌∷◌, ◌++◌, zip_with, append-nil, append_assoc}
use native.Mathlib.Nat.{not-suc-le-zero, le_of_suc-le-suc, le_of_eq, add_assoc, zero-add, add-zero}
use native.Mathlib.Numerals.{add-one}
use native.Mathlib.Omega.{arith}
use borrow.Author.Tests.{leb-true, le-leb}
use borrow.Rule.Slice.PartMut.{put_mid}
use lib.Dec.{eqb}
use lib.ListN.{length, take, drop, get_or, set, replicate, length-take, length-drop, length-replicate, replicate-append-replicate, drop_of_length-le}
use lib.Seq.{take_all, take_at, drop_at, drop-drop, drop-length}
use Rattle.measure.specs.Words.{programmed_word, bits_not_set}
use Rattle.flash.specs.Parts.{blank, fits, start_of, part, with_part}
use Rattle.flash.specs.Operations.{Outcome, outcome, outside_array, program_row_at, erase_all, erase_range, programmed_words, total, row_not_set, page_of}
use Rattle.flash.specs.Internals.{end_of, ProgramWordsPromise}
use Rattle.flash.specs.declared.OutsideArray.{OutsideArray}
use Rattle.std.specs.Prelude.{Result, Ok, Err, if◌then◌else◌}
use Rattle.measure.specs.Tests.{by_test}

-- ---- what fits

module _ (length first count : ℕ) where
  -- the end of what fits an array of this length
  pub ends_at : {end : ℕ} → Ok end ≡ end_of length first count → (fits length first count ≡ true) × (end ≡ first + count)
  unfolding end_of
  ends_at {end} =
      by_test (λ (e : Result ℕ OutsideArray). Ok end ≡ e → (fits length first count ≡ true) × (end ≡ first + count)) (fits length first count)
      (λ t e. (t, cc)) (λ _ e. absurd (let z : ◌≡◌ {A = ℕ} 0 1 = cc in omega arith))

  pub no_end : {e : OutsideArray} → Err e ≡ end_of length first count → fits length first count ≡ false
  unfolding end_of
  no_end {e} =
      by_test (λ (r : Result ℕ OutsideArray). Err e ≡ r → fits length first count ≡ false) (fits length first count)
      (λ _ e. absurd (let z : ◌≡◌ {A = ℕ} 0 1 = cc in omega arith)) (λ f _. f)

  -- its words lie in the array
  pub end_in : {end : ℕ} → Ok end ≡ end_of length first count → (first + count ≤ length) × (end ≡ first + count)
  end_in e = let at = ends_at e in (leb-true (first + count) length at.0, at.1)

-- ---- a part that was written, put back

pub part_length : (flash : List ℕ) (first count : ℕ) → first + count ≤ length flash → length (part flash first count) ≡ count
part_length flash first count h = simp (length-take, length-drop) (omega arith)

module _ (flash : List ℕ) (first count : ℕ) (h : first + count ≤ length flash) where
  -- the machine's end of the part, less its start
  pub lent_count : first + count - first ≡ count
  lent_count = omega arith

  -- `of` says what became of the part's words, and how many they are still
  pub put_back : (of : List ℕ → List ℕ) {last : List ℕ} → length (of (part flash first count)) ≡ count
      → last ≡ of (part flash first (first + count - first))
      → put_mid first (first + count - first) flash last ≡ with_part flash first (of (part flash first count))
  unfolding with_part
  put_back of l e = rw (e, lent_count, l, drop-drop)

-- ---- two lists joined word by word: after i words, and one word more

module _ (f : ℕ → ℕ → ℕ) where
  abbrev pub zipped : ℕ → List ℕ → List ℕ → List ℕ
  zipped i old latches = zip_with f (take i old) (take i latches) ++ drop i old

  pub zipped_at : (i : ℕ) (old latches : List ℕ) → i < length old → i < length latches
      → get_or (zipped i old latches) i 0 ≡ get_or old i 0
  unfolding zip_with
  zipped_at i [] latches h k = absurd (not-suc-le-zero h)
  zipped_at i (x ∷ old) [] h k = absurd (not-suc-le-zero k)
  zipped_at zero (x ∷ old) (y ∷ latches) h k = refl
  zipped_at (suc i) (x ∷ old) (y ∷ latches) h k = zipped_at i old latches (le_of_suc-le-suc h) (le_of_suc-le-suc k)

  pub zipped_more : (i : ℕ) (old latches : List ℕ) → i < length old → i < length latches
      → set (zipped i old latches) i (f (get_or old i 0) (get_or latches i 0)) ≡ zipped (suc i) old latches
  unfolding zip_with
  zipped_more i [] latches h k = absurd (not-suc-le-zero h)
  zipped_more i (x ∷ old) [] h k = absurd (not-suc-le-zero k)
  zipped_more zero (x ∷ old) (y ∷ latches) h k = refl
  zipped_more (suc i) (x ∷ old) (y ∷ latches) h k =
      ap (λ (t : List ℕ). f x y ∷ t) (zipped_more i old latches (le_of_suc-le-suc h) (le_of_suc-le-suc k))

  pub total_more : (i : ℕ) (old latches : List ℕ) → i < length old → i < length latches
      → total (zip_with f (take i old) (take i latches)) + f (get_or old i 0) (get_or latches i 0)
      ≡ total (zip_with f (take (suc i) old) (take (suc i) latches))
  unfolding zip_with total
  total_more i [] latches h k = absurd (not-suc-le-zero h)
  total_more i (x ∷ old) [] h k = absurd (not-suc-le-zero k)
  total_more zero (x ∷ old) (y ∷ latches) h k = zero-add _ ∙ sym (add-zero _)
  total_more (suc i) (x ∷ old) (y ∷ latches) h k =
      add_assoc (f x y) _ _ ∙ ap (λ (n : ℕ). f x y + n) (total_more i old latches (le_of_suc-le-suc h) (le_of_suc-le-suc k))

  pub length_zip : (old latches : List ℕ) → length (zip_with f old latches) ≡ min (length old) (length latches)
  unfolding zip_with
  length_zip [] latches = sym (zero-min (length latches))
  length_zip (x ∷ old) [] = sym (min-zero (suc (length old)))
  length_zip (x ∷ old) (y ∷ latches) = ap suc (length_zip old latches) ∙ sym (suc-min-suc (length old) (length latches))

-- ---- the row, a word at a time

module _ (old latches row : List ℕ) (i : ℕ) (h : i < 64) (a : length old ≡ 64) (b : length latches ≡ 64) (e : row ≡ zipped programmed_word i old latches) where
  row_at : get_or row i 0 ≡ get_or old i 0
  row_at = rw e (zipped_at programmed_word i old latches (omega arith) (omega arith))

  pub row_more : {exit : List ℕ} → exit ≡ set row i (programmed_word (get_or row i 0) (get_or latches i 0))
      → exit ≡ zipped programmed_word (i + 1) old latches
  row_more p = p ∙ rw (row_at, e, add-one) (zipped_more programmed_word i old latches (omega arith) (omega arith))

  pub count_more : {n m : ℕ} → n ≡ total (zip_with bits_not_set (take i old) (take i latches)) → m ≡ bits_not_set (get_or row i 0) (get_or latches i 0)
      → n + m ≡ total (zip_with bits_not_set (take (i + 1) old) (take (i + 1) latches))
  count_more p q = rw (p, q, row_at, add-one) (total_more bits_not_set i old latches (omega arith) (omega arith))

module _ (old latches : List ℕ) (a : length old ≡ 64) (b : length latches ≡ 64) where
  pub row_done : zipped programmed_word 64 old latches ≡ programmed_words old latches
  unfolding programmed_words
  row_done = rw (take_all 64 old (le_of_eq a), take_all 64 latches (le_of_eq b), drop_of_length-le old (le_of_eq a), append-nil)

  pub count_done : total (zip_with bits_not_set (take 64 old) (take 64 latches)) ≡ row_not_set old latches
  unfolding row_not_set
  count_done = rw (take_all 64 old (le_of_eq a), take_all 64 latches (le_of_eq b))

  pub length_programmed : length (programmed_words old latches) ≡ 64
  unfolding programmed_words
  length_programmed = length_zip programmed_word old latches ∙ rw (a, b) refl

-- ---- what an operation on a part leaves of the whole array: it fits, or nothing changes

module _ {A : Type 0} (flash : List ℕ) (first count : ℕ) (answer : A) where
  abbrev on_part : List ℕ → Outcome (Result A OutsideArray)
  on_part new = if fits (length flash) first count then outcome (Ok answer) (with_part flash first new) else outcome (Err outside_array) flash

  pub outside : (new : List ℕ) {result : Result A OutsideArray} {e : OutsideArray} → Err e ≡ end_of (length flash) first count → result ≡ Err e
      → outcome result flash ≡ on_part new
  outside new p q = rw (q, no_end (length flash) first count p) refl

  -- `of` says what became of the part's words, and how many they are still
  inside : (of : List ℕ → List ℕ) {end : ℕ} {result : A} {last : List ℕ} → length (of (part flash first count)) ≡ count
      → Ok end ≡ end_of (length flash) first count
      → result ≡ answer
      → last ≡ of (part flash first (end - first))
      → outcome (Ok result) (put_mid first (end - first) flash last) ≡ on_part (of (part flash first count))
  inside of {end} {result} {last} l p r e =
      let at = ends_at (length flash) first count p in
      let fit = leb-true (first + count) (length flash) at.0 in
      rw (at.0, at.1, r) (ap (outcome (Ok answer)) (put_back flash first count fit of l (rw at.1 at e)))

-- the part's length, and the number of its words that the machine counts from its end
part_fits : (flash : List ℕ) (first count : ℕ) {end : ℕ} → Ok end ≡ end_of (length flash) first count
    → (length (part flash first count) ≡ count) × (end - first ≡ count)
part_fits flash first count p =
    let in_flash = end_in (length flash) first count p in (part_length flash first count in_flash.0, omega (arith, in_flash.1))

pub erased : (flash : List ℕ) (first count : ℕ) {end : ℕ} {last : List ℕ} → Ok end ≡ end_of (length flash) first count
    → last ≡ replicate (length (part flash first (end - first))) blank
    → outcome (Ok tt) (put_mid first (end - first) flash last) ≡ erase_range flash first count
unfolding erase_range
erased flash first count p e =
    let fit = part_fits flash first count p in
    inside flash first count tt (λ ws. replicate (length ws) blank) (length-replicate _ blank ∙ fit.0) p refl e ∙ rw fit.0 refl

pub programmed : (flash latches : List ℕ) (first : ℕ) {end result : ℕ} {last : List ℕ} → length latches ≡ 64
    → Ok end ≡ end_of (length flash) first 64
    → ProgramWordsPromise (part flash first (end - first)) latches result last
    → outcome (Ok result) (put_mid first (end - first) flash last) ≡ program_row_at flash first latches
unfolding program_row_at
programmed flash latches first b p words =
    let fit = part_fits flash first 64 p in
    inside flash first 64 (row_not_set (part flash first 64) latches) (λ ws. programmed_words ws latches) (length_programmed _ latches fit.0 b) p
    (words.not_set ∙ rw fit.1 refl) words.words

pub no_page : (flash : List ℕ) (size index : ℕ) → fits (length flash) (start_of size index) size ≡ false → page_of flash size index ≡ []
unfolding page_of
no_page flash size index e = by_test (λ (page : List ℕ). page ≡ []) (eqb size 0) (λ _. refl) (λ _. rw e refl)

-- ---- a whole array that was erased, as a range

whole_range : (flash : List ℕ) → erase_range flash 0 (length flash) ≡ outcome (Ok tt) (erase_all flash)
unfolding erase_range with_part
whole_range flash =
    let fit : 0 + length flash ≤ length flash = omega arith in
    rw (le-leb (0 + length flash) (length flash) fit, length-replicate, zero-add (length flash), drop-length, append-nil)

pub whole_erased : (flash : List ℕ) {answer : Result Unit OutsideArray} {exit : List ℕ} → outcome answer exit ≡ erase_range flash 0 (length flash)
    → exit ≡ erase_all flash
whole_erased flash e = ap (λ (o : Outcome (Result Unit OutsideArray)). o.flash) (e ∙ whole_range flash)

-- ---- a part filled from its front

-- so many blank rows, and then the words as lent
abbrev pub filled : ℕ → List ℕ → List ℕ
filled rows words = replicate (rows * 64) blank ++ drop (rows * 64) words

-- a row more
pub filled_row : (rows : ℕ) (words : List ℕ) {last : List ℕ} → last ≡ replicate 64 blank
    → put_mid (rows * 64) (rows * 64 + 64 - rows * 64) (filled rows words) last ≡ filled (rows + 1) words
filled_row rows words e =
    let k : rows * 64 + 64 - rows * 64 ≡ 64 = omega arith in
    let m : (rows + 1) * 64 ≡ rows * 64 + 64 = omega arith in
    rw (e, k, m, take_at (replicate (rows * 64) blank) (drop (rows * 64) words) (rows * 64) (length-replicate (rows * 64) blank), drop_at (replicate (rows * 64) blank) (drop (rows * 64) words) (rows * 64) (length-replicate (rows * 64) blank), drop-drop)
    (sym (append_assoc (replicate (rows * 64) blank) (replicate 64 blank) (drop (rows * 64 + 64) words)) ∙ rw (replicate-append-replicate (rows * 64) 64 blank))
