-- What a harmless decision comes to on two devices that are alike. Assumes nothing.
use Prim.Native.Nat.{ℕ, suc, ◌+◌, ◌≤◌, ◌<◌, min}
use Rattle.std.proofs.Math.Nat.{zero-min, min-zero, suc-min-suc}
use Rattle.std.proofs.Common.{arith, ◌∙◌, subst, length-append, length-take, length-drop, take-take}
use Rattle.std.specs.Prelude.{◌≡◌, Bool, false, eqb, ltb, take, drop, set, Option, Result}
use Rattle.std.proofs.Math.Path.{refl, sym, ap}
use Rattle.std.proofs.Math.Bool.{true}
use mathlib.Core.List.{List, [], ◌∷◌, ◌++◌, zip_with}
use borrow.Author.Tests.{leb-true}
use Rattle.std.proofs.Math.ListN.{length, get_or, replicate}
use Rattle.std.proofs.lemmas.List.{take-append-le}
use Rattle.std.proofs.Math.Seq.{get_or-take}
use Rattle.flash.proofs.Laws.{length_zip}
use Rattle.flash.specs.Parts.{blank, fits, start_of, part, with_part}
use Rattle.flash.specs.Operations.{read_word, row_words, programmed_words, row_not_set, program_row_at, program_row, erase_range, erase_page}
use Rattle.flash.specs.declared.OutsideArray.{OutsideArray}
use Rattle.part.specs.Places.{in_array}
use Rattle.rules.specs.Answers.{number_of, value_of}
use Rattle.carrying.specs.CarryingOut.{
  Device,
  device_from,
  Left,
  leaves,
  words_in,
  with_words,
  blank_latches,
  with_pc,
  with_fuse,
  trapped,
  reset_by_security,
  powered_on,
  read_answer,
  row_answer,
  row_latches,
  erase_answer,
  program,
  erase,
  clear,
  carry_out,
}
use Rattle.carrying.specs.Alike.{Alike, still_high, all_same, Agree}
use Rattle.rules.specs.SecretSegment.{other_array, vectors_in, fuse_of, high_in}
use Rattle.part.specs.Descriptions.{page_words_of}
use Rattle.rules.specs.Harmless.{OwnChange, harmless}
use Rattle.measure.specs.Tests.{by_value, never}
use Rattle.part.specs.declared.Description.{Description}
use Rattle.rules.specs.declared.Registers.{Registers}
use Rattle.rules.specs.declared.Answer.{Answer}
use Rattle.rules.specs.declared.Answer.TheVariants.{Done, NotStarted, SecurityReset, AddressTrap}
use Rattle.part.specs.declared.FlashArray.{FlashArray}
use Rattle.part.specs.declared.FlashArray.TheVariants.{GeneralArray, AuxiliaryArray}
use Rattle.rules.specs.declared.Change.TheVariants.{Row, Page}
use Rattle.rules.specs.declared.Decision.{Decision}
use Rattle.rules.specs.declared.Decision.TheVariants.{
  Refuse,
  Trap,
  Reset,
  PowerUp,
  MoveTo,
  LoadLatch,
  ReadAt,
  ChangeAt,
  EraseWhole,
  StoreFuse,
}

-- ---- arrays of one length with one front

record Fronts (k : ℕ) (u v : List ℕ) : Type 0 where
  lengths : length u ≡ length v
  front : take k u ≡ take k v

take_part : (k : ℕ) (flash : List ℕ) (first : ℕ) (new : List ℕ) → k ≤ first → first ≤ length flash
    → take k (with_part flash first new) ≡ take k flash
unfolding with_part
take_part k flash first new a b =
    take-append-le k (take first flash) (new ++ drop (first + length new) flash) (simp length-take (omega arith))
    ∙ take-take k first flash a

-- new words in one part, past the front
part_fronts : (k : ℕ) (u v : List ℕ) (first : ℕ) (new new' : List ℕ) → Fronts k u v → k ≤ first → first ≤ length u
    → length new ≡ length new' → Fronts k (with_part u first new) (with_part v first new')
unfolding with_part
part_fronts k u v first new new' f a b l =
    record {
      lengths = simp (length-append, length-take, length-drop, f.lengths, l);
      front = take_part k u first new a b ∙ f.front ∙ sym (take_part k v first new' a (rw f.lengths at b));
    }

-- ---- what operations on such arrays tell

module _ (u v : List ℕ) (n : ℕ) where
  read_number : length u ≡ length v → number_of (read_answer (read_word u n)) ≡ number_of (read_answer (read_word v n))
  unfolding read_word
  read_number l = rw l (by_value (ltb n (length v)) (λ e. rw e) (λ e. rw e))

  read_front : (k : ℕ) → Fronts k u v → n < k → read_word u n ≡ read_word v n
  unfolding read_word
  read_front k f h =
      let word : get_or u n 0 ≡ get_or v n 0 =
      sym (get_or-take k u n 0 h) ∙ ap (λ (l : List ℕ). get_or l n 0) f.front ∙ get_or-take k v n 0 h in
      rw (word, f.lengths)

-- the fuse byte of S after a byte was stored: in it, or in the other
stored_own : (S : FlashArray) (r : Registers) (byte : ℕ) → fuse_of S (with_fuse r S byte).fgs (with_fuse r S byte).fas ≡ byte
stored_own GeneralArray r byte = refl
stored_own AuxiliaryArray r byte = refl

stored_other : (S : FlashArray) (r : Registers) (byte : ℕ)
    → fuse_of S (with_fuse r (other_array S) byte).fgs (with_fuse r (other_array S) byte).fas ≡ fuse_of S r.fgs r.fas
stored_other GeneralArray r byte = refl
stored_other AuxiliaryArray r byte = refl

-- an array is that of S or the other one
by_array : (S : FlashArray) (P : FlashArray → Type 0) → P S → P (other_array S) → (array : FlashArray) → P array
by_array GeneralArray P a b GeneralArray = a
by_array GeneralArray P a b AuxiliaryArray = b
by_array AuxiliaryArray P a b GeneralArray = b
by_array AuxiliaryArray P a b AuxiliaryArray = a

-- ---- what two devices that are alike are left as

fronts : {S : FlashArray} {p q : Device} → Alike S p q → Fronts (vectors_in S) (words_in S p) (words_in S q)
fronts k = record { lengths = k.lengths; front = k.vectors }

pub same_agree : (d : Description) (S : FlashArray) (own : Bool) (l : Left) → Agree d S own l l
same_agree d S own l =
    record {
      number = refl;
      value = λ _. refl;
      alike = record { registers = refl; latches = refl; other = refl; lengths = refl; vectors = refl };
      known = all_same refl;
    }

equal_agree : (d : Description) (S : FlashArray) (own : Bool) {l m : Left} → l ≡ m → Agree d S own l m
equal_agree d S own {l} e = subst (λ (z : Left). Agree d S own l z) e (same_agree d S own l)

-- the device's words, with these registers and latches
abbrev on : Device → Registers → List ℕ → Device
on device r latches = device_from r latches device.general device.auxiliary

-- registers and latches are the same on both, so the second device is
same_parts : {S : FlashArray} {p q : Device} → Alike S p q → on q p.registers p.latches ≡ q
same_parts k = rw (k.registers, k.latches)

module _ (d : Description) (own : Bool) where
  agree : {S : FlashArray} {l m : Left} → l.number ≡ m.number → (own ≡ false → l.value ≡ m.value)
      → l.device.registers ≡ m.device.registers
      → l.device.latches ≡ m.device.latches
      → words_in (other_array S) l.device ≡ words_in (other_array S) m.device
      → Fronts (vectors_in S) (words_in S l.device) (words_in S m.device)
      → high_in d S l.device.registers ≡ true
      → Agree d S own l m
  agree n w r t o f h =
      record {
        number = n;
        value = w;
        alike = record { registers = r; latches = t; other = o; lengths = f.lengths; vectors = f.front };
        known = still_high h;
      }

module _ (d : Description) (own : Bool) (p q : Device) where
  -- no word changes
  kept : (S : FlashArray) (r : Registers) (latches : List ℕ) (a b : Answer) → Alike S p q → high_in d S r ≡ true
      → number_of a ≡ number_of b
      → (own ≡ false → value_of a ≡ value_of b)
      → Agree d S own (leaves a (on p r latches)) (leaves b (on q r latches))
  kept S r latches a b k h n w = agree d own n w refl refl k.other (fronts k) h

  -- words of S's array change
  within : (S : FlashArray) (r : Registers) (latches : List ℕ) (a b : Answer) (u v : List ℕ) → Alike S p q
      → high_in d S r ≡ true
      → number_of a ≡ number_of b
      → (own ≡ false → value_of a ≡ value_of b)
      → Fronts (vectors_in S) u v
      → Agree d S own (leaves a (with_words S (on p r latches) u)) (leaves b (with_words S (on q r latches) v))
  within GeneralArray r latches a b u v k h n w f = agree d own n w refl refl k.other f h
  within AuxiliaryArray r latches a b u v k h n w f = agree d own n w refl refl k.other f h

  -- words of the other array change
  elsewhere : (S : FlashArray) (r : Registers) (latches : List ℕ) (a : Answer) (u : List ℕ) → Alike S p q
      → high_in d S r ≡ true
      → Agree d S own (leaves a (with_words (other_array S) (on p r latches) u)) (leaves a (with_words (other_array S) (on q r latches) u))
  elsewhere GeneralArray r latches a u k h = agree d own refl (λ _. refl) refl refl refl (fronts k) h
  elsewhere AuxiliaryArray r latches a u k h = agree d own refl (λ _. refl) refl refl refl (fronts k) h

  -- S's array becomes the same on both
  emptied : (S : FlashArray) (r : Registers) (latches u v : List ℕ) → Alike S p q → u ≡ v
      → with_words S (on p r latches) u ≡ with_words S (on q r latches) v
  emptied GeneralArray r latches u v k e = rw (k.other, e)
  emptied AuxiliaryArray r latches u v k e = rw (k.other, e)

  module _ (S : FlashArray) (r : Registers) (latches : List ℕ) (k : Alike S p q) (h : high_in d S r ≡ true) where
    row_carried : (n : ℕ) → OwnChange d S own Row n → Agree d S own (program S n (on p r latches)) (program S n (on q r latches))
    unfolding program program_row_at programmed_words
    row_carried n o =
        rw k.lengths (by_value (fits (length (words_in S q)) (start_of row_words n) row_words)
        (λ e. rw e (within S r blank_latches (Done (not_set_in p)) (Done (not_set_in q)) _ _ k h refl (never o.code)
        (part_fronts (vectors_in S) (words_in S p) (words_in S q) (start_of row_words n) _ _ (fronts k) o.past
        (room e) words)))
        (λ e. rw e (within S r latches NotStarted NotStarted _ _ k h refl (λ _. refl) (fronts k))))
      where
        not_set_in : Device → ℕ
        not_set_in device = row_not_set (part (words_in S device) (start_of row_words n) row_words) latches

        room : fits (length (words_in S q)) (start_of row_words n) row_words ≡ true → start_of row_words n ≤ length (words_in S p)
        room e = omega (arith, k.lengths, leb-true (start_of row_words n + row_words) (length (words_in S q)) e)

        words : length (programmed_words (part (words_in S p) (start_of row_words n) row_words) latches)
            ≡ length (programmed_words (part (words_in S q) (start_of row_words n) row_words) latches)
        words = simp (length_zip, length-take, length-drop, k.lengths)

    page_carried : (n : ℕ) → OwnChange d S own Page n
        → Agree d S own (erase (page_words_of d) S n (on p r latches)) (erase (page_words_of d) S n (on q r latches))
    unfolding erase erase_page erase_range
    page_carried n o =
        by_value (eqb (page_words_of d) 0)
        (λ z. rw z (within S r latches NotStarted NotStarted _ _ k h refl (λ _. refl) (fronts k)))
        (λ z. rw (z, k.lengths) (by_value (fits (length (words_in S q)) (start_of (page_words_of d) n) (page_words_of d))
        (λ e. rw e (within S r latches (Done 0) (Done 0) _ _ k h refl (λ _. refl)
        (part_fronts (vectors_in S) (words_in S p) (words_in S q) (start_of (page_words_of d) n) _ _ (fronts k) o.past (room e) refl)))
        (λ e. rw e (within S r latches NotStarted NotStarted _ _ k h refl (λ _. refl) (fronts k)))))
      where
        room : fits (length (words_in S q)) (start_of (page_words_of d) n) (page_words_of d) ≡ true → start_of (page_words_of d) n ≤ length (words_in S p)
        room e = omega (arith, k.lengths, leb-true (start_of (page_words_of d) n + page_words_of d) (length (words_in S q)) e)

    abbrev Outcomes : Decision → Type 0
    Outcomes decision =
        harmless d S own decision
        → Agree d S own (carry_out (page_words_of d) (on p r latches) decision) (carry_out (page_words_of d) (on q r latches) decision)

    -- one answer on both, and no word changes
    same : (t : Registers) (l : List ℕ) (a : Answer) → high_in d S t ≡ true → Agree d S own (leaves a (on p t l)) (leaves a (on q t l))
    same t l a high = kept S t l a a k high refl (λ _. refl)

    carried_on : (decision : Decision) → Outcomes decision
    unfolding carry_out program erase clear
    carried_on (Refuse answer) = λ _. same r latches answer h
    carried_on Trap = λ _. same (trapped r) latches AddressTrap h
    carried_on Reset = λ _. same (reset_by_security r) blank_latches SecurityReset h
    carried_on PowerUp = λ _. same (powered_on r) blank_latches (Done 0) h
    carried_on (MoveTo target) = λ _. same (with_pc r target) latches (Done 0) h
    carried_on (LoadLatch latch word) = λ _. same r (set latches latch word) (Done 0) h
    carried_on (ReadAt place) =
        let n = place.index in
        by_array S (λ array. Outcomes (ReadAt (in_array array n)))
        (λ z. kept S r latches (read_answer (read_word (words_in S p) n)) (read_answer (read_word (words_in S q) n)) k h
        (read_number (words_in S p) (words_in S q) n k.lengths)
        (λ f. ap (λ (found : Option ℕ). value_of (read_answer found)) (read_front (words_in S p) (words_in S q) n (vectors_in S) (fronts k) (z refl f))))
        (λ z. rw k.other (same r latches (read_answer (read_word (words_in (other_array S) q) n)) h))
        place.array
    carried_on (ChangeAt Row place) =
        let n = place.index in
        by_array S (λ array. Outcomes (ChangeAt Row (in_array array n))) (λ z. row_carried n (z refl))
        (λ z.
        let row : Result ℕ OutsideArray = (program_row (words_in (other_array S) q) n latches).answer in
        rw k.other (elsewhere S r (row_latches latches row) (row_answer row) _ k h))
        place.array
    carried_on (ChangeAt Page place) =
        let n = place.index in
        by_array S (λ array. Outcomes (ChangeAt Page (in_array array n))) (λ z. page_carried n (z refl))
        (λ z. rw k.other (elsewhere S r latches (erase_answer (erase_page (words_in (other_array S) q) (page_words_of d) n).answer) _ k h))
        place.array
    carried_on (EraseWhole array) =
        by_array S (λ array. Outcomes (EraseWhole array))
        (λ z. equal_agree d S own (ap (leaves (Done 0)) (emptied S (with_fuse r S 0x03) latches _ _ k (ap (λ (n : ℕ). replicate n blank) k.lengths))))
        (λ z. rw k.other (elsewhere S (with_fuse r (other_array S) 0x03) latches (Done 0) _ k (rw (stored_other S r 0x03) h)))
        array
    carried_on (StoreFuse array byte) =
        by_array S (λ array. Outcomes (StoreFuse array byte))
        (λ z. same (with_fuse r S byte) latches (Done 0) (rw (stored_own S r byte) (z refl)))
        (λ z. same (with_fuse r (other_array S) byte) latches (Done 0) (rw (stored_other S r byte) h))
        array

-- S being at high level, an answer that changes nothing, and a decision that is harmless
module _ (d : Description) (S : FlashArray) (own : Bool) (p q : Device) (k : Alike S p q) (h : high_in d S p.registers ≡ true) where
  pub answered : (answer : Answer) → Agree d S own (leaves answer p) (leaves answer q)
  answered answer =
      subst (λ (z : Device). Agree d S own (leaves answer p) (leaves answer z)) (same_parts k)
      (same d own p q S p.registers p.latches k h p.registers p.latches answer h)

  pub carried : (decision : Decision) → harmless d S own decision
      → Agree d S own (carry_out (page_words_of d) p decision) (carry_out (page_words_of d) q decision)
  carried decision quiet =
      subst (λ (z : Device). Agree d S own (carry_out (page_words_of d) p decision) (carry_out (page_words_of d) z decision)) (same_parts k)
      (carried_on d own p q S p.registers p.latches k h decision quiet)
