-- While S is at high level, every decision is harmless. Assumes nothing.
use Rattle.std.specs.Prelude.{ℕ, ◌+◌, ◌-◌, ◌%◌, ◌≤◌, ◌<◌, ◌≡◌, refl, Bool, true, false, not, ◌&&◌, List, eqb, ltb, Option, Some, None}
use Rattle.std.proofs.Math.Nat.{mod-le, mod-eq-sub-mod}
use native.Mathlib.Omega.{arith}
use Rattle.std.proofs.Common.{sym, ltb-true, ltb-false, eqb-true}
use Rattle.std.proofs.lemmas.Bool.{false≢true, not-true, not-false}
use Rattle.measure.specs.Measures.{even, address}
use Rattle.measure.specs.declared.ProgramAddress.{ProgramAddress}
use Rattle.fuse.specs.Byte.{stored_byte, level_of, write_protection_of, is_high}
use Rattle.fuse.specs.declared.Level.{Level}
use Rattle.fuse.specs.declared.Level.TheVariants.{None as level_none, High}
use Rattle.fuse.specs.declared.WriteProtection.{WriteProtection}
use Rattle.fuse.specs.declared.WriteProtection.TheVariants.{Writable, Protected}
use Rattle.permission.specs.Table.{row_of, allowed}
use Rattle.permission.specs.declared.Operation.{Operation}
use Rattle.permission.specs.declared.Operation.TheVariants.{Program, Read}
use Rattle.permission.specs.declared.Origin.{Origin}
use Rattle.permission.specs.declared.Origin.TheVariants.{FromGeneral, FromAuxiliary}
use Rattle.permission.specs.declared.Segment.{Segment}
use Rattle.permission.specs.declared.Segment.TheVariants.{General, Auxiliary, Vectors}
use Rattle.flash.specs.Parts.{start_of}
use Rattle.part.specs.Descriptions.{page_words_of, good_page, good_general, good_auxiliary, good_vector, is_valid, has_auxiliary}
use Rattle.part.specs.Places.{place_at, is_implemented, in_array, vector_words, running_at, from_general, target_of}
use Rattle.rules.specs.Rules.{
  next,
  is_shut,
  flow_change,
  vector_word,
  to_vector,
  interrupt,
  may_read,
  read_in,
  may_change,
  change_in,
  releases,
  program_fgs,
  is_open,
  program_fas,
  own_rule,
  is_power_on,
  rule_from,
  decide,
}
use Rattle.measure.specs.Tests.{by_test, by_value, never, and_left, and_right, or_left, or_else}
use Rattle.rules.specs.SecretSegment.{vectors_in, high_in, is_own, own_code, issued_from}
use Rattle.rules.specs.Harmless.{size_of, OwnChange, Quiet}
use Rattle.part.specs.declared.Description.{Description}
use Rattle.event.specs.declared.Event.{Event}
use Rattle.event.specs.declared.Event.TheVariants.{
  Next,
  FlowChange,
  Interrupt,
  TableRead,
  TableWrite,
  ProgramRow,
  ErasePage,
  EraseGeneral,
  EraseAuxiliary,
  ProgramFgs,
  ProgramFas,
  PowerOn,
}
use Rattle.part.specs.declared.FlashArray.{FlashArray}
use Rattle.part.specs.declared.FlashArray.TheVariants.{GeneralArray, AuxiliaryArray}
use Rattle.part.specs.declared.Place.{Place}
use Rattle.rules.specs.declared.Registers.{Registers}
use Rattle.rules.specs.declared.Change.{Change}
use Rattle.rules.specs.declared.Change.TheVariants.{Row, Page}
use Rattle.rules.specs.declared.Decision.{Decision}

arrays_differ : GeneralArray ≡ AuxiliaryArray → ⊥
arrays_differ e = let z : ◌≡◌ {A = ℕ} 0 1 = cc in omega arith

-- ---- rows and pages past page 0

-- the start of the page that holds n is past page 0, where n is
start_past : (n p : ℕ) → p ≤ n → p ≤ start_of p n
start_past n p h =
    let e : n % p ≡ (n - p) % p = mod-eq-sub-mod h in
    let k : (n - p) % p ≤ n - p = mod-le (n - p) p in
    omega arith

page_least : (d : Description) → is_valid d ≡ true → 512 ≤ page_words_of d
unfolding is_valid
page_least d v =
    by_value (eqb (page_words_of d) 512)
    (λ e. omega (arith, eqb-true (page_words_of d) 512 e))
    (λ e. omega (arith, eqb-true (page_words_of d) 1024 (or_else _ _ sizes e)))
  where
    sizes : good_page d ≡ true
    sizes = and_left (good_page d) (good_general d) (and_left _ (good_auxiliary d) (and_left _ (good_vector d) v))

-- ---- table 23-1 at high level: own code, and reads of the vectors

abbrev open_to : Operation → Origin → Segment → Bool
open_to operation origin General = from_general origin
open_to operation origin Auxiliary = not (from_general origin)
open_to Program origin Vectors = false
open_to Read origin Vectors = true

high_cells : (operation : Operation) (origin : Origin) (segment : Segment) (level : Level) (protection : WriteProtection)
    → is_high level ≡ true
    → allowed operation origin (record { segment = segment; level = level; protection = protection }) ≡ true
    → open_to operation origin segment ≡ true
unfolding allowed row_of
high_cells operation origin segment level_none protection h t = absurd (false≢true h)
high_cells operation FromGeneral General High protection h t = refl
high_cells operation FromAuxiliary Auxiliary High protection h t = refl
high_cells Program FromGeneral Auxiliary High Writable h t = t
high_cells Program FromGeneral Auxiliary High Protected h t = t
high_cells Program FromGeneral Vectors High Writable h t = t
high_cells Program FromGeneral Vectors High Protected h t = t
high_cells Program FromAuxiliary General High Writable h t = t
high_cells Program FromAuxiliary General High Protected h t = t
high_cells Program FromAuxiliary Vectors High Writable h t = t
high_cells Program FromAuxiliary Vectors High Protected h t = t
high_cells Read FromGeneral Auxiliary High Writable h t = t
high_cells Read FromGeneral Auxiliary High Protected h t = t
high_cells Read FromAuxiliary General High Writable h t = t
high_cells Read FromAuxiliary General High Protected h t = t
high_cells Read origin Vectors High protection h t = refl

-- ---- each rule, while S is at high level

module _ (d : Description) (r : Registers) where
  -- a word of S is read by S's own code only
  read_own : (S : FlashArray) (origin : Origin) (n : ℕ) → high_in d S r ≡ true → may_read d r origin (in_array S n) ≡ true → is_own S origin ≡ false
      → n < vectors_in S
  unfolding target_of
  read_own GeneralArray origin n h t f =
      by_value (ltb n vector_words) (ltb-true n vector_words)
      (λ e. never (high_cells Read origin General _ (write_protection_of r.fgs) h (rw e at t)) f)
  read_own AuxiliaryArray origin n h t f = never (high_cells Read origin Auxiliary _ (write_protection_of r.fas) h t) f

  -- a row or a page that begins past page 0 begins past the vectors
  past_vectors : (change : Change) (n : ℕ) → 512 ≤ page_words_of d → page_words_of d ≤ n → vector_words ≤ start_of (size_of d change) n
  past_vectors Row n least past = omega arith
  past_vectors Page n least past = omega (arith, start_past n (page_words_of d) past)

  -- a row or a page of S is changed by S's own code only, and never the vectors
  change_own : (S : FlashArray) (origin : Origin) (change : Change) (n : ℕ) → high_in d S r ≡ true → is_valid d ≡ true
      → may_change d r origin (in_array S n) ≡ true
      → OwnChange d S (is_own S origin) change n
  unfolding target_of
  change_own GeneralArray origin change n h v t =
      by_value (ltb n (page_words_of d))
      (λ e. absurd (false≢true (high_cells Program origin Vectors _ (write_protection_of r.fgs) h (rw e at t))))
      (λ e.
      record {
        code = high_cells Program origin General _ (write_protection_of r.fgs) h (rw e at t);
        past = past_vectors change n (page_least d v) (ltb-false n (page_words_of d) e);
      })
  change_own AuxiliaryArray origin change n h v t =
      record { code = high_cells Program origin Auxiliary _ (write_protection_of r.fas) h t; past = omega arith }

  module _ (S : FlashArray) (h : high_in d S r ≡ true) where
    read_quiet : (origin : Origin) (place : Option Place) → Quiet d S (is_own S origin) (read_in d r origin place)
    unfolding read_in
    read_quiet origin None = record { holds = tt }
    read_quiet origin (Some place) =
        by_test (Quiet d S (is_own S origin)) (may_read d r origin place)
        (λ t. record { holds = λ e. read_own S origin place.index h (rw e at t) })
        (λ _. record { holds = tt })

    change_quiet : (change : Change) (origin : Origin) → is_valid d ≡ true → (place : Option Place)
        → Quiet d S (is_own S origin) (change_in change d r origin place)
    unfolding change_in
    change_quiet change origin v None = record { holds = tt }
    change_quiet change origin v (Some place) =
        by_test (Quiet d S (is_own S origin)) (may_change d r origin place)
        (λ t. record { holds = λ e. change_own S origin change place.index h v (rw e at t) })
        (λ _. record { holds = tt })

  -- a byte is stored in a fuse byte that is high only if the level stays
  fgs_keeps : (S : FlashArray) (byte : ℕ) → high_in d S r ≡ true → releases d.keys r.fgs byte ≡ false → GeneralArray ≡ S
      → is_high (level_of d.keys byte) ≡ true
  fgs_keeps GeneralArray byte h f e =
      not-false _ (rw h at (or_left (is_high (level_of d.keys r.fgs) && not (is_high (level_of d.keys byte))) _ f))
  fgs_keeps AuxiliaryArray byte h f e = absurd (arrays_differ e)

  fas_keeps : (S : FlashArray) (byte : ℕ) → high_in d S r ≡ true → is_open d.keys r.fas ≡ true → AuxiliaryArray ≡ S
      → is_high (level_of d.keys byte) ≡ true
  fas_keeps GeneralArray byte h o e = absurd (arrays_differ (sym e))
  fas_keeps AuxiliaryArray byte h o e = never h (not-true _ (and_left _ _ o))

  module _ (S : FlashArray) (own : Bool) where
    fgs_quiet : (byte : ℕ) → high_in d S r ≡ true → Quiet d S own (program_fgs d r byte)
    unfolding program_fgs
    fgs_quiet byte h =
        by_test (Quiet d S own) (not (releases d.keys r.fgs (stored_byte d.keys byte)))
        (λ t. record { holds = fgs_keeps S (stored_byte d.keys byte) h (not-true _ t) })
        (λ _. record { holds = tt })

    fas_quiet : (byte : ℕ) → high_in d S r ≡ true → Quiet d S own (program_fas d r byte)
    unfolding program_fas
    fas_quiet byte h =
        by_test (Quiet d S own) ((has_auxiliary d && is_open d.keys r.fgs) && is_open d.keys r.fas)
        (λ t. record { holds = fas_keeps S (stored_byte d.keys byte) h (and_right (has_auxiliary d && is_open d.keys r.fgs) _ t) })
        (λ _. record { holds = tt })

    -- program flow touches no word
    next_quiet : Quiet d S own (next d r)
    unfolding next
    next_quiet =
        by_test (Quiet d S own) (is_implemented (place_at d (address (r.pc.0 + 2)))) (λ _. record { holds = tt }) (λ _. record { holds = tt })

    flow_quiet : (origin : Origin) (target : ProgramAddress) → Quiet d S own (flow_change d r origin target)
    unfolding flow_change
    flow_quiet origin target =
        by_test (Quiet d S own) (not (is_implemented (place_at d target))) (λ _. record { holds = tt })
        (λ _. by_test (Quiet d S own) (is_shut d r origin target) (λ _. record { holds = tt }) (λ _. record { holds = tt }))

    interrupt_quiet : (vectors : List ℕ) (origin : Origin) (vector : ℕ) → Quiet d S own (interrupt d r vectors origin vector)
    unfolding interrupt to_vector
    interrupt_quiet vectors FromAuxiliary vector = record { holds = tt }
    interrupt_quiet vectors FromGeneral vector =
        by_test (Quiet d S own) (even (vector_word vectors vector)) (λ _. flow_quiet FromGeneral (address (vector_word vectors vector)))
        (λ _. record { holds = tt })

-- ---- the whole decision, of the registers and the words of the vector space

module _ (d : Description) (S : FlashArray) (r : Registers) (vectors : List ℕ) (h : high_in d S r ≡ true) (v : is_valid d ≡ true) where
  rule_quiet : (origin : Origin) (event : Event) → Quiet d S (is_own S origin) (own_rule d r vectors origin event)
  unfolding own_rule
  rule_quiet origin Next = next_quiet d r S (is_own S origin)
  rule_quiet origin (FlowChange target) = flow_quiet d r S (is_own S origin) origin target
  rule_quiet origin (Interrupt vector) = interrupt_quiet d r S (is_own S origin) vectors origin vector
  rule_quiet origin (TableRead a) = read_quiet d r S h origin (place_at d a)
  rule_quiet origin (TableWrite a w) = record { holds = tt }
  rule_quiet origin (ProgramRow a) = change_quiet d r S h Row origin v (place_at d a)
  rule_quiet origin (ErasePage a) = change_quiet d r S h Page origin v (place_at d a)
  rule_quiet origin EraseGeneral =
      by_test (Quiet d S (is_own S origin)) (not (from_general origin)) (λ _. record { holds = tt }) (λ _. record { holds = tt })
  rule_quiet origin EraseAuxiliary =
      by_test (Quiet d S (is_own S origin)) (from_general origin && has_auxiliary d) (λ _. record { holds = tt }) (λ _. record { holds = tt })
  rule_quiet origin (ProgramFgs byte) = fgs_quiet d r S (is_own S origin) byte h
  rule_quiet origin (ProgramFas byte) = fas_quiet d r S (is_own S origin) byte h
  rule_quiet origin PowerOn = record { holds = tt }

  from_quiet : (event : Event) (running : Option Origin) → Quiet d S (own_code S running) (rule_from d r vectors event running)
  unfolding rule_from
  from_quiet event None = record { holds = tt }
  from_quiet event (Some origin) = rule_quiet origin event

  -- on a good description, S being at high level
  pub decide_quiet : (event : Event) → Quiet d S (issued_from d S r) (decide d r vectors event)
  unfolding decide
  decide_quiet event =
      by_test Q (is_power_on event) (λ _. record { holds = tt })
      (λ _. by_test Q r.stopped (λ _. record { holds = tt }) (λ _. from_quiet event (running_at d r.pc)))
    where
      Q : Decision → Type 0
      Q decision = Quiet d S (issued_from d S r) decision
