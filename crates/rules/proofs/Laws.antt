-- The laws of `specs/`: code that runs lies in memory, the word of a vector, and what all other events and answers come to.
-- Assumes nothing.
use mathlib.Core.Path.{◌≡◌, refl, sym, ap}
use mathlib.Core.Bool.{true, false, not, false≢true}
use mathlib.Core.List.{List}
use Prim.Native.Nat.{ℕ, ◌+◌, ◌*◌, ◌/◌, ◌<◌}
use native.Mathlib.Omega.{arith}
use borrow.Author.Tests.{ltb-true, ltb-false, not-false}
use lib.Dec.{ltb, leb}
use lib.ListN.{length, get_or, get_or-eq_default}
use Rattle.measure.specs.Tests.{by_test}
use Rattle.measure.specs.Measures.{even, location_of}
use Rattle.measure.specs.declared.ProgramAddress.{ProgramAddress}
use Rattle.measure.specs.declared.InstructionLocation.{InstructionLocation}
use Rattle.measure.specs.Words.{word_of}
use Rattle.flash.specs.Operations.{read_word}
use Rattle.permission.specs.declared.Origin.{Origin}
use Rattle.event.specs.declared.Event.{Event}
use Rattle.event.specs.declared.Event.TheVariants.{
  Next,
  FlowChange,
  Interrupt,
  TableRead,
  TableWrite,
  ProgramRow,
  ErasePage,
  EraseGeneral,
  EraseAuxiliary,
  ProgramFgs,
  ProgramFas,
  PowerOn,
}
use Rattle.rules.specs.Answers.{value_of}
use Rattle.rules.specs.Rules.{is_power_on}
use Rattle.rules.specs.declared.Answer.{Answer}
use Rattle.rules.specs.declared.Answer.TheVariants.{
  Done,
  Zeroed,
  NotStarted,
  SecurityReset,
  AddressTrap,
  Stopped,
  MalformedEvent,
  BadDescription,
  WrongFlashLength,
  BadList,
}
use Rattle.part.specs.Descriptions.{general_words}
use Rattle.part.specs.Places.{auxiliary_end, auxiliary_first, place_of, place_at, is_implemented, running_in, running_at}
use Rattle.part.specs.declared.Description.{Description}
use Rattle.part.specs.declared.Place.{Place}
use Rattle.std.specs.Prelude.{Option, Some, None, unwrap_or}

-- ---- code that runs lies in memory, whatever the description

module _ (d : Description) where
  implemented_lt : (l : InstructionLocation) → is_implemented (place_of d l) ≡ true → l.0 < auxiliary_end
  unfolding place_of
  implemented_lt l =
      by_test Below (not (ltb l.0 auxiliary_end)) (λ _ e. absurd (false≢true e))
      (λ t. by_test Below (ltb l.0 (general_words d)) (λ _ e. below t)
      (λ _. by_test Below (leb (auxiliary_first d) l.0) (λ _ e. below t) (λ _ e. absurd (false≢true e))))
    where
      Below : Option Place → Type 0
      Below place = is_implemented place ≡ true → l.0 < auxiliary_end

      below : not (ltb l.0 auxiliary_end) ≡ false → l.0 < auxiliary_end
      below t = ltb-true l.0 auxiliary_end (not-false _ t)

  not_running : {A : Type 0} {origin : Origin} → None ≡ Some origin → A
  not_running {A} {origin} e = let z : ◌≡◌ {A = ℕ} 0 1 = cc in absurd (omega arith)

  running_implemented : (pc : ProgramAddress) (place : Option Place) {origin : Origin} → running_in pc place ≡ Some origin
      → is_implemented place ≡ true
  running_implemented pc None e = not_running e
  running_implemented pc (Some place) e = refl

  pub running_lt : (pc : ProgramAddress) {origin : Origin} → running_at d pc ≡ Some origin → pc.0 < 0x800000
  unfolding running_at
  running_lt pc {origin} =
      by_test Low (even pc.0)
      (λ _ e. omega (arith, implemented_lt (location_of pc) (running_implemented pc (place_at d pc) e)))
      (λ _ e. not_running e)
    where
      Low : Option Origin → Type 0
      Low running = running ≡ Some origin → pc.0 < 0x800000

-- ---- the word of a vector

-- an array has the word at an index, or it is 0
pub word_or_zero : (flash : List ℕ) (n : ℕ) → unwrap_or (read_word flash n) 0 ≡ word_of (get_or flash n 0)
unfolding read_word
word_or_zero flash n =
    by_test (λ (found : Option ℕ). unwrap_or found 0 ≡ word_of (get_or flash n 0)) (ltb n (length flash)) (λ _. refl)
    (λ f. ap word_of (sym (get_or-eq_default flash 0 (ltb-false n (length flash) f))))

-- the word at 0x000004 + 2 × vector is the second after the vectors' start, and so on
pub vector_index : (vector : ℕ) → (0x000004 + 2 * vector) / 2 ≡ 2 + vector
vector_index vector = omega arith

-- ---- an arm for all other cases

pub no_power_on : (event : Event) → (event ≡ PowerOn → ⊥) → is_power_on event ≡ false
no_power_on Next other = refl
no_power_on (FlowChange target) other = refl
no_power_on (Interrupt vector) other = refl
no_power_on (TableRead a) other = refl
no_power_on (TableWrite a word) other = refl
no_power_on (ProgramRow a) other = refl
no_power_on (ErasePage a) other = refl
no_power_on EraseGeneral other = refl
no_power_on EraseAuxiliary other = refl
no_power_on (ProgramFgs byte) other = refl
no_power_on (ProgramFas byte) other = refl
no_power_on PowerOn other = absurd (other refl)

pub no_value : (answer : Answer) → ((value : ℕ) → answer ≡ Done value → ⊥) → value_of answer ≡ 0
no_value (Done value) other = absurd (other value refl)
no_value Zeroed other = refl
no_value NotStarted other = refl
no_value SecurityReset other = refl
no_value AddressTrap other = refl
no_value Stopped other = refl
no_value MalformedEvent other = refl
no_value BadDescription other = refl
no_value WrongFlashLength other = refl
no_value BadList other = refl
