-- A run does with each well-formed event just what one event by itself does: what decodes is well-formed. Assumes nothing.
use Rattle.std.specs.Prelude.{ℕ, ◌≡◌, refl, Bool, true, false, ◌&&◌, eqb, Option, Some, None}
use Rattle.measure.specs.Measures.{address}
use Rattle.measure.specs.Tests.{by_test, and_left}
use Rattle.part.specs.Descriptions.{is_valid}
use Rattle.event.specs.Events.{good_address, good_byte, good_vector_number, is_well_formed, given, decode}
use Rattle.carrying.specs.CarryingOut.{Device}
use Rattle.device.specs.OneEvent.{is_sized_for, step}
use Rattle.device.specs.Lists.{decoded_on}
use Rattle.part.specs.declared.Description.{Description}
use Rattle.event.specs.declared.Event.{Event}
use Rattle.event.specs.declared.Event.TheVariants.{
  Next,
  FlowChange,
  Interrupt,
  TableRead,
  TableWrite,
  ProgramRow,
  ErasePage,
  EraseGeneral,
  EraseAuxiliary,
  ProgramFgs,
  ProgramFas,
  PowerOn,
}

-- where it says an event, that event is well-formed
abbrev pub Sound : Option Event → Type 0
Sound (Some event) = is_well_formed event ≡ true
Sound None = Unit {0}

given_sound : (good : Bool) (event : Event) → (good ≡ true → is_well_formed event ≡ true) → Sound (given good event)
given_sound true event h = h refl
given_sound false event h = tt

pub decode_sound : (kind a b : ℕ) → Sound (decode kind a b)
unfolding decode is_well_formed
decode_sound kind a b =
    by_test Sound (eqb kind 1) (λ _. given_sound (eqb a 0 && eqb b 0) Next (λ _. refl))
    (λ _. by_test Sound (eqb kind 2) (λ _. given_sound _ (FlowChange (address a)) (and_left (good_address a) (eqb b 0)))
    (λ _. by_test Sound (eqb kind 3) (λ _. given_sound _ (Interrupt a) (and_left (good_vector_number a) (eqb b 0)))
    (λ _. by_test Sound (eqb kind 4) (λ _. given_sound _ (TableRead (address a)) (and_left (good_address a) (eqb b 0)))
    (λ _. by_test Sound (eqb kind 5) (λ _. given_sound _ (TableWrite (address a) b) (λ e. e))
    (λ _. by_test Sound (eqb kind 6) (λ _. given_sound _ (ProgramRow (address a)) (and_left (good_address a) (eqb b 0)))
    (λ _. by_test Sound (eqb kind 7) (λ _. given_sound _ (ErasePage (address a)) (and_left (good_address a) (eqb b 0)))
    (λ _. by_test Sound (eqb kind 8) (λ _. given_sound (eqb a 0 && eqb b 0) EraseGeneral (λ _. refl))
    (λ _. by_test Sound (eqb kind 9) (λ _. given_sound (eqb a 0 && eqb b 0) EraseAuxiliary (λ _. refl))
    (λ _. by_test Sound (eqb kind 10) (λ _. given_sound (good_byte a && eqb b 0) (ProgramFgs a) (λ _. refl))
    (λ _. by_test Sound (eqb kind 11) (λ _. given_sound (good_byte a && eqb b 0) (ProgramFas a) (λ _. refl))
    (λ _. by_test Sound (eqb kind 12) (λ _. given_sound (eqb a 0 && eqb b 0) PowerOn (λ _. refl)) (λ _. tt))))))))))))

-- on a good device, an event that three numbers say is one step
pub run_by_steps : (d : Description) (device : Device) (kind a b : ℕ) (event : Event)
    → is_valid d ≡ true → is_sized_for d device ≡ true → decode kind a b ≡ Some event
    → decoded_on d device (decode kind a b) ≡ step d device event
unfolding decoded_on step
run_by_steps d device kind a b event v z e =
    let good : is_well_formed event ≡ true = rw e at (decode_sound kind a b) in
    rw (e, v, z, good)
