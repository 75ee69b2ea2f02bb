-- A law of `specs/`: a step is the run of a list of one event. Assumes nothing.
use Rattle.std.specs.Prelude.{if◌then◌else◌}
use Prim.Native.Nat.{ℕ}
use mathlib.Core.Path.{◌≡◌}
use mathlib.Core.List.{List, [], ◌∷◌}
use lib.Dec.{eqb}
use lib.ListN.{get_or}
use Rattle.measure.specs.Tests.{by_value}
use Rattle.part.specs.Descriptions.{is_valid}
use Rattle.event.specs.Events.{decode}
use Rattle.carrying.specs.CarryingOut.{Device}
use Rattle.device.specs.OneEvent.{is_sized_for}
use Rattle.device.specs.Lists.{RunLeft, run, trace_of, decoded_on, ends_run}
use Rattle.pinionclay.specs.Calls.{StepNumbers, step_numbers, step_of}
use Rattle.part.specs.declared.Description.{Description}

-- what a step reads off the run of its list of one
abbrev pub read_off : List ℕ → RunLeft → StepNumbers
read_off numbers l =
    if eqb l.count 0
    then record {
      number = l.number;
      state = numbers;
      general = l.device.general;
      auxiliary = l.device.auxiliary;
      value = 0;
    }
    else step_numbers numbers (record { number = get_or l.slots 0 0; value = get_or l.slots 1 0; device = l.device })

pub one_event : (numbers : List ℕ) (d : Description) (device : Device) (kind a b : ℕ)
    → read_off numbers (run d device (kind ∷ a ∷ b ∷ []) (0 ∷ 0 ∷ []) 1) ≡ step_numbers numbers (step_of d device kind a b)
unfolding run trace_of step_of
one_event numbers d device kind a b =
    by_value (is_valid d)
    (λ v. by_value (is_sized_for d device)
    (λ z. by_value (ends_run (decoded_on d device (decode kind a b)).number) (λ e. rw (v, z, e)) (λ e. rw (v, z, e)))
    (λ z. rw (v, z)))
    (λ v. rw v)
