-- Demand 3, the words of its statement about lists: any list of events on two devices alike but for the secret segment S.
-- Assumes nothing.
use Rattle.std.specs.Prelude.{◌≡◌, false, List, [], ◌∷◌, ◌++◌}
use Rattle.rules.specs.SecretSegment.{issued_from}
use Rattle.carrying.specs.CarryingOut.{Device}
use Rattle.carrying.specs.Alike.{Alike}
use Rattle.device.specs.OneEvent.{step}
use Rattle.part.specs.declared.Description.{Description}
use Rattle.event.specs.declared.Event.{Event}
use Rattle.event.specs.declared.Event.TheVariants.{EraseGeneral, EraseAuxiliary}
use Rattle.part.specs.declared.FlashArray.{FlashArray}
use Rattle.part.specs.declared.FlashArray.TheVariants.{GeneralArray, AuxiliaryArray}

-- the device after a list of any length, carried on past every answer, 3 and 4 included
unfoldable pub after : Description → Device → List Event → Device
after d device [] = device
after d device (event ∷ events) = after d (step d device event).device events

-- Rule 9: the erase that clears S
abbrev pub clearing_erase : FlashArray → Event
clearing_erase GeneralArray = EraseGeneral
clearing_erase AuxiliaryArray = EraseAuxiliary

-- what demand 3 promises after any list of events
pub record Secret (d : Description) (S : FlashArray) (first second : Device) (events : List Event) : Type 0 where
  -- all but the words of S is the same on both devices
  pub alike : Alike S (after d first events) (after d second events)
  -- the next event has one answer on both, unless S's own code issues it; then the numbers are equal still
  pub number : (event : Event) → (step d (after d first events) event).number ≡ (step d (after d second events) event).number
  pub value : (event : Event) → issued_from d S (after d first events).registers ≡ false
      → (step d (after d first events) event).value ≡ (step d (after d second events) event).value
  -- after a clearing erase of S that was done, the devices are equal, and stay so whatever comes later
  pub cleared : (step d (after d first events) (clearing_erase S)).number ≡ 0 → (later : List Event)
      → after d first (events ++ (clearing_erase S ∷ later)) ≡ after d second (events ++ (clearing_erase S ∷ later))
