-- What a call of the static library leaves. Assumes nothing.
use Rattle.std.specs.Prelude.{ℕ, not, List, leb, if◌then◌else◌}
use Rattle.part.specs.Descriptions.{is_valid}
use Rattle.event.specs.Events.{decode}
use Rattle.carrying.specs.CarryingOut.{Device, Left, leaves}
use Rattle.device.specs.States.{state_in, device_of}
use Rattle.device.specs.OneEvent.{is_sized_for}
use Rattle.device.specs.Lists.{RunLeft, decoded_on, run}
use Rattle.numbers.specs.Numbers.{description_of, state_of, numbers_of}
use Rattle.part.specs.declared.Description.{Description}
use Rattle.device.specs.declared.State.{State}
use Rattle.rules.specs.declared.Answer.TheVariants.{BadDescription, WrongFlashLength}

-- answers 6 to 9 refuse the call, and a refused call leaves the state's numbers as they were; after each other answer, 1, 2
-- and 5 too, they are written back
abbrev pub written : ℕ → List ℕ → State → List ℕ
written number numbers after = if leb 6 number then numbers else numbers_of after

-- the device of a state's numbers and the words of both arrays
abbrev pub device_in : List ℕ → List ℕ → List ℕ → Device
device_in numbers general auxiliary = device_of (state_of numbers) general auxiliary

-- what a run leaves in the numbers lent to it
pub record RunNumbers : Type 0 where
  pub number : ℕ
  pub state : List ℕ
  pub general : List ℕ
  pub auxiliary : List ℕ
  pub slots : List ℕ
  pub count : ℕ

abbrev pub run_leaves : ℕ → List ℕ → List ℕ → List ℕ → List ℕ → ℕ → RunNumbers
run_leaves number state general auxiliary slots count =
    record { number = number; state = state; general = general; auxiliary = auxiliary; slots = slots; count = count }

abbrev pub run_numbers : List ℕ → RunLeft → RunNumbers
run_numbers numbers l =
    run_leaves l.number (written l.number numbers (state_in l.device)) l.device.general l.device.auxiliary l.slots l.count

-- the device's own run, over numbers
abbrev pub pinionclay_run : List ℕ → List ℕ → List ℕ → List ℕ → List ℕ → ℕ → List ℕ → RunNumbers
pinionclay_run description numbers general auxiliary events limit slots =
    run_numbers numbers (run (description_of description) (device_in numbers general auxiliary) events slots limit)

-- what a step leaves in the numbers lent to it
pub record StepNumbers : Type 0 where
  pub number : ℕ
  pub state : List ℕ
  pub general : List ℕ
  pub auxiliary : List ℕ
  pub value : ℕ

abbrev pub step_leaves : ℕ → List ℕ → List ℕ → List ℕ → ℕ → StepNumbers
step_leaves number state general auxiliary value =
    record { number = number; state = state; general = general; auxiliary = auxiliary; value = value }

abbrev pub step_numbers : List ℕ → Left → StepNumbers
step_numbers numbers l =
    step_leaves l.number (written l.number numbers (state_in l.device)) l.device.general l.device.auxiliary l.value

-- "Order for one event: 7, 8, 6", here for the event that three numbers say, and then the rest
unfoldable pub step_of : Description → Device → ℕ → ℕ → ℕ → Left
step_of d device kind a b =
    if not (is_valid d) then leaves BadDescription device
    else if not (is_sized_for d device) then leaves WrongFlashLength device
    else decoded_on d device (decode kind a b)

-- that event on the device, over numbers
abbrev pub pinionclay_step : List ℕ → List ℕ → List ℕ → List ℕ → ℕ → ℕ → ℕ → StepNumbers
pinionclay_step description numbers general auxiliary kind a b =
    step_numbers numbers (step_of (description_of description) (device_in numbers general auxiliary) kind a b)
