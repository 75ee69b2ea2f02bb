-- What each public function of this crate promises. Assumes nothing.
use Rattle.std.specs.Prelude.{◌≡◌, List, ℕ}
use Rattle.measure.specs.declared.ProgramAddress.{ProgramAddress}
use Rattle.carrying.specs.CarryingOut.{Device, leaves}
use Rattle.device.specs.States.{registers_of, state_in}
use Rattle.device.specs.OneEvent.{new_state, step}
use Rattle.device.specs.Lists.{ran_to, run}
use Rattle.device.specs.PageView.{page_view}
use Rattle.part.specs.declared.Description.{Description}
use Rattle.device.specs.declared.State.{State}
use Rattle.event.specs.declared.Event.{Event}
use Rattle.rules.specs.declared.Answer.{Answer}
use Rattle.rules.specs.declared.Registers.{Registers}

abbrev pub NewPromise : State → Type 0
NewPromise result = result ≡ new_state

abbrev pub RegistersFromPromise : State → Registers → Type 0
RegistersFromPromise state result = result ≡ registers_of state

abbrev pub StateFromPromise : Device → State → Type 0
StateFromPromise device result = result ≡ state_in device

-- the answer's number and value, the state, and both arrays at exit
abbrev pub StepPromise : Description → Device → Event → Answer → Device → Type 0
StepPromise d device event answer after = leaves answer after ≡ step d device event

-- the run's own answer by its number and value, the count, the state, both arrays and all slots at exit
abbrev pub RunPromise : Description → Device → List ℕ → List ℕ → ℕ → Answer → ℕ → Device → List ℕ → Type 0
RunPromise d device list slots limit answer count after exit = ran_to answer count after exit ≡ run d device list slots limit

-- the numbers of the part
abbrev pub PageViewPromise : Description → List ℕ → List ℕ → ProgramAddress → List ℕ → Type 0
PageViewPromise d general auxiliary a result = result ≡ page_view d general auxiliary a
