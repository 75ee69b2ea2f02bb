-- A state: registers and latches, and of a device all but the words of its arrays. Assumes nothing.
use Rattle.std.specs.Prelude.{ℕ, List}
use Rattle.rules.specs.declared.Registers.{Registers}
use Rattle.carrying.specs.CarryingOut.{Device, device_from}
use Rattle.device.specs.declared.State.{State}

abbrev pub registers_of : State → Registers
registers_of s = record { pc = s.pc; iopuwr = s.iopuwr; stopped = s.stopped; fgs = s.fgs; fas = s.fas }

abbrev pub state_from : Registers → List ℕ → State
state_from r latches =
    record { pc = r.pc; iopuwr = r.iopuwr; stopped = r.stopped; fgs = r.fgs; fas = r.fas; latches = latches }

abbrev pub state_in : Device → State
state_in device = state_from device.registers device.latches

-- the device of a state and the words of both arrays
abbrev pub device_of : State → List ℕ → List ℕ → Device
device_of s general auxiliary = device_from (registers_of s) s.latches general auxiliary
