-- Demand 3, the words of its statement about a run over a list of numbers: up to its limit, its end, or the first answer 3 or 4.
-- Assumes nothing.
use Prim.Native.Nat.{ℕ, ◌+◌, ◌*◌, ◌<◌}
use Rattle.std.specs.Prelude.{◌≡◌, false, length, get_or}
use mathlib.Core.List.{List}
use Rattle.rules.specs.SecretSegment.{issued_from}
use Rattle.carrying.specs.CarryingOut.{Device}
use Rattle.carrying.specs.Alike.{Alike, Known}
use Rattle.device.specs.Lists.{trace_of, RunLeft}
use Rattle.part.specs.declared.Description.{Description}
use Rattle.rules.specs.declared.Registers.{Registers}
use Rattle.part.specs.declared.FlashArray.{FlashArray}

-- the registers before the event of an index: that many events were answered
abbrev pub registers_before : Description → Device → List ℕ → ℕ → Registers
registers_before d device list index = (trace_of d index device list).device.registers

-- what the runs of one list on two devices leave: `before` are the registers before each event of the first
pub record RunsAgree (d : Description) (S : FlashArray) (before : ℕ → Registers) (first second : RunLeft) : Type 0 where
  pub number : first.number ≡ second.number
  pub value : first.value ≡ second.value
  pub count : first.count ≡ second.count
  pub alike : Alike S first.device second.device
  pub known : Known d S first.device second.device
  pub slots : length first.slots ≡ length second.slots
  -- the first slot of every event
  pub numbers : (index : ℕ) → get_or first.slots (2 * index) 0 ≡ get_or second.slots (2 * index) 0
  -- the second one, unless S's own code issued the event; slots of events not answered are as lent
  pub values : (index : ℕ) → (index < first.count → issued_from d S (before index) ≡ false)
      → get_or first.slots (2 * index + 1) 0 ≡ get_or second.slots (2 * index + 1) 0
