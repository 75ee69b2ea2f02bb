-- The device of the code: what it holds, and the arrays that it was lent. Assumes nothing.
use Rattle.std.specs.Prelude.{◌≡◌}
use Rattle.rules.specs.declared.Answer.{Answer}
use Rattle.carrying.specs.CarryingOut.{Device, device_from, Left, leaves}
use Rattle.carrying.specs.declared.LentDevice.{LentDevice}

-- which `Device` of the rules it is
abbrev pub as_device : LentDevice → Device
as_device lent = device_from lent.registers lent.latches lent.general.now lent.auxiliary.now

-- the arrays are still the ones that were lent
pub record SameArrays (old new : LentDevice) : Type 0 where
  pub general : new.general.ghost_name ≡ old.general.ghost_name
  pub auxiliary : new.auxiliary.ghost_name ≡ old.auxiliary.ghost_name

-- document 01's answer and "Afterwards", of a device with the arrays that it was lent
pub record Leaves (answer : Answer) (old new : LentDevice) (left : Left) : Type 0 where
  pub same : leaves answer (as_device new) ≡ left
  pub arrays : SameArrays old new
