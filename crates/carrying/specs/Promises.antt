-- What each public function of this crate promises. Assumes nothing.
use Rattle.std.specs.Prelude.{◌≡◌, List, ℕ}
use Rattle.part.specs.declared.FlashArray.{FlashArray}
use Rattle.rules.specs.declared.Answer.{Answer}
use Rattle.rules.specs.declared.Decision.{Decision}
use Rattle.carrying.specs.CarryingOut.{array_of, carry_out}
use Rattle.carrying.specs.Lent.{as_device, Leaves}
use Rattle.carrying.specs.declared.LentDevice.{LentDevice}

-- the numbers of the part
abbrev pub ArrayOfPromise : FlashArray → List ℕ → List ℕ → List ℕ → Type 0
ArrayOfPromise array general auxiliary result = result ≡ array_of array general auxiliary

-- the answer's number and value, the registers, the latches, and both arrays at exit
abbrev pub CarryOutPromise : ℕ → LentDevice → Decision → Answer → LentDevice → Type 0
CarryOutPromise page old decision answer new = Leaves answer old new (carry_out page (as_device old) decision)
