-- What only the contract of a private function speaks of: the change that an event asks for. Assumes nothing.
use Rattle.std.specs.Prelude.{◌≡◌}
use Rattle.measure.specs.declared.ProgramAddress.{ProgramAddress}
use Rattle.event.specs.declared.Event.{Event}
use Rattle.event.specs.declared.Event.TheVariants.{ProgramRow, ErasePage}
use Rattle.rules.specs.declared.Change.{Change}
use Rattle.rules.specs.declared.Change.TheVariants.{Row, Page}

pub record ChangeOf (event : Event) (change : Change) : Type 0 where
  pub row : (a : ProgramAddress) → event ≡ ProgramRow a → change ≡ Row
  pub page : (a : ProgramAddress) → event ≡ ErasePage a → change ≡ Page
