-- What each public function of this crate promises of its result. Assumes nothing.
use Rattle.std.specs.Prelude.{◌≡◌, Bool, ℕ, Option}
use Rattle.event.specs.Events.{is_well_formed, decode}
use Rattle.event.specs.declared.Event.{Event}

abbrev pub IsWellFormedPromise : Event → Bool → Type 0
IsWellFormedPromise event result = result ≡ is_well_formed event

abbrev pub DecodePromise : ℕ → ℕ → ℕ → Option Event → Type 0
DecodePromise kind a b result = result ≡ decode kind a b
