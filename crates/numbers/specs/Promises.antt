-- What each public function of this crate promises. Assumes nothing.
use Rattle.std.specs.Prelude.{◌≡◌, List, ℕ}
use Rattle.numbers.specs.Numbers.{description_of, state_of, numbers_of}
use Rattle.part.specs.declared.Description.{Description}
use Rattle.device.specs.declared.State.{State}

abbrev pub DescriptionOfPromise : List ℕ → Description → Type 0
DescriptionOfPromise numbers result = result ≡ description_of numbers

abbrev pub StateOfPromise : List ℕ → State → Type 0
StateOfPromise numbers result = result ≡ state_of numbers

-- all numbers at exit
abbrev pub WritePromise : State → List ℕ → Type 0
WritePromise state exit = exit ≡ numbers_of state
