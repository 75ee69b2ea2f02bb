-- What each function of the static library promises: its result, and every number left in what was lent. Assumes nothing.
use Rattle.std.specs.Prelude.{◌≡◌, List, ℕ}
use Rattle.pinionclay.specs.Calls.{run_leaves, pinionclay_run, step_leaves, pinionclay_step}

-- the result, the state, both arrays, the slots and the count at exit
abbrev pub PinionclayRunPromise :
    List ℕ → List ℕ → List ℕ → List ℕ → List ℕ → ℕ → List ℕ → ℕ → List ℕ → List ℕ → List ℕ → List ℕ → ℕ → Type 0
PinionclayRunPromise description numbers general auxiliary events limit slots result numbers' general' auxiliary' slots' count =
    run_leaves result numbers' general' auxiliary' slots' count
    ≡ pinionclay_run description numbers general auxiliary events limit slots

-- the result, the state, both arrays and the value at exit
abbrev pub PinionclayStepPromise :
    List ℕ → List ℕ → List ℕ → List ℕ → ℕ → ℕ → ℕ → ℕ → List ℕ → List ℕ → List ℕ → ℕ → Type 0
PinionclayStepPromise description numbers general auxiliary kind a b result numbers' general' auxiliary' value =
    step_leaves result numbers' general' auxiliary' value
    ≡ pinionclay_step description numbers general auxiliary kind a b
