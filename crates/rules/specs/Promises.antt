-- What each public function of this crate promises of its result. Assumes nothing.
use Rattle.std.specs.Prelude.{◌≡◌, List, ℕ}
use Rattle.rules.specs.Answers.{number_of, value_of}
use Rattle.rules.specs.Rules.{decide}
use Rattle.part.specs.declared.Description.{Description}
use Rattle.event.specs.declared.Event.{Event}
use Rattle.rules.specs.declared.Answer.{Answer}
use Rattle.rules.specs.declared.Registers.{Registers}
use Rattle.rules.specs.declared.Decision.{Decision}

abbrev pub NumberPromise : Answer → ℕ → Type 0
NumberPromise self result = result ≡ number_of self

abbrev pub ValuePromise : Answer → ℕ → Type 0
ValuePromise self result = result ≡ value_of self

abbrev pub DecidePromise : Description → Registers → List ℕ → Event → Decision → Type 0
DecidePromise description registers vectors event result = result ≡ decide description registers vectors event
