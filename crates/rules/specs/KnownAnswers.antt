-- An answer is known by its number and value, so a promise that speaks of these fixes the answer itself. Assumes nothing.
use Rattle.std.specs.Prelude.{ℕ, ◌≡◌, refl, eqb, if◌then◌else◌}
use Rattle.rules.specs.Answers.{number_of, value_of}
use Rattle.rules.specs.declared.Answer.{Answer}
use Rattle.rules.specs.declared.Answer.TheVariants.{
  Done,
  Zeroed,
  NotStarted,
  SecurityReset,
  AddressTrap,
  Stopped,
  MalformedEvent,
  BadDescription,
  WrongFlashLength,
  BadList,
}

pub answer_of : ℕ → ℕ → Answer
answer_of number value =
    if eqb number 0 then Done value
    else if eqb number 1 then Zeroed
    else if eqb number 2 then NotStarted
    else if eqb number 3 then SecurityReset
    else if eqb number 4 then AddressTrap
    else if eqb number 5 then Stopped
    else if eqb number 6 then MalformedEvent
    else if eqb number 7 then BadDescription
    else if eqb number 8 then WrongFlashLength
    else BadList

pub answer_again : (answer : Answer) → answer_of (number_of answer) (value_of answer) ≡ answer
unfolding answer_of
answer_again (Done value) = refl
answer_again Zeroed = refl
answer_again NotStarted = refl
answer_again SecurityReset = refl
answer_again AddressTrap = refl
answer_again Stopped = refl
answer_again MalformedEvent = refl
answer_again BadDescription = refl
answer_again WrongFlashLength = refl
answer_again BadList = refl
