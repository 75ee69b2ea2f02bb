-- Document 01, "What the student sees": each answer's number and value. Assumes nothing.
use Rattle.std.specs.Prelude.{ℕ}
use Rattle.rules.specs.declared.Answer.{Answer}
use Rattle.rules.specs.declared.Answer.TheVariants.{
  Done,
  Zeroed,
  NotStarted,
  SecurityReset,
  AddressTrap,
  Stopped,
  MalformedEvent,
  BadDescription,
  WrongFlashLength,
  BadList,
}

-- the column "No."
abbrev pub number_of : Answer → ℕ
number_of (Done value) = 0
number_of Zeroed = 1
number_of NotStarted = 2
number_of SecurityReset = 3
number_of AddressTrap = 4
number_of Stopped = 5
number_of MalformedEvent = 6
number_of BadDescription = 7
number_of WrongFlashLength = 8
number_of BadList = 9

-- the column "Value"
abbrev pub value_of : Answer → ℕ
value_of (Done value) = value
value_of Zeroed = 0
value_of NotStarted = 0
value_of SecurityReset = 0
value_of AddressTrap = 0
value_of Stopped = 0
value_of MalformedEvent = 0
value_of BadDescription = 0
value_of WrongFlashLength = 0
value_of BadList = 0
