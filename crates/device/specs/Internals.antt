-- What only the contracts of private functions speak of: an event's numbers by its index.
-- Assumes nothing.
use Rattle.std.specs.Prelude.{ℕ, ◌+◌, ◌*◌, List, get_or, set, Option}
use Rattle.rules.specs.Answers.{number_of, value_of}
use Rattle.event.specs.Events.{decode}
use Rattle.rules.specs.declared.Answer.{Answer}
use Rattle.event.specs.declared.Event.{Event}

-- what the three numbers of the event of this index say
abbrev pub event_at : List ℕ → ℕ → Option Event
event_at list index = decode (get_or list (3 * index) 0) (get_or list (3 * index + 1) 0) (get_or list (3 * index + 2) 0)

-- its number and its value, in the two slots of the event of this index
abbrev pub stored : List ℕ → ℕ → Answer → List ℕ
stored slots index answer = set (set slots (2 * index) (number_of answer)) (2 * index + 1) (value_of answer)
