-- Document 01, "Lists": a run over a list of events. Assumes nothing.
use Rattle.std.specs.Prelude.{ℕ, zero, suc, ◌*◌, ◌/◌, ◌%◌, Bool, not, ◌&&◌, ◌||◌, List, [], ◌∷◌, ◌++◌, eqb, leb, length, drop, if◌then◌else◌, Option, Some, None}
use Rattle.part.specs.Descriptions.{is_valid}
use Rattle.rules.specs.Answers.{number_of, value_of}
use Rattle.event.specs.Events.{decode}
use Rattle.carrying.specs.CarryingOut.{Device, Left, leaves}
use Rattle.device.specs.OneEvent.{event_on, is_sized_for}
use Rattle.part.specs.declared.Description.{Description}
use Rattle.rules.specs.declared.Answer.{Answer}
use Rattle.rules.specs.declared.Answer.TheVariants.{Done, MalformedEvent, BadDescription, WrongFlashLength, BadList}
use Rattle.event.specs.declared.Event.{Event}

-- "Malformed events are answered and passed over."
unfoldable pub decoded_on : Description → Device → Option Event → Left
decoded_on d device None = leaves MalformedEvent device
decoded_on d device (Some event) = event_on d device event

-- "A run ends .. after the first answer 3 or 4."
abbrev pub ends_run : ℕ → Bool
ends_run number = eqb number 3 || eqb number 4

-- what events come to: two numbers for each event answered, how many that were, and the device
pub record Trace : Type 0 where
  pub answers : List ℕ
  pub count : ℕ
  pub device : Device

abbrev pub no_event : Device → Trace
no_event device = record { answers = []; count = 0; device = device }

-- the event that left this, and then the rest
abbrev pub and_then : Left → Trace → Trace
and_then l rest =
    record { answers = l.number ∷ l.value ∷ rest.answers; count = suc rest.count; device = rest.device }

-- at most so many events of a list, three numbers each, up to the first whose answer ends the run
unfoldable pub trace_of : Description → ℕ → Device → List ℕ → Trace
trace_of d zero device list = no_event device
trace_of d (suc limit) device [] = no_event device
trace_of d (suc limit) device (kind ∷ []) = no_event device
trace_of d (suc limit) device (kind ∷ a ∷ []) = no_event device
trace_of d (suc limit) device (kind ∷ a ∷ b ∷ list) =
    let l = decoded_on d device (decode kind a b) in
    and_then l (if ends_run l.number then no_event l.device else trace_of d limit l.device list)

-- what a run leaves: its own answer, the count, the device, the slots
pub record RunLeft : Type 0 where
  pub number : ℕ
  pub value : ℕ
  pub count : ℕ
  pub device : Device
  pub slots : List ℕ

abbrev pub ran_to : Answer → ℕ → Device → List ℕ → RunLeft
ran_to answer count device slots =
    record { number = number_of answer; value = value_of answer; count = count; device = device; slots = slots }

-- the answers stand in the first slots, and "later slots are untouched"
abbrev pub told : List ℕ → Trace → RunLeft
told slots t = ran_to (Done 0) t.count t.device (t.answers ++ drop (length t.answers) slots)

-- "A list has at most 4,096 events; its length is a multiple of three and the answer buffer holds at least two numbers per event"
abbrev pub is_good_list : ℕ → ℕ → Bool
is_good_list list slots = (eqb (list % 3) 0 && leb (list / 3) 4096) && leb (list / 3 * 2) slots

-- "For a list: 7, 8, 9, then event by event."
unfoldable pub run : Description → Device → List ℕ → List ℕ → ℕ → RunLeft
run d device list slots limit =
    if not (is_valid d) then ran_to BadDescription 0 device slots
    else if not (is_sized_for d device) then ran_to WrongFlashLength 0 device slots
    else if not (is_good_list (length list) (length slots)) then ran_to BadList 0 device slots
    else told slots (trace_of d limit device list)
