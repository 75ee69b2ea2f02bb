-- Document 01, "What the student sees": one event on a device. Assumes nothing.
use Rattle.std.specs.Prelude.{Bool, false, not, length, take, if◌then◌else◌}
use Rattle.measure.specs.Measures.{address}
use Rattle.part.specs.Descriptions.{page_words_of, is_valid, is_sized}
use Rattle.part.specs.Places.{vector_words}
use Rattle.event.specs.Events.{is_well_formed}
use Rattle.rules.specs.Rules.{decide}
use Rattle.carrying.specs.CarryingOut.{Device, Left, leaves, blank_latches, carry_out}
use Rattle.part.specs.declared.Description.{Description}
use Rattle.device.specs.declared.State.{State}
use Rattle.event.specs.declared.Event.{Event}
use Rattle.rules.specs.declared.Answer.TheVariants.{MalformedEvent, BadDescription, WrongFlashLength}

-- "A new device: PC 0, flags clear, latches and flash 0xFFFFFF, both fuse bytes 0x03." The flash is the lender's to blank.
abbrev pub new_state : State
new_state = record { pc = address 0; iopuwr = false; stopped = false; fgs = 0x03; fas = 0x03; latches = blank_latches }

-- a well-formed event on a good device: decided, then carried out
unfoldable pub event_on : Description → Device → Event → Left
event_on d device event =
    carry_out (page_words_of d) device (decide d device.registers (take vector_words device.general) event)

abbrev pub is_sized_for : Description → Device → Bool
is_sized_for d device = is_sized d (length device.general) (length device.auxiliary)

-- "Order for one event: 7, 8, 6; then" the rest
unfoldable pub step : Description → Device → Event → Left
step d device event =
    if not (is_valid d) then leaves BadDescription device
    else if not (is_sized_for d device) then leaves WrongFlashLength device
    else if not (is_well_formed event) then leaves MalformedEvent device
    else event_on d device event
