-- Document 01, "Events": which events are well-formed, and the three numbers of an event in a list. Assumes nothing.
use Rattle.std.specs.Prelude.{ℕ, ◌^◌, Bool, true, ◌&&◌, eqb, ltb, leb, if◌then◌else◌, Option, Some, None}
use Rattle.measure.specs.Measures.{address}
use Rattle.measure.specs.Measures.{even}
use Rattle.event.specs.declared.Event.{Event}
use Rattle.event.specs.declared.Event.TheVariants.{
  Next,
  FlowChange,
  Interrupt,
  TableRead,
  TableWrite,
  ProgramRow,
  ErasePage,
  EraseGeneral,
  EraseAuxiliary,
  ProgramFgs,
  ProgramFas,
  PowerOn,
}

-- "Addresses and targets are even, 0 to 0xFFFFFE."
abbrev pub good_address : ℕ → Bool
good_address a = even a && leb a 0xFFFFFE

-- "Words are below 2^24, bytes below 256."
abbrev pub good_word : ℕ → Bool
good_word w = ltb w (2 ^ 24)

abbrev pub good_byte : ℕ → Bool
good_byte b = ltb b 256

-- "vector 0 to 253"
abbrev pub good_vector_number : ℕ → Bool
good_vector_number v = leb v 253

-- a byte that an event carries is a `u8` in the code, so only `decode` tests it
unfoldable pub is_well_formed : Event → Bool
is_well_formed Next = true
is_well_formed (FlowChange target) = good_address target.0
is_well_formed (Interrupt vector) = good_vector_number vector
is_well_formed (TableRead a) = good_address a.0
is_well_formed (TableWrite a word) = good_address a.0 && good_word word
is_well_formed (ProgramRow a) = good_address a.0
is_well_formed (ErasePage a) = good_address a.0
is_well_formed EraseGeneral = true
is_well_formed EraseAuxiliary = true
is_well_formed (ProgramFgs byte) = true
is_well_formed (ProgramFas byte) = true
is_well_formed PowerOn = true

-- "In a list it is three numbers: kind, A, B; unused ones must be 0." Numbers that say no event are malformed.
abbrev pub given : Bool → Event → Option Event
given good event = if good then Some event else None

unfoldable pub decode : ℕ → ℕ → ℕ → Option Event
decode kind a b =
    if eqb kind 1 then given (eqb a 0 && eqb b 0) Next
    else if eqb kind 2 then given (good_address a && eqb b 0) (FlowChange (address a))
    else if eqb kind 3 then given (good_vector_number a && eqb b 0) (Interrupt a)
    else if eqb kind 4 then given (good_address a && eqb b 0) (TableRead (address a))
    else if eqb kind 5 then given (good_address a && good_word b) (TableWrite (address a) b)
    else if eqb kind 6 then given (good_address a && eqb b 0) (ProgramRow (address a))
    else if eqb kind 7 then given (good_address a && eqb b 0) (ErasePage (address a))
    else if eqb kind 8 then given (eqb a 0 && eqb b 0) EraseGeneral
    else if eqb kind 9 then given (eqb a 0 && eqb b 0) EraseAuxiliary
    else if eqb kind 10 then given (good_byte a && eqb b 0) (ProgramFgs a)
    else if eqb kind 11 then given (good_byte a && eqb b 0) (ProgramFas a)
    else if eqb kind 12 then given (eqb a 0 && eqb b 0) PowerOn
    else None
