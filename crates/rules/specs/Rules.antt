-- Document 01, "The rules": what each event comes to. Nothing here looks at flash but for the words of the vector space, which are
-- handed in. `d` is the description, `r` the registers. Assumes nothing.
use Rattle.std.specs.Prelude.{ℕ, ◌+◌, ◌*◌, ◌%◌, Bool, true, false, not, ◌&&◌, ◌||◌, List, leb, get_or, if◌then◌else◌, Option, Some, None}
use Rattle.measure.specs.Measures.{even, address, location_of}
use Rattle.measure.specs.Words.{word_of}
use Rattle.measure.specs.declared.ProgramAddress.{ProgramAddress}
use Rattle.measure.specs.declared.InstructionLocation.{InstructionLocation}
use Rattle.flash.specs.Operations.{row_words}
use Rattle.fuse.specs.Byte.{stored_byte, level_of, write_protection_of, is_high, is_protected}
use Rattle.permission.specs.Table.{allowed}
use Rattle.permission.specs.declared.Operation.TheVariants.{Program, Read}
use Rattle.permission.specs.declared.Origin.{Origin}
use Rattle.permission.specs.declared.Origin.TheVariants.{FromGeneral, FromAuxiliary}
use Rattle.permission.specs.declared.Target.{Target}
use Rattle.part.specs.Descriptions.{auxiliary_vector_of, page_words_of, has_auxiliary}
use Rattle.part.specs.Places.{place_at, is_implemented, is_auxiliary, vector_words, running_at, from_general, segment_of, target_of}
use Rattle.part.specs.declared.Description.{Description}
use Rattle.event.specs.declared.Event.{Event}
use Rattle.event.specs.declared.Event.TheVariants.{
  Next,
  FlowChange,
  Interrupt,
  TableRead,
  TableWrite,
  ProgramRow,
  ErasePage,
  EraseGeneral,
  EraseAuxiliary,
  ProgramFgs,
  ProgramFas,
  PowerOn,
}
use Rattle.rules.specs.declared.Answer.{Answer}
use Rattle.rules.specs.declared.Answer.TheVariants.{Zeroed, NotStarted, Stopped}
use Rattle.part.specs.declared.FlashArray.TheVariants.{GeneralArray, AuxiliaryArray}
use Rattle.part.specs.declared.Place.{Place}
use Rattle.rules.specs.declared.Registers.{Registers}
use Rattle.rules.specs.declared.Change.{Change}
use Rattle.rules.specs.declared.Change.TheVariants.{Row, Page}
use Rattle.rules.specs.declared.Decision.{Decision}
use Rattle.rules.specs.declared.Decision.TheVariants.{
  Refuse,
  Trap,
  Reset,
  PowerUp,
  MoveTo,
  LoadLatch,
  ReadAt,
  ChangeAt,
  EraseWhole,
  StoreFuse,
}

-- a decision where a test holds, else an answer that changes nothing
abbrev pub or_refuse : Bool → Decision → Answer → Decision
or_refuse test decision answer = if test then decision else Refuse answer

-- Rule 1. "Next, to unimplemented memory: 4. Otherwise PC moves, also into VS (house ..)."
unfoldable pub next : Description → Registers → Decision
next d r = if is_implemented (place_at d (address (r.pc.0 + 2))) then MoveTo (address (r.pc.0 + 2)) else Trap

-- Rule 2. "the last 32 instruction locations, 0x7FFFC0 to 0x7FFFFE"
abbrev pub in_access_area : InstructionLocation → Bool
in_access_area l = leb (location_of (address 0x7FFFC0)).0 l.0

-- "From origin GS into AS at high level: allowed only to" these
unfoldable pub is_shut : Description → Registers → Origin → ProgramAddress → Bool
is_shut d r origin target =
    ((from_general origin && is_auxiliary (place_at d target)) && is_high (level_of d.keys r.fas))
    && not (in_access_area (location_of target))

-- "Flow change to unimplemented memory: 4." "else 3. All others are allowed, VS included."
unfoldable pub flow_change : Description → Registers → Origin → ProgramAddress → Decision
flow_change d r origin target =
    if not (is_implemented (place_at d target)) then Trap
    else if is_shut d r origin target then Reset
    else MoveTo target

-- Rule 3. "the word at 0x000004 + 2 × vector", of the words of the vector space
abbrev pub vector_word : List ℕ → ℕ → ℕ
vector_word vectors vector = word_of (get_or vectors (location_of (address (0x000004 + 2 * vector))).0 0)

-- "odd or unimplemented gives 4, then rule 2 applies."
unfoldable pub to_vector : Description → Registers → List ℕ → ℕ → Decision
to_vector d r vectors vector =
    if even (vector_word vectors vector) then flow_change d r FromGeneral (address (vector_word vectors vector)) else Trap

-- "Interrupt with origin AS: PC becomes the auxiliary vector, at either level. With origin GS: the target is the word" of the vector
unfoldable pub interrupt : Description → Registers → List ℕ → Origin → ℕ → Decision
interrupt d r vectors FromAuxiliary vector = MoveTo (auxiliary_vector_of d)
interrupt d r vectors FromGeneral vector = to_vector d r vectors vector

-- the target column of a word, where the first so many words of the GS array count as VS
abbrev pub target_in : Description → Registers → ℕ → Place → Target
target_in d r vectors place = target_of d.keys r.fgs r.fas (segment_of vectors place)

-- Rule 4. "Table read: the word if allowed, else 1." "Unimplemented: 1 (house)." Only below 0x000200 is VS for reads.
abbrev pub may_read : Description → Registers → Origin → Place → Bool
may_read d r origin place = allowed Read origin (target_in d r vector_words place)

unfoldable pub read_in : Description → Registers → Origin → Option Place → Decision
read_in d r origin None = Refuse Zeroed
read_in d r origin (Some place) = or_refuse (may_read d r origin place) (ReadAt place) Zeroed

abbrev pub table_read : Description → Registers → Origin → ProgramAddress → Decision
table_read d r origin a = read_in d r origin (place_at d a)

-- Rule 5. "Table write always loads the latch numbered (address / 2) modulo 64."
abbrev pub table_write : ProgramAddress → ℕ → Decision
table_write a word = LoadLatch ((location_of a).0 % row_words) word

-- Rule 8. "the target column is VS for the whole of page 0"; the rest is table 23-1.
abbrev pub may_change : Description → Registers → Origin → Place → Bool
may_change d r origin place = allowed Program origin (target_in d r (page_words_of d) place)

-- Rules 6 and 7, "Program row" and "Erase page", of a place: "Unimplemented: 2", else what rule 8 allows
unfoldable pub change_in : Change → Description → Registers → Origin → Option Place → Decision
change_in change d r origin None = Refuse NotStarted
change_in change d r origin (Some place) = or_refuse (may_change d r origin place) (ChangeAt change place) NotStarted

abbrev pub change_at : Change → Description → Registers → Origin → ProgramAddress → Decision
change_at change d r origin a = change_in change d r origin (place_at d a)

-- Rule 9. "Kind 8 starts only with origin AS, kind 9 only with origin GS on a part that has AS; else 2."
abbrev pub erase_general : Origin → Decision
erase_general origin = or_refuse (not (from_general origin)) (EraseWhole GeneralArray) NotStarted

abbrev pub erase_auxiliary : Description → Origin → Decision
erase_auxiliary d origin = or_refuse (from_general origin && has_auxiliary d) (EraseWhole AuxiliaryArray) NotStarted

-- Rule 10. House: "2 where it would take the level from high to none or lift write protection"; else it "stores the byte, masked".
abbrev pub releases : Bool → ℕ → ℕ → Bool
releases keys old new =
    (is_high (level_of keys old) && not (is_high (level_of keys new)))
    || (is_protected (write_protection_of old) && not (is_protected (write_protection_of new)))

unfoldable pub program_fgs : Description → Registers → ℕ → Decision
program_fgs d r byte =
    or_refuse (not (releases d.keys r.fgs (stored_byte d.keys byte))) (StoreFuse GeneralArray (stored_byte d.keys byte)) NotStarted

-- Rule 11. "2 on a part with no AS, or unless both segments are at level none and writable. Else it stores the masked byte."
abbrev pub is_open : Bool → ℕ → Bool
is_open keys byte = not (is_high (level_of keys byte)) && not (is_protected (write_protection_of byte))

unfoldable pub program_fas : Description → Registers → ℕ → Decision
program_fas d r byte =
    or_refuse ((has_auxiliary d && is_open d.keys r.fgs) && is_open d.keys r.fas)
    (StoreFuse AuxiliaryArray (stored_byte d.keys byte)) NotStarted

-- the event's own rule, at an origin; `decide` takes power-on, rule 12, before, so its line here is never reached
unfoldable pub own_rule : Description → Registers → List ℕ → Origin → Event → Decision
own_rule d r vectors origin Next = next d r
own_rule d r vectors origin (FlowChange target) = flow_change d r origin target
own_rule d r vectors origin (Interrupt vector) = interrupt d r vectors origin vector
own_rule d r vectors origin (TableRead a) = table_read d r origin a
own_rule d r vectors origin (TableWrite a word) = table_write a word
own_rule d r vectors origin (ProgramRow a) = change_at Row d r origin a
own_rule d r vectors origin (ErasePage a) = change_at Page d r origin a
own_rule d r vectors origin EraseGeneral = erase_general origin
own_rule d r vectors origin EraseAuxiliary = erase_auxiliary d origin
own_rule d r vectors origin (ProgramFgs byte) = program_fgs d r byte
own_rule d r vectors origin (ProgramFas byte) = program_fas d r byte
own_rule d r vectors origin PowerOn = PowerUp

-- ---- the order of checks, from power-on on: "then power-on; then 5; then 4 if PC is not executable; then the event's own rule"

abbrev pub is_power_on : Event → Bool
is_power_on Next = false
is_power_on (FlowChange target) = false
is_power_on (Interrupt vector) = false
is_power_on (TableRead a) = false
is_power_on (TableWrite a word) = false
is_power_on (ProgramRow a) = false
is_power_on (ErasePage a) = false
is_power_on EraseGeneral = false
is_power_on EraseAuxiliary = false
is_power_on (ProgramFgs byte) = false
is_power_on (ProgramFas byte) = false
is_power_on PowerOn = true

unfoldable pub rule_from : Description → Registers → List ℕ → Event → Option Origin → Decision
rule_from d r vectors event None = Trap
rule_from d r vectors event (Some origin) = own_rule d r vectors origin event

-- of any description: `step` and `run` refuse one that is not good before
unfoldable pub decide : Description → Registers → List ℕ → Event → Decision
decide d r vectors event =
    if is_power_on event then PowerUp
    else if r.stopped then Refuse Stopped
    else rule_from d r vectors event (running_at d r.pc)
