-- Document 01, "What the student sees", column "Afterwards", and the rules' effects: what a decision does to a device.
-- Assumes nothing.
use Rattle.std.specs.Prelude.{ℕ, true, false, List, length, set, replicate, Option, Some, None, Result, Ok, Err}
use Rattle.measure.specs.Measures.{address}
use Rattle.measure.specs.declared.ProgramAddress.{ProgramAddress}
use Rattle.flash.specs.Parts.{blank}
use Rattle.flash.specs.Operations.{row_words, read_word, program_row, erase_page}
use Rattle.flash.specs.declared.OutsideArray.{OutsideArray}
use Rattle.rules.specs.Answers.{number_of, value_of}
use Rattle.rules.specs.declared.Registers.{Registers}
use Rattle.rules.specs.declared.Answer.{Answer}
use Rattle.rules.specs.declared.Answer.TheVariants.{Done, Zeroed, NotStarted, SecurityReset, AddressTrap}
use Rattle.part.specs.declared.FlashArray.{FlashArray}
use Rattle.part.specs.declared.FlashArray.TheVariants.{GeneralArray, AuxiliaryArray}
use Rattle.rules.specs.declared.Change.TheVariants.{Row, Page}
use Rattle.rules.specs.declared.Decision.{Decision}
use Rattle.rules.specs.declared.Decision.TheVariants.{
  Refuse,
  Trap,
  Reset,
  PowerUp,
  MoveTo,
  LoadLatch,
  ReadAt,
  ChangeAt,
  EraseWhole,
  StoreFuse,
}

-- ---- a device besides its description, and what a decision leaves of it

pub record Device : Type 0 where
  pub registers : Registers
  pub latches : List ℕ
  pub general : List ℕ
  pub auxiliary : List ℕ

abbrev pub device_from : Registers → List ℕ → List ℕ → List ℕ → Device
device_from registers latches general auxiliary =
    record { registers = registers; latches = latches; general = general; auxiliary = auxiliary }

-- the answer by its number and value, and the device
pub record Left : Type 0 where
  pub number : ℕ
  pub value : ℕ
  pub device : Device

abbrev pub leaves : Answer → Device → Left
leaves answer device = record { number = number_of answer; value = value_of answer; device = device }

-- ---- a device with one part new

abbrev pub with_registers : Device → Registers → Device
with_registers device registers = device_from registers device.latches device.general device.auxiliary

abbrev pub with_latches : Device → List ℕ → Device
with_latches device latches = device_from device.registers latches device.general device.auxiliary

-- the array that is meant, of the two
abbrev pub array_of : FlashArray → List ℕ → List ℕ → List ℕ
array_of GeneralArray general auxiliary = general
array_of AuxiliaryArray general auxiliary = auxiliary

abbrev pub words_in : FlashArray → Device → List ℕ
words_in array device = array_of array device.general device.auxiliary

abbrev pub with_words : FlashArray → Device → List ℕ → Device
with_words GeneralArray device words = device_from device.registers device.latches words device.auxiliary
with_words AuxiliaryArray device words = device_from device.registers device.latches device.general words

-- one latch for each word of a row
abbrev pub blank_latches : List ℕ
blank_latches = replicate row_words blank

-- ---- registers afterwards

abbrev pub with_pc : Registers → ProgramAddress → Registers
with_pc r pc = record { pc = pc; iopuwr = r.iopuwr; stopped = r.stopped; fgs = r.fgs; fas = r.fas }

abbrev pub with_fuse : Registers → FlashArray → ℕ → Registers
with_fuse r GeneralArray byte = record { pc = r.pc; iopuwr = r.iopuwr; stopped = r.stopped; fgs = byte; fas = r.fas }
with_fuse r AuxiliaryArray byte = record { pc = r.pc; iopuwr = r.iopuwr; stopped = r.stopped; fgs = r.fgs; fas = byte }

-- Answer 4: "stopped flag set, nothing else"
abbrev pub trapped : Registers → Registers
trapped r = record { pc = r.pc; iopuwr = r.iopuwr; stopped = true; fgs = r.fgs; fas = r.fas }

-- Answer 3: "PC 0, IOPUWR set, latches 0xFFFFFF": but for the latches
abbrev pub reset_by_security : Registers → Registers
reset_by_security r = record { pc = address 0; iopuwr = true; stopped = r.stopped; fgs = r.fgs; fas = r.fas }

-- Rule 12: "PC 0, both flags clear, latches 0xFFFFFF.": but for the latches
abbrev pub powered_on : Registers → Registers
powered_on r = record { pc = address 0; iopuwr = false; stopped = false; fgs = r.fgs; fas = r.fas }

-- ---- what an operation on an array comes to

abbrev pub read_answer : Option ℕ → Answer
read_answer (Some word) = Done word
read_answer None = Zeroed

abbrev pub row_answer : Result ℕ OutsideArray → Answer
row_answer (Ok bits) = Done bits
row_answer (Err outside) = NotStarted

-- Rule 6: "then all latches become 0xFFFFFF"
abbrev pub row_latches : List ℕ → Result ℕ OutsideArray → List ℕ
row_latches latches (Ok bits) = blank_latches
row_latches latches (Err outside) = latches

abbrev pub erase_answer : Result Unit OutsideArray → Answer
erase_answer (Ok done) = Done 0
erase_answer (Err outside) = NotStarted

-- Rule 6: the row that holds the word, programmed from the latches
unfoldable pub program : FlashArray → ℕ → Device → Left
program array n device =
    let row = program_row (words_in array device) n device.latches in
    leaves (row_answer row.answer) (with_words array (with_latches device (row_latches device.latches row.answer)) row.flash)

-- Rule 7: the page that holds the word, erased
unfoldable pub erase : ℕ → FlashArray → ℕ → Device → Left
erase page array n device =
    let erased = erase_page (words_in array device) page n in
    leaves (erase_answer erased.answer) (with_words array device erased.flash)

-- Rule 9: "All named words become 0xFFFFFF and the fuse byte 0x03."
unfoldable pub clear : FlashArray → Device → Left
clear array device =
    let cleared = with_registers device (with_fuse device.registers array 0x03) in
    leaves (Done 0) (with_words array cleared (replicate (length (words_in array device)) blank))

-- Rules 10 and 11: "stores the byte", which the rule has masked
abbrev pub store_fuse : FlashArray → ℕ → Device → Left
store_fuse array byte device = leaves (Done 0) (with_registers device (with_fuse device.registers array byte))

-- ---- carrying out, on a device of this page size

unfoldable pub carry_out : ℕ → Device → Decision → Left
carry_out page device (Refuse answer) = leaves answer device
carry_out page device Trap = leaves AddressTrap (with_registers device (trapped device.registers))
carry_out page device Reset =
    leaves SecurityReset (with_latches (with_registers device (reset_by_security device.registers)) blank_latches)
carry_out page device PowerUp = leaves (Done 0) (with_latches (with_registers device (powered_on device.registers)) blank_latches)
carry_out page device (MoveTo target) = leaves (Done 0) (with_registers device (with_pc device.registers target))
carry_out page device (LoadLatch latch word) = leaves (Done 0) (with_latches device (set device.latches latch word))
carry_out page device (ReadAt place) = leaves (read_answer (read_word (words_in place.array device) place.index)) device
carry_out page device (ChangeAt Row place) = program place.array place.index device
carry_out page device (ChangeAt Page place) = erase page place.array place.index device
carry_out page device (EraseWhole array) = clear array device
carry_out page device (StoreFuse array byte) = store_fuse array byte device
