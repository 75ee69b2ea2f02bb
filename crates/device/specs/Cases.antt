-- Document 01, "Marked points": all cases with P, as one table, and one statement over it. Assumes nothing.
use Rattle.std.specs.Prelude.{ℕ, ◌%◌, ◌≡◌, refl, Bool, true, false, get_or, set, replicate}
use mathlib.Core.List.{List, [], ◌∷◌, map, zip_with}
use Rattle.measure.specs.Measures.{address, location_of}
use Rattle.measure.specs.Words.{and_of, not_set_of, programmed_word, bits_not_set}
use Rattle.fuse.specs.Byte.{stored_byte, wrong_key, level_of, write_protection_of}
use Rattle.fuse.specs.declared.Level.{Level}
use Rattle.fuse.specs.declared.Level.TheVariants.{None, High}
use Rattle.fuse.specs.declared.WriteProtection.{WriteProtection}
use Rattle.fuse.specs.declared.WriteProtection.TheVariants.{Writable, Protected}
use Rattle.permission.specs.Table.{row_of, allowed}
use Rattle.flash.specs.Parts.{blank, with_part}
use Rattle.flash.specs.Operations.{read_word, row_words, programmed_words, total, row_not_set, program_row_at, erase_range, erase_page}
use Rattle.part.specs.Descriptions.{is_valid, general_words, auxiliary_words, bench}
use Rattle.part.specs.Places.{place_of, running_at, target_of}
use Rattle.event.specs.Events.{is_well_formed}
use Rattle.rules.specs.Rules.{is_shut, flow_change, read_in, change_in, own_rule, rule_from, decide}
use Rattle.carrying.specs.CarryingOut.{Device, device_from, Left, blank_latches, program, erase, carry_out}
use Rattle.device.specs.OneEvent.{event_on, step}
use Rattle.rules.specs.declared.Registers.{Registers}
use Rattle.event.specs.declared.Event.{Event}
use Rattle.event.specs.declared.Event.TheVariants.{FlowChange, TableRead, ProgramRow, ErasePage}

-- ---- a case

-- the bench device before an event: a new one but for its PC, its fuse bytes, the word at one address of the GS array, and
-- the latch of that address
pub record Setting : Type 0 where
  pub pc : ℕ
  pub fgs : ℕ
  pub fas : ℕ
  pub at : ℕ
  pub word : ℕ
  pub latch : ℕ

-- what is seen of the event: the answer's number and value, the PC afterwards, and the word that then stands at the address
pub record Seen : Type 0 where
  pub number : ℕ
  pub value : ℕ
  pub pc : ℕ
  pub word : ℕ

pub data Case : Type 0 where
  -- a fuse byte: its level, whether its key is wrong, its write protection
  ByteCase : ℕ → Level → Bool → WriteProtection → Case
  -- an old word and a latch: the word programmed, the bits not set
  WordCase : ℕ → ℕ → ℕ → ℕ → Case
  -- an event on a device: what is seen of it
  EventCase : Setting → Event → Seen → Case

-- ---- what the definitions say of a case

abbrev pub index_of : Setting → ℕ
index_of s = (location_of (address s.at)).0

abbrev pub registers_of : Setting → Registers
registers_of s = record { pc = address s.pc; iopuwr = false; stopped = false; fgs = s.fgs; fas = s.fas }

abbrev pub device_in : Setting → Device
device_in s =
    device_from (registers_of s) (set blank_latches (index_of s % row_words) s.latch)
    (set (replicate (general_words bench) blank) (index_of s) s.word)
    (replicate (auxiliary_words bench) blank)

abbrev pub seen_of : Setting → Left → Seen
seen_of s left =
    record {
      number = left.number;
      value = left.value;
      pc = left.device.registers.pc.0;
      word = get_or left.device.general (index_of s) 0;
    }

-- the case, with what the definitions compute in the place of what it says
unfoldable pub computed : Case → Case
computed (ByteCase byte level wrong protection) =
    ByteCase byte (level_of bench.keys byte) (wrong_key bench.keys (stored_byte bench.keys byte)) (write_protection_of byte)
computed (WordCase old latch programmed unset) = WordCase old latch (programmed_word old latch) (bits_not_set old latch)
computed (EventCase s event says) = EventCase s event (seen_of s (step bench (device_in s) event))

-- ---- the table

-- GS or AS high, by PC and address; a word that is not blank stands there, so that a change shows
abbrev pub general_high : ℕ → ℕ → Setting
general_high pc at = record { pc = pc; fgs = 0x31; fas = 0x03; at = at; word = 0x123456; latch = blank }

abbrev pub auxiliary_high : ℕ → ℕ → Setting
auxiliary_high pc at = record { pc = pc; fgs = 0x03; fas = 0x31; at = at; word = 0x123456; latch = blank }

-- nothing high, by PC, address, word there and latch
abbrev pub latched : ℕ → ℕ → ℕ → ℕ → Setting
latched pc at word latch = record { pc = pc; fgs = 0x03; fas = 0x03; at = at; word = word; latch = latch }

-- by number, value, PC, word
abbrev pub sees : ℕ → ℕ → ℕ → ℕ → Seen
sees number value pc word = record { number = number; value = value; pc = pc; word = word }

unfoldable pub marked : List Case
marked =
    -- "bytes 0x03 and 0xC3: none, writable. 0x32: none, protected. 0x31: high, writable. 0x30: high, protected."
    ByteCase 0x03 None false Writable
    ∷ ByteCase 0xC3 None false Writable
    ∷ ByteCase 0x32 None false Protected
    ∷ ByteCase 0x31 High false Writable
    ∷ ByteCase 0x30 High false Protected
    -- "bytes 0x33 and 0x13: high by key, writable. 0x02: high by key, protected."
    ∷ ByteCase 0x33 High true Writable
    ∷ ByteCase 0x13 High true Writable
    ∷ ByteCase 0x02 High true Protected
    -- "AS high, PC 0x000400: flow to 0x7FFFBE answers 3, to 0x7FFFC0 answers 0." "AS high means FAS 0x31."
    ∷ EventCase (auxiliary_high 0x000400 0x000400) (FlowChange (address 0x7FFFBE)) (sees 3 0 0x000000 0x123456)
    ∷ EventCase (auxiliary_high 0x000400 0x000400) (FlowChange (address 0x7FFFC0)) (sees 0 0 0x7FFFC0 0x123456)
    -- "FGS 0x31, PC 0x7FF000: read 0x0001FE gives the word, 0x000200 answers 1."
    ∷ EventCase (general_high 0x7FF000 0x0001FE) (TableRead (address 0x0001FE)) (sees 0 0x123456 0x7FF000 0x123456)
    ∷ EventCase (general_high 0x7FF000 0x000200) (TableRead (address 0x000200)) (sees 1 0 0x7FF000 0x123456)
    -- "FGS 0x31, PC 0x000400: erase page at 0x0003FE answers 2, at 0x000400 answers 0."
    ∷ EventCase (general_high 0x000400 0x0003FE) (ErasePage (address 0x0003FE)) (sees 2 0 0x000400 0x123456)
    ∷ EventCase (general_high 0x000400 0x000400) (ErasePage (address 0x000400)) (sees 0 0 0x000400 0xFFFFFF)
    -- "word 0x0000F0, latch 0x0000FF: result 0x0000F0, 4 bits not set": of the word, and of a row that has it
    ∷ WordCase 0x0000F0 0x0000FF 0x0000F0 4
    ∷ EventCase (latched 0x000400 0x000612 0x0000F0 0x0000FF) (ProgramRow (address 0x000612)) (sees 0 4 0x000400 0x0000F0)
    ∷ []

-- The definitions say of every case what document 01 says.
pub marked_points : map computed marked ≡ marked
unfolding computed marked is_shut level_of stored_byte and_of write_protection_of not_set_of step is_valid is_well_formed event_on decide running_at place_of rule_from own_rule flow_change read_in change_in target_of allowed row_of carry_out program erase read_word program_row_at programmed_words row_not_set total zip_with erase_range erase_page with_part
marked_points = refl
