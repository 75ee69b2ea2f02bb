-- Demand 3 is not empty: pairs of bench devices, alike but for one word of S, and what they answer. Assumes nothing.
use Rattle.std.specs.Prelude.{ℕ, ◌≡◌, refl, Bool, true, false, List, [], ◌∷◌, map, take, set, replicate}
use Rattle.std.proofs.Common.{sym, ◌∙◌, arith, length-set}
use Rattle.std.proofs.lemmas.List.{take-set-le}
use Rattle.measure.specs.Measures.{address}
use Rattle.measure.specs.Words.{and_of}
use Rattle.fuse.specs.Byte.{stored_byte, level_of, write_protection_of}
use Rattle.permission.specs.Table.{row_of, allowed}
use Rattle.flash.specs.Parts.{blank}
use Rattle.flash.specs.Operations.{read_word}
use Rattle.part.specs.Descriptions.{is_valid, general_words, auxiliary_words, bench}
use Rattle.part.specs.Places.{vector_words, place_of, running_at, target_of}
use Rattle.event.specs.Events.{is_well_formed}
use Rattle.rules.specs.Rules.{read_in, own_rule, rule_from, decide}
use Rattle.rules.specs.SecretSegment.{high_in, issued_from}
use Rattle.rules.specs.declared.Registers.{Registers}
use Rattle.carrying.specs.CarryingOut.{Device, device_from, blank_latches, with_fuse, clear, carry_out}
use Rattle.carrying.specs.Alike.{Alike}
use Rattle.device.specs.OneEvent.{event_on, step}
use Rattle.event.specs.declared.Event.{Event}
use Rattle.event.specs.declared.Event.TheVariants.{TableRead, EraseGeneral, EraseAuxiliary}
use Rattle.part.specs.declared.FlashArray.{FlashArray}
use Rattle.part.specs.declared.FlashArray.TheVariants.{GeneralArray, AuxiliaryArray}

-- those of a new device but for its PC and the fuse byte of S
abbrev pub registers_at : FlashArray → ℕ → ℕ → Registers
registers_at S pc byte = with_fuse (record { pc = address pc; iopuwr = false; stopped = false; fgs = 0x03; fas = 0x03 }) S byte

abbrev pub general : List ℕ
general = replicate (general_words bench) blank

abbrev pub auxiliary : List ℕ
auxiliary = replicate (auxiliary_words bench) blank

-- the bench device with these registers, blank but for the first word of S: 0x000200 in GS, 0x7FF000 in AS
abbrev pub device_with : FlashArray → ℕ → ℕ → ℕ → Device
device_with GeneralArray pc byte word =
    device_from (registers_at GeneralArray pc byte) blank_latches (set general vector_words word) auxiliary
device_with AuxiliaryArray pc byte word =
    device_from (registers_at AuxiliaryArray pc byte) blank_latches general (set auxiliary 0 word)

-- whatever two words stand there, the devices are alike but for S
pub alike_but : (S : FlashArray) (pc byte word word' : ℕ) → Alike S (device_with S pc byte word) (device_with S pc byte word')
alike_but GeneralArray pc byte word word' =
    record {
      registers = refl;
      latches = refl;
      other = refl;
      lengths = simp length-set;
      vectors = front word ∙ sym (front word');
    }
  where
    front : (w : ℕ) → take vector_words (set general vector_words w) ≡ take vector_words general
    front w = take-set-le vector_words general vector_words w (omega arith)
alike_but AuxiliaryArray pc byte word word' = record { registers = refl; latches = refl; other = refl; lengths = simp length-set; vectors = refl }

-- S, PC, its fuse byte, an event; then whether S is at high level, whether its own code issues the event, and the answer's
-- number and value on the device with the word 1, and on the one with the word 2
pub data Pair : Type 0 where
  Answers : FlashArray → ℕ → ℕ → Event → Bool → Bool → ℕ → ℕ → ℕ → ℕ → Pair

-- the pair, with what the definitions compute in the place of what it says
unfoldable pub computed : Pair → Pair
computed (Answers S pc byte event high own number value number' value') =
    Answers S pc byte event (high_in bench S (registers_at S pc byte)) (issued_from bench S (registers_at S pc byte))
    (step bench (device_with S pc byte 1) event).number
    (step bench (device_with S pc byte 1) event).value
    (step bench (device_with S pc byte 2) event).number
    (step bench (device_with S pc byte 2) event).value

unfoldable pub pairs : List Pair
pairs =
    -- AS at level none, read by GS: the answers differ, so the premise is needed; AS high, by AS itself: the words do differ;
    -- AS high, by GS: zeroed on both
    Answers AuxiliaryArray 0x000400 0x03 (TableRead (address 0x7FF000)) false false 0 1 0 2
    ∷ Answers AuxiliaryArray 0x7FF000 0x31 (TableRead (address 0x7FF000)) true true 0 1 0 2
    ∷ Answers AuxiliaryArray 0x000400 0x31 (TableRead (address 0x7FF000)) true false 1 0 1 0
    -- the same three of GS
    ∷ Answers GeneralArray 0x7FF000 0x03 (TableRead (address 0x000200)) false false 0 1 0 2
    ∷ Answers GeneralArray 0x000400 0x31 (TableRead (address 0x000200)) true true 0 1 0 2
    ∷ Answers GeneralArray 0x7FF000 0x31 (TableRead (address 0x000200)) true false 1 0 1 0
    -- at high level the clearing erase is done, at the other segment's request
    ∷ Answers AuxiliaryArray 0x000400 0x31 EraseAuxiliary true false 0 0 0 0
    ∷ Answers GeneralArray 0x7FF000 0x31 EraseGeneral true false 0 0 0 0
    ∷ []

pub not_empty : map computed pairs ≡ pairs
unfolding computed pairs level_of stored_byte and_of write_protection_of step is_valid is_well_formed event_on decide running_at place_of rule_from own_rule read_in target_of allowed row_of carry_out clear read_word
not_empty = refl
