-- Document 01, rules 4, 6, 7 and 9, on one lent array: the word read, the row programmed, the range, the page or all erased, the page.
-- Assumes nothing.
use Rattle.std.specs.Prelude.{ℕ, ◌+◌, ltb, eqb, length, get_or, replicate, if◌then◌else◌, Option, Some, None, Result, Ok, Err}
use mathlib.Core.List.{List, [], ◌∷◌, zip_with}
use Rattle.measure.specs.Words.{word_of, programmed_word, bits_not_set}
use Rattle.flash.specs.Parts.{blank, fits, start_of, part, with_part}
use Rattle.flash.specs.declared.OutsideArray.{OutsideArray}

-- what an operation leaves: its answer, and the whole array
pub record Outcome (Answer : Type 0) : Type 0 where
  pub answer : Answer
  pub flash : List ℕ

abbrev pub outcome : {Answer : Type 0} → Answer → List ℕ → Outcome Answer
outcome a f = record { answer = a; flash = f }

-- a row, a range or a page that does not lie in the array, so that nothing changes
abbrev pub outside_array : OutsideArray
outside_array = record {}

-- ---- reading

-- rule 4: the word, its top byte ignored, where the array has it
unfoldable pub read_word : List ℕ → ℕ → Option ℕ
read_word flash index = if ltb index (length flash) then Some (word_of (get_or flash index 0)) else None

-- ---- rule 6: programming a row

-- each old word AND its latch, word by word
unfoldable pub programmed_words : List ℕ → List ℕ → List ℕ
programmed_words old latches = zip_with programmed_word old latches

unfoldable pub total : List ℕ → ℕ
total [] = 0
total (n ∷ ns) = n + total ns

-- the sum over the row of the bits not set
unfoldable pub row_not_set : List ℕ → List ℕ → ℕ
row_not_set old latches = total (zip_with bits_not_set old latches)

abbrev pub row_words : ℕ
row_words = 64

-- the row from `first` on
unfoldable pub program_row_at : List ℕ → ℕ → List ℕ → Outcome (Result ℕ OutsideArray)
program_row_at flash first latches =
    if fits (length flash) first row_words
    then outcome (Ok (row_not_set (part flash first row_words) latches))
    (with_part flash first (programmed_words (part flash first row_words) latches))
    else outcome (Err outside_array) flash

-- the aligned row that holds an index
abbrev pub program_row : List ℕ → ℕ → List ℕ → Outcome (Result ℕ OutsideArray)
program_row flash index latches = program_row_at flash (start_of row_words index) latches

-- ---- rules 7 and 9: erasing

-- rule 9: "All named words become 0xFFFFFF", of a whole array
abbrev pub erase_all : List ℕ → List ℕ
erase_all flash = replicate (length flash) blank

unfoldable pub erase_range : List ℕ → ℕ → ℕ → Outcome (Result Unit OutsideArray)
erase_range flash first count =
    if fits (length flash) first count then outcome (Ok tt) (with_part flash first (replicate count blank))
    else outcome (Err outside_array) flash

-- the page that holds an index; no index lies in a page of no words
unfoldable pub erase_page : List ℕ → ℕ → ℕ → Outcome (Result Unit OutsideArray)
erase_page flash size index =
    if eqb size 0 then outcome (Err outside_array) flash else erase_range flash (start_of size index) size

-- ---- the page that holds an index, or nothing

unfoldable pub page_of : List ℕ → ℕ → ℕ → List ℕ
page_of flash size index =
    if eqb size 0 then []
    else if fits (length flash) (start_of size index) size then part flash (start_of size index) size
    else []
