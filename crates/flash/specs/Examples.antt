-- Worked examples, by computation, on an array of the bench device's size. Assumes nothing.
use Rattle.std.specs.Prelude.{◌≡◌, refl, get_or, length, replicate, Ok}
use mathlib.Core.List.{zip_with}
use Rattle.measure.specs.Words.{and_of, not_set_of}
use Rattle.flash.specs.Parts.{with_part}
use Rattle.flash.specs.Operations.{outcome, programmed_words, total, row_not_set, program_row_at, program_row, erase_range, erase_page, page_of}

-- document 01's marked word, 64 times over: 256 bits not set, and the words stay
pub marked_row : program_row (replicate 5120 0x0000F0) 523 (replicate 64 0x0000FF) ≡ outcome (Ok 256) (replicate 5120 0x0000F0)
unfolding program_row_at programmed_words row_not_set total zip_with with_part and_of not_set_of
marked_row = refl

-- the last word of a page of 512 words is erased with it, and the first of the next is not
pub erased_page : (get_or (erase_page (replicate 5120 0) 512 600).flash 1023 0 ≡ 0xFFFFFF) × (get_or (erase_page (replicate 5120 0) 512 600).flash 1024 0 ≡ 0)
unfolding erase_page erase_range with_part
erased_page = (refl, refl)

-- the last page is there, and none after it
pub last_page : (length (page_of (replicate 5120 0) 1024 5119) ≡ 1024) × (length (page_of (replicate 5120 0) 1024 5120) ≡ 0)
unfolding page_of
last_page = (refl, refl)
