-- Worked examples, by computation. Assumes nothing.
use Rattle.std.specs.Prelude.{◌≡◌, refl, Some, None}
use Rattle.measure.specs.Measures.{address, location, location_of, address_of}
use Rattle.measure.specs.Words.{and_of, not_set_of, programmed_word, bits_not_set}

-- document 01, marked point: word 0x0000F0, latch 0x0000FF
pub marked_word : (programmed_word 0x0000F0 0x0000FF ≡ 0x0000F0) × (bits_not_set 0x0000F0 0x0000FF ≡ 4)
unfolding and_of not_set_of
marked_word = (refl, refl)

-- the top bytes are ignored
pub top_bytes : (programmed_word 0xFFFFFFFF 0xFFABCDEF ≡ 0xABCDEF) × (bits_not_set 0xFF000000 0xFFFFFFFF ≡ 24)
unfolding and_of not_set_of
top_bytes = (refl, refl)

-- the vector space ends with address 0x0001FE, location 255
pub last_vector : (location_of (address 0x0001FE) ≡ location 255) × (address_of (location 255) ≡ Some (address 0x0001FE))
unfolding address_of
last_vector = (refl, refl)

pub last_address : (address_of (location 0x7FFFFFFF) ≡ Some (address 0xFFFFFFFE)) × (address_of (location 0x80000000) ≡ None)
unfolding address_of
last_address = (refl, refl)
