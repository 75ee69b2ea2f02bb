-- Worked examples, by computation. Assumes nothing.
use Rattle.std.specs.Prelude.{◌≡◌, refl, true, false}
use Rattle.measure.specs.Words.{and_of}
use Rattle.fuse.specs.Byte.{stored_byte, level_of}
use Rattle.fuse.specs.declared.Level.TheVariants.{None, High}

-- the bits that are not there are not stored
pub masked_bytes : (stored_byte true 0xFF ≡ 0x33) × (stored_byte false 0xFF ≡ 0x03)
unfolding stored_byte and_of
masked_bytes = (refl, refl)

-- 0x33 is high by its key where there are keys, and none where there are none
pub key_or_no_key : (level_of true 0x33 ≡ High) × (level_of false 0x33 ≡ None)
unfolding level_of stored_byte and_of
key_or_no_key = (refl, refl)
