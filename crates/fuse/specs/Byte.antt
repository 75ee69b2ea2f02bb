-- Document 01, "Reading a fuse byte", sentence by sentence. Assumes nothing.
use Rattle.std.specs.Prelude.{ℕ, ◌/◌, ◌%◌, Bool, true, false, not, ◌&&◌, ◌||◌, eqb, if◌then◌else◌}
use Rattle.measure.specs.Words.{and_of}
use Rattle.fuse.specs.declared.Level.{Level}
use Rattle.fuse.specs.declared.Level.TheVariants.{None, High}
use Rattle.fuse.specs.declared.WriteProtection.{WriteProtection}
use Rattle.fuse.specs.declared.WriteProtection.TheVariants.{Writable, Protected}

-- "Bit 0 set: writable."
abbrev pub writable : ℕ → Bool
writable byte = eqb (byte % 2) 1

-- "Bit 1 set: no code protection."
abbrev pub no_code_protection : ℕ → Bool
no_code_protection byte = eqb (byte / 2 % 2) 1

-- "Bits 5 and 4: key."
abbrev pub key_of : ℕ → ℕ
key_of byte = byte / 16 % 4

-- "The byte is first ANDed with 0x33, or 0x03 on a part without keys."
abbrev pub mask_of : Bool → ℕ
mask_of keys = if keys then 0x33 else 0x03

unfoldable pub stored_byte : Bool → ℕ → ℕ
stored_byte keys byte = and_of 8 byte (mask_of keys)

-- "With keys, the key must be 00 if bits 1 and 0 are both set, and 11 otherwise."
abbrev pub key_for : ℕ → ℕ
key_for stored = if no_code_protection stored && writable stored then 0b00 else 0b11

abbrev pub wrong_key : Bool → ℕ → Bool
wrong_key keys stored = keys && not (eqb (key_of stored) (key_for stored))

-- "Level is high if bit 1 is clear or the key is wrong; else none."
abbrev pub level_of_stored : Bool → ℕ → Level
level_of_stored keys stored = if not (no_code_protection stored) || wrong_key keys stored then High else None

unfoldable pub level_of : Bool → ℕ → Level
level_of keys byte = level_of_stored keys (stored_byte keys byte)

-- "Write protection is bit 0 alone."
unfoldable pub write_protection_of : ℕ → WriteProtection
write_protection_of byte = if writable byte then Writable else Protected

-- ---- the two questions that rules ask of a byte's reading

abbrev pub is_high : Level → Bool
is_high None = false
is_high High = true

abbrev pub is_protected : WriteProtection → Bool
is_protected Writable = false
is_protected Protected = true
