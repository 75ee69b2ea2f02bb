-- What each public function of this crate promises of its result. Assumes nothing.
use Rattle.std.specs.Prelude.{◌≡◌, Bool, ℕ}
use Rattle.fuse.specs.Byte.{stored_byte, level_of, write_protection_of, is_high, is_protected}
use Rattle.fuse.specs.declared.Level.{Level}
use Rattle.fuse.specs.declared.WriteProtection.{WriteProtection}

abbrev pub StoredBytePromise : Bool → ℕ → ℕ → Type 0
StoredBytePromise keys byte result = result ≡ stored_byte keys byte

abbrev pub LevelOfPromise : Bool → ℕ → Level → Type 0
LevelOfPromise keys byte result = result ≡ level_of keys byte

abbrev pub WriteProtectionOfPromise : ℕ → WriteProtection → Type 0
WriteProtectionOfPromise byte result = result ≡ write_protection_of byte

abbrev pub IsHighPromise : Level → Bool → Type 0
IsHighPromise level result = result ≡ is_high level

abbrev pub IsProtectedPromise : WriteProtection → Bool → Type 0
IsProtectedPromise protection result = result ≡ is_protected protection
