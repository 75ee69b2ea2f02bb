-- What each public function of this crate promises of its result. Assumes nothing.
use Rattle.std.specs.Prelude.{◌≡◌, ℕ, Option}
use Rattle.measure.specs.Measures.{location_of, address_of}
use Rattle.measure.specs.Words.{word_of, programmed_word, bits_not_set}
use Rattle.measure.specs.declared.ProgramAddress.{ProgramAddress}
use Rattle.measure.specs.declared.InstructionLocation.{InstructionLocation}

abbrev pub LocationPromise : ProgramAddress → InstructionLocation → Type 0
LocationPromise self result = result ≡ location_of self

abbrev pub AddressPromise : InstructionLocation → Option ProgramAddress → Type 0
AddressPromise self result = result ≡ address_of self

abbrev pub WordPromise : ℕ → ℕ → Type 0
WordPromise lent result = result ≡ word_of lent

abbrev pub ProgrammedWordPromise : ℕ → ℕ → ℕ → Type 0
ProgrammedWordPromise old latch result = result ≡ programmed_word old latch

abbrev pub BitsNotSetPromise : ℕ → ℕ → ℕ → Type 0
BitsNotSetPromise old latch result = result ≡ bits_not_set old latch
