-- What each function of this crate promises: its answer, and the whole array that it leaves. Assumes nothing.
use Rattle.std.specs.Prelude.{◌≡◌, List, ℕ, Option, Result}
use Rattle.flash.specs.Operations.{
  outcome,
  read_word,
  program_row,
  erase_all,
  erase_range,
  erase_page,
  page_of,
}
use Rattle.flash.specs.declared.OutsideArray.{OutsideArray}

abbrev pub ReadWordPromise : List ℕ → ℕ → Option ℕ → Type 0
ReadWordPromise flash index result = result ≡ read_word flash index

abbrev pub ProgramRowPromise : List ℕ → ℕ → List ℕ → Result ℕ OutsideArray → List ℕ → Type 0
ProgramRowPromise flash index latches result exit = outcome result exit ≡ program_row flash index latches

abbrev pub EraseAllPromise : List ℕ → List ℕ → Type 0
EraseAllPromise flash exit = exit ≡ erase_all flash

abbrev pub EraseRangePromise : List ℕ → ℕ → ℕ → Result Unit OutsideArray → List ℕ → Type 0
EraseRangePromise flash first count result exit = outcome result exit ≡ erase_range flash first count

abbrev pub ErasePagePromise : List ℕ → ℕ → ℕ → Result Unit OutsideArray → List ℕ → Type 0
ErasePagePromise flash size index result exit = outcome result exit ≡ erase_page flash size index

abbrev pub PagePromise : List ℕ → ℕ → ℕ → List ℕ → Type 0
PagePromise flash size index result = result ≡ page_of flash size index
