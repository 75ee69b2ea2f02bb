-- What only the contracts of private functions speak of: where words end, one word of a row, and all words of a row.
-- Assumes nothing.
use Rattle.std.specs.Prelude.{◌≡◌, List, ℕ, ◌+◌, if◌then◌else◌, Result, Ok, Err}
use Rattle.measure.specs.Words.{programmed_word, bits_not_set}
use Rattle.flash.specs.Parts.{fits}
use Rattle.flash.specs.Operations.{outside_array, programmed_words, row_not_set}
use Rattle.flash.specs.declared.OutsideArray.{OutsideArray}

-- where `count` words from `first` on end, if they fit an array of this length
unfoldable pub end_of : ℕ → ℕ → ℕ → Result ℕ OutsideArray
end_of length first count = if fits length first count then Ok (first + count) else Err outside_array

pub record ProgramWordPromise (word latch result exit : ℕ) : Type 0 where
  pub not_set : result ≡ bits_not_set word latch
  pub programmed : exit ≡ programmed_word word latch

pub record ProgramWordsPromise (row latches : List ℕ) (result : ℕ) (exit : List ℕ) : Type 0 where
  pub not_set : result ≡ row_not_set row latches
  pub words : exit ≡ programmed_words row latches
