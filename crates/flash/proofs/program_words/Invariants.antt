-- The words before the index are programmed, those from it on are as lent. Assumes nothing.
use Rattle.std.specs.Prelude.{◌≡◌, ◌*◌, ◌≤◌, take}
use mathlib.Core.List.{zip_with}
use Rattle.measure.specs.Words.{programmed_word, bits_not_set}
use Rattle.flash.specs.Operations.{total}
use Rattle.flash.proofs.Laws.{zipped}
use Rattle.flash.proofs.program_words.Given as goal

abbrev pub invariant-loop-index : goal.invariant-loop-index
invariant-loop-index l =
    (l.index ≤ 64) × (l.row ≡ zipped programmed_word l.index l.fn.row l.latches)
    × (l.not_set ≡ total (zip_with bits_not_set (take l.index l.fn.row) (take l.index l.latches))) × (l.not_set ≤ 24 * l.index)
