-- The rows before this one are blank, the words from it on are as lent. Assumes nothing.
use Rattle.std.specs.Prelude.{◌≡◌, length}
use Rattle.flash.proofs.Laws.{filled}
use Rattle.flash.proofs.erase_all.Given as goal

abbrev pub invariant-loop-row : goal.invariant-loop-row
invariant-loop-row l = (length l.words ≡ length l.fn.words) × (l.words ≡ filled l.row l.fn.words)
