-- The machine's count of ones is the definition's; no tactic finds the digits. Assumes nothing.
use Rattle.measure.proofs.Laws.{not_set_is}
use Rattle.measure.proofs.bits_not_set.Goals as goal

pub returns : goal.returns
returns c = rw (c.word.ensures, c.word-2.ensures) (not_set_is 8 24 _ _)
