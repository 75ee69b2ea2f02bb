-- The machine's AND is the definition's; no tactic finds the digits. Assumes nothing.
use Rattle.measure.proofs.Laws.{and_is}
use Rattle.measure.proofs.programmed_word.Goals as goal

pub returns : goal.returns
returns c = rw (c.word.ensures, c.word-2.ensures) (and_is 24 _ _)
