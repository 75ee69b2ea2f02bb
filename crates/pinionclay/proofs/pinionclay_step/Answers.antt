-- The event is the run of a list of one; without, the search reaches its limits. Assumes nothing.
use borrow.Author.Tests.{ne_eqb}
use Rattle.pinionclay.proofs.Laws.{one_event}
use Rattle.pinionclay.proofs.pinionclay_step.Goals as goal

pub returns-then-ran-eq0 : goal.returns-then-ran-eq0
returns-then-ran-eq0 c =
    let ran = rw (c.state_of.ensures, c.description_of.ensures) at c.run-ran.ensures in
    rw (← one_event c.args.state.now _ _ _ _ _, ← ran, c.if-ran-eq0.true, c.number.ensures)

pub returns : goal.returns
returns c =
    let ran = rw (c.state_of.ensures, c.description_of.ensures) at c.run-ran.ensures in
    rw (← one_event c.args.state.now _ _ _ _ _, ← ran, ne_eqb _ 0 c.if-ran-eq0.false, c.write_unless_refused.ensures)
