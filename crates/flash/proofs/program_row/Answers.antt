-- The row does not fit. Assumes nothing.
use Rattle.std.proofs.Common.{sym, ◌∙◌}
use Rattle.std.proofs.lemmas.Result.{err_from_is_err_and}
use Rattle.flash.specs.Operations.{program_row_at}
use Rattle.flash.proofs.Laws.{outside}
use Rattle.flash.proofs.program_row.Goals as goal

pub returns-in_err-end : goal.returns-in_err-end
unfolding program_row_at
returns-in_err-end c =
    let p = err_from_is_err_and c.from_residual.result c.from_residual.ensures.1 in
    rw (← c.start_of-first.ensures) (outside _ _ _ _ _ (sym c.in_err-end.was ∙ c.end_of.ensures) p.1)
