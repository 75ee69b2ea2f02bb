-- The range does not fit. Assumes nothing.
use Rattle.std.proofs.Common.{sym, ◌∙◌}
use Rattle.std.proofs.lemmas.Result.{err_from_is_err_and}
use Rattle.flash.specs.Operations.{erase_range}
use Rattle.flash.proofs.Laws.{outside}
use Rattle.flash.proofs.erase_range.Goals as goal

pub returns-in_err-end : goal.returns-in_err-end
unfolding erase_range
returns-in_err-end c =
    let p = err_from_is_err_and c.from_residual.result c.from_residual.ensures.1 in
    outside _ _ _ _ _ (sym c.in_err-end.was ∙ c.end_of.ensures) p.1
