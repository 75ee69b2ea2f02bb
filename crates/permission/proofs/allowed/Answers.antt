-- The table is the printed one, by one computation over all of it; without, the search reaches its limits. Assumes nothing.
use Rattle.std.specs.Prelude.{refl}
use Rattle.permission.specs.Table.{row_of, printed}
use Rattle.permission.proofs.Laws.{cell}
use Rattle.permission.proofs.allowed.Goals as goal

pub returns : goal.returns
unfolding printed row_of
returns c = cell _ refl c.args.operation c.args.origin c.args.target c.row_number-row.ensures c.column_of-column.ensures
