-- No second outcome meets a contract of this crate: `Post` is what the checker reads of the `ensures` clauses of src/.
-- Assumes nothing.
use Rattle.measure.specs.OneOutcome.{OneOutcome, one_outcome}
use Rattle.pinionclay.specs.Calls.{run_leaves, step_leaves}
use Rattle.pinionclay.proofs.pinionclay_run.Kinds as run_kinds
use Rattle.pinionclay.proofs.pinionclay_run.Reads as run_reads
use Rattle.pinionclay.proofs.pinionclay_step.Kinds as step_kinds
use Rattle.pinionclay.proofs.pinionclay_step.Reads as step_reads

pub run_unique : OneOutcome 7 run_kinds.ps run_kinds.r run_reads.Post
    (λ κs result exit. run_leaves result exit.1.0.now exit.1.1.0.now exit.1.1.1.0.now
    exit.1.1.1.1.1.1.0.now exit.1.1.1.1.1.1.1.0.now)
run_unique κs arguments r r' e e' p q = one_outcome p q

pub step_unique : OneOutcome 5 step_kinds.ps step_kinds.r step_reads.Post
    (λ κs result exit. step_leaves result exit.1.0.now exit.1.1.0.now exit.1.1.1.0.now
    exit.1.1.1.1.1.1.1.0.now)
step_unique κs arguments r r' e e' p q = one_outcome p q
