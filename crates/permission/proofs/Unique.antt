-- No second outcome meets a contract of this crate: `Post` is what the checker reads of the `ensures` clauses of src/.
-- Assumes nothing.
use Rattle.measure.specs.OneOutcome.{OneResult, one_outcome}
use Rattle.permission.proofs.allowed.Kinds as allowed_kinds
use Rattle.permission.proofs.allowed.Reads as allowed_reads

pub allowed_unique : OneResult 0 allowed_kinds.ps allowed_kinds.r allowed_reads.Post
allowed_unique κs arguments r r' e e' p q = one_outcome p q
