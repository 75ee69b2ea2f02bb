-- No second outcome meets a contract of this crate: `Post` is what the checker reads of the `ensures` clauses of src/.
-- Assumes nothing.
use Rattle.measure.specs.OneOutcome.{OneOutcome, OneResult, one_outcome}
use Rattle.numbers.proofs.description_of.Kinds as description_of_kinds
use Rattle.numbers.proofs.description_of.Reads as description_of_reads
use Rattle.numbers.proofs.state_of.Kinds as state_of_kinds
use Rattle.numbers.proofs.state_of.Reads as state_of_reads
use Rattle.numbers.proofs.write.Kinds as write_kinds
use Rattle.numbers.proofs.write.Reads as write_reads

pub description_of_unique : OneResult 1 description_of_kinds.ps description_of_kinds.r description_of_reads.Post
description_of_unique κs arguments r r' e e' p q = one_outcome p q

pub state_of_unique : OneResult 1 state_of_kinds.ps state_of_kinds.r state_of_reads.Post
state_of_unique κs arguments r r' e e' p q = one_outcome p q

-- it has no result: the numbers at exit
pub write_unique : OneOutcome 1 write_kinds.ps write_kinds.r write_reads.Post (λ κs result exit. exit.1.0.now)
write_unique κs arguments r r' e e' p q = one_outcome p q
