-- No second outcome meets a contract of this crate: `Post` is what the checker reads of the `ensures` clauses of src/.
-- Assumes nothing.
use Rattle.measure.specs.OneOutcome.{OneResult, one_outcome}
use Rattle.rules.proofs.Answer.number.Kinds as number_kinds
use Rattle.rules.proofs.Answer.number.Reads as number_reads
use Rattle.rules.proofs.Answer.value.Kinds as value_kinds
use Rattle.rules.proofs.Answer.value.Reads as value_reads
use Rattle.rules.proofs.decide.Kinds as decide_kinds
use Rattle.rules.proofs.decide.Reads as decide_reads

pub number_unique : OneResult 0 number_kinds.ps number_kinds.r number_reads.Post
number_unique κs arguments r r' e e' p q = one_outcome p q

pub value_unique : OneResult 0 value_kinds.ps value_kinds.r value_reads.Post
value_unique κs arguments r r' e e' p q = one_outcome p q

pub decide_unique : OneResult 1 decide_kinds.ps decide_kinds.r decide_reads.Post
decide_unique κs arguments r r' e e' p q = one_outcome p q
