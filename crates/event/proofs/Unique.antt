-- No second outcome meets a contract of this crate: `Post` is what the checker reads of the `ensures` clauses of src/.
-- Assumes nothing.
use Rattle.measure.specs.OneOutcome.{OneResult, one_outcome}
use Rattle.event.proofs.is_well_formed.Kinds as is_well_formed_kinds
use Rattle.event.proofs.is_well_formed.Reads as is_well_formed_reads
use Rattle.event.proofs.decode.Kinds as decode_kinds
use Rattle.event.proofs.decode.Reads as decode_reads

pub is_well_formed_unique : OneResult 0 is_well_formed_kinds.ps is_well_formed_kinds.r is_well_formed_reads.Post
is_well_formed_unique κs arguments r r' e e' p q = one_outcome p q

pub decode_unique : OneResult 0 decode_kinds.ps decode_kinds.r decode_reads.Post
decode_unique κs arguments r r' e e' p q = one_outcome p q
