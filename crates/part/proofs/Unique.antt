-- No second outcome meets a contract of this crate: `Post` is what the checker reads of the `ensures` clauses of src/.
-- Assumes nothing.
use Rattle.measure.specs.OneOutcome.{OneResult, one_outcome}
use Rattle.part.proofs.Description.bench.Kinds as bench_kinds
use Rattle.part.proofs.Description.bench.Reads as bench_reads
use Rattle.part.proofs.Description.has_auxiliary.Kinds as has_auxiliary_kinds
use Rattle.part.proofs.Description.has_auxiliary.Reads as has_auxiliary_reads
use Rattle.part.proofs.Description.is_valid.Kinds as is_valid_kinds
use Rattle.part.proofs.Description.is_valid.Reads as is_valid_reads
use Rattle.part.proofs.Description.is_sized.Kinds as is_sized_kinds
use Rattle.part.proofs.Description.is_sized.Reads as is_sized_reads
use Rattle.part.proofs.Description.place_at.Kinds as place_at_kinds
use Rattle.part.proofs.Description.place_at.Reads as place_at_reads
use Rattle.part.proofs.is_implemented.Kinds as is_implemented_kinds
use Rattle.part.proofs.is_implemented.Reads as is_implemented_reads
use Rattle.part.proofs.is_auxiliary.Kinds as is_auxiliary_kinds
use Rattle.part.proofs.is_auxiliary.Reads as is_auxiliary_reads
use Rattle.part.proofs.Description.running_at.Kinds as running_at_kinds
use Rattle.part.proofs.Description.running_at.Reads as running_at_reads
use Rattle.part.proofs.from_general.Kinds as from_general_kinds
use Rattle.part.proofs.from_general.Reads as from_general_reads
use Rattle.part.proofs.segment_of.Kinds as segment_of_kinds
use Rattle.part.proofs.segment_of.Reads as segment_of_reads
use Rattle.part.proofs.target_of.Kinds as target_of_kinds
use Rattle.part.proofs.target_of.Reads as target_of_reads

pub bench_unique : OneResult 0 bench_kinds.ps bench_kinds.r bench_reads.Post
bench_unique κs arguments r r' e e' p q = one_outcome p q

pub has_auxiliary_unique : OneResult 0 has_auxiliary_kinds.ps has_auxiliary_kinds.r has_auxiliary_reads.Post
has_auxiliary_unique κs arguments r r' e e' p q = one_outcome p q

pub is_valid_unique : OneResult 0 is_valid_kinds.ps is_valid_kinds.r is_valid_reads.Post
is_valid_unique κs arguments r r' e e' p q = one_outcome p q

pub is_sized_unique : OneResult 0 is_sized_kinds.ps is_sized_kinds.r is_sized_reads.Post
is_sized_unique κs arguments r r' e e' p q = one_outcome p q

pub place_at_unique : OneResult 0 place_at_kinds.ps place_at_kinds.r place_at_reads.Post
place_at_unique κs arguments r r' e e' p q = one_outcome p q

pub is_implemented_unique : OneResult 0 is_implemented_kinds.ps is_implemented_kinds.r is_implemented_reads.Post
is_implemented_unique κs arguments r r' e e' p q = one_outcome p q

pub is_auxiliary_unique : OneResult 0 is_auxiliary_kinds.ps is_auxiliary_kinds.r is_auxiliary_reads.Post
is_auxiliary_unique κs arguments r r' e e' p q = one_outcome p q

pub running_at_unique : OneResult 0 running_at_kinds.ps running_at_kinds.r running_at_reads.Post
running_at_unique κs arguments r r' e e' p q = one_outcome p q

pub from_general_unique : OneResult 0 from_general_kinds.ps from_general_kinds.r from_general_reads.Post
from_general_unique κs arguments r r' e e' p q = one_outcome p q

pub segment_of_unique : OneResult 0 segment_of_kinds.ps segment_of_kinds.r segment_of_reads.Post
segment_of_unique κs arguments r r' e e' p q = one_outcome p q

pub target_of_unique : OneResult 0 target_of_kinds.ps target_of_kinds.r target_of_reads.Post
target_of_unique κs arguments r r' e e' p q = one_outcome p q
