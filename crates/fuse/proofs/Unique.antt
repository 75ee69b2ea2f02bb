-- No second outcome meets a contract of this crate: `Post` is what the checker reads of the `ensures` clauses of src/.
-- Assumes nothing.
use Rattle.measure.specs.OneOutcome.{OneResult, one_outcome}
use Rattle.fuse.proofs.stored_byte.Kinds as stored_byte_kinds
use Rattle.fuse.proofs.stored_byte.Reads as stored_byte_reads
use Rattle.fuse.proofs.level_of.Kinds as level_of_kinds
use Rattle.fuse.proofs.level_of.Reads as level_of_reads
use Rattle.fuse.proofs.write_protection_of.Kinds as write_protection_of_kinds
use Rattle.fuse.proofs.write_protection_of.Reads as write_protection_of_reads
use Rattle.fuse.proofs.Level.is_high.Kinds as is_high_kinds
use Rattle.fuse.proofs.Level.is_high.Reads as is_high_reads
use Rattle.fuse.proofs.WriteProtection.is_protected.Kinds as is_protected_kinds
use Rattle.fuse.proofs.WriteProtection.is_protected.Reads as is_protected_reads

pub stored_byte_unique : OneResult 0 stored_byte_kinds.ps stored_byte_kinds.r stored_byte_reads.Post
stored_byte_unique κs arguments r r' e e' p q = one_outcome p q

pub level_of_unique : OneResult 0 level_of_kinds.ps level_of_kinds.r level_of_reads.Post
level_of_unique κs arguments r r' e e' p q = one_outcome p q

pub write_protection_of_unique : OneResult 0 write_protection_of_kinds.ps write_protection_of_kinds.r write_protection_of_reads.Post
write_protection_of_unique κs arguments r r' e e' p q = one_outcome p q

pub is_high_unique : OneResult 0 is_high_kinds.ps is_high_kinds.r is_high_reads.Post
is_high_unique κs arguments r r' e e' p q = one_outcome p q

pub is_protected_unique : OneResult 0 is_protected_kinds.ps is_protected_kinds.r is_protected_reads.Post
is_protected_unique κs arguments r r' e e' p q = one_outcome p q
