-- No second outcome meets a contract of this crate: `Post` is what the checker reads of the `ensures` clauses of src/.
-- Assumes nothing.
use Rattle.measure.specs.OneOutcome.{OneResult, one_outcome}
use Rattle.measure.proofs.ProgramAddress.location.Kinds as location_kinds
use Rattle.measure.proofs.ProgramAddress.location.Reads as location_reads
use Rattle.measure.proofs.InstructionLocation.address.Kinds as address_kinds
use Rattle.measure.proofs.InstructionLocation.address.Reads as address_reads
use Rattle.measure.proofs.word.Kinds as word_kinds
use Rattle.measure.proofs.word.Reads as word_reads
use Rattle.measure.proofs.programmed_word.Kinds as programmed_word_kinds
use Rattle.measure.proofs.programmed_word.Reads as programmed_word_reads
use Rattle.measure.proofs.bits_not_set.Kinds as bits_not_set_kinds
use Rattle.measure.proofs.bits_not_set.Reads as bits_not_set_reads

pub location_unique : OneResult 0 location_kinds.ps location_kinds.r location_reads.Post
location_unique κs arguments r r' e e' p q = one_outcome p q

pub address_unique : OneResult 0 address_kinds.ps address_kinds.r address_reads.Post
address_unique κs arguments r r' e e' p q = one_outcome p q

pub word_unique : OneResult 0 word_kinds.ps word_kinds.r word_reads.Post
word_unique κs arguments r r' e e' p q = one_outcome p q

pub programmed_word_unique : OneResult 0 programmed_word_kinds.ps programmed_word_kinds.r programmed_word_reads.Post
programmed_word_unique κs arguments r r' e e' p q = one_outcome p q

pub bits_not_set_unique : OneResult 0 bits_not_set_kinds.ps bits_not_set_kinds.r bits_not_set_reads.Post
bits_not_set_unique κs arguments r r' e e' p q = one_outcome p q
