-- No second outcome meets a contract of this crate: `Post` is what the checker reads of the `ensures` clauses of src/.
-- Assumes nothing.
use Rattle.measure.specs.OneOutcome.{OneOutcome, OneResult, one_outcome}
use Rattle.flash.specs.Operations.{outcome}
use Rattle.flash.proofs.read_word.Kinds as read_word_kinds
use Rattle.flash.proofs.read_word.Reads as read_word_reads
use Rattle.flash.proofs.program_row.Kinds as program_row_kinds
use Rattle.flash.proofs.program_row.Reads as program_row_reads
use Rattle.flash.proofs.erase_all.Kinds as erase_all_kinds
use Rattle.flash.proofs.erase_all.Reads as erase_all_reads
use Rattle.flash.proofs.erase_range.Kinds as erase_range_kinds
use Rattle.flash.proofs.erase_range.Reads as erase_range_reads
use Rattle.flash.proofs.erase_page.Kinds as erase_page_kinds
use Rattle.flash.proofs.erase_page.Reads as erase_page_reads
use Rattle.flash.proofs.page.Kinds as page_kinds
use Rattle.flash.proofs.page.Reads as page_reads

pub read_word_unique : OneResult 1 read_word_kinds.ps read_word_kinds.r read_word_reads.Post
read_word_unique κs arguments r r' e e' p q = one_outcome p q

-- the answer, and the whole array at exit
pub program_row_unique : OneOutcome 2 program_row_kinds.ps program_row_kinds.r program_row_reads.Post (λ κs result exit. outcome result exit.0.now)
program_row_unique κs arguments r r' e e' p q = one_outcome p q

pub erase_all_unique : OneOutcome 1 erase_all_kinds.ps erase_all_kinds.r erase_all_reads.Post (λ κs result exit. exit.0.now)
erase_all_unique κs arguments r r' e e' p q = one_outcome p q

pub erase_range_unique : OneOutcome 1 erase_range_kinds.ps erase_range_kinds.r erase_range_reads.Post (λ κs result exit. outcome result exit.0.now)
erase_range_unique κs arguments r r' e e' p q = one_outcome p q

pub erase_page_unique : OneOutcome 1 erase_page_kinds.ps erase_page_kinds.r erase_page_reads.Post (λ κs result exit. outcome result exit.0.now)
erase_page_unique κs arguments r r' e e' p q = one_outcome p q

-- the numbers of the part
pub page_unique : OneOutcome 1 page_kinds.ps page_kinds.r page_reads.Post (λ κs result exit. result.now)
page_unique κs arguments r r' e e' p q = one_outcome p q
