-- No second outcome meets a contract of this crate: `Post` is what the checker reads of the `ensures` clauses of src/.
-- Assumes nothing.
use mathlib.Core.Path.{◌≡◌, ap}
use Rattle.measure.specs.OneOutcome.{OneOutcome, one_outcome}
use Rattle.rules.specs.KnownAnswers.{answer_of, answer_again}
use Rattle.rules.specs.declared.Answer.{Answer}
use Rattle.carrying.specs.CarryingOut.{Device, Left, leaves}
use Rattle.carrying.specs.Lent.{as_device}
use Rattle.carrying.proofs.array_of.Kinds as array_of_kinds
use Rattle.carrying.proofs.array_of.Reads as array_of_reads
use Rattle.carrying.proofs.LentDevice.carry_out.Kinds as carry_out_kinds
use Rattle.carrying.proofs.LentDevice.carry_out.Reads as carry_out_reads

-- the numbers of the part
pub array_of_unique : OneOutcome 1 array_of_kinds.ps array_of_kinds.r array_of_reads.Post (λ κs result exit. result.now)
array_of_unique κs arguments r r' e e' p q = one_outcome p q

-- the result, and at exit the registers, the latches and both arrays
pub record CarriedOutcome : Type 0 where
  pub answer : Answer
  pub device : Device

pub carried_outcome : Answer → Device → CarriedOutcome
carried_outcome answer device = record { answer = answer; device = device }

carried_same : (a a' : Answer) (device device' : Device) → leaves a device ≡ leaves a' device' → carried_outcome a device ≡ carried_outcome a' device'
carried_same a a' device device' e =
    rw (answer_again a, answer_again a') at (ap (λ (l : Left). carried_outcome (answer_of l.number l.value) l.device) e)

pub carry_out_unique : OneOutcome 2 carry_out_kinds.ps carry_out_kinds.r carry_out_reads.Post
    (λ κs result exit. carried_outcome result (as_device exit.0.now))
carry_out_unique κs arguments r r' e e' p q = carried_same r r' _ _ (one_outcome p.same q.same)
