-- No second outcome meets a contract of this crate: `Post` is what the checker reads of the `ensures` clauses of src/.
-- Assumes nothing.
use Prim.Native.Nat.{ℕ}
use mathlib.Core.Path.{◌≡◌, ap}
use mathlib.Core.List.{List}
use Rattle.measure.specs.OneOutcome.{OneOutcome, OneResult, one_outcome}
use Rattle.rules.specs.KnownAnswers.{answer_of, answer_again}
use Rattle.carrying.specs.CarryingOut.{Device, Left, leaves}
use Rattle.device.specs.States.{state_in, device_of}
use Rattle.device.specs.Lists.{RunLeft, ran_to}
use Rattle.device.specs.declared.Stepped.{Stepped}
use Rattle.device.specs.declared.Ran.{Ran}
use Rattle.rules.specs.declared.Answer.{Answer}
use Rattle.device.proofs.State.new.Kinds as new_kinds
use Rattle.device.proofs.State.new.Reads as new_reads
use Rattle.device.proofs.RegistersFromState.from.Kinds as registers_from_kinds
use Rattle.device.proofs.RegistersFromState.from.Reads as registers_from_reads
use Rattle.device.proofs.StateFromRefLentDevice.from.Kinds as state_from_kinds
use Rattle.device.proofs.StateFromRefLentDevice.from.Reads as state_from_reads
use Rattle.device.proofs.State.step.Kinds as step_kinds
use Rattle.device.proofs.State.step.Reads as step_reads
use Rattle.device.proofs.State.run.Kinds as run_kinds
use Rattle.device.proofs.State.run.Reads as run_reads
use Rattle.device.proofs.page_view.Kinds as page_view_kinds
use Rattle.device.proofs.page_view.Reads as page_view_reads

pub new_unique : OneResult 0 new_kinds.ps new_kinds.r new_reads.Post
new_unique κs arguments r r' e e' p q = one_outcome p q

pub registers_from_unique : OneResult 0 registers_from_kinds.ps registers_from_kinds.r registers_from_reads.Post
registers_from_unique κs arguments r r' e e' p q = one_outcome p q

pub state_from_unique : OneResult 4 state_from_kinds.ps state_from_kinds.r state_from_reads.Post
state_from_unique κs arguments r r' e e' p q = one_outcome p q

-- ---- one event: the result, and both arrays at exit

pub record StepOutcome : Type 0 where
  pub result : Stepped
  pub general : List ℕ
  pub auxiliary : List ℕ

pub step_outcome : Answer → Device → StepOutcome
step_outcome answer device =
    record {
      result = record { answer = answer; state = state_in device };
      general = device.general;
      auxiliary = device.auxiliary;
    }

step_same : (a a' : Answer) (device device' : Device) → leaves a device ≡ leaves a' device' → step_outcome a device ≡ step_outcome a' device'
step_same a a' device device' e =
    rw (answer_again a, answer_again a') at (ap (λ (l : Left). step_outcome (answer_of l.number l.value) l.device) e)

pub step_unique : OneOutcome 2 step_kinds.ps step_kinds.r step_reads.Post
    (λ κs result exit. step_outcome result.answer (device_of result.state exit.1.1.0.now exit.1.1.1.0.now))
step_unique κs arguments r r' e e' p q = step_same r.answer r'.answer _ _ (one_outcome p q)

-- ---- a run: the result, both arrays and the slots at exit

pub record RunOutcome : Type 0 where
  pub result : Ran
  pub general : List ℕ
  pub auxiliary : List ℕ
  pub slots : List ℕ

pub run_outcome : Answer → ℕ → Device → List ℕ → RunOutcome
run_outcome answer count device slots =
    record {
      result = record { answer = answer; count = count; state = state_in device };
      general = device.general;
      auxiliary = device.auxiliary;
      slots = slots;
    }

run_same : (a a' : Answer) (n n' : ℕ) (device device' : Device) (slots slots' : List ℕ) → ran_to a n device slots ≡ ran_to a' n' device' slots'
    → run_outcome a n device slots ≡ run_outcome a' n' device' slots'
run_same a a' n n' device device' slots slots' e =
    rw (answer_again a, answer_again a') at
    (ap (λ (o : RunLeft). run_outcome (answer_of o.number o.value) o.count o.device o.slots) e)

pub run_unique : OneOutcome 4 run_kinds.ps run_kinds.r run_reads.Post
    (λ κs result exit. run_outcome result.answer result.count
    (device_of result.state exit.1.1.0.now exit.1.1.1.0.now) exit.1.1.1.1.1.0.now)
run_unique κs arguments r r' e e' p q = run_same r.answer r'.answer r.count r'.count _ _ _ _ (one_outcome p q)

-- ---- the page view: the numbers of the part

pub page_view_unique : OneOutcome 1 page_view_kinds.ps page_view_kinds.r page_view_reads.Post (λ κs result exit. result.now)
page_view_unique κs arguments r r' e e' p q = one_outcome p q
