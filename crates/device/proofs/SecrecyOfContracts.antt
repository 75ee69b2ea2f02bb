-- Demand 3 of the program: `Post` is what the checker reads of the `ensures` clauses of src/, so these hold of whatever two
-- outcomes the contracts allow. Assumes nothing.
use Prim.Native.Nat.{ℕ}
use mathlib.Core.Path.{◌≡◌, refl, sym, ap₂, ◌∙◌}
use mathlib.Core.Bool.{true}
use mathlib.Core.List.{List, [], ◌∷◌, ◌++◌}
use contract.Lifetimes.{Lfts}
use denote.Triple.Clauses.{AtExit}
use borrow.Fn.Kinds.{Dens, res_t, ended_of}
use Rattle.rules.specs.SecretSegment.{high_in, issued_from}
use Rattle.carrying.specs.CarryingOut.{Device, Left, leaves}
use Rattle.carrying.specs.Alike.{Alike, Known, Agree}
use Rattle.device.specs.States.{device_of}
use Rattle.device.specs.OneEvent.{step}
use Rattle.device.specs.Lists.{RunLeft, ran_to, run}
use Rattle.device.specs.Secret.{after, clearing_erase}
use Rattle.device.proofs.Secrecy.{secrecy_of_one, Kept, kept_after, secrecy}
use Rattle.device.specs.SecrecyOfRuns.{registers_before, RunsAgree}
use Rattle.device.proofs.SecrecyOfRuns.{secrecy_of_runs}
use Rattle.event.specs.declared.Event.{Event}
use Rattle.part.specs.declared.Description.{Description}
use Rattle.part.specs.declared.FlashArray.{FlashArray}
use Rattle.device.proofs.State.step.Kinds as step_kinds
use Rattle.device.proofs.State.step.Reads as step_reads
use Rattle.device.proofs.State.run.Kinds as run_kinds
use Rattle.device.proofs.State.run.Reads as run_reads

-- ---- one event

-- the device that is handed in, and what is handed back
abbrev step_device : (κs : Lfts 2) → Dens κs step_kinds.ps → Device
step_device κs arguments =
    device_of arguments.0 arguments.1.1.0.now arguments.1.1.1.0.now

abbrev step_left : (κs : Lfts 2) → (res_t step_kinds.r κs).Denot → AtExit (ended_of 2 step_kinds.ps step_kinds.r) κs → Left
step_left κs result exit = leaves result.answer (device_of result.state exit.1.1.0.now exit.1.1.1.0.now)

-- Two calls of `State::step` with one description and one event, on devices alike but for S; S at high security, or the two the same.
pub step_secrecy : (d : Description) (S : FlashArray) (event : Event) (κs κs' : Lfts 2)
    (arguments : Dens κs step_kinds.ps) (result : (res_t step_kinds.r κs).Denot) (exit : AtExit (ended_of 2 step_kinds.ps step_kinds.r) κs)
    (arguments' : Dens κs' step_kinds.ps) (result' : (res_t step_kinds.r κs').Denot) (exit' : AtExit (ended_of 2 step_kinds.ps step_kinds.r) κs')
    → step_reads.Post κs arguments result exit
    → step_reads.Post κs' arguments' result' exit'
    → arguments.1.0 ≡ d
    → arguments'.1.0 ≡ d
    → arguments.1.1.1.1.0 ≡ event
    → arguments'.1.1.1.1.0 ≡ event
    → Alike S (step_device κs arguments) (step_device κs' arguments')
    → Known d S (step_device κs arguments) (step_device κs' arguments')
    → Agree d S (issued_from d S (step_device κs arguments).registers) (step_left κs result exit) (step_left κs' result' exit')
step_secrecy d S event κs κs' arguments result exit arguments' result' exit' p q de de' ee ee' k w =
    let l : step_left κs result exit ≡ step d (step_device κs arguments) event = rw (de, ee) at p in
    let l' : step_left κs' result' exit' ≡ step d (step_device κs' arguments') event = rw (de', ee') at q in
    rw (l, l') (secrecy_of_one d S (step_device κs arguments) (step_device κs' arguments') k w event)

-- A chain of calls of any length, each on what the one before left.
pub data Steps (d : Description) : Device → List Event → Device → Type 1 where
  none : {device : Device} → Steps d device [] device
  more : {device last : Device} {events : List Event} (κs : Lfts 2) (arguments : Dens κs step_kinds.ps)
      (result : (res_t step_kinds.r κs).Denot) (exit : AtExit (ended_of 2 step_kinds.ps step_kinds.r) κs)
      → step_reads.Post κs arguments result exit
      → arguments.1.0 ≡ d
      → step_device κs arguments ≡ device
      → Steps d (step_left κs result exit).device events last
      → Steps d device (arguments.1.1.1.1.0 ∷ events) last

steps_are : {d : Description} {device last : Device} {events : List Event} → Steps d device events last → last ≡ after d device events
unfolding after
steps_are none = refl
steps_are {d} (more κs arguments result exit post description same rest) =
    let l : step_left κs result exit ≡ step d (step_device κs arguments) arguments.1.1.1.1.0 = rw description at post in
    rw (← same, ← l) (steps_are rest)

-- Two chains of one list of events: what they come to is alike, and the next call agrees by `step_secrecy`.
pub steps_secrecy : {d : Description} {S : FlashArray} {first second last last' : Device} {events : List Event} → Steps d first events last
    → Steps d second events last'
    → Alike S first second
    → Known d S first second
    → Kept d S last last'
steps_secrecy {d} {S} {first} {second} {last} {last'} {events} p q k w =
    rw (steps_are p, steps_are q) (kept_after d S events first second k w)

-- With a clearing erase of S among the events that was done, what they come to is the same.
pub steps_cleared : {d : Description} {S : FlashArray} {first second last last' : Device} (events later : List Event)
    → Steps d first (events ++ (clearing_erase S ∷ later)) last
    → Steps d second (events ++ (clearing_erase S ∷ later)) last'
    → Alike S first second
    → high_in d S first.registers ≡ true
    → (step d (after d first events) (clearing_erase S)).number ≡ 0
    → last ≡ last'
steps_cleared {d} {S} {first} {second} events later p q k h e =
    steps_are p ∙ (secrecy d S first second k h events).cleared e later ∙ sym (steps_are q)

-- ---- a run

abbrev run_device : (κs : Lfts 4) → Dens κs run_kinds.ps → Device
run_device κs arguments =
    device_of arguments.0 arguments.1.1.0.now arguments.1.1.1.0.now

-- what is lent and given besides: the list, the slots, the limit
pub record Given : Type 0 where
  pub list : List ℕ
  pub slots : List ℕ
  pub limit : ℕ

abbrev run_given : (κs : Lfts 4) → Dens κs run_kinds.ps → Given
run_given κs arguments =
    record {
      list = arguments.1.1.1.1.0.now;
      slots = arguments.1.1.1.1.1.0.now;
      limit = arguments.1.1.1.1.1.1.0;
    }

abbrev ran_with : Description → Device → Given → RunLeft
ran_with d device given = run d device given.list given.slots given.limit

abbrev run_left : (κs : Lfts 4) → (res_t run_kinds.r κs).Denot → AtExit (ended_of 4 run_kinds.ps run_kinds.r) κs → RunLeft
run_left κs result exit =
    ran_to result.answer result.count (device_of result.state exit.1.1.0.now exit.1.1.1.0.now)
    exit.1.1.1.1.1.0.now

-- Two calls of `State::run` with one description, list, limit and slots, on such devices.
pub run_secrecy : (d : Description) (S : FlashArray) (same : Given) (κs κs' : Lfts 4)
    (arguments : Dens κs run_kinds.ps) (result : (res_t run_kinds.r κs).Denot) (exit : AtExit (ended_of 4 run_kinds.ps run_kinds.r) κs)
    (arguments' : Dens κs' run_kinds.ps) (result' : (res_t run_kinds.r κs').Denot) (exit' : AtExit (ended_of 4 run_kinds.ps run_kinds.r) κs')
    → run_reads.Post κs arguments result exit
    → run_reads.Post κs' arguments' result' exit'
    → arguments.1.0 ≡ d
    → arguments'.1.0 ≡ d
    → run_given κs arguments ≡ same
    → run_given κs' arguments' ≡ same
    → Alike S (run_device κs arguments) (run_device κs' arguments')
    → Known d S (run_device κs arguments) (run_device κs' arguments')
    → RunsAgree d S (registers_before d (run_device κs arguments) same.list) (run_left κs result exit) (run_left κs' result' exit')
run_secrecy d S same κs κs' arguments result exit arguments' result' exit' p q de de' ge ge' k w =
    let l : run_left κs result exit ≡ ran_with d (run_device κs arguments) same = p ∙ ap₂ (λ (e : Description) (g : Given). ran_with e (run_device κs arguments) g) de ge in
    let l' : run_left κs' result' exit' ≡ ran_with d (run_device κs' arguments') same =
    q ∙ ap₂ (λ (e : Description) (g : Given). ran_with e (run_device κs' arguments') g) de' ge' in
    rw (l, l') (secrecy_of_runs d S (run_device κs arguments) (run_device κs' arguments') k w same.list same.slots same.limit)
