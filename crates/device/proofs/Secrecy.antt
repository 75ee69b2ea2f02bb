-- Demand 3. What other code learns of a segment at high security: nothing, over any list of events. The statement's words are in
-- specs/Secret.antt. Assumes nothing.
use Rattle.std.specs.Prelude.{ℕ, ◌≡◌, refl, Bool, true, false, not, ◌&&◌, List, [], ◌∷◌, ◌++◌, length, take}
use Rattle.std.proofs.Common.{sym, ap, ◌∙◌, arith}
use Rattle.std.proofs.Math.Path.{subst}
use Rattle.std.proofs.lemmas.Bool.{not-false}
use Rattle.measure.specs.Words.{and_of}
use Rattle.measure.specs.Tests.{by_test, by_both, never}
use Rattle.fuse.specs.Byte.{stored_byte, level_of, is_high}
use Rattle.permission.specs.declared.Origin.{Origin}
use Rattle.part.specs.Descriptions.{page_words_of, is_valid, has_auxiliary}
use Rattle.part.specs.Places.{vector_words, running_at, from_general}
use Rattle.event.specs.Events.{is_well_formed}
use Rattle.rules.specs.Answers.{number_of}
use Rattle.rules.specs.Rules.{own_rule, is_power_on, rule_from, decide}
use Rattle.rules.specs.SecretSegment.{high_in, issued_from}
use Rattle.rules.proofs.Decided.{decide_quiet}
use Rattle.carrying.specs.CarryingOut.{Device, Left, leaves, carry_out, clear}
use Rattle.carrying.specs.Alike.{Alike, Known, still_high, all_same, Agree}
use Rattle.carrying.proofs.CarriedAlike.{same_agree, answered, carried}
use Rattle.device.specs.OneEvent.{event_on, is_sized_for, step}
use Rattle.device.specs.Secret.{after, clearing_erase, Secret}
use Rattle.part.specs.declared.Description.{Description}
use Rattle.event.specs.declared.Event.{Event}
use Rattle.rules.specs.declared.Answer.{Answer}
use Rattle.rules.specs.declared.Answer.TheVariants.{NotStarted, Stopped, MalformedEvent, BadDescription, WrongFlashLength}
use Rattle.part.specs.declared.FlashArray.{FlashArray}
use Rattle.part.specs.declared.FlashArray.TheVariants.{GeneralArray, AuxiliaryArray}
use Rattle.std.specs.Prelude.{Option, Some, None}
use Rattle.rules.specs.declared.Registers.{Registers}
use Rattle.rules.specs.declared.Decision.{Decision}
use Rattle.rules.specs.declared.Decision.TheVariants.{Refuse, Trap, EraseWhole}

-- ---- one event, S being at high level

-- what the two devices have in common
pub general_length : (S : FlashArray) (p q : Device) → Alike S p q → length p.general ≡ length q.general
general_length GeneralArray p q k = k.lengths
general_length AuxiliaryArray p q k = ap length k.other

pub auxiliary_length : (S : FlashArray) (p q : Device) → Alike S p q → length p.auxiliary ≡ length q.auxiliary
auxiliary_length GeneralArray p q k = ap length k.other
auxiliary_length AuxiliaryArray p q k = k.lengths

same_vectors : (S : FlashArray) (p q : Device) → Alike S p q → take vector_words p.general ≡ take vector_words q.general
same_vectors GeneralArray p q k = k.vectors
same_vectors AuxiliaryArray p q k = ap (take vector_words) k.other

module _ (d : Description) (S : FlashArray) (p q : Device) (k : Alike S p q) (h : high_in d S p.registers ≡ true) where
  -- an answer that changes nothing
  pub answer_agrees : (answer : Answer) → Agree d S (issued_from d S p.registers) (leaves answer p) (leaves answer q)
  answer_agrees = answered d S (issued_from d S p.registers) p q k h

  -- registers and vectors are the same, so the decision is; S being high, it is harmless
  pub event_agrees : is_valid d ≡ true → (event : Event) → Agree d S (issued_from d S p.registers) (event_on d p event) (event_on d q event)
  unfolding event_on
  event_agrees v event =
      subst (λ (decision : Decision). Agree d S (issued_from d S p.registers) (event_on d p event) (carry_out (page_words_of d) q decision))
      (rw (k.registers, same_vectors S p q k))
      (carried d S (issued_from d S p.registers) p q k h (decided p) (decide_quiet d S p.registers (take vector_words p.general) h v event).holds)
    where
      decided : Device → Decision
      decided device = decide d device.registers (take vector_words device.general) event

  step_agrees : (event : Event) → Agree d S (issued_from d S p.registers) (step d p event) (step d q event)
  unfolding step
  step_agrees event =
      rw (general_length S p q k, auxiliary_length S p q k)
      (by_both A (not (is_valid d)) (λ _. answer_agrees BadDescription)
      (λ v. by_both A (not (is_sized_for d q)) (λ _. answer_agrees WrongFlashLength)
      (λ _. by_both A (not (is_well_formed event)) (λ _. answer_agrees MalformedEvent)
      (λ _. event_agrees (not-false _ v) event))))
    where
      A : Left → Left → Type 0
      A = Agree d S (issued_from d S p.registers)

-- ---- any list of events

-- to agree on what an event does, it is enough to do so while S is at high level
pub while_high : (d : Description) (S : FlashArray) (p q : Device) (does : Device → Left) → Known d S p q
    → (high_in d S p.registers ≡ true → Agree d S (issued_from d S p.registers) (does p) (does q))
    → Agree d S (issued_from d S p.registers) (does p) (does q)
while_high d S p q does (still_high h) f = f h
while_high d S p q does (all_same e) f =
    subst (λ (z : Device). Agree d S (issued_from d S p.registers) (does p) (does z)) e (same_agree d S (issued_from d S p.registers) (does p))

pub secrecy_of_one : (d : Description) (S : FlashArray) (first second : Device) → Alike S first second → Known d S first second → (event : Event)
    → Agree d S (issued_from d S first.registers) (step d first event) (step d second event)
secrecy_of_one d S first second k w event =
    while_high d S first second (λ device. step d device event) w (λ h. step_agrees d S first second k h event)

-- what is kept over a list
pub record Kept (d : Description) (S : FlashArray) (p q : Device) : Type 0 where
  pub alike : Alike S p q
  pub known : Known d S p q

pub kept_after : (d : Description) (S : FlashArray) (events : List Event) (p q : Device) → Alike S p q → Known d S p q
    → Kept d S (after d p events) (after d q events)
unfolding after
kept_after d S [] p q k w = record { alike = k; known = w }
kept_after d S (event ∷ events) p q k w =
    let a = secrecy_of_one d S p q k w event in
    kept_after d S events (step d p event).device (step d q event).device a.alike a.known

-- ---- a clearing erase that was done

-- the byte that it stores is at level none
three_is_none : (keys : Bool) → is_high (level_of keys 0x03) ≡ false
unfolding level_of stored_byte and_of
three_is_none true = refl
three_is_none false = refl

-- a decision that answers 0 only if S is then at level none
abbrev Releases : Description → FlashArray → Device → Decision → Type 0
Releases d S p decision =
    (carry_out (page_words_of d) p decision).number ≡ 0 → high_in d S (carry_out (page_words_of d) p decision).device.registers ≡ false

whole_releases : (d : Description) (S : FlashArray) (p : Device) → Releases d S p (EraseWhole S)
unfolding carry_out clear
whole_releases d GeneralArray p e = three_is_none d.keys
whole_releases d AuxiliaryArray p e = three_is_none d.keys

module _ (d : Description) (S : FlashArray) (p : Device) where
  refuse_releases : (answer : Answer) → (number_of answer ≡ 0 → ⊥) → Releases d S p (Refuse answer)
  unfolding carry_out
  refuse_releases answer n e = absurd (n e)

  trap_releases : Releases d S p Trap
  unfolding carry_out
  trap_releases e = absurd (omega arith)

rule_releases : (d : Description) (S : FlashArray) (p : Device) (r : Registers) (vectors : List ℕ) (running : Option Origin)
    → Releases d S p (rule_from d r vectors (clearing_erase S) running)
unfolding rule_from own_rule
rule_releases d S p r vectors None = trap_releases d S p
rule_releases d GeneralArray p r vectors (Some origin) =
    by_test (Releases d GeneralArray p) (not (from_general origin)) (λ _. whole_releases d GeneralArray p)
    (λ _. refuse_releases d GeneralArray p NotStarted (λ e. omega arith))
rule_releases d AuxiliaryArray p r vectors (Some origin) =
    by_test (Releases d AuxiliaryArray p) (from_general origin && has_auxiliary d) (λ _. whole_releases d AuxiliaryArray p)
    (λ _. refuse_releases d AuxiliaryArray p NotStarted (λ e. omega arith))

no_power_on : (S : FlashArray) → is_power_on (clearing_erase S) ≡ false
no_power_on GeneralArray = refl
no_power_on AuxiliaryArray = refl

-- answer 0 to it: S is at level none
erase_releases : (d : Description) (S : FlashArray) (p : Device) → (step d p (clearing_erase S)).number ≡ 0
    → high_in d S (step d p (clearing_erase S)).device.registers ≡ false
unfolding step event_on decide
erase_releases d S p =
    rw (no_power_on S) (by_test Q (not (is_valid d)) (λ _ e. absurd (omega arith))
    (λ _. by_test Q (not (is_sized_for d p)) (λ _ e. absurd (omega arith))
    (λ _. by_test Q (not (is_well_formed (clearing_erase S))) (λ _ e. absurd (omega arith))
    (λ _. by_test (Releases d S p) p.registers.stopped (λ _. refuse_releases d S p Stopped (λ e. omega arith))
    (λ _. rule_releases d S p p.registers (take vector_words p.general) (running_at d p.registers.pc))))))
  where
    Q : Left → Type 0
    Q left = left.number ≡ 0 → high_in d S left.device.registers ≡ false

none_same : {d : Description} {S : FlashArray} {p q : Device} → Known d S p q → high_in d S p.registers ≡ false → p ≡ q
none_same (still_high h) f = never h f
none_same (all_same e) f = e

pub erase_clears : (d : Description) (S : FlashArray) (first second : Device) → Alike S first second → Known d S first second
    → (step d first (clearing_erase S)).number ≡ 0
    → (step d first (clearing_erase S)).device ≡ (step d second (clearing_erase S)).device
erase_clears d S first second k w e =
    none_same (secrecy_of_one d S first second k w (clearing_erase S)).known (erase_releases d S first e)

after_append : (d : Description) (events later : List Event) (p : Device) → after d p (events ++ later) ≡ after d (after d p events) later
unfolding after
after_append d [] later p = refl
after_append d (event ∷ events) later p = after_append d events later (step d p event).device

-- ---- the theorem

-- Two devices of any description, alike but for the words of S, which is at high security: demand 3 holds after every list of events.
pub secrecy : (d : Description) (S : FlashArray) (first second : Device) → Alike S first second → high_in d S first.registers ≡ true
    → (events : List Event) → Secret d S first second events
unfolding after
secrecy d S first second k h events =
    let x : Device = after d first events in
    let y : Device = after d second events in
    let r : Kept d S x y = kept_after d S events first second k (still_high h) in
    record {
      alike = r.alike;
      number = λ event. (secrecy_of_one d S x y r.alike r.known event).number;
      value = λ event. (secrecy_of_one d S x y r.alike r.known event).value;
      cleared = λ e later.
          after_append d events (clearing_erase S ∷ later) first
          ∙ ap (λ (device : Device). after d device later) (erase_clears d S x y r.alike r.known e)
          ∙ sym (after_append d events (clearing_erase S ∷ later) second);
    }
