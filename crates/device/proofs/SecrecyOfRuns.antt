-- Demand 3 of a run over a list of numbers. The statement's words are in specs/SecrecyOfRuns.antt. Assumes nothing.
use Prim.Native.Nat.{ℕ, zero, suc, ◌+◌, ◌-◌, ◌*◌, ◌<◌, ◌≤◌}
use Rattle.std.proofs.Common.{arith, sym, ◌∙◌, ltb-true, ltb-false, length-append, length-drop, get_or-append-add}
use Rattle.std.specs.Prelude.{◌≡◌, refl, Bool, true, false, not, ltb, length, drop, get_or, if◌then◌else◌}
use Rattle.std.proofs.Math.Path.{ap}
use mathlib.Core.List.{List, [], ◌∷◌, ◌++◌}
use Rattle.std.proofs.lemmas.Bool.{not-false}
use Rattle.std.proofs.Math.ListN.{get_or-append}
use Rattle.event.specs.declared.Event.{Event}
use Rattle.part.specs.Descriptions.{is_valid}
use Rattle.event.specs.Events.{decode}
use Rattle.rules.specs.SecretSegment.{issued_from}
use Rattle.carrying.specs.CarryingOut.{Device, Left, leaves}
use Rattle.carrying.specs.Alike.{Alike, Known, Agree}
use Rattle.device.specs.OneEvent.{event_on, is_sized_for}
use Rattle.device.specs.Lists.{decoded_on, ends_run, Trace, no_event, and_then, trace_of, RunLeft, ran_to, told, is_good_list, run}
use Rattle.measure.specs.Tests.{by_both, by_value}
use Rattle.device.proofs.Secrecy.{general_length, auxiliary_length, answer_agrees, event_agrees, while_high}
use Rattle.part.specs.declared.Description.{Description}
use Rattle.rules.specs.declared.Registers.{Registers}
use Rattle.rules.specs.declared.Answer.{Answer}
use Rattle.rules.specs.declared.Answer.TheVariants.{MalformedEvent, BadDescription, WrongFlashLength, BadList}
use Rattle.part.specs.declared.FlashArray.{FlashArray}
use Rattle.std.specs.Prelude.{Option, Some, None}
use Rattle.device.specs.SecrecyOfRuns.{registers_before, RunsAgree}

-- ---- the answers of two traces

record Traces (d : Description) (S : FlashArray) (before : ℕ → Registers) (t u : Trace) : Type 0 where
  count : t.count ≡ u.count
  lengths : length t.answers ≡ length u.answers
  two : length t.answers ≡ 2 * t.count
  alike : Alike S t.device u.device
  known : Known d S t.device u.device
  numbers : (index : ℕ) → get_or t.answers (2 * index) 0 ≡ get_or u.answers (2 * index) 0
  values : (index : ℕ) → issued_from d S (before index) ≡ false
      → get_or t.answers (2 * index + 1) 0 ≡ get_or u.answers (2 * index + 1) 0

module _ (d : Description) (S : FlashArray) where
  no_traces : (before : ℕ → Registers) (p q : Device) → Alike S p q → Known d S p q
      → Traces d S before (no_event p) (no_event q)
  no_traces before p q k w =
      record { count = refl; lengths = refl; two = refl; alike = k; known = w; numbers = λ _. refl; values = λ _ _. refl }

  renamed : (before before' : ℕ → Registers) (t u : Trace) → ((index : ℕ) → before index ≡ before' index) → Traces d S before' t u
      → Traces d S before t u
  renamed before before' t u e r =
      record {
        count = r.count;
        lengths = r.lengths;
        two = r.two;
        alike = r.alike;
        known = r.known;
        numbers = r.numbers;
        values = λ index f. r.values index (rw (e index) at f);
      }

  -- one event more, in front
  then_traces : (before : ℕ → Registers) (l m : Left) (t u : Trace) → l.number ≡ m.number
      → (issued_from d S (before 0) ≡ false → l.value ≡ m.value)
      → Traces d S (λ index. before (suc index)) t u
      → Traces d S before (and_then l t) (and_then m u)
  then_traces before l m t u n w r =
      record {
        count = ap suc r.count;
        lengths = ap (λ (k : ℕ). suc (suc k)) r.lengths;
        two = omega (arith, r.two);
        alike = r.alike;
        known = r.known;
        numbers = numbers;
        values = values;
      }
    where
      numbers : (index : ℕ) → get_or (and_then l t).answers (2 * index) 0 ≡ get_or (and_then m u).answers (2 * index) 0
      numbers zero = n
      numbers (suc index) = let e : 2 * suc index ≡ suc (suc (2 * index)) = omega arith in rw e (r.numbers index)

      values : (index : ℕ) → issued_from d S (before index) ≡ false
          → get_or (and_then l t).answers (2 * index + 1) 0 ≡ get_or (and_then m u).answers (2 * index + 1) 0
      values zero f = w f
      values (suc index) f = let e : 2 * suc index + 1 ≡ suc (suc (2 * index + 1)) = omega arith in rw e (r.values index f)

  -- the run ends after this event, or the rest comes
  event_traces : (before later : ℕ → Registers) (l m : Left) (t u : Trace) → Agree d S (issued_from d S (before 0)) l m
      → (ends_run l.number ≡ false → (index : ℕ) → before (suc index) ≡ later index)
      → Traces d S later t u
      → Traces d S before (and_then l (if ends_run l.number then no_event l.device else t))
      (and_then m (if ends_run m.number then no_event m.device else u))
  event_traces before later l m t u g e r =
      then_traces before l m _ _ g.number g.value (rw (← g.number) (by_both (Traces d S (λ index. before (suc index))) (ends_run l.number)
      (λ _. no_traces (λ index. before (suc index)) l.device m.device g.alike g.known)
      (λ f. renamed (λ index. before (suc index)) later t u (e f) r)))

  decoded_agrees : is_valid d ≡ true → (decoded : Option Event) (p q : Device) → Alike S p q → Known d S p q
      → Agree d S (issued_from d S p.registers) (decoded_on d p decoded) (decoded_on d q decoded)
  unfolding decoded_on
  decoded_agrees v None p q k w =
      while_high d S p q (leaves MalformedEvent) w (λ h. answer_agrees d S p q k h MalformedEvent)
  decoded_agrees v (Some event) p q k w =
      while_high d S p q (λ device. event_on d device event) w (λ h. event_agrees d S p q k h v event)

  traces : is_valid d ≡ true → (limit : ℕ) (list : List ℕ) (p q : Device) → Alike S p q → Known d S p q
      → Traces d S (registers_before d p list) (trace_of d limit p list) (trace_of d limit q list)
  unfolding trace_of
  traces v zero list p q k w = no_traces (registers_before d p list) p q k w
  traces v (suc limit) [] p q k w = no_traces (registers_before d p []) p q k w
  traces v (suc limit) (kind ∷ []) p q k w = no_traces (registers_before d p (kind ∷ [])) p q k w
  traces v (suc limit) (kind ∷ a ∷ []) p q k w = no_traces (registers_before d p (kind ∷ a ∷ [])) p q k w
  traces v (suc limit) (kind ∷ a ∷ b ∷ list) p q k w =
      let l : Left = decoded_on d p (decode kind a b) in
      let m : Left = decoded_on d q (decode kind a b) in
      let g : Agree d S (issued_from d S p.registers) l m = decoded_agrees v (decode kind a b) p q k w in
      event_traces (registers_before d p (kind ∷ a ∷ b ∷ list)) (registers_before d l.device list) l m
      (trace_of d limit l.device list) (trace_of d limit m.device list) g
      (λ e index. ap (λ (ends : Bool). (if ends then no_event l.device else trace_of d index l.device list).device.registers) e)
      (traces v limit list l.device m.device g.alike g.known)

-- ---- the answers in their slots

slot_same : (a b slots : List ℕ) (k : ℕ) → length a ≡ length b → (k < length a → get_or a k 0 ≡ get_or b k 0)
    → get_or (a ++ drop (length a) slots) k 0 ≡ get_or (b ++ drop (length b) slots) k 0
slot_same a b slots k l same =
    by_value (ltb k (length a))
    (λ t.
    let h : k < length a = ltb-true k (length a) t in
    get_or-append a (drop (length a) slots) 0 k h ∙ same h ∙ sym (get_or-append b (drop (length b) slots) 0 k (rw l at h)))
    (λ f.
    let h : length a ≤ k = ltb-false k (length a) f in
    let e : k ≡ length a + (k - length a) = omega arith in
    let e' : k ≡ length b + (k - length b) = omega arith in
    ap (λ (n : ℕ). get_or (a ++ drop (length a) slots) n 0) e
    ∙ get_or-append-add a (drop (length a) slots) (k - length a) 0
    ∙ ap (λ (n : ℕ). get_or (drop n slots) (k - n) 0) l
    ∙ sym (get_or-append-add b (drop (length b) slots) (k - length b) 0)
    ∙ sym (ap (λ (n : ℕ). get_or (b ++ drop (length b) slots) n 0) e'))

-- ---- the theorem

module _ (d : Description) (S : FlashArray) (first second : Device) (k : Alike S first second) (w : Known d S first second) (list slots : List ℕ) where
  abbrev Runs : RunLeft → RunLeft → Type 0
  Runs p q = RunsAgree d S (registers_before d first list) p q

  refused_agree : (answer : Answer) → Runs (ran_to answer 0 first slots) (ran_to answer 0 second slots)
  refused_agree answer =
      record { number = refl; value = refl; count = refl; alike = k; known = w; slots = refl; numbers = λ _. refl; values = λ _ _. refl }

  told_agree : (t u : Trace) → Traces d S (registers_before d first list) t u → Runs (told slots t) (told slots u)
  told_agree t u r =
      record {
        number = refl;
        value = refl;
        count = r.count;
        alike = r.alike;
        known = r.known;
        slots = simp (length-append, length-drop, r.lengths);
        numbers = λ index. slot_same t.answers u.answers slots (2 * index) r.lengths (λ _. r.numbers index);
        values = λ index f.
            slot_same t.answers u.answers slots (2 * index + 1) r.lengths (λ h. r.values index (f (omega (arith, r.two))));
      }

  -- A run on two such devices, S at high security: the same count and answers, but for the values told to S's own code.
  pub secrecy_of_runs : (limit : ℕ)
      → RunsAgree d S (registers_before d first list) (run d first list slots limit) (run d second list slots limit)
  unfolding run
  secrecy_of_runs limit =
      rw (general_length S first second k, auxiliary_length S first second k)
      (by_both Runs (not (is_valid d)) (λ _. refused_agree BadDescription)
      (λ v. by_both Runs (not (is_sized_for d second)) (λ _. refused_agree WrongFlashLength)
      (λ _. by_both Runs (not (is_good_list (length list) (length slots))) (λ _. refused_agree BadList)
      (λ _. told_agree _ _ (traces d S (not-false _ v) limit list first second k w)))))
