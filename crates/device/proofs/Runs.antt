-- What a run has come to after some events, and what is left of it. Assumes nothing.
use Rattle.std.specs.Prelude.{if◌then◌else◌}
use mathlib.Core.Path.{◌≡◌, refl, sym, ap, ◌∙◌}
use mathlib.Core.Logic.{⊎_elim}
use mathlib.Core.Bool.{Bool, true, false, ◌&&◌}
use mathlib.Core.List.{List, [], ◌∷◌}
use Prim.Native.Nat.{ℕ, zero, suc, ◌+◌, ◌-◌, ◌*◌, ◌/◌, ◌%◌, ◌<◌, ◌≤◌, min}
use native.Mathlib.Nat.{add-zero, zero-add, eq-zero-or-pos}
use native.Mathlib.Omega.{arith}
use borrow.Author.Tests.{eqb-true, leb-true}
use lib.Dec.{eqb, leb}
use lib.ListN.{length, get_or, drop, drop_of_length-le}
use lib.Seq.{drop-cons, sets, sets-eq}
use Rattle.measure.specs.Tests.{and_left, and_right}
use Rattle.rules.specs.Answers.{number_of}
use Rattle.event.specs.Events.{decode}
use Rattle.carrying.specs.CarryingOut.{Device, Left, leaves}
use Rattle.carrying.specs.Lent.{SameArrays}
use Rattle.carrying.specs.declared.LentDevice.{LentDevice}
use Rattle.device.specs.Internals.{event_at, stored}
use Rattle.device.specs.Lists.{decoded_on, ends_run, Trace, no_event, and_then, trace_of, RunLeft, ran_to, told, is_good_list}
use Rattle.part.specs.declared.Description.{Description}
use Rattle.rules.specs.declared.Answer.{Answer}
use Rattle.rules.specs.declared.Answer.TheVariants.{
  Done,
  Zeroed,
  NotStarted,
  SecurityReset,
  AddressTrap,
  Stopped,
  MalformedEvent,
  BadDescription,
  WrongFlashLength,
  BadList,
}

-- ---- what a good list is

module _ (list slots : ℕ) (h : is_good_list list slots ≡ true) where
  pub list_whole : list % 3 ≡ 0
  list_whole =
      eqb-true (list % 3) 0 (and_left (eqb (list % 3) 0) (leb (list / 3) 4096)
      (and_left (eqb (list % 3) 0 && leb (list / 3) 4096) (leb (list / 3 * 2) slots) h))

  pub list_room : list / 3 * 2 ≤ slots
  list_room = leb-true (list / 3 * 2) slots (and_right (eqb (list % 3) 0 && leb (list / 3) 4096) (leb (list / 3 * 2) slots) h)

-- ---- i events are answered, in the first slots, and t is what the rest comes to

abbrev pub joined : ℕ → List ℕ → Trace → RunLeft
joined i slots t = ran_to (Done 0) (i + t.count) t.device (sets slots (2 * i) t.answers)

-- nothing is left
pub joined_none : (i : ℕ) (slots : List ℕ) (device : Device) → joined i slots (no_event device) ≡ ran_to (Done 0) i device slots
joined_none i slots device = rw (add-zero i)

-- one event more is answered
joined_then : (i : ℕ) (slots : List ℕ) (answer : Answer) (device : Device) (t : Trace)
    → joined i slots (and_then (leaves answer device) t) ≡ joined (i + 1) (stored slots i answer) t
joined_then i slots answer device t =
    let c : i + suc t.count ≡ (i + 1) + t.count = omega arith in
    let n : suc (suc (2 * i)) ≡ 2 * (i + 1) = omega arith in
    let m : suc (2 * i) ≡ 2 * i + 1 = omega arith in
    rw (c, ← n, ← m)

-- the list's next event
three : (list : List ℕ) (i : ℕ) → 3 * i + 2 < length list
    → drop (3 * i) list ≡ get_or list (3 * i) 0 ∷ get_or list (3 * i + 1) 0 ∷ get_or list (3 * i + 2) 0 ∷ drop (3 * (i + 1)) list
three list i h =
    let a : 3 * i + 1 ≡ suc (3 * i) = omega arith in
    let b : 3 * i + 2 ≡ suc (suc (3 * i)) = omega arith in
    let e : 3 * (i + 1) ≡ suc (suc (suc (3 * i))) = omega arith in
    rw (e, b, a) (drop-cons list (3 * i) 0 (omega arith) ∙ ap (λ l. get_or list (3 * i) 0 ∷ l)
    (drop-cons list (suc (3 * i)) 0 (omega arith) ∙ ap (λ l. get_or list (suc (3 * i)) 0 ∷ l)
    (drop-cons list (suc (suc (3 * i))) 0 (omega arith))))

trace_nil : (d : Description) (n : ℕ) (device : Device) → trace_of d n device [] ≡ no_event device
unfolding trace_of
trace_nil d zero device = refl
trace_nil d (suc n) device = refl

-- at the limit, or at the list's end
pub trace_end : (d : Description) (limit i : ℕ) (device : Device) (list : List ℕ) → length list % 3 ≡ 0 → min limit (length list / 3) ≤ i
    → trace_of d (limit - i) device (drop (3 * i) list) ≡ no_event device
unfolding trace_of
trace_end d limit i device list m h =
    ⊎_elim (λ e. rw e) (λ l. rw (drop_of_length-le list {i = 3 * i} (omega arith)) (trace_nil d (limit - i) device)) (eq-zero-or-pos (limit - i))

-- ---- a turn of the loop, from what `listed` promises: what the whole run leaves is then what the rest comes to

module _ (d : Description) (limit total i : ℕ) (device : Device) (list slots : List ℕ) (answer : Answer) (after : Device) (slots' : List ℕ)
    (whole : RunLeft) (test : i < total) (least : total ≡ min limit (length list / 3)) (threes : length list % 3 ≡ 0)
    (e : leaves answer after ≡ decoded_on d device (event_at list i))
    (es : slots' ≡ stored slots i answer)
    (inv : joined i slots (trace_of d (limit - i) device (drop (3 * i) list)) ≡ whole) where
  rest : Trace
  rest = trace_of d (limit - (i + 1)) after (drop (3 * (i + 1)) list)

  turn : joined (i + 1) slots' (if ends_run (number_of answer) then no_event after else rest) ≡ whole
  unfolding trace_of rest
  turn =
      let n : limit - i ≡ suc (limit - (i + 1)) = omega arith in
      rw es (sym (joined_then i slots answer after (if ends_run (number_of answer) then no_event after else rest))
      ∙ rw (n, three list i (omega arith), ← e) at inv)

  pub turn_on : ends_run (number_of answer) ≡ false
      → joined (i + 1) slots' (trace_of d (limit - (i + 1)) after (drop (3 * (i + 1)) list)) ≡ whole
  unfolding rest
  turn_on on = rw on at turn

  pub turn_stop : ends_run (number_of answer) ≡ true → ran_to (Done 0) (i + 1) after slots' ≡ whole
  turn_stop on = sym (joined_none (i + 1) slots' after) ∙ rw on at turn

-- ---- two slots for each event

if_le : (t : Bool) (u v : Trace) (m : ℕ) → length u.answers * 3 ≤ m → length v.answers * 3 ≤ m
    → length (if t then u else v).answers * 3 ≤ m
if_le true u v m p q = p
if_le false u v m p q = q

answers_le : (d : Description) (n : ℕ) (device : Device) (list : List ℕ) → length (trace_of d n device list).answers * 3 ≤ length list * 2
unfolding trace_of
answers_le d zero device list = omega arith
answers_le d (suc n) device [] = omega arith
answers_le d (suc n) device (kind ∷ []) = omega arith
answers_le d (suc n) device (kind ∷ a ∷ []) = omega arith
answers_le d (suc n) device (kind ∷ a ∷ b ∷ list) =
    let l : Left = decoded_on d device (decode kind a b) in
    omega (
      arith,
      if_le (ends_run l.number) (no_event l.device) (trace_of d n l.device list) (length list * 2) (omega arith)
          (answers_le d n l.device list),
    )

-- before the first event, the whole run is left
pub joined_start : (d : Description) (limit : ℕ) (device : Device) (list slots : List ℕ) → is_good_list (length list) (length slots) ≡ true
    → joined 0 slots (trace_of d limit device list) ≡ told slots (trace_of d limit device list)
joined_start d limit device list slots h =
    let t : Trace = trace_of d limit device list in
    let l : 0 + length t.answers ≤ length slots =
    omega (arith, answers_le d limit device list, list_whole (length list) (length slots) h, list_room (length list) (length slots) h) in
    rw (sets-eq t.answers slots 0 l, zero-add t.count, zero-add (length t.answers))

-- ---- which answers end a run

pub runs_on : (answer : Answer) → (answer ≡ SecurityReset → ⊥) → (answer ≡ AddressTrap → ⊥) → ends_run (number_of answer) ≡ false
runs_on (Done value) reset trap = refl
runs_on Zeroed reset trap = refl
runs_on NotStarted reset trap = refl
runs_on SecurityReset reset trap = absurd (reset refl)
runs_on AddressTrap reset trap = absurd (trap refl)
runs_on Stopped reset trap = refl
runs_on MalformedEvent reset trap = refl
runs_on BadDescription reset trap = refl
runs_on WrongFlashLength reset trap = refl
runs_on BadList reset trap = refl

-- ---- the arrays that a device holds, over two steps

pub arrays_still : {first second third : LentDevice} → SameArrays first second → SameArrays second third → SameArrays first third
arrays_still p q = record { general = q.general ∙ p.general; auxiliary = q.auxiliary ∙ p.auxiliary }
