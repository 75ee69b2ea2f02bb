-- A description and a state as plain numbers, in the words of include/pinionclay.h. Assumes nothing.
use Rattle.std.specs.Prelude.{ℕ, ◌%◌, ◌≡◌, refl, Bool, true, false, not, List, ◌∷◌, eqb, get_or, drop, if◌then◌else◌}
use Rattle.std.proofs.Math.Nat.{mod-mod}
use Rattle.measure.specs.Measures.{address}
use Rattle.part.specs.declared.Description.{Description}
use Rattle.device.specs.declared.State.{State}

-- "a flag is set where its number is not 0", the flag of the keys too
abbrev pub is_set : ℕ → Bool
is_set number = not (eqb number 0)

-- "page words, GS pages, AS pages, keys, auxiliary vector"
abbrev pub description_of : List ℕ → Description
description_of numbers =
    record {
      page_words = get_or numbers 0 0;
      general_pages = get_or numbers 1 0;
      auxiliary_pages = get_or numbers 2 0;
      keys = is_set (get_or numbers 3 0);
      auxiliary_vector = address (get_or numbers 4 0);
    }

-- "PC, IOPUWR, stopped, FGS, FAS, then the 64 latches"; "a byte is the number's low 8 bits"
abbrev pub state_of : List ℕ → State
state_of numbers =
    record {
      pc = address (get_or numbers 0 0);
      iopuwr = is_set (get_or numbers 1 0);
      stopped = is_set (get_or numbers 2 0);
      fgs = get_or numbers 3 0 % 256;
      fas = get_or numbers 4 0 % 256;
      latches = drop 5 numbers;
    }

-- flags are "written back as 0 or 1"
abbrev pub flag_number : Bool → ℕ
flag_number set = if set then 1 else 0

-- the state's numbers, in the same order
abbrev pub numbers_of : State → List ℕ
numbers_of s = s.pc.0 ∷ flag_number s.iopuwr ∷ flag_number s.stopped ∷ s.fgs ∷ s.fas ∷ s.latches

flag_back : (set : Bool) → is_set (flag_number set) ≡ set
flag_back true = refl
flag_back false = refl

-- numbers that were written back say the same state again
pub read_back : (numbers : List ℕ) → state_of (numbers_of (state_of numbers)) ≡ state_of numbers
read_back numbers = rw (flag_back (is_set (get_or numbers 1 0)), flag_back (is_set (get_or numbers 2 0)), mod-mod, mod-mod)
