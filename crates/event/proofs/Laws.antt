-- A byte of a list. Assumes nothing.
use Prim.Native.Nat.{ℕ, ◌%◌}
use mathlib.Core.Path.{◌≡◌, refl}
use mathlib.Core.Bool.{Bool, true, false, ◌&&◌}
use native.Mathlib.Nat.{mod-eq_of_lt}
use borrow.Author.Tests.{ltb-true}
use lib.Dec.{eqb, ltb}
use Rattle.event.specs.Events.{good_byte, given}
use Rattle.event.specs.declared.Event.{Event}

-- where the test holds, the byte is the number itself
pub given_byte : (event : ℕ → Event) (a b : ℕ) → given (good_byte a && eqb b 0) (event (a % 256)) ≡ given (good_byte a && eqb b 0) (event a)
given_byte event a b = go (ltb a 256) refl
  where
    go : (t : Bool) → ltb a 256 ≡ t → given (ltb a 256 && eqb b 0) (event (a % 256)) ≡ given (ltb a 256 && eqb b 0) (event a)
    go true e = rw (mod-eq_of_lt (ltb-true a 256 e))
    go false e = rw e
