-- The laws of `specs/Words.antt`: the AND and the count of ones are the machine's. Assumes nothing.
use mathlib.Core.Path.{◌≡◌, refl, sym, ap, ◌∙◌}
use Prim.Native.Nat.{ℕ, zero, suc, ◌+◌, ◌-◌, ◌/◌, ◌%◌, ◌^◌, ◌<◌, ◌≤◌, min}
use native.Mathlib.Nat.{mod-lt, mod-one, mod-mod, mod-eq_of_lt, lt_of_le_of_lt, pow-suc}
use native.Mathlib.Numerals.{add-one}
use native.Mathlib.Omega.{arith}
use lib.Arith.{digits_mod}
use lib.Bits.{bit_and, and_step, and_zero_l, and_le_l, and_mod, and_shr}
use lib.Count.{ones, ones_in, ones_step}
use lib.Pow.{pow_pos, field, mod-mod-pow, not_mod}
use Rattle.measure.specs.Words.{and_of, not_set_of}

-- ---- the AND

-- a number's digits below suc d: the lowest, and those above it
half_mod : (d n : ℕ) → n % 2 ^ suc d / 2 ≡ n / 2 % 2 ^ d
half_mod d n = rw (← add-one d) (field n d 1)

odd_mod : (d n : ℕ) → n % 2 ^ suc d % 2 ≡ n % 2
odd_mod d n = rw (← add-one d) (mod-mod-pow n d 1)

pub and_is : (d a b : ℕ) → bit_and (a % 2 ^ d) (b % 2 ^ d) ≡ and_of d a b
unfolding and_of
and_is zero a b = rw (mod-one a) (and_zero_l (b % 1))
and_is (suc d) a b =
    and_step (a % 2 ^ suc d) (b % 2 ^ suc d) ∙ simp (half_mod, odd_mod, and_is d (a / 2) (b / 2))

-- ---- the bits not set

-- the complement's digits
module _ (d o : ℕ) where
  not_half : ((2 ^ suc d - 1) - o % 2 ^ suc d) / 2 ≡ (2 ^ d - 1) - o / 2 % 2 ^ d
  not_half =
      omega (arith, half_mod d o, pow-suc 2 d, pow_pos d, mod-lt o (pow_pos (suc d)), mod-lt (o / 2) (pow_pos d))

  not_odd : ((2 ^ suc d - 1) - o % 2 ^ suc d) % 2 ≡ 1 - o % 2
  not_odd = omega (arith, odd_mod d o, pow-suc 2 d, pow_pos d, mod-lt o (pow_pos (suc d)))

zero_ones : ones 0 ≡ 0
unfolding ones ones_in
zero_ones = refl

-- the digits of an AND
and_half : (x y : ℕ) → bit_and x y / 2 ≡ bit_and (x / 2) (y / 2)
and_half x y = and_shr x y 1

min_lt : (x y : ℕ) → x < 2 → min x y < 2
min_lt x y h = omega arith

and_odd : (x y : ℕ) → bit_and x y % 2 ≡ min (x % 2) (y % 2)
and_odd x y =
    ap (λ (n : ℕ). n % 2) (and_step x y)
    ∙ digits_mod (bit_and (x / 2) (y / 2)) (min_lt (x % 2) (y % 2) (omega arith))

same_width : (d o l : ℕ) → ones (bit_and (l % 2 ^ d) ((2 ^ d - 1) - o % 2 ^ d)) ≡ not_set_of d o l
unfolding not_set_of
same_width zero o l = rw (mod-one l, and_zero_l) zero_ones
same_width (suc d) o l =
    ones_step (bit_and (l % 2 ^ suc d) ((2 ^ suc d - 1) - o % 2 ^ suc d))
    ∙ simp (and_odd, and_half, half_mod, odd_mod, not_half, not_odd, same_width d (o / 2) (l / 2))

-- of a complement of e digits more, those above d meet no digit of the latch
pub not_set_is : (e d o l : ℕ) → ones (bit_and (l % 2 ^ d) ((2 ^ (e + d) - 1) - o % 2 ^ d)) ≡ not_set_of d o l
not_set_is e d o l =
    ap ones (sym (mod-eq_of_lt (lt_of_le_of_lt (and_le_l (l % 2 ^ d) _) (mod-lt l (pow_pos d))))
    ∙ and_mod (l % 2 ^ d) ((2 ^ (e + d) - 1) - o % 2 ^ d) d
    ∙ simp (mod-mod, not_mod e d (mod-lt o (pow_pos d))))
    ∙ same_width d o l

pub not_set_le : (d o l : ℕ) → not_set_of d o l ≤ d
unfolding not_set_of
not_set_le zero o l = omega arith
not_set_le (suc d) o l = omega (arith, not_set_le d (o / 2) (l / 2))

-- ---- an AND fits its digits

pub and_lt : (d a b : ℕ) → and_of d a b < 2 ^ d
and_lt d a b = rw (← and_is d a b) (lt_of_le_of_lt (and_le_l (a % 2 ^ d) (b % 2 ^ d)) (mod-lt a (pow_pos d)))
