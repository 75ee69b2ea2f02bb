-- A law of numbers. Assumes nothing.
use Prim.Native.Nat.{ℕ, ◌*◌, ◌-◌, ◌<◌, ◌≤◌, ◌^◌}
use native.Mathlib.Nat.{mul-le-mul, lt_of_le_of_lt}
use native.Mathlib.Omega.{arith}
use lib.Dec.{lit<}

-- the product of two 32-bit numbers has 64 bits
pub product_lt : {a b : ℕ} → a < 2 ^ 32 → b < 2 ^ 32 → a * b < 2 ^ 64
product_lt {a} {b} p q =
    let a-le : a ≤ 2 ^ 32 - 1 = omega arith in
    let b-le : b ≤ 2 ^ 32 - 1 = omega arith in
    lt_of_le_of_lt (mul-le-mul a-le b-le) (lit< tt)
