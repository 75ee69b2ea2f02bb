-- The laws of `specs/Byte.antt`. Assumes nothing.
use mathlib.Core.Path.{◌≡◌, refl, sym, ap, ◌∙◌}
use mathlib.Core.Bool.{Bool, true, false}
use Prim.Native.Nat.{ℕ, ◌%◌, ◌^◌, ◌<◌}
use native.Mathlib.Nat.{mod-eq_of_lt}
use lib.Bits.{bit_and}
use Rattle.measure.proofs.Laws.{and_is}
use Rattle.fuse.specs.Byte.{mask_of, stored_byte}

mask_mod : (keys : Bool) → mask_of keys ≡ mask_of keys % 2 ^ 8
mask_mod true = refl
mask_mod false = refl

-- the machine's AND with the mask is the byte as it is stored
pub stored_is : (keys : Bool) (byte : ℕ) → byte < 2 ^ 8 → bit_and byte (mask_of keys) ≡ stored_byte keys byte
unfolding stored_byte
stored_is keys byte h =
    ap (λ (b : ℕ). bit_and b (mask_of keys)) (sym (mod-eq_of_lt h))
    ∙ ap (bit_and (byte % 2 ^ 8)) (mask_mod keys)
    ∙ and_is 8 byte (mask_of keys)
