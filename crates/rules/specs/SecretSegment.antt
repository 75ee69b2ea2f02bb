-- Demand 3, the words about the secret segment S that speak of no device. S is named by its array: GeneralArray for GS without its
-- vectors, AuxiliaryArray for AS. Assumes nothing.
use Rattle.std.specs.Prelude.{ℕ, Bool, false, not, Option, Some, None}
use Rattle.fuse.specs.Byte.{level_of, is_high}
use Rattle.permission.specs.declared.Origin.{Origin}
use Rattle.part.specs.Places.{vector_words, running_at, from_general}
use Rattle.part.specs.declared.Description.{Description}
use Rattle.part.specs.declared.FlashArray.{FlashArray}
use Rattle.part.specs.declared.FlashArray.TheVariants.{GeneralArray, AuxiliaryArray}
use Rattle.rules.specs.declared.Registers.{Registers}

abbrev pub other_array : FlashArray → FlashArray
other_array GeneralArray = AuxiliaryArray
other_array AuxiliaryArray = GeneralArray

-- the words at the front of its array that are not of S: the vectors
abbrev pub vectors_in : FlashArray → ℕ
vectors_in GeneralArray = vector_words
vectors_in AuxiliaryArray = 0

abbrev pub fuse_of : FlashArray → ℕ → ℕ → ℕ
fuse_of GeneralArray fgs fas = fgs
fuse_of AuxiliaryArray fgs fas = fas

-- S is at high security, by its bit or by a key mismatch
abbrev pub high_in : Description → FlashArray → Registers → Bool
high_in d S r = is_high (level_of d.keys (fuse_of S r.fgs r.fas))

-- "An event is issued from within a segment exactly if that segment is its origin."
abbrev pub is_own : FlashArray → Origin → Bool
is_own GeneralArray origin = from_general origin
is_own AuxiliaryArray origin = not (from_general origin)

abbrev pub own_code : FlashArray → Option Origin → Bool
own_code S None = false
own_code S (Some origin) = is_own S origin

abbrev pub issued_from : Description → FlashArray → Registers → Bool
issued_from d S r = own_code S (running_at d r.pc)
