-- Document 01, "The device" and "Who is running": where an address lies, whose code runs there, and which target it is.
-- Assumes nothing.
use Rattle.std.specs.Prelude.{ℕ, ◌+◌, ◌-◌, Bool, true, false, not, ◌||◌, eqb, ltb, leb, if◌then◌else◌, Option, Some, None}
use Rattle.measure.specs.Measures.{even, address, location_of}
use Rattle.measure.specs.declared.ProgramAddress.{ProgramAddress}
use Rattle.measure.specs.declared.InstructionLocation.{InstructionLocation}
use Rattle.fuse.specs.Byte.{level_of, write_protection_of}
use Rattle.permission.specs.declared.Origin.{Origin}
use Rattle.permission.specs.declared.Origin.TheVariants.{FromGeneral, FromAuxiliary}
use Rattle.permission.specs.declared.Segment.{Segment}
use Rattle.permission.specs.declared.Segment.TheVariants.{General, Auxiliary, Vectors}
use Rattle.permission.specs.declared.Target.{Target}
use Rattle.part.specs.Descriptions.{general_words, auxiliary_words}
use Rattle.part.specs.declared.Description.{Description}
use Rattle.part.specs.declared.FlashArray.{FlashArray}
use Rattle.part.specs.declared.FlashArray.TheVariants.{GeneralArray, AuxiliaryArray}
use Rattle.part.specs.declared.Place.{Place}

-- ---- places

-- "AS ends with the word at 0x7FFFFE": the location after it, and the first of AS
abbrev pub auxiliary_end : ℕ
auxiliary_end = (location_of (address 0x7FFFFE)).0 + 1

abbrev pub auxiliary_first : Description → ℕ
auxiliary_first d = auxiliary_end - auxiliary_words d

-- "Two lent flash arrays, GS and AS": the word of an index in one of them
abbrev pub in_array : FlashArray → ℕ → Place
in_array array n = record { array = array; index = n }

-- "GS starts at 0x000000"; "Addresses in neither are unimplemented." Whatever a description says, nothing lies past the end of AS.
unfoldable pub place_of : Description → InstructionLocation → Option Place
place_of d l =
    if not (ltb l.0 auxiliary_end) then None
    else if ltb l.0 (general_words d) then Some (in_array GeneralArray l.0)
    else if leb (auxiliary_first d) l.0 then Some (in_array AuxiliaryArray (l.0 - auxiliary_first d))
    else None

abbrev pub place_at : Description → ProgramAddress → Option Place
place_at d a = place_of d (location_of a)

abbrev pub is_implemented : Option Place → Bool
is_implemented None = false
is_implemented (Some place) = true

-- whether an array is AS's, and so whether a place lies in AS
abbrev pub is_auxiliary_array : FlashArray → Bool
is_auxiliary_array GeneralArray = false
is_auxiliary_array AuxiliaryArray = true

abbrev pub is_auxiliary : Option Place → Bool
is_auxiliary None = false
is_auxiliary (Some place) = is_auxiliary_array place.array

-- "Vector space (VS): 0x000000 to 0x0001FE"
abbrev pub vector_words : ℕ
vector_words = 256

-- ---- who is running

-- "Even PC in AS: origin AS. Even PC in GS, or exactly 0x000000: origin GS", "elsewhere in VS: not executable"
abbrev pub code_in : ProgramAddress → FlashArray → ℕ → Option Origin
code_in pc GeneralArray n = if eqb pc.0 0 || leb vector_words n then Some FromGeneral else None
code_in pc AuxiliaryArray n = Some FromAuxiliary

-- where there is no memory no code runs: not executable
abbrev pub running_in : ProgramAddress → Option Place → Option Origin
running_in pc None = None
running_in pc (Some place) = code_in pc place.array place.index

-- "PC odd: not executable"
unfoldable pub running_at : Description → ProgramAddress → Option Origin
running_at d pc = if even pc.0 then running_in pc (place_at d pc) else None

abbrev pub from_general : Origin → Bool
from_general FromGeneral = true
from_general FromAuxiliary = false

-- ---- targets

-- the segment of a word, where the first words of the GS array count as VS
abbrev pub segment_in : ℕ → FlashArray → ℕ → Segment
segment_in vectors GeneralArray n = if ltb n vectors then Vectors else General
segment_in vectors AuxiliaryArray n = Auxiliary

-- the same of a place
abbrev pub segment_of : ℕ → Place → Segment
segment_of vectors place = segment_in vectors place.array place.index

-- "VS takes its level and write protection from FGS. FAS is ignored on a part with no AS": no place lies in AS there, and
-- rule 11 refuses
abbrev pub byte_of : ℕ → ℕ → Segment → ℕ
byte_of fgs fas General = fgs
byte_of fgs fas Auxiliary = fas
byte_of fgs fas Vectors = fgs

-- the column of a segment in table 23-1
unfoldable pub target_of : Bool → ℕ → ℕ → Segment → Target
target_of keys fgs fas segment =
    record {
      segment = segment;
      level = level_of keys (byte_of fgs fas segment);
      protection = write_protection_of (byte_of fgs fas segment);
    }
