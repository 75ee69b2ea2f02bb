-- Table 23-1 of the manual (section 23, revision B, source document 004): the rows that ask where the code runs and what the target's fuse byte says.
-- Assumes nothing.
use Rattle.std.specs.Prelude.{ℕ, ◌+◌, Bool, true, false, List, [], ◌∷◌, get_or}
use Rattle.fuse.specs.declared.Level.{Level}
use Rattle.fuse.specs.declared.Level.TheVariants.{None, High}
use Rattle.fuse.specs.declared.WriteProtection.{WriteProtection}
use Rattle.fuse.specs.declared.WriteProtection.TheVariants.{Writable, Protected}
use Rattle.permission.specs.declared.Operation.{Operation}
use Rattle.permission.specs.declared.Operation.TheVariants.{Program, Read}
use Rattle.permission.specs.declared.Origin.{Origin}
use Rattle.permission.specs.declared.Origin.TheVariants.{FromGeneral, FromAuxiliary}
use Rattle.permission.specs.declared.Segment.{Segment}
use Rattle.permission.specs.declared.Segment.TheVariants.{General, Auxiliary, Vectors}
use Rattle.permission.specs.declared.Target.{Target}

abbrev Yes : Bool
Yes = true

abbrev No : Bool
No = false

-- The cells as printed. Columns: General Segment, Auxiliary Segment, IVT; in each, level none, then high; in each of these,
-- not write-protected, then write-protected.
unfoldable pub row_of : Operation → Origin → List Bool
-- "Table Read/PSV of Target Segment Program Flash while executing from: AS", and GS
row_of Read FromAuxiliary = Yes ∷ Yes ∷ No ∷ No ∷ Yes ∷ Yes ∷ Yes ∷ Yes ∷ Yes ∷ Yes ∷ Yes ∷ Yes ∷ []
row_of Read FromGeneral = Yes ∷ Yes ∷ Yes ∷ Yes ∷ Yes ∷ Yes ∷ No ∷ No ∷ Yes ∷ Yes ∷ Yes ∷ Yes ∷ []
-- "Program/Erase row of Target Segment program Flash while executing from: AS", and GS
row_of Program FromAuxiliary = Yes ∷ No ∷ No ∷ No ∷ Yes ∷ No ∷ Yes ∷ No ∷ Yes ∷ No ∷ No ∷ No ∷ []
row_of Program FromGeneral = Yes ∷ No ∷ Yes ∷ No ∷ Yes ∷ No ∷ No ∷ No ∷ Yes ∷ No ∷ No ∷ No ∷ []

-- the number of a target's column, from the left
abbrev pub segment_column : Segment → ℕ
segment_column General = 0
segment_column Auxiliary = 4
segment_column Vectors = 8

abbrev pub level_column : Level → ℕ
level_column None = 0
level_column High = 2

abbrev pub protection_column : WriteProtection → ℕ
protection_column Writable = 0
protection_column Protected = 1

abbrev pub column_of : Target → ℕ
column_of target = segment_column target.segment + level_column target.level + protection_column target.protection

-- the cell
unfoldable pub allowed : Operation → Origin → Target → Bool
allowed operation origin target = get_or (row_of operation origin) (column_of target) No

-- document 01, "Lists, printed table, page view": the order in which the four rows are printed and kept
abbrev pub row_number : Operation → Origin → ℕ
row_number Program FromAuxiliary = 0
row_number Program FromGeneral = 1
row_number Read FromAuxiliary = 2
row_number Read FromGeneral = 3

unfoldable pub printed : List (List Bool)
printed = row_of Program FromAuxiliary ∷ row_of Program FromGeneral ∷ row_of Read FromAuxiliary ∷ row_of Read FromGeneral ∷ []
