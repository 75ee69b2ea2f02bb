-- The laws of `specs/Table.antt`: every row and column is there, and a printed row is its operation's and origin's.
-- Assumes nothing.
use mathlib.Core.Path.{◌≡◌, refl}
use mathlib.Core.Bool.{Bool, false}
use mathlib.Core.List.{List, []}
use Prim.Native.Nat.{ℕ, ◌≤◌, ◌<◌}
use native.Mathlib.Omega.{arith}
use lib.Dec.{lit<, lit≤}
use lib.ListN.{get_or}
use Rattle.fuse.specs.declared.Level.{Level}
use Rattle.fuse.specs.declared.Level.TheVariants.{None, High}
use Rattle.fuse.specs.declared.WriteProtection.{WriteProtection}
use Rattle.fuse.specs.declared.WriteProtection.TheVariants.{Writable, Protected}
use Rattle.permission.specs.declared.Operation.{Operation}
use Rattle.permission.specs.declared.Operation.TheVariants.{Program, Read}
use Rattle.permission.specs.declared.Origin.{Origin}
use Rattle.permission.specs.declared.Origin.TheVariants.{FromGeneral, FromAuxiliary}
use Rattle.permission.specs.declared.Segment.{Segment}
use Rattle.permission.specs.declared.Segment.TheVariants.{General, Auxiliary, Vectors}
use Rattle.permission.specs.declared.Target.{Target}
use Rattle.permission.specs.Table.{row_of, allowed, segment_column, level_column, protection_column, column_of, row_number, printed}

pub row_lt : (operation : Operation) (origin : Origin) → row_number operation origin < 4
row_lt Program FromAuxiliary = lit< tt
row_lt Program FromGeneral = lit< tt
row_lt Read FromAuxiliary = lit< tt
row_lt Read FromGeneral = lit< tt

pub segment_le : (segment : Segment) → segment_column segment ≤ 8
segment_le General = lit≤ tt
segment_le Auxiliary = lit≤ tt
segment_le Vectors = lit≤ tt

pub level_le : (level : Level) → level_column level ≤ 2
level_le None = lit≤ tt
level_le High = lit≤ tt

pub protection_le : (protection : WriteProtection) → protection_column protection ≤ 1
protection_le Writable = lit≤ tt
protection_le Protected = lit≤ tt

pub column_lt : (target : Target) → column_of target < 12
column_lt target =
    omega (arith, segment_le target.segment, level_le target.level, protection_le target.protection)

pub printed_row : (operation : Operation) (origin : Origin) → get_or printed (row_number operation origin) [] ≡ row_of operation origin
unfolding printed
printed_row Program FromAuxiliary = refl
printed_row Program FromGeneral = refl
printed_row Read FromAuxiliary = refl
printed_row Read FromGeneral = refl

-- a table that is the printed one, which its whole computation tests, answers each look-up as table 23-1 does
pub cell : (table : List (List Bool)) → table ≡ printed → (operation : Operation) (origin : Origin) (target : Target) {row column : ℕ}
    → row ≡ row_number operation origin → column ≡ column_of target → get_or (get_or table row []) column false ≡ allowed operation origin target
unfolding allowed
cell table e operation origin target r k = rw (e, r, k, printed_row operation origin)
