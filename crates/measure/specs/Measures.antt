-- Document 01, "The device": a program address counts two for every instruction location.
-- Assumes nothing.
use Rattle.std.specs.Prelude.{ℕ, ◌*◌, ◌/◌, ◌%◌, ◌^◌, Bool, eqb, ltb, if◌then◌else◌, Option, Some, None}
use Rattle.measure.specs.declared.ProgramAddress.{ProgramAddress}
use Rattle.measure.specs.declared.InstructionLocation.{InstructionLocation}

-- an address at which a location starts is even
abbrev pub even : ℕ → Bool
even n = eqb (n % 2) 0

-- the program address that is the number n
abbrev pub address : ℕ → ProgramAddress
address n = record { 0 = n }

-- the instruction location that is the number n
abbrev pub location : ℕ → InstructionLocation
location n = record { 0 = n }

-- the location that holds an address
abbrev pub location_of : ProgramAddress → InstructionLocation
location_of a = location (a.0 / 2)

-- the address at which a location starts, where 32 bits hold it
unfoldable pub address_of : InstructionLocation → Option ProgramAddress
address_of l = if ltb (2 * l.0) (2 ^ 32) then Some (address (2 * l.0)) else None
