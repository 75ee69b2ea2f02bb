-- Demand 3, the words of its statement about one event: two devices alike but for the words of the secret segment S, and what an
-- event leaves of them. Assumes nothing.
use Rattle.std.specs.Prelude.{◌≡◌, Bool, true, false, length, take}
use Rattle.part.specs.declared.Description.{Description}
use Rattle.part.specs.declared.FlashArray.{FlashArray}
use Rattle.rules.specs.SecretSegment.{other_array, vectors_in, high_in}
use Rattle.carrying.specs.CarryingOut.{Device, words_in, Left}

-- alike in everything but the words of S: PC, flags and fuse bytes; latches; the other array; the length of S's array, and the
-- vectors in it
pub record Alike (S : FlashArray) (first second : Device) : Type 0 where
  pub registers : first.registers ≡ second.registers
  pub latches : first.latches ≡ second.latches
  pub other : words_in (other_array S) first ≡ words_in (other_array S) second
  pub lengths : length (words_in S first) ≡ length (words_in S second)
  pub vectors : take (vectors_in S) (words_in S first) ≡ take (vectors_in S) (words_in S second)

-- S is still at high security, or nothing is left to tell the two devices apart
pub data Known (d : Description) (S : FlashArray) (first second : Device) : Type 0 where
  still_high : high_in d S first.registers ≡ true → Known d S first second
  all_same : first ≡ second → Known d S first second

-- what demand 3 promises of one event; `own`: S's own code issued it
pub record Agree (d : Description) (S : FlashArray) (own : Bool) (first second : Left) : Type 0 where
  -- the answer's number is the same, whoever issued the event
  pub number : first.number ≡ second.number
  -- so is its value, unless S's own code issued it
  pub value : own ≡ false → first.value ≡ second.value
  -- all but the words of S is the same, and so it goes on
  pub alike : Alike S first.device second.device
  pub known : Known d S first.device second.device
