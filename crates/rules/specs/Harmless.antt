-- The decisions that tell nothing of S while S is at high level. Assumes nothing.
use Rattle.std.specs.Prelude.{ℕ, ◌≤◌, ◌<◌, ◌≡◌, Bool, true, false}
use Rattle.fuse.specs.Byte.{level_of, is_high}
use Rattle.flash.specs.Parts.{start_of}
use Rattle.flash.specs.Operations.{row_words}
use Rattle.rules.specs.SecretSegment.{vectors_in}
use Rattle.part.specs.Descriptions.{page_words_of}
use Rattle.part.specs.declared.Description.{Description}
use Rattle.part.specs.declared.FlashArray.{FlashArray}
use Rattle.rules.specs.declared.Change.{Change}
use Rattle.rules.specs.declared.Change.TheVariants.{Row, Page}
use Rattle.rules.specs.declared.Decision.{Decision}
use Rattle.rules.specs.declared.Decision.TheVariants.{
  Refuse,
  Trap,
  Reset,
  PowerUp,
  MoveTo,
  LoadLatch,
  ReadAt,
  ChangeAt,
  EraseWhole,
  StoreFuse,
}

-- how many words are changed in one go
abbrev pub size_of : Description → Change → ℕ
size_of d Row = row_words
size_of d Page = page_words_of d

-- a row or page of S is changed by S's own code, and the vectors are none of it
pub record OwnChange (d : Description) (S : FlashArray) (own : Bool) (change : Change) (n : ℕ) : Type 0 where
  pub code : own ≡ true
  pub past : vectors_in S ≤ start_of (size_of d change) n

-- `own`: S's own code issued the event
abbrev pub harmless : Description → FlashArray → Bool → Decision → Type 0
harmless d S own (Refuse answer) = Unit {0}
harmless d S own Trap = Unit {0}
harmless d S own Reset = Unit {0}
harmless d S own PowerUp = Unit {0}
harmless d S own (MoveTo target) = Unit {0}
harmless d S own (LoadLatch latch word) = Unit {0}
harmless d S own (ReadAt place) = place.array ≡ S → own ≡ false → place.index < vectors_in S
harmless d S own (ChangeAt change place) = place.array ≡ S → OwnChange d S own change place.index
harmless d S own (EraseWhole array) = Unit {0}
harmless d S own (StoreFuse array byte) = array ≡ S → is_high (level_of d.keys byte) ≡ true

-- the same as a record, so that the decision can be read off a goal
pub record Quiet (d : Description) (S : FlashArray) (own : Bool) (decision : Decision) : Type 0 where
  pub holds : harmless d S own decision
