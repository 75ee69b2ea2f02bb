-- Parts of a lent array: a row and a page are parts, and one definition puts new words in the place of either.
-- Assumes nothing.
use Rattle.std.specs.Prelude.{ℕ, ◌+◌, ◌-◌, ◌%◌, Bool, List, ◌++◌, leb, length, take, drop}

-- an erased word
abbrev pub blank : ℕ
blank = 0xFFFFFF

-- an array of this length has the `count` words from `first` on
abbrev pub fits : ℕ → ℕ → ℕ → Bool
fits length first count = leb (first + count) length

-- the first word of the row or page of `size` words that holds an index: they follow one another from index 0
abbrev pub start_of : ℕ → ℕ → ℕ
start_of size index = index - index % size

-- the `count` words from `first` on
abbrev pub part : List ℕ → ℕ → ℕ → List ℕ
part flash first count = take count (drop first flash)

-- the words `new` in place of those from `first` on; every other number stays as lent, top byte included
unfoldable pub with_part : List ℕ → ℕ → List ℕ → List ℕ
with_part flash first new = take first flash ++ (new ++ drop (first + length new) flash)
