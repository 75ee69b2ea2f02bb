-- Document 01, "The device" and rule 6: words of 24 bits, the old word AND the latch, and the bits not set.
-- Assumes nothing.
use Rattle.std.specs.Prelude.{ℕ, zero, suc, ◌+◌, ◌-◌, ◌*◌, ◌/◌, ◌%◌, ◌^◌, min}

-- a lent number read as a word: the top byte is ignored
abbrev pub word_of : ℕ → ℕ
word_of lent = lent % 2 ^ 24

-- the AND of two numbers' lowest binary digits: a digit is one where it is one in both
unfoldable pub and_of : ℕ → ℕ → ℕ → ℕ
and_of zero a b = 0
and_of (suc digits) a b = and_of digits (a / 2) (b / 2) * 2 + min (a % 2) (b % 2)

-- how many of the lowest binary digits are one in the latch and zero in the old word
unfoldable pub not_set_of : ℕ → ℕ → ℕ → ℕ
not_set_of zero old latch = 0
not_set_of (suc digits) old latch = min (latch % 2) (1 - old % 2) + not_set_of digits (old / 2) (latch / 2)

-- rule 6: "old word AND latch, word by word (house)"
abbrev pub programmed_word : ℕ → ℕ → ℕ
programmed_word old latch = and_of 24 old latch

-- rule 6: the bits not set
abbrev pub bits_not_set : ℕ → ℕ → ℕ
bits_not_set old latch = not_set_of 24 old latch
