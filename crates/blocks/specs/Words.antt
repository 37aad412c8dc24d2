-- The captured words; docs/FORMATS.md: "the captured words, four bytes each, low byte first". Assumes nothing.
use Rattle.std.specs.Prelude.{ℕ, zero, suc, ◌+◌, ◌*◌, ◌/◌, cond, List, [], ◌∷◌, ◌++◌, length, nat_lt, slice_index}
use Rattle.layout.specs.declared.Event.{Event}
use Rattle.layout.specs.declared.Reply.{Reply}

-- the word of four bytes
abbrev pub word_of : ℕ → ℕ → ℕ → ℕ → ℕ
word_of b₀ b₁ b₂ b₃ = b₀ + 256 * b₁ + 65536 * b₂ + 16777216 * b₃

-- n words from the place `at` on
unfoldable pub words_from : ℕ → List ℕ → ℕ → List ℕ
words_from zero bytes at = []
words_from (suc n) bytes at =
    word_of (slice_index bytes at) (slice_index bytes (at + 1)) (slice_index bytes (at + 2)) (slice_index bytes (at + 3)) ∷ words_from n bytes (at + 4)

-- how many words the block reader is lent: the whole ones, and 33 at most, which an event does not exceed
abbrev pub whole_words : ℕ → ℕ
whole_words bytes = cond (nat_lt bytes 132) (bytes / 4) 33

-- those words
unfoldable pub words_in : List ℕ → List ℕ
words_in bytes = words_from (whole_words (length bytes)) bytes 0

-- "the word at which it begins ..; what the block reader answers ..; the event's length in words; its GEO, source and
-- trigger number"
abbrev pub first_of : ℕ → Reply → Event → List ℕ
first_of place reply event = place ∷ reply.number ∷ reply.value ∷ event.geo ∷ event.source ∷ event.trigger ∷ []

-- a line's numbers: those, and "its 32 counts"
abbrev pub numbers_of : ℕ → Reply → Event → List ℕ
numbers_of place reply event = first_of place reply event ++ event.counts
