-- Document 01, "V830 store": what is known of the event memory, what is put into it and handed out of it. Assumes
-- nothing.
use Rattle.std.specs.Prelude.{ℕ, ◌+◌, ◌-◌, Bool, cond, ◌&&◌, List, Option, Some, None, eqb, ltb, leb, length, get_or}
use Rattle.layout.specs.declared.Words.{Words}
use Rattle.layout.specs.Length.{words}
use Rattle.meb.specs.declared.Handed.{Handed}
use Rattle.meb.specs.declared.Store.{Store}
use Rattle.meb.specs.Ring.{Memory, lent, behind, put_round, words_round}

-- a memory of so many words with none stored
abbrev pub empty_of : ℕ → Store
empty_of capacity = record { capacity = words capacity; first = 0; stored = words 0 }

-- "Emptying sets the words stored and the first place to 0 and writes no word."
abbrev pub emptied : Store → Store
emptied m = empty_of m.capacity.0

-- 12: "capacity (once started) outside 1 to 32,768, first place not below capacity, stored above capacity"
abbrev pub fits : Store → Bool
fits m = leb 1 m.capacity.0 && leb m.capacity.0 32768 && ltb m.first m.capacity.0 && leb m.stored.0 m.capacity.0

-- the words that are free
abbrev pub free : Store → Words
free m = words (m.capacity.0 - m.stored.0)

-- the words stored, the oldest first
abbrev pub stored_words : Store → Memory → List ℕ
stored_words m memory = words_round m.capacity.0 memory.words m.first m.stored.0

-- "A read hands out the oldest word and removes it."
abbrev pub shorter : Store → Store
shorter m = record { capacity = m.capacity; first = behind m.capacity.0 m.first; stored = words (m.stored.0 - 1) }

-- the word, with what is known of the memory without it
abbrev pub handed : ℕ → Store → Option Handed
handed word m = Some (record { word = word; store = m })

abbrev pub handed_of : Store → Memory → Option Handed
handed_of m memory = cond (eqb m.stored.0 0) None (handed (get_or memory.words m.first 0) (shorter m))

-- an event's words more
abbrev pub longer : ℕ → Store → Store
longer event m = record { capacity = m.capacity; first = m.first; stored = words (m.stored.0 + event) }

-- what a store and its memory are after an event
pub record Filled : Type 0 where
  pub store : Store
  pub memory : Memory

-- "stores the event at once": behind the words stored, if so many are free; else nothing of it
abbrev pub put_of : Store → Memory → List ℕ → Filled
put_of m memory ws =
    cond (leb (length ws) (free m).0)
    (record { store = longer (length ws) m; memory = lent (put_round (length memory.words) memory.words (m.first + m.stored.0) ws) })
    (record { store = m; memory = memory })
