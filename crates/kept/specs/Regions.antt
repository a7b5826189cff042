-- The regions of work, in words for each word of the bundle: records of kept units 5, slots of each table 1, strings 7 (their rows 3, their
-- links 2, a place for each entry 1, the roots of their index 1), the codes of an object's abbreviation tables 4, an object's rows by place 2: 20 in all.
-- What is remembered of an object's str by a string's start stands
-- where the codes do, a word for each byte: codes count while units are filed, memory while strings are put or written. So that both can be lent as one
-- store, the codes stand behind the strings.
-- The table of the strings has the front of its region, as many words as its room asks for: a bundle has far fewer entries than words, so that all it uses stands
-- close together.
use Rattle.std.specs.Prelude.{◌≡◌, true, false, ◌⊎◌, List, ℕ, ◌+◌, ◌*◌, ◌≤◌, length, take, ◌==◌, if◌then◌else◌}
use Rattle.numbers.specs.Limits.{string_words}
use Rattle.octets.specs.Octets.{part}
use Rattle.numbers.specs.Tables.{compilation_table}
use Rattle.kept.specs.declared.regions.Share.{Share}

-- where a region starts, and how many words it has
abbrev pub Layout : Type 0
Layout = Share

abbrev pub records_region : Layout
records_region = record { start = 0; words = 5 }

abbrev pub compilation_slots : Layout
compilation_slots = record { start = 5; words = 1 }

abbrev pub type_slots : Layout
type_slots = record { start = 6; words = 1 }

unfoldable pub slots_region : ℕ → Layout
slots_region table = if table == compilation_table then compilation_slots else type_slots

abbrev pub strings_region : Layout
strings_region = record { start = 7; words = string_words }

abbrev pub codes_region : Layout
codes_region = record { start = 14; words = 4 }

-- the strings, and the memory behind them
abbrev pub store_region : Layout
store_region = record { start = 7; words = 11 }

abbrev pub rows_region : Layout
rows_region = record { start = 18; words = 2 }

-- a record's words, and the least words of the bundle that a unit takes
abbrev pub record_words : ℕ
record_words = 23

abbrev pub least_unit : ℕ
least_unit = 5

-- the words of a region, in work for a bundle of n words
unfoldable pub region : List ℕ → ℕ → Layout → List ℕ
region w n r = part w (r.start * n) (r.words * n)

-- the words of a table of the strings with so much room, which is no more than the bundle has words: the front of their region
unfoldable pub table_words : List ℕ → ℕ → ℕ → List ℕ
table_words w n room = take (string_words * room) (region w n strings_region)

-- a region lies before or behind another
unfoldable pub Apart : Layout → Layout → Type 0
Apart r s = (r.start + r.words ≤ s.start) ⊎ (s.start + s.words ≤ r.start)

-- nothing but one region has changed
pub record Only (r : Layout) (n : ℕ) (w v : List ℕ) : Type 0 where
  pub same : length v ≡ length w
  pub others : (s : Layout) → Apart r s → region v n s ≡ region w n s
