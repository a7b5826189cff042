-- One record for each kept unit, in words one behind the other.
use Rattle.std.specs.Prelude.{Bool, true, false, List, [], ◌∷◌, map, ℕ, zero, suc, ◌+◌, ◌*◌, ◌-◌, ◌/◌, ◌%◌, ◌^◌, ◌<◌, ◌≤◌, length, ◌==◌, slice_index, if◌then◌else◌}
use Rattle.numbers.specs.Tables.{columns2}
use Rattle.octets.specs.Octets.{part}
use Rattle.octets.specs.Lists.{joined, those}
use Rattle.index.specs.Contributed.{stated}
use Rattle.index.specs.declared.judging.Contributions.{Contributions}
use Rattle.kept.specs.Regions.{record_words}
use Rattle.kept.specs.Columns.{column_cell}
use Rattle.kept.specs.declared.records.Unit.{Unit as UnitHead}

-- a record, as words state it: its cells are offset and size for each of 8 columns
pub record KeptUnit : Type 0 where
  pub table : ℕ
  pub row : ℕ
  pub identity : ℕ
  pub home : ℕ
  pub start : ℕ
  pub size : ℕ
  pub cells : List ℕ

-- where the cells stand in a record, and how many words they have
abbrev pub cells_place : ℕ
cells_place = 7

abbrev pub cell_words : ℕ
cell_words = 16

-- ---- as it is stored
unfoldable pub words_of : KeptUnit → List ℕ
words_of k = k.table ∷ k.row ∷ (k.identity % 2 ^ 32) ∷ (k.identity / 2 ^ 32) ∷ k.home ∷ k.start ∷ k.size ∷ k.cells

-- the cells of so many columns from column k on, 0 and 0 where a unit has nothing of a section, or there is no such column
unfoldable pub cells_left : Bool → Contributions → ℕ → ℕ → List ℕ
cells_left five cells k zero = []
cells_left five cells k (suc m) = (stated (column_cell five cells k)).offset ∷ (stated (column_cell five cells k)).size ∷ cells_left five cells (k + 1) m

unfoldable pub cells_of : Bool → Contributions → List ℕ
cells_of five cells = cells_left five cells 0 columns2

unfoldable pub unit_of : UnitHead → Bool → Contributions → KeptUnit
unit_of u five cells =
    record { table = u.table; row = u.row; identity = u.identity; home = u.home; start = u.start; size = u.size; cells = cells_of five cells }

-- all its numbers fit words
pub record UnitFits (u : UnitHead) : Type 0 where
  pub table : u.table < 2 ^ 32
  pub row : u.row < 2 ^ 32
  pub identity : u.identity < 2 ^ 64
  pub home : u.home < 2 ^ 32
  pub start : u.start < 2 ^ 32
  pub size : u.size < 2 ^ 32

-- ---- as it is read
unfoldable pub record_at : List ℕ → ℕ → KeptUnit
record_at w i =
    record {
      table = slice_index w (record_words * i);
      row = slice_index w (record_words * i + 1);
      identity = slice_index w (record_words * i + 2) + 2 ^ 32 * slice_index w (record_words * i + 3);
      home = slice_index w (record_words * i + 4);
      start = slice_index w (record_words * i + 5);
      size = slice_index w (record_words * i + 6);
      cells = part w (record_words * i + cells_place) cell_words;
    }

-- n records from record i on
unfoldable pub records_from : List ℕ → ℕ → ℕ → List KeptUnit
records_from w i zero = []
records_from w i (suc n) = record_at w i ∷ records_from w (i + 1) n

-- ---- the one list, filtered
unfoldable pub in_table : ℕ → KeptUnit → Bool
in_table t k = k.table == t

unfoldable pub in_home : ℕ → KeptUnit → Bool
in_home h k = k.home == h

-- the records of a table among n, and their identities
unfoldable pub of_table : List ℕ → ℕ → ℕ → List KeptUnit
of_table w n t = those (in_table t) (records_from w 0 n)

unfoldable pub identities_in : List ℕ → ℕ → ℕ → List ℕ
identities_in w n t = map (λ k. k.identity) (of_table w n t)

-- the bytes of the units of info, or of types
unfoldable pub bytes_of : List ℕ → KeptUnit → List ℕ
bytes_of b k = part b k.start k.size

unfoldable pub bytes_from : List ℕ → List ℕ → ℕ → ℕ → ℕ → List ℕ
bytes_from b w home i n = joined (map (bytes_of b) (those (in_home home) (records_from w i n)))

-- the bytes of n records lie in the bundle
pub record UnitsInside (b w : List ℕ) (n : ℕ) : Type 0 where
  pub is : (i : ℕ) → i < n → (record_at w i).start + (record_at w i).size ≤ length b

-- ---- by number: records count from 1, and 0 names none
unfoldable pub identity_for : List ℕ → ℕ → ℕ
identity_for w number = if number == 0 then 0 else (record_at w (number - 1)).identity

unfoldable pub row_for : List ℕ → ℕ → ℕ
row_for w number = if number == 0 then 0 else (record_at w (number - 1)).row
