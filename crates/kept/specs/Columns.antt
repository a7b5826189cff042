-- The columns of a version, those that are there, and a unit's cells by column.
use Rattle.std.specs.Prelude.{◌≡◌, Option, Bool, true, false, ◌||◌, List, [], ◌∷◌, map, ℕ, zero, suc, ◌+◌, ◌*◌, ◌^◌, ◌<◌, length, slice_index, slice_index_or, if◌then◌else◌}
use Rattle.std.specs.List.{slice_get}
use Rattle.std.specs.Option.{option_and_then, is_some as there}
use Rattle.octets.specs.Lists.{any}
use Rattle.numbers.specs.Tables.{dwarf4, dwarf5}
use Rattle.index.specs.Columns.{Column, columns_of}
use Rattle.index.specs.Rows.{is_some}
use Rattle.index.specs.Written.{Row}
use Rattle.index.specs.Contributed.{Cell, cell_held, stated}
use Rattle.index.specs.declared.judging.Contributions.{Contributions}

-- the DWARF version that a flag names
unfoldable pub version_for : Bool → ℕ
version_for true = dwarf5
version_for false = dwarf4

unfoldable pub columns_for : Bool → List Column
columns_for five = columns_of (version_for five)

-- column k's section, where there is one
unfoldable pub section_of : Bool → ℕ → Option ℕ
section_of five k = slice_get (map (λ c. c.section) (columns_for five)) k

-- what a unit has of it
unfoldable pub column_cell : Bool → Contributions → ℕ → Cell
column_cell five cells k = option_and_then (cell_held cells) (section_of five k)

-- column k's section and code, 0 where there is no column k
unfoldable pub section_at : Bool → ℕ → ℕ
section_at five k = slice_index (map (λ c. c.section) (columns_for five)) k

unfoldable pub code_at : Bool → ℕ → ℕ
code_at five k = slice_index (map (λ c. c.column) (columns_for five)) k

-- cells that words can hold
pub record CellsFit (cells : Contributions) : Type 0 where
  pub offset : (c : ℕ) → (stated (cell_held cells c)).offset < 2 ^ 32
  pub size : (c : ℕ) → (stated (cell_held cells c)).size < 2 ^ 32

-- ---- the columns that are there
-- a number where its column is there
unfoldable pub numbers_if : Bool → ℕ → List ℕ
numbers_if true n = n ∷ []
numbers_if false n = []

unfoldable pub codes_from : Bool → List Bool → ℕ → ℕ → List ℕ
codes_from five has k zero = []
codes_from five has k (suc n) = if slice_index_or has k false
    then code_at five k ∷ codes_from five has (k + 1) n
    else codes_from five has (k + 1) n

unfoldable pub codes_in : Bool → List Bool → List ℕ
codes_in five has = codes_from five has 0 (length (columns_for five))

-- numbers of these columns, two words apart from a place on
unfoldable pub cells_from : List Bool → List ℕ → ℕ → ℕ → ℕ → List ℕ
cells_from has w at k zero = []
cells_from has w at k (suc n) = if slice_index_or has k false
    then slice_index w (at + 2 * k) ∷ cells_from has w at (k + 1) n
    else cells_from has w at (k + 1) n

-- which columns are there
pub record ColumnsHeld (five : Bool) (has : List Bool) (rs : List Row) : Type 0 where
  pub there : (k : ℕ) → k < length (columns_for five) → slice_index_or has k false ≡ any (λ r. is_some (r.cells (section_at five k))) rs

-- the first m columns marked, where they were or where a row has them
pub record Marked (five : Bool) (has more : List Bool) (cells : Contributions) (m : ℕ) : Type 0 where
  pub column : (k : ℕ) → k < m → slice_index_or more k false ≡ (slice_index_or has k false || there (column_cell five cells k))
