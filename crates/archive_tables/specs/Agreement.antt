-- The statement over each whole table: it is what its rule works out, entry for entry and in its order.
-- These tables are the ones that the source's constants are proved to hold: `numbers::names::section_names`, `index::cells::columns` and
-- `unit::forms::all_forms` alone read the constants, and each promises that the whole array or slice is the table named here. All other code has its entries from them.
use Rattle.std.specs.Prelude.{◌≡◌, List, [], ◌∷◌, map, ℕ, zero, suc}
use Rattle.numbers.specs.Names.{section_names}
use Rattle.numbers.specs.Tables.{index2, index5}
use Rattle.index.specs.Columns.{columns_of}
use Rattle.unit.specs.Forms.{forms}
use Rattle.archive_tables.specs.NameRule.{name_by_rule}
use Rattle.archive_tables.specs.ColumnRule.{columns_by_rule}
use Rattle.archive_tables.specs.FormRule.{forms_by_rule}

-- n numbers from i on
unfoldable pub rising : ℕ → ℕ → List ℕ
rising i zero = []
rising i (suc n) = i ∷ rising (suc i) n

-- by code; no section has code 0
abbrev pub SectionNamesAgree : Type 0
SectionNamesAgree = section_names ≡ [] ∷ map name_by_rule (rising 1 13)

abbrev pub ColumnsAgree : Type 0
ColumnsAgree = (columns_of index2 ≡ columns_by_rule index2) × (columns_of index5 ≡ columns_by_rule index5)

abbrev pub FormsAgree : Type 0
FormsAgree = forms ≡ forms_by_rule
