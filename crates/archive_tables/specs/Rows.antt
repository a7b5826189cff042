-- What the program prints by, of the rules. Nothing here need be believed.
use Rattle.std.specs.Prelude.{true, false, List, [], ◌∷◌, ℕ, ◌==◌, if◌then◌else◌}
use Rattle.numbers.specs.Tables.{index5}
use Rattle.archive_tables.specs.ColumnRule.{in_its_place}

-- the sections that a version has in the place of one of version 2
unfoldable pub standing : ℕ → ℕ → List ℕ
standing version s = if version == index5 then in_its_place s else s ∷ []
