-- The columns of an index. Version 2 has one for each of the first eight sections, in order, and a column has its section's code.
-- Version 5 keeps that order and those codes, but for what is said here.
use Rattle.std.specs.Prelude.{true, false, ◌||◌, List, [], ◌∷◌, ◌++◌, map, ℕ, ◌==◌, if◌then◌else◌}
use Rattle.numbers.specs.Sections.{info_code, types_code, abbrev_code, line_code, loc_code, str_offsets_code, macinfo_code, macro_code, loclists_code, rnglists_code}
use Rattle.numbers.specs.Tables.{index5}
use Rattle.index.specs.Columns.{Column}

unfoldable pub sections_two : List ℕ
sections_two = info_code ∷ types_code ∷ abbrev_code ∷ line_code ∷ loc_code ∷ str_offsets_code ∷ macinfo_code ∷ macro_code ∷ []

-- what version 5 has in the place of a section: types and macinfo are gone, loclists and rnglists stand where loc stood
unfoldable pub in_its_place : ℕ → List ℕ
in_its_place s =
    if s == types_code || s == macinfo_code
    then []
    else if s == loc_code then loclists_code ∷ rnglists_code ∷ [] else s ∷ []

-- loclists has loc's column, macro that of macinfo, and rnglists that which macro had
unfoldable pub column_five : ℕ → ℕ
column_five s =
    if s == loclists_code
    then loc_code
    else if s == macro_code
    then macinfo_code
    else if s == rnglists_code then macro_code else s

unfoldable pub column_by_rule : ℕ → ℕ → ℕ
column_by_rule version s = if version == index5 then column_five s else s

unfoldable pub five_from : List ℕ → List ℕ
five_from [] = []
five_from (s ∷ ss) = in_its_place s ++ five_from ss

unfoldable pub sections_by_rule : ℕ → List ℕ
sections_by_rule version = if version == index5 then five_from sections_two else sections_two

unfoldable pub columns_by_rule : ℕ → List Column
columns_by_rule version = map (λ s. record { section = s; column = column_by_rule version s }) (sections_by_rule version)
