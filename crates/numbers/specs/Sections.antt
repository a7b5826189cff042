-- Section codes (FORMAT 2.2).
use Rattle.std.specs.Prelude.{ℕ}

abbrev pub info_code : ℕ
info_code = 1

abbrev pub types_code : ℕ
types_code = 2

abbrev pub abbrev_code : ℕ
abbrev_code = 3

abbrev pub line_code : ℕ
line_code = 4

abbrev pub loc_code : ℕ
loc_code = 5

abbrev pub str_offsets_code : ℕ
str_offsets_code = 6

abbrev pub macinfo_code : ℕ
macinfo_code = 7

abbrev pub macro_code : ℕ
macro_code = 8

abbrev pub loclists_code : ℕ
loclists_code = 9

abbrev pub rnglists_code : ℕ
rnglists_code = 10

abbrev pub str_code : ℕ
str_code = 11

abbrev pub cu_index_code : ℕ
cu_index_code = 12

abbrev pub tu_index_code : ℕ
tu_index_code = 13

-- One more than the greatest code: the length of an array that is indexed by codes.
abbrev pub section_codes : ℕ
section_codes = 14

-- The shared sections, of which a unit has a part, are the codes from abbrev to rnglists.
abbrev pub first_shared : ℕ
first_shared = 3

abbrev pub last_shared : ℕ
last_shared = 10
