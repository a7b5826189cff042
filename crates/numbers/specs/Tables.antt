-- The two tables of units, the versions of DWARF and of an index, the columns of an index, and the types of a version 5 unit.
use Rattle.std.specs.Prelude.{ℕ}

abbrev pub compilation_table : ℕ
compilation_table = 1

abbrev pub type_table : ℕ
type_table = 2

abbrev pub dwarf4 : ℕ
dwarf4 = 4

abbrev pub dwarf5 : ℕ
dwarf5 = 5

-- The index of the GNU package format, for objects of version 4, and that of DWARF 5.
abbrev pub index2 : ℕ
index2 = 2

abbrev pub index5 : ℕ
index5 = 5

-- Columns of an index: how many there may be in either form, the greatest code, and the code of types, which version 5 does not have.
abbrev pub columns2 : ℕ
columns2 = 8

abbrev pub columns5 : ℕ
columns5 = 7

abbrev pub last_column : ℕ
last_column = 8

abbrev pub types_column : ℕ
types_column = 2

-- The unit types of version 5 that are packed.
abbrev pub type_unit : ℕ
type_unit = 2

abbrev pub skeleton_unit : ℕ
skeleton_unit = 4

abbrev pub split_unit : ℕ
split_unit = 5

abbrev pub split_type_unit : ℕ
split_type_unit = 6
