-- Which units are for the type table: those that stand in types, and in version 5 those of unit type 2 or 6 (FORMAT 3.4 to 3.6). All others are for the compilation table.
use Rattle.std.specs.Prelude.{◌≡◌, ◌⊎◌, List, ℕ, ◌+◌, slice_index}
use Rattle.numbers.specs.Sections.{types_code}
use Rattle.numbers.specs.Tables.{dwarf5, type_unit, split_type_unit}
use Rattle.bundle.specs.Encoding.{Encoding}
use Rattle.bundle.specs.InitialLength.{length_field}

-- the unit type of version 5: it stands behind the length and 2 bytes of version
unfoldable pub unit_type : Encoding → List ℕ → ℕ
unit_type e u = slice_index u (length_field e + 2)

-- home is the section's code; u is the unit's own bytes
abbrev pub IsTypeUnit : Encoding → ℕ → List ℕ → Type 0
IsTypeUnit e home u = (home ≡ types_code) ⊎ ((e.version ≡ dwarf5) × ((unit_type e u ≡ type_unit) ⊎ (unit_type e u ≡ split_type_unit)))
