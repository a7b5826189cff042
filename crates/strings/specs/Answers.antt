-- The string at an offset as the code answers it: its place, or none.
use Rattle.std.specs.Prelude.{List, ℕ, length, Option, Some, None}
use Rattle.octets.specs.Checked.{Check, pass, refuse}
use Rattle.strings.specs.declared.table.Place.{Place}

-- a string's place, or the number that the caller refuses by: 9, in a lookup 26
abbrev pub place_check : ℕ → Option Place → Check Place
place_check n (Some p) = pass p
place_check n None = refuse n

-- the place of a string that starts somewhere
abbrev pub string_place : ℕ → List ℕ → Place
string_place at s = record { start = at; size = length s }
