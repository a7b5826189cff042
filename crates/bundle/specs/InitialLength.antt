-- DWARF's initial length (DWARF 5, 7.4), which says how many bytes follow it: a number of 4 bytes; or FFFFFFFF, and a number of 8 bytes behind it. Who reads one says what is refused.
use Rattle.std.specs.Prelude.{Bool, true, false, List, ℕ, ◌==◌, if◌then◌else◌}
use Rattle.octets.specs.Octets.{number_at}
use Rattle.bundle.specs.Encoding.{Encoding}

-- FFFFFFFF stands at the front of s
unfoldable pub marked : Bool → List ℕ → Bool
marked big s = number_at big 4 s 0 == 0xFFFF_FFFF

-- the bytes of the field: 4 where offsets have 4 bytes, else 12
unfoldable pub length_field : Encoding → ℕ
length_field e = if e.width == 4 then 4 else 12

-- the number in it
unfoldable pub length_stated : Encoding → List ℕ → ℕ
length_stated e s = if e.width == 4 then number_at e.big 4 s 0 else number_at e.big 8 s 4
