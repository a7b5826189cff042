-- What an object word states (FORMAT 2.4), and 4: the version is 4 or 5, the offset width and the address size are 4 or 8 bytes.
use Rattle.std.specs.Prelude.{Bool, ◌&&◌, ◌||◌, ℕ, ◌/◌, ◌%◌, ◌==◌}
use Rattle.numbers.specs.Tables.{dwarf4, dwarf5}

-- the byte order (true is big-endian), the DWARF version, the offset width and the address size in bytes
pub record Encoding : Type 0 where
  pub big : Bool
  pub version : ℕ
  pub width : ℕ
  pub address : ℕ

unfoldable pub encoding_of : Bool → ℕ → Encoding
encoding_of big word = record { big = big; version = word % 256; width = word / 256 % 256; address = word / 0x1_0000 % 256 }

unfoldable pub encoding_good : Encoding → Bool
encoding_good e = (e.version == dwarf4 || e.version == dwarf5) && (e.width == 4 || e.width == 8) && (e.address == 4 || e.address == 8)
