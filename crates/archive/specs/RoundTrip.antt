-- The file that is written of an accepted bundle's package, where a unit stood in info, reads back as that package (FORMAT 8.3).
-- So whoever holds only the .dwp file holds the package.
use Rattle.std.specs.Prelude.{◌≡◌, ◌⊎◌, Bool, true, false, List, ℕ, ◌≤◌, ◌<◌, length, ◌==◌}
use Rattle.numbers.specs.Sections.{info_code}
use Rattle.numbers.specs.Refusals.{no_unit, file_short}
use Rattle.octets.specs.Lists.{any}
use Rattle.answers.specs.Answers.{refused, short, made}
use Rattle.package.specs.Filing.{Filed}
use Rattle.package.specs.Pack.{packed, made as packedInto, handed_in}
use Rattle.elf.specs.Reader.{elf_read}
use Rattle.elf.specs.Writer.{machine_good, is_machine, elf_written, elf_written_for}
use Rattle.archive.specs.Theorem.{AreBytes}

-- A reader takes the object word from the first unit of info. Without one, as in a version 4 package that has types only, it refuses the file by 33.
unfoldable pub stands_in_info : Filed → Bool
stands_in_info u = u.home == info_code

abbrev pub InfoHoldsAUnit : List ℕ → Type 0
InfoHoldsAUnit b = any stands_in_info (handed_in b) ≡ true

-- the package p, written as a file for a machine, and read again; n is the length of the output lent
pub record ThereAndBack (p : List ℕ) (machine : ℕ) : Type 0 where
  pub file : List ℕ
  pub written : (n : ℕ) → length file ≤ n → elf_written_for p machine n ≡ made file
  pub no_room : (n : ℕ) → n < length file → elf_written_for p machine n ≡ refused file_short
  -- the call for three machines writes the same
  pub for_three : machine_good machine ≡ true → (n : ℕ) → elf_written p machine n ≡ elf_written_for p machine n
  pub read : (n : ℕ) → length p ≤ n → elf_read file n ≡ made p
  pub no_room_to_read : (n : ℕ) → n < length p → elf_read file n ≡ short (length p)

abbrev pub RoundTrip : Type 0
RoundTrip =
    (b : List ℕ) (w o : ℕ) (p : List ℕ) (machine : ℕ) → AreBytes b → packed b w o ≡ packedInto p → InfoHoldsAUnit b → is_machine machine ≡ true
    → ThereAndBack p machine

-- it can't do without its premise: every file of another accepted bundle's package is refused by 33
abbrev pub ElseRefused : Type 0
ElseRefused =
    (b : List ℕ) (w o : ℕ) (p : List ℕ) (machine n m : ℕ) (file : List ℕ) → AreBytes b → packed b w o ≡ packedInto p → any stands_in_info (handed_in b) ≡ false
    → (elf_written p machine n ≡ made file) ⊎ (elf_written_for p machine n ≡ made file) → elf_read file m ≡ refused no_unit
