-- A package that is being written: what stands in the output, and what is left.
use Rattle.std.specs.Prelude.{◌≡◌, Bool, List, ◌++◌, map, ℕ, ◌+◌, ◌-◌, ◌≤◌, length}
use Rattle.numbers.specs.Sections.{section_codes}
use Rattle.octets.specs.Octets.{padded}
use Rattle.octets.specs.Lists.{joined, those}
use Rattle.bundle.specs.Written.{word_bytes, head_bytes, section_bytes}
use Rattle.finish.specs.Sections.{sections_from, not_empty}

-- the bytes of sections from a code on
unfoldable pub sections_left : (ℕ → List ℕ) → ℕ → List ℕ
sections_left bytes c = joined (map section_bytes (those not_empty (sections_from bytes c (section_codes - c))))

-- what stands before the end word
unfoldable pub front_of : Bool → ℕ → (ℕ → List ℕ) → List ℕ
front_of big word bytes = head_bytes big ++ word_bytes word ++ sections_left bytes 1

-- p is written, the sections from code c on are still to be written
pub record Writing (front : List ℕ) (bytes : ℕ → List ℕ) (d : List ℕ) (at c : ℕ) : Type 0 where
  pub p : List ℕ
  pub is : d ≡ padded p (length d - length p)
  pub place : at ≡ length p
  pub left : p ++ sections_left bytes c ≡ front
  pub room : length front + 4 ≤ length d
