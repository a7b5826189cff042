-- The sections of a package by code, 1 to 13, and the length of the package by their sizes.
use Rattle.std.specs.Prelude.{◌≡◌, Bool, true, false, List, [], ◌∷◌, ℕ, zero, suc, ◌+◌, ◌<◌, ◌≤◌, length, ◌==◌, nat_le, slice_index, if◌then◌else◌}
use Rattle.numbers.specs.Limits.{section_limit}
use Rattle.numbers.specs.Sections.{section_codes}
use Rattle.octets.specs.Lists.{all, those}
use Rattle.bundle.specs.Bundle.{filled_up}
use Rattle.bundle.specs.Written.{Section}

-- n sections from a code on
unfoldable pub sections_from : (ℕ → List ℕ) → ℕ → ℕ → List Section
sections_from bytes c zero = []
sections_from bytes c (suc n) = record { code = c; bytes = bytes c } ∷ sections_from bytes (c + 1) n

unfoldable pub not_empty : Section → Bool
not_empty s = nat_le 1 (length s.bytes)

-- those of all codes that aren't empty, rising
unfoldable pub sections_by : (ℕ → List ℕ) → List Section
sections_by bytes = those not_empty (sections_from bytes 1 13)

-- 19, by the sizes
unfoldable pub sizes_good : List ℕ → Bool
sizes_good sizes = all (λ n. nat_le n section_limit) sizes

-- a section with its word, filled up to whole words
unfoldable pub framed_size : ℕ → ℕ
framed_size n = if n == 0 then 0 else 4 + filled_up n

unfoldable pub framed_from : List ℕ → ℕ → ℕ → ℕ
framed_from sizes c zero = 0
framed_from sizes c (suc n) = framed_size (slice_index sizes c) + framed_from sizes (c + 1) n

-- head, object word, sections, end
unfoldable pub length_of : List ℕ → ℕ
length_of sizes = 12 + framed_from sizes 1 13

-- sizes are those of the sections
pub record Sized (sizes : List ℕ) (bytes : ℕ → List ℕ) : Type 0 where
  pub fourteen : length sizes ≡ section_codes
  pub zeroth : slice_index sizes 0 ≡ 0
  pub are : (c : ℕ) → 1 ≤ c → c < section_codes → slice_index sizes c ≡ length (bytes c)
