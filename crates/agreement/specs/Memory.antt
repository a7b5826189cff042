-- What is remembered of parts that were compared, so that none is compared twice. It ties the code's words to what they stand for, and need not be believed.
use Rattle.std.specs.Prelude.{◌≡◌, true, List, ℕ, ◌+◌, ◌*◌, ◌-◌, ◌/◌, ◌<◌, slice_index}
use Rattle.numbers.specs.Sections.{str_offsets_code}
use Rattle.octets.specs.Octets.{part as bytes_at}
use Rattle.lookup.specs.Lookup.{looked_up, part}
use Rattle.agreement.specs.Agreement.{string_agrees}

-- two words for each place i of q: one more than the start of p's part that was compared with q's part there, and their size; a first word of 0 says that none was
abbrev pub Memory : (ℕ → ℕ → ℕ → Type 0) → List ℕ → Type 0
Memory holds m = (i : ℕ) → (slice_index m (2 * i) ≡ 0 → ⊥) → holds i (slice_index m (2 * i) - 1) (slice_index m (2 * i + 1))

-- n bytes are the same in q from i on and in p from s on
abbrev pub PartsSame : List ℕ → List ℕ → ℕ → ℕ → ℕ → Type 0
PartsSame p q i s n = bytes_at p s n ≡ bytes_at q i n

-- parts of str_offsets of n bytes, q's at i and p's at s, whatever unit has them: each string agrees
abbrev pub StringsSame : List ℕ → List ℕ → ℕ → ℕ → ℕ → ℕ → Type 0
StringsSame p q v i s n =
    (table x l m k : ℕ) → looked_up p v table x str_offsets_code ≡ part s n l → looked_up q v table x str_offsets_code ≡ part i n m → k < n / 4
    → string_agrees p q v table x k ≡ true
