-- Probing and placing, and the number of slots (FORMAT 5.4 and 5.5).
use Rattle.std.specs.Prelude.{true, false, List, [], ◌∷◌, ℕ, zero, suc, ◌+◌, ◌*◌, ◌-◌, ◌/◌, ◌%◌, ◌^◌, length, set, ◌==◌, nat_lt, slice_index, if◌then◌else◌}
use Rattle.std.specs.Int.Bits.{bit_and, bit_or}
use Rattle.octets.specs.Octets.{zeros}
use Rattle.index.specs.Index.{Index, least_power}

-- where the sequence of an identity starts: at its lowest bits, as many as a slot's number has
unfoldable pub first_slot : ℕ → ℕ → ℕ
first_slot x slots = bit_and x (slots - 1)

-- the step of the sequence: as many bits from bit 32 on, made odd
unfoldable pub stride : ℕ → ℕ → ℕ
stride x slots = bit_or (bit_and (x / 2 ^ 32) (slots - 1)) 1

-- where a search ends: at the identity's slot or as absent, with its looks (FORMAT 1.3), the number of slots looked at
pub data Probe : Type 0 where
  found : ℕ → ℕ → Probe
  absent : ℕ → Probe

-- an unused slot ends the search, whatever identity stands in it: its row number is looked at first. So does the last look, of which there are as many as slots.
-- k looks are left, n are done
unfoldable pub look : ℕ → List ℕ → List ℕ → ℕ → ℕ → ℕ → ℕ → Probe
look zero rows identities x at by n = absent n
look (suc k) rows identities x at by n =
    if slice_index rows at == 0
    then absent (n + 1)
    else if slice_index identities at == x
    then found at (n + 1)
    else look k rows identities x ((at + by) % length rows) by (n + 1)

unfoldable pub search : List ℕ → List ℕ → ℕ → Probe
search rows identities x =
    let slots = length rows in
    look slots rows identities x (first_slot x slots) (stride x slots) 0

unfoldable pub probe : Index → ℕ → Probe
probe i x = search i.rows i.identities x

-- the least power of two S with 2 S > 3 n, and 2 at least. 2 S exceeds 3 n where S exceeds 3 n / 2 rounded down
unfoldable pub slots_for : ℕ → ℕ
slots_for n = if nat_lt n 2 then 2 else least_power (3 * n / 2 + 1)

pub record Slots : Type 0 where
  pub identities : List ℕ
  pub rows : List ℕ

-- the first free slot, within so many steps. Slots exceed units and an odd step visits them all, so that there is one (`always_free` of `proofs/Placing.antt`)
unfoldable pub free_from : ℕ → List ℕ → ℕ → ℕ → ℕ
free_from zero rows at by = at
free_from (suc k) rows at by = if slice_index rows at == 0
    then at
    else free_from k rows ((at + by) % length rows) by

-- an identity takes the first free slot of its sequence
unfoldable pub place : Slots → ℕ → ℕ → Slots
place t row x =
    let slots = length t.rows in
    let at = free_from slots t.rows (first_slot x slots) (stride x slots) in
    record { identities = set t.identities at x; rows = set t.rows at row }

-- identities one after the other, under row numbers that count on
unfoldable pub place_all : Slots → ℕ → List ℕ → Slots
place_all t row [] = t
place_all t row (x ∷ xs) = place_all (place t row x) (row + 1) xs

unfoldable pub unused : ℕ → Slots
unused n = record { identities = zeros n; rows = zeros n }

-- row numbers count from 1
unfoldable pub slots_of : List ℕ → Slots
slots_of xs = place_all (unused (slots_for (length xs))) 1 xs
