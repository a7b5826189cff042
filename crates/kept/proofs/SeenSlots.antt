-- How many slots of identities seen there are: a power of two, no more than words, and so many that units take fewer than four of five.
use mathlib.Core.Path.{◌≡◌}
use Prim.Native.Nat.{ℕ, ◌+◌, ◌*◌, ◌/◌, ◌^◌, ◌<◌, ◌≤◌}
use native.Mathlib.Omega.{arith}
use native.Mathlib.Decide.{dec_lt}
use Rattle.index.specs.Held.{PowerOfTwo}
use Rattle.index.proofs.Masks.{least_power_law}
use Rattle.index.proofs.Slots.{least_power_ge, least_power_le, least_power_kept}
use Rattle.kept.specs.Slots.{seen_slots}

pub seen_power : (n : ℕ) → PowerOfTwo (seen_slots n)
unfolding seen_slots
seen_power n = least_power_law (5 * (n / 5) / 4 + 1)

pub seen_le : (n : ℕ) → 2 ≤ n → seen_slots n ≤ n
unfolding seen_slots
seen_le n h =
    elim (dec_lt n 5) [
      | yes g ↦ let none : 5 * (n / 5) / 4 + 1 ≡ 2 ^ 0 = omega arith in rw none (omega (arith, least_power_kept 0 (omega arith)))
      | no g ↦ omega (arith, least_power_le (5 * (n / 5) / 4 + 1) (omega arith))
    ]

-- all the units that n words can hold take fewer than four of five
pub seen_load : (n : ℕ) → n ≤ 1_048_576 → 5 * (n / 5) < 4 * seen_slots n
unfolding seen_slots
seen_load n l = omega (arith, least_power_ge (5 * (n / 5) / 4 + 1) (omega arith))

-- so a slot is free for one more
pub seen_gt : (n k : ℕ) → n ≤ 1_048_576 → 5 * k + 5 ≤ n → k < seen_slots n
seen_gt n k l h = omega (arith, seen_load n l)
