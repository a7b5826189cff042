-- Slots of record numbers, and the definition's slots of row numbers.
use Rattle.std.specs.Prelude.{◌≡◌, true, List, [], ◌∷◌, map, ℕ, ◌+◌, ◌*◌, ◌/◌, ◌<◌, ◌≤◌, length, Result, Ok, Err, slice_index}
use Rattle.octets.specs.Octets.{part, placed}
use Rattle.octets.specs.Lists.{distinct}
use Rattle.numbers.specs.Limits.{bundle_limit, work_for_word}
use Rattle.index.specs.Probing.{Probe, found, absent, first_slot, stride, free_from, search, slots_for, Slots, unused, place_all}
use Rattle.index.specs.Index.{least_power}
use Rattle.index.specs.Held.{PowerOfTwo}
use Rattle.kept.specs.Regions.{Layout, records_region, slots_region, record_words, least_unit, region, Apart}
use Rattle.kept.specs.Records.{KeptUnit, words_of, record_at, of_table, identities_in, identity_for, row_for, UnitsInside}

-- the slots for identities seen, the least power of two above five fourths of the most units that n words hold: a unit takes at least 5 words of the bundle, and a
-- walk gets long where few slots are free. They are not those of an index, which would be twice as many for the longest bundle: they are only looked through here
unfoldable pub seen_slots : ℕ → ℕ
seen_slots n = least_power (5 * (n / least_unit) / 4 + 1)

-- each number in the slots is that of one of n records
pub record Within (slots : List ℕ) (n : ℕ) : Type 0 where
  pub within : (k : ℕ) → slice_index slots k ≤ n

-- ---- the walk
unfoldable pub free_for : List ℕ → ℕ → ℕ
free_for slots x = free_from (length slots) slots (first_slot x (length slots)) (stride x (length slots))

-- where a walk ends: at the number of a record of the identity, or else at a free slot
unfoldable pub sought_as : List ℕ → Probe → ℕ → Result ℕ ℕ
sought_as slots (found at n) free = Ok (slice_index slots at)
sought_as slots (absent n) free = Err free

-- w are the records, and the identity of a slot is that of its record
unfoldable pub sought_in : List ℕ → List ℕ → ℕ → Result ℕ ℕ
sought_in w slots x = sought_as slots (search slots (map (identity_for w) slots) x) (free_for slots x)

-- ---- what slots hold
-- identities placed under the numbers of n records; read off the records, the slots are the definition's
pub record SeenHeld (w slots : List ℕ) (n : ℕ) (xs : List ℕ) : Type 0 where
  pub placed : Slots
  pub made : place_all (unused (length slots)) 1 xs ≡ placed
  pub within : Within slots n
  pub used : (k : ℕ) → row_for w (slice_index slots k) ≡ 0 → slice_index slots k ≡ 0
  pub rows : map (row_for w) slots ≡ placed.rows
  pub identities : map (identity_for w) slots ≡ placed.identities

-- row numbers of a table count from 1
pub record Numbered (w : List ℕ) (n table : ℕ) : Type 0 where
  pub is : (i : ℕ) → i < n → (record_at w i).table ≡ table → (record_at w i).row ≡ length (of_table w i table) + 1

-- ---- slots in work, for a bundle of so many words: the first count of a table's region
unfoldable pub slots_in : List ℕ → ℕ → ℕ → ℕ → List ℕ
slots_in w words table count = part w ((slots_region table).start * words) count

pub record Placeable (words room table n count : ℕ) : Type 0 where
  pub power : PowerOfTwo count
  pub fits : count ≤ words
  pub enough : work_for_word * words ≤ room
  pub limit : 4 * words ≤ bundle_limit
  pub units : record_words * n ≤ records_region.words * words

pub record Seekable (words : ℕ) (w : List ℕ) (table n count : ℕ) : Type 0 where
  pub can : Placeable words (length w) table n count
  pub within : Within (slots_in w words table count) n

-- ---- a record placed, and all of them; w is work before, v behind
pub record SlotsLeft (words table n count : ℕ) (w v : List ℕ) : Type 0 where
  pub same : length v ≡ length w
  pub within : Within (slots_in v words table count) n
  pub others : (s : Layout) → Apart (slots_region table) s → region v words s ≡ region w words s

-- so many identities of a table, all different, fit
pub record Fitting (w : List ℕ) (n table count : ℕ) : Type 0 where
  pub numbered : Numbered w n table
  pub different : distinct (identities_in w n table) ≡ true
  pub few : length (identities_in w n table) < count

pub record Placed (words table i count : ℕ) (w v : List ℕ) : Type 0 where
  pub left : SlotsLeft words table (i + 1) count w v
  pub placed : Fitting (region w words records_region) (i + 1) table count
      → SeenHeld (region w words records_region) (slots_in w words table count) i (identities_in (region w words records_region) i table)
      → SeenHeld (region w words records_region) (slots_in v words table count) (i + 1) (identities_in (region w words records_region) (i + 1) table)

pub record PlacedAll (words table n count : ℕ) (w v : List ℕ) : Type 0 where
  pub left : SlotsLeft words table n count w v
  pub placed : Fitting (region w words records_region) n table count
      → SeenHeld (region w words records_region) (slots_in v words table count) n (identities_in (region w words records_region) n table)

-- ---- a unit kept: its record behind count others, its number in a slot of its table
pub record Keepable (words room count slot : ℕ) : Type 0 where
  pub enough : work_for_word * words ≤ room
  pub limit : 4 * words ≤ bundle_limit
  pub units : record_words * count + record_words ≤ records_region.words * words
  pub inside : slot < words

unfoldable pub kept_in : List ℕ → ℕ → ℕ → ℕ → KeptUnit → List ℕ
kept_in w words count slot k =
    placed (placed w (records_region.start * words + record_words * count) (words_of k)) ((slots_region k.table).start * words + slot) ((count + 1) ∷ [])

-- ---- a unit at a place of the bundle is compared with a kept one, by the number of its record
pub record SameAsked (b w : List ℕ) (number at size : ℕ) : Type 0 where
  pub enough : work_for_word * (length b / 4) ≤ length w
  pub limit : length b ≤ bundle_limit
  pub some : number ≡ 0 → ⊥
  pub stored : record_words * number ≤ records_region.words * (length b / 4)
  pub inside : UnitsInside b (region w (length b / 4) records_region) number
  pub fits : at + size ≤ length b
