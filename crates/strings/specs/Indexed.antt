-- The index beside the list of kept strings: trees of rows. A hash of a string picks the root where the search for it starts; from each row that is another string's
-- one of two links leads on, and the string's own bits say which. So strings of one hash part by their bits.
-- A region of 7 n words holds n rows of three words; behind them two links for each row; a place for each of n entries; and n roots. Roots and links hold the number of a
-- row, counted from 1; 0 leads nowhere.
use Rattle.std.specs.Prelude.{◌≡◌, true, false, List, [], ◌∷◌, ℕ, zero, suc, ◌+◌, ◌*◌, ◌-◌, ◌/◌, ◌%◌, ◌^◌, ◌<◌, ◌≤◌, length, drop, Result, Ok, Err, nat_lt, slice_index, slice_index_or, if◌then◌else◌}
use Rattle.numbers.specs.Limits.{string_words}
use Rattle.octets.specs.Octets.{number_at}
use Rattle.octets.specs.Lists.{any, same}

-- ---- a hash of all bytes
-- Eight bytes more, as one number: both halves are multiplied, and the halves of the sum are added, within 32 bits.
unfoldable pub product : ℕ → ℕ → ℕ
product h w = (h + w % 2 ^ 32) * 798746317 + w / 2 ^ 32 * 982451653

unfoldable pub mixed : ℕ → ℕ → ℕ
mixed h w = (product h w / 2 ^ 32 + product h w) % 2 ^ 32

-- so many groups of eight bytes
unfoldable pub groups_from : ℕ → ℕ → List ℕ → ℕ
groups_from zero h s = h
groups_from (suc k) h s = groups_from k (mixed h (number_at false 8 s 0)) (drop 8 s)

-- the last eight bytes count whole, also where some of them stand in the group before
unfoldable pub hash_of : List ℕ → ℕ
hash_of s =
    if nat_lt (length s) 8
    then mixed 0 (number_at false (length s) s 0)
    else mixed (groups_from ((length s - 1) / 8) 0 s) (number_at false 8 s (length s - 8))

-- ---- roots and links
-- how many rows a region has room for
unfoldable pub room_of : List ℕ → ℕ
room_of region = length region / string_words

-- where the search for a string starts
unfoldable pub root_of : ℕ → List ℕ → ℕ
root_of room s = 6 * room + hash_of s * room / 2 ^ 32

-- the side on which the search goes on after so many steps: the bits of the string, byte by byte, and 0 behind them
unfoldable pub side : List ℕ → ℕ → ℕ
side s step = slice_index s (step / 8) / 2 ^ (step % 8) % 2

-- the link of the row with a number, on a side
unfoldable pub link_of : ℕ → ℕ → ℕ → ℕ
link_of room number on = 3 * room + 2 * (number - 1) + on

-- where the search for a string is after so many steps
unfoldable pub comes_to : ℕ → List ℕ → List ℕ → ℕ → ℕ
comes_to room region s zero = root_of room s
comes_to room region s (suc k) = link_of room (slice_index region (comes_to room region s k)) (side s k)

-- it comes to a word in so many steps: each word before leads on
pub record Walk (room : ℕ) (region s : List ℕ) (steps at : ℕ) : Type 0 where
  pub is : comes_to room region s steps ≡ at
  pub used : (k : ℕ) → k < steps → slice_index region (comes_to room region s k) ≡ 0 → ⊥

-- and finds a number there
pub record Reached (room : ℕ) (region s : List ℕ) (number : ℕ) : Type 0 where
  pub steps : ℕ
  pub at : ℕ
  pub walk : Walk room region s steps at
  pub holds : slice_index region at ≡ number

-- each kept string is found through the index, and nothing else is; links lead to later rows, so that every search ends
pub record Indexed (room : ℕ) (region : List ℕ) (n : ℕ) (table : List (List ℕ)) : Type 0 where
  pub reached : (i : ℕ) → i < n → Reached room region (slice_index_or table i []) (i + 1)
  pub roots : (j : ℕ) → 6 * room ≤ j → slice_index region j ≤ n
  pub among : (i on : ℕ) → i < n → on < 2 → slice_index region (3 * room + 2 * i + on) ≤ n
  pub later : (i on : ℕ) → i < n → on < 2 → (slice_index region (3 * room + 2 * i + on) ≡ 0 → ⊥) → i + 1 < slice_index region (3 * room + 2 * i + on)

-- no string stands there twice
unfoldable pub Distinct : List (List ℕ) → Type 0
Distinct [] = Unit {0}
Distinct (s ∷ ss) = (any (same s) ss ≡ false) × Distinct ss

-- the search for s came to a word that leads nowhere
pub record EndsFree (region : List ℕ) (table : List (List ℕ)) (s : List ℕ) (at : ℕ) : Type 0 where
  pub new : any (same s) table ≡ false
  pub steps : ℕ
  pub walk : Walk (room_of region) region s steps at
  pub zero : slice_index region at ≡ 0

-- where a search ends: at the row of the string, or at the free word where its number would stand
abbrev pub SoughtIs : List ℕ → ℕ → List (List ℕ) → List ℕ → Result ℕ ℕ → Type 0
SoughtIs region n table s (Ok i) = (i < n) × (slice_index_or table i [] ≡ s)
SoughtIs region n table s (Err at) = EndsFree region table s at
