-- Words that are zero, for the functions that clear lent words. Nothing here need be believed.
use Rattle.std.specs.Prelude.{◌≡◌, List, ℕ, ◌<◌, slice_index}

-- the first n words are zero
unfoldable pub ZeroUpTo : List ℕ → ℕ → Type 0
ZeroUpTo s n = (j : ℕ) → j < n → slice_index s j ≡ 0
