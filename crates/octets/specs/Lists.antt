-- Lists of anything: joined, filtered, tested, summed.
use Rattle.std.specs.Prelude.{Bool, true, false, not, Option, Some, None, List, [], ◌∷◌, ◌++◌, ◌≡◌, ℕ, ◌+◌, ◌<◌, ◌≤◌, length, ◌==◌, nat_eq, slice_index, if◌then◌else◌}

unfoldable pub joined : List (List ℕ) → List ℕ
joined [] = []
joined (x ∷ xs) = x ++ joined xs

unfoldable pub those : {A : Type 0} → (A → Bool) → List A → List A
those f [] = []
those f (x ∷ xs) = if f x then x ∷ those f xs else those f xs

unfoldable pub all : {A : Type 0} → (A → Bool) → List A → Bool
all f [] = true
all f (x ∷ xs) = if f x then all f xs else false

unfoldable pub any : {A : Type 0} → (A → Bool) → List A → Bool
any f [] = false
any f (x ∷ xs) = if f x then true else any f xs

unfoldable pub sum : List ℕ → ℕ
sum [] = 0
sum (n ∷ ns) = n + sum ns

-- the numbers are equal one by one
unfoldable pub same : List ℕ → List ℕ → Bool
same [] [] = true
same [] (b ∷ t) = false
same (a ∷ s) [] = false
same (a ∷ s) (b ∷ t) = if a == b then same s t else false

-- one of the numbers is x
unfoldable pub has : List ℕ → ℕ → Bool
has ns x = any (nat_eq x) ns

-- no number stands there twice
unfoldable pub distinct : List ℕ → Bool
distinct [] = true
distinct (n ∷ ns) = if has ns n then false else distinct ns

-- both numbers are zero or both are not
unfoldable pub zero_together : ℕ → ℕ → Bool
zero_together a b = if a == 0 then (b == 0) else not (b == 0)

-- n is the place of the first zero from a place on, and the length where there is none
pub record FirstZero (s : List ℕ) (from n : ℕ) : Type 0 where
  pub reached : from ≤ n
  pub within : n ≤ length s
  pub found : n < length s → slice_index s n ≡ 0
  pub before : (i : ℕ) → from ≤ i → i < n → slice_index s i ≡ 0 → ⊥

-- the same, as a search answers it: none where no byte is zero
abbrev pub ZeroFound : List ℕ → ℕ → Option ℕ → Type 0
ZeroFound s from (Some n) = (n < length s) × FirstZero s from n
ZeroFound s from None = FirstZero s from (length s)
