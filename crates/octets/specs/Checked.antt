-- A check gives a value or a refusal's number. Checks in a row stop at the first refusal, so the order of the list of refusals (FORMAT 13) is the order of the lines.
use Rattle.std.specs.Prelude.{Bool, true, false, ◌≡◌, ℕ}

pub data Check (A : Type 0) : Type 0 where
  pass : A → Check A
  refuse : ℕ → Check A

infixl 20 ◌>>=◌
-- the first refusal stands
unfoldable pub ◌>>=◌ : {A B : Type 0} → Check A → (A → Check B) → Check B
◌>>=◌ (pass a) f = f a
◌>>=◌ (refuse n) f = refuse n

-- a test that refuses where it fails
unfoldable pub require : Bool → ℕ → Check (Unit {0})
require true n = pass tt
require false n = refuse n

-- the same check, whose refusal has another number
unfoldable pub renumbered : {A : Type 0} → ℕ → Check A → Check A
renumbered n (pass a) = pass a
renumbered n (refuse m) = refuse n

-- the same check, of what f makes of its value
unfoldable pub mapped : {A B : Type 0} → (A → B) → Check A → Check B
mapped f (pass a) = pass (f a)
mapped f (refuse n) = refuse n

-- ---- answers of the code
-- an answer that stands for a check: by the definition that gives each case its number and values, it is that check
pub record Stands {R A : Type 0} (number : R → Check A) (c : Check A) : Type 0 where
  pub answer : R
  pub right : number answer ≡ c
