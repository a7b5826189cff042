-- What is there is one thing, and nothing is not there.
use mathlib.Core.Path.{◌≡◌}
use mathlib.Core.Option.{some, none}
use Prim.Native.Nat.{ℕ}
use native.Mathlib.Omega.{arith}

pub some_inj : {A : Type 0} {a b : A} → some a ≡ some b → a ≡ b
some_inj e = cc

pub some_none : {A : Type 0} {a : A} {P : Type 0} → some a ≡ none → P
some_none e = let z : ◌≡◌ {A = ℕ} 0 1 = cc in absurd (omega arith)
