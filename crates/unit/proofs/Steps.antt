-- What the code answers, and what a definition says: of an option, and of a refusal that leaves.
use mathlib.Core.Path.{◌≡◌, refl, sym, ap}
use mathlib.Core.Option.{some, none}
use mathlib.Core.Option as math
use Prim.Native.Nat.{ℕ}
use native.Mathlib.Omega.{arith}
use Rattle.std.specs.Prelude.{Option, Some, None, Result, Err}
use Rattle.std.specs.Option.{ok_or}
use Rattle.std.specs.Result.{IsErrAnd}
use Rattle.std.proofs.lemmas.Option.{none-some, same_Some}
use Rattle.std.proofs.lemmas.Result.{err_from_is_err_and}
use Rattle.octets.specs.Options.{found}
use Rattle.octets.specs.Checked.{Check, refuse}
use Rattle.numbers.specs.Refused.{told, number_of}
use Rattle.numbers.specs.declared.refusals.Refusal.{Refusal}

-- what a `?` that leaves answers
pub leaves : {A : Type 0} {m : Check A} (r : Result A Refusal) (e : Refusal) → IsErrAnd r (λ y. y ≡ e) → refuse (number_of e) ≡ m → told r ≡ m
leaves r e h g = let p = err_from_is_err_and r h in rw (p.1, p.2) g

-- what a definition finds, by what the code answers
pub found_some : {A : Type 0} (m : math.Option A) (a : A) → found m ≡ Some a → m ≡ some a
found_some (some b) a e = ap some (same_Some b a e)
found_some none a e = absurd (none-some a e)

pub found_none : {A : Type 0} (m : math.Option A) → found m ≡ None → m ≡ none
found_none (some b) e = absurd (none-some b (sym e))
found_none none e = refl

-- what `ok_or()` says where nothing was found
pub ok_or_none : {A : Type 0} (o : Option A) (e d : Refusal) → Err e ≡ ok_or o d → (o ≡ None) × (e ≡ d)
ok_or_none None e d h = (refl, cc)
ok_or_none (Some x) e d h = absurd (let z : ◌≡◌ {A = ℕ} 0 1 = cc in omega arith)
