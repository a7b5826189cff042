-- Laws of checks in a row, and of `◌&&◌` and `◌||◌`.
use mathlib.Core.Path.{◌≡◌, refl, sym, ap}
use mathlib.Core.Logic.{◌⊎◌, inl, inr}
use mathlib.Core.Bool.{Bool, true, false, ◌&&◌, ◌||◌}
use Prim.Native.Nat.{ℕ}
use native.Mathlib.Omega.{arith}
use Rattle.octets.specs.Checked.{Check, pass, refuse, ◌>>=◌, require, renumbered}

-- a value and a refusal, or the two values of a test, are never equal
pub pass_refuse : {A : Type 0} (a : A) (n : ℕ) → pass a ≡ refuse n → ⊥
pass_refuse a n e = let z : ◌≡◌ {A = ℕ} 0 1 = cc in omega arith

pub true_false : {t : Bool} → t ≡ true → t ≡ false → ⊥
true_false p q = let z : ◌≡◌ {A = ℕ} 0 1 = cc in omega arith

pub pass_inj : {A : Type 0} {a b : A} → pass a ≡ pass b → a ≡ b
pass_inj e = cc

pub refuse_inj : {A : Type 0} {m n : ℕ} → ◌≡◌ {A = Check A} (refuse m) (refuse n) → m ≡ n
refuse_inj e = cc

-- ---- one test of a row
pub fails : {B : Type 0} (t : Bool) (n : ℕ) (f : Unit {0} → Check B) → t ≡ false → (require t n >>= f) ≡ refuse n
unfolding ◌>>=◌ require
fails t n f e = rw e

pub passes : {B : Type 0} (t : Bool) (n : ℕ) (f : Unit {0} → Check B) → t ≡ true → (require t n >>= f) ≡ f tt
unfolding ◌>>=◌ require
passes t n f e = rw e

-- a check whose answer is known, and what goes on behind it
pub then_pass : {A B : Type 0} (m : Check A) (f : A → Check B) (a : A) → m ≡ pass a → (m >>= f) ≡ f a
unfolding ◌>>=◌
then_pass m f a e = rw e

pub then_refuse : {A B : Type 0} (m : Check A) (f : A → Check B) (n : ℕ) → m ≡ refuse n → (m >>= f) ≡ refuse n
unfolding ◌>>=◌
then_refuse m f n e = rw e

-- ---- from the answer back to the checks
pub bind_pass : {A B : Type 0} (m : Check A) (f : A → Check B) (b : B) → (m >>= f) ≡ pass b → (a : A) × (m ≡ pass a) × (f a ≡ pass b)
unfolding ◌>>=◌
bind_pass (pass a) f b e = (a, refl, e)
bind_pass (refuse n) f b e = absurd (pass_refuse b n (sym e))

pub bind_refuse : {A B : Type 0} (m : Check A) (f : A → Check B) (n : ℕ) → (m >>= f) ≡ refuse n
    → (m ≡ refuse n) ⊎ ((a : A) × (m ≡ pass a) × (f a ≡ refuse n))
unfolding ◌>>=◌
bind_refuse (pass a) f n e = inr (a, refl, e)
bind_refuse (refuse k) f n e = inl (ap refuse (refuse_inj e))

-- both at once: a row that begins with a test and ends well passed the test
pub require_pass : {B : Type 0} (t : Bool) (n : ℕ) (f : Unit {0} → Check B) (b : B) → (require t n >>= f) ≡ pass b → (t ≡ true) × (f tt ≡ pass b)
unfolding ◌>>=◌ require
require_pass true n f b e = (refl, e)
require_pass false n f b e = absurd (pass_refuse b n (sym e))

pub require_refuse : {B : Type 0} (t : Bool) (n : ℕ) (f : Unit {0} → Check B) (m : ℕ) → (require t n >>= f) ≡ refuse m
    → ((t ≡ false) × (n ≡ m)) ⊎ ((t ≡ true) × (f tt ≡ refuse m))
unfolding ◌>>=◌ require
require_refuse true n f m e = inr (refl, e)
require_refuse false n f m e = inl (refl, refuse_inj e)

-- what goes on may be replaced by its equal
pub bind_same : {A B : Type 0} (m : Check A) (f g : A → Check B) → ((a : A) → m ≡ pass a → f a ≡ g a) → (m >>= f) ≡ (m >>= g)
unfolding ◌>>=◌
bind_same (pass a) f g h = h a refl
bind_same (refuse n) f g h = refl

-- ---- renumbered
pub renumbered_pass : {A : Type 0} (n : ℕ) (m : Check A) (a : A) → m ≡ pass a → renumbered n m ≡ pass a
unfolding renumbered
renumbered_pass n m a e = rw e

pub renumbered_refuse : {A : Type 0} (n : ℕ) (m : Check A) (k : ℕ) → m ≡ refuse k → renumbered n m ≡ refuse n
unfolding renumbered
renumbered_refuse n m k e = rw e

pub pass_renumbered : {A : Type 0} (n : ℕ) (m : Check A) (a : A) → renumbered n m ≡ pass a → m ≡ pass a
unfolding renumbered
pass_renumbered n (pass b) a e = e
pass_renumbered n (refuse k) a e = absurd (pass_refuse a n (sym e))

pub refuse_renumbered : {A : Type 0} (n : ℕ) (m : Check A) (j : ℕ) → renumbered n m ≡ refuse j → (n ≡ j) × ((k : ℕ) × (m ≡ refuse k))
unfolding renumbered
refuse_renumbered n (pass b) j e = absurd (pass_refuse b j e)
refuse_renumbered n (refuse k) j e = (refuse_inj e, (k, refl))

-- ---- tests joined
pub and_both : (a b : Bool) → a ≡ true → b ≡ true → (a && b) ≡ true
and_both a b p q = rw (p, q)

pub and_left : (a b : Bool) → (a && b) ≡ true → a ≡ true
and_left true b e = refl
and_left false b e = e

pub and_right : (a b : Bool) → (a && b) ≡ true → b ≡ true
and_right true b e = e
and_right false b e = absurd (true_false e refl)

pub not_left : (a b : Bool) → a ≡ false → (a && b) ≡ false
not_left a b p = rw p

pub not_right : (a b : Bool) → b ≡ false → (a && b) ≡ false
not_right true b p = p
not_right false b p = refl

pub and_fails : (a b : Bool) → (a && b) ≡ false → (a ≡ false) ⊎ (b ≡ false)
and_fails true b e = inr e
and_fails false b e = inl refl

pub or_left : (a b : Bool) → a ≡ true → (a || b) ≡ true
or_left a b p = rw p

pub or_right : (a b : Bool) → b ≡ true → (a || b) ≡ true
or_right true b p = refl
or_right false b p = p

pub or_cases : (a b : Bool) → (a || b) ≡ true → (a ≡ true) ⊎ (b ≡ true)
or_cases true b e = inl refl
or_cases false b e = inr e

pub or_neither : (a b : Bool) → a ≡ false → b ≡ false → (a || b) ≡ false
or_neither a b p q = rw (p, q)

pub or_fails_left : (a b : Bool) → (a || b) ≡ false → a ≡ false
or_fails_left true b e = e
or_fails_left false b e = refl

pub or_fails_right : (a b : Bool) → (a || b) ≡ false → b ≡ false
or_fails_right true b e = absurd (true_false refl e)
or_fails_right false b e = e

-- a test is true or false
pub known : (t : Bool) → (t ≡ true) ⊎ (t ≡ false)
known true = inl refl
known false = inr refl

pub both_ways : (a b : Bool) → (a ≡ true → b ≡ true) → (b ≡ true → a ≡ true) → a ≡ b
both_ways true b f g = sym (f refl)
both_ways false true f g = g refl
both_ways false false f g = refl
