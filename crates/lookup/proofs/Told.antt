-- From a check of which a function was taken back to the check.
use mathlib.Core.Path.{◌≡◌, refl, sym}
use Prim.Native.Nat.{ℕ}
use Rattle.octets.specs.Checked.{Check, pass, refuse, mapped}
use Rattle.octets.proofs.Checks.{pass_refuse, pass_inj}

module _ {A B : Type 0} (f : A → B) where
  pub of_pass : (m : Check A) (b : B) → pass b ≡ mapped f m → (a : A) × (m ≡ pass a) × (b ≡ f a)
  unfolding mapped
  of_pass (pass a) b e = (a, refl, pass_inj e)
  of_pass (refuse n) b e = absurd (pass_refuse b n e)

  pub of_refuse : (m : Check A) (n : ℕ) → refuse n ≡ mapped f m → m ≡ refuse n
  unfolding mapped
  of_refuse (pass a) n e = absurd (pass_refuse (f a) n (sym e))
  of_refuse (refuse k) n e = cc
