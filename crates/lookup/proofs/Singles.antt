-- No section stands there twice: over the codes, and by the counts of a scan.
use mathlib.Core.Path.{◌≡◌, refl, ◌∙◌}
use mathlib.Core.Bool.{Bool, true, false, ◌&&◌}
use mathlib.Core.List.{List, [], ◌∷◌}
use Prim.Native.Nat.{ℕ, suc, ◌+◌, ◌-◌, ◌<◌}
use native.Mathlib.Omega.{arith}
use lib.Dec.{leb}
use lib.ListN.{length, take, drop, get_or}
use Rattle.std.specs.List.{list_all}
use Rattle.octets.specs.Lists.{all}
use Rattle.bundle.specs.Bundle.{Part, count}
use Rattle.bundle.specs.Scan.{numbered, by_code}
use Rattle.bundle.proofs.Scanned.{by_code_at}
use Rattle.lookup.specs.Lookup.{codes}
use Rattle.lookup.specs.Answers.{single}
use Rattle.std.specs.Prelude.{if◌then◌else◌}

pub codes_at : (i : ℕ) → i < 13 → get_or codes i 0 ≡ i + 1
unfolding codes by_code numbered
codes_at i h = let e : suc i ≡ i + 1 = omega arith in by_code_at (λ c. c) (suc i) (omega arith) ∙ e

pub codes_length : length codes ≡ 13
unfolding codes
codes_length = refl

each : {A : Type 0} (f : A → Bool) (xs : List A) → list_all f xs ≡ all f xs
unfolding all
each f [] = refl
each f (x ∷ xs) = go (f x) (each f xs)
  where
    go : (t : Bool) → list_all f xs ≡ all f xs → (t && list_all f xs) ≡ (if t then all f xs else false)
    go true e = e
    go false e = refl

-- the counts of a scan, but for that of code 0
pub single_scan : (ps : List Part) → single (take (length (by_code (count ps)) - 1) (drop 1 (by_code (count ps)))) ≡ all (λ c. leb (count ps c) 1) codes
unfolding codes by_code numbered
single_scan ps = each (λ c. leb (count ps c) 1) codes
