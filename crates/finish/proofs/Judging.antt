-- Packing behind 1 and 2 is what finishing answers.
use mathlib.Core.Path.{◌≡◌, ap, ◌∙◌}
use mathlib.Core.Bool.{true}
use mathlib.Core.List.{List}
use Prim.Native.Nat.{ℕ, ◌*◌, ◌/◌}
use lib.Dec.{leb}
use lib.ListN.{length}
use Rattle.numbers.specs.Limits.{work_for_word}
use Rattle.octets.specs.Checked.{Check}
use Rattle.octets.proofs.Checks.{passes}
use Rattle.bundle.specs.Bundle.{length_good}
use Rattle.package.specs.Pack.{judged, answered, packed}
use Rattle.finish.specs.Finish.{package_of, package_in}

module _ (b : List ℕ) (w : ℕ) (good : length_good 4_194_304 b ≡ true) (enough : leb (work_for_word * (length b / 4)) w ≡ true) where
  pub judged_is : judged b w ≡ package_in b
  unfolding judged package_in package_of
  judged_is = passes (length_good 4_194_304 b) 1 _ good ∙ passes (leb (work_for_word * (length b / 4)) w) 2 _ enough

  pub packed_is : (o : ℕ) → packed b w o ≡ answered (package_in b) o
  unfolding packed
  packed_is o = ap (λ (c : Check (List ℕ)). answered c o) judged_is
