-- The small packer: bundles of at most 1,024 bytes, else 1, and 5,120 words of work.
-- The output is lent: o is its length, and the program lends 65,536 bytes. With as many 18 is never the answer (docs/DECISIONS.md, "The small packer's output").
use Rattle.std.specs.Prelude.{true, false, List, ℕ, if◌then◌else◌}
use Rattle.numbers.specs.Limits.{small_bundle, small_work}
use Rattle.numbers.specs.Refusals.{bad_length}
use Rattle.bundle.specs.Bundle.{length_good}
use Rattle.package.specs.Pack.{Answer, refused, packed}

unfoldable pub packed_small : List ℕ → ℕ → Answer
packed_small b o = if length_good small_bundle b then packed b small_work o else refused bad_length
