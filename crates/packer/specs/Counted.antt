-- The packer's answer with both counts: those of `counted` of `package/specs/Pack.antt`, which are zero where no package is made.
use Rattle.std.specs.Prelude.{List, ℕ, Result, Ok, Err}
use Rattle.package.specs.Filing.{repeat, namesake}
use Rattle.package.specs.Pack.{Answer, counted}
use Rattle.answers.specs.Outcome.{Outcome, made, outcome_of, outcome_as}
use Rattle.answers.specs.declared.Unwritten.{Unwritten}
use Rattle.packer.specs.declared.Made.{Made}

pub record Packing : Type 0 where
  pub outcome : Outcome
  pub repeats : ℕ
  pub namesakes : ℕ

unfoldable pub packing_of : List ℕ → Answer → Packing
packing_of b a = record { outcome = outcome_of a; repeats = counted repeat b a; namesakes = counted namesake b a }

-- the code's answer as such a one
abbrev pub packing_as : Result Made Unwritten → Packing
packing_as (Ok m) = record { outcome = made m.length; repeats = m.skipped.repeats; namesakes = m.skipped.namesakes }
packing_as (Err u) = record { outcome = outcome_as (Err u); repeats = 0; namesakes = 0 }
