-- The packer's answer as a caller is told it, in numbers.
use Rattle.std.specs.Prelude.{List, ℕ, Result, Ok, Err}
use Rattle.numbers.specs.Refusals.{output_short}
use Rattle.answers.specs.Outcome.{Outcome, refused, short, made, outcome_of}
use Rattle.answers.specs.Written.{written_as}
use Rattle.answers.specs.declared.Unwritten.{Unwritten}
use Rattle.package.specs.Filing.{repeat, namesake}
use Rattle.package.specs.Pack.{Answer, counted}
use Rattle.packer.specs.declared.Made.{Made}
use Rattle.packer.specs.declared.answering.Packed.{Packed}

-- the number and the value of each answer: the refusal and 0; 18 and the length needed; 0 and the package's length. Both counts behind it.
unfoldable pub told_of : Outcome → ℕ → ℕ → Packed
told_of (refused n) r m = record { code = n; length = 0; repeats = r; namesakes = m }
told_of (short n) r m = record { code = output_short; length = n; repeats = r; namesakes = m }
told_of (made n) r m = record { code = 0; length = n; repeats = r; namesakes = m }

-- of a bundle b; a refusal has both counts zero
unfoldable pub numbered : List ℕ → Answer → Packed
numbered b a = told_of (outcome_of a) (counted repeat b a) (counted namesake b a)

-- the code's answer in numbers
abbrev pub packed_as : Result Made Unwritten → Packed
packed_as (Ok m) = record { code = 0; length = m.length; repeats = m.skipped.repeats; namesakes = m.skipped.namesakes }
packed_as (Err u) = record { code = (written_as (Err u)).code; length = (written_as (Err u)).length; repeats = 0; namesakes = 0 }
