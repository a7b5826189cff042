-- An answer of which the bytes written are told by their number alone, and the code's answer as such a one.
use Rattle.std.specs.Prelude.{ℕ, Result, Ok, Err, length}
use Rattle.numbers.specs.Refused.{number_of}
use Rattle.answers.specs.Answers as answer
use Rattle.answers.specs.declared.Unwritten.{Unwritten}
use Rattle.answers.specs.declared.Unwritten.TheVariants.{Refused, Short}

pub data Outcome : Type 0 where
  refused : ℕ → Outcome
  -- 18, with the length needed
  short : ℕ → Outcome
  -- so many bytes
  made : ℕ → Outcome

unfoldable pub outcome_of : answer.Answer → Outcome
outcome_of (answer.refused n) = refused n
outcome_of (answer.short n) = short n
outcome_of (answer.made p) = made (length p)

abbrev pub outcome_as : Result ℕ Unwritten → Outcome
outcome_as (Ok n) = made n
outcome_as (Err (Refused r)) = refused (number_of r)
outcome_as (Err (Short n)) = short n
