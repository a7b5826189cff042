-- The code's answer in numbers: the refusal and 0; 18 and the length needed; 0 and the length written.
use Rattle.std.specs.Prelude.{ℕ, Result, Ok, Err}
use Rattle.numbers.specs.Refusals.{output_short}
use Rattle.numbers.specs.Refused.{number_of}
use Rattle.answers.specs.declared.Written.{Written}
use Rattle.answers.specs.declared.Unwritten.{Unwritten}
use Rattle.answers.specs.declared.Unwritten.TheVariants.{Refused, Short}

abbrev pub written_as : Result ℕ Unwritten → Written
written_as (Ok n) = record { code = 0; length = n }
written_as (Err (Refused r)) = record { code = number_of r; length = 0 }
written_as (Err (Short n)) = record { code = output_short; length = n }
