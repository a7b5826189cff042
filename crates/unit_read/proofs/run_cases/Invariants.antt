-- What is left gets shorter, and the codes keep their number.
use Rattle.std.proofs.Common.{◌≡◌, ◌≤◌, length}
use Rattle.unit_read.proofs.run_cases.Given as goal

abbrev pub invariant-loop-more : goal.invariant-loop-more
invariant-loop-more g l = record { within : length l.left ≤ length l.s; room : length l.codes ≡ length l.initial.codes }

abbrev pub decreases-loop-more : goal.decreases-loop-more
decreases-loop-more g l = length l.left
