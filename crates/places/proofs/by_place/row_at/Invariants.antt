-- `places::by_place::row_at` meets its contract: what was found so far, and the rows of the chain that are left.
use Rattle.places.proofs.Chaining.{Walking}
use Rattle.places.proofs.by_place.row_at.Given as goal

abbrev pub invariant-loop-passed : goal.invariant-loop-passed
invariant-loop-passed l = Walking l.index l.heads l.words l.at l.size l.found l.row l.passed
