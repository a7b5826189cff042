-- What is left gets shorter.
use Rattle.std.proofs.Common.{length}
use Rattle.small_refusals.proofs.tell_bundles.Given as goal

abbrev pub decreases-loop-length : goal.decreases-loop-length
decreases-loop-length g l = length l.left
