-- The text gets shorter.
use Rattle.std.proofs.Common.{length}
use Rattle.index_written.proofs.Numbers.next.Given as goal

abbrev pub decreases-loop-self : goal.decreases-loop-self
decreases-loop-self l = length l.self.text.now
