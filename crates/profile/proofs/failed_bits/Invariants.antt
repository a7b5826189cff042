-- `profile::failed_bits` meets its contract: the bits of the conditions passed, from the last one on.
use Rattle.profile.proofs.Bits.{Passed}
use Rattle.profile.proofs.failed_bits.Given as goal

abbrev pub invariant-loop-condition : goal.invariant-loop-condition
invariant-loop-condition l = Passed l.fn.holds l.condition-iterator.iter.rest.now l.bits
