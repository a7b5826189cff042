-- `octets::little` meets its contract. Invariant: n is what the bytes that were passed state.
use Rattle.octets.proofs.Numbers.{Passed}
use Rattle.octets.proofs.little.Given as goal

abbrev pub invariant-loop-b : goal.invariant-loop-b
invariant-loop-b l = Passed l.s l.b-iterator.iter.rest.now l.n
