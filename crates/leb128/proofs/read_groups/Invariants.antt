-- `leb128::read_groups` meets its contract. Invariant: from here on the same comes out, and what was read is below the factor.
use Rattle.leb128.proofs.Readers.{Walked}
use Rattle.leb128.proofs.read_groups.Given as goal

abbrev pub invariant-loop-i : goal.invariant-loop-i
invariant-loop-i l = Walked l.k l.s l.i l.value l.factor
