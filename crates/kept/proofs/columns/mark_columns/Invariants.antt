-- `kept::columns::mark_columns` meets its contract: the columns passed are marked, the others as they were.
use Rattle.kept.proofs.Columning.{Marking}
use Rattle.kept.proofs.columns.mark_columns.Given as goal

abbrev pub invariant-loop-k : goal.invariant-loop-k
invariant-loop-k l = Marking l.five l.initial.has l.has l.cells l.k
