-- `index::judging::row_cells` meets its contract.
use Rattle.index.specs.Contributed.{by_code, chosen, ContributionsAre}
use Rattle.index.specs.Index.{cell_of}
use Rattle.index.proofs.Filled.{up_to}
use Rattle.index.proofs.judging.row_cells.Given as goal

abbrev pub invariant-loop-c : goal.invariant-loop-c
invariant-loop-c l = ContributionsAre l.k (up_to l.c (chosen (by_code l.lengths) (cell_of l.row.index.now l.row.number)))
