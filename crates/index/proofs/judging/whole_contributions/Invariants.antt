-- `index::judging::whole_contributions` meets its contract.
use Rattle.index.specs.Contributed.{by_code, chosen, ContributionsAre}
use Rattle.index.proofs.Filled.{up_to}
use Rattle.index.proofs.Columned.{whole_cell}
use Rattle.index.proofs.judging.whole_contributions.Given as goal

abbrev pub invariant-loop-c : goal.invariant-loop-c
invariant-loop-c l = ContributionsAre l.k (up_to l.c (chosen (by_code l.lengths) (whole_cell l.lengths)))
