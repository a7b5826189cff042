-- The law is proved in `Clauses.antt`.
use Rattle.archive.proofs.Clauses as law
use Rattle.archive.proofs.laws.every_clause.Goals as goal

pub returns : goal.returns
returns c = law.every_clause
