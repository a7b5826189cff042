-- The law is proved in `Rules.antt`.
use Rattle.archive.proofs.Rules as law
use Rattle.archive.proofs.laws.three_cases.Goals as goal

pub returns : goal.returns
returns c = law.three_cases
