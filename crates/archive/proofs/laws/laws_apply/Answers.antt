-- The law is proved in `Applied.antt`.
use Rattle.archive.proofs.Applied as law
use Rattle.archive.proofs.laws.laws_apply.Goals as goal

pub returns : goal.returns
returns c = law.applied
