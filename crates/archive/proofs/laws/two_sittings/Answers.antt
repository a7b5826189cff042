-- The law is proved in `TwoSittings.antt`.
use Rattle.archive.proofs.TwoSittings as law
use Rattle.archive.proofs.laws.two_sittings.Goals as goal

pub returns : goal.returns
returns c = law.two_sittings
