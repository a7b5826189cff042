-- The law is proved in `Unread.antt`.
use Rattle.archive.proofs.Unread as law
use Rattle.archive.proofs.laws.else_refused.Goals as goal

pub returns : goal.returns
returns c = law.else_refused
