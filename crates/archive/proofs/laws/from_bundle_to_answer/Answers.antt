-- The law is proved in `FromBundleToAnswer.antt`.
use Rattle.archive.proofs.FromBundleToAnswer as law
use Rattle.archive.proofs.laws.from_bundle_to_answer.Goals as goal

pub returns : goal.returns
returns c = law.from_bundle_to_answer
