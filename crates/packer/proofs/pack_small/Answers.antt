-- The answer without the counts.
use Rattle.packer.proofs.Counted.{made_alone, none_exit}
use Rattle.packer.proofs.pack_small.Goals as goal

pub returns-in_err-pack_small_counted-clause-answer : goal.returns-in_err-pack_small_counted-clause-answer
returns-in_err-pack_small_counted-clause-answer c = none_exit _ _ _ _ c.from_residual.ensures.1 c.in_err-pack_small_counted.ensures.answer

pub returns-clause-answer : goal.returns-clause-answer
returns-clause-answer c = made_alone _ _ _ c.in_ok-pack_small_counted.ensures.answer
