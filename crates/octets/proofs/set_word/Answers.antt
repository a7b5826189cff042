-- `octets::set_word` meets its contract.
use Rattle.octets.proofs.Placed.{placed_byte}
use Rattle.octets.proofs.set_word.Goals as goal

pub returns : goal.returns
returns c = placed_byte _ _ _ c.requires.0
