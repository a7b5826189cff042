-- `octets::put_byte` meets its contract.
use Rattle.octets.proofs.Placed.{placed_byte}
use Rattle.octets.proofs.put_byte.Goals as goal

pub returns : goal.returns
returns c = placed_byte _ _ _ c.requires
