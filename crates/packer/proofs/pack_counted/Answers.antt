-- Over what is cleared the answers are those for the same lengths.
use Rattle.octets.specs.Octets.{zeros}
use Rattle.packer.proofs.Clearing.{cleared_again}
use Rattle.packer.proofs.pack_counted.Goals as goal

pub pack_cleared-answer-requires : goal.pack_cleared-answer-requires
unfolding zeros
pack_cleared-answer-requires c = cleared_again _ _ (c.clear_bytes.ensures)
