-- Packing in two sittings, from crate sittings.
use Rattle.sittings.proofs.TwoSittings as sittings
use Rattle.archive.specs.TwoSittings.{TwoSittings}

pub two_sittings : TwoSittings
two_sittings = sittings.two_sittings
