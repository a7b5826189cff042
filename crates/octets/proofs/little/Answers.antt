-- `octets::little` meets its contract. Invariant: n is what the bytes that were passed state.
use Rattle.octets.proofs.Numbers.{passed_none, passed_more, passed_fits}
use Rattle.octets.proofs.little.Goals as goal

pub loop-b-init : goal.loop-b-init
loop-b-init c = passed_none _ _ cc

pub shifted-n-requires : goal.shifted-n-requires
shifted-n-requires c = passed_fits _ _ _ (passed_more _ _ _ c.loop-b.invariant _ _ c.in-Some.ensures.steps) (λ i. (c.type_inv.s i).fits) c.requires

pub loop-b-preserved : goal.loop-b-preserved
loop-b-preserved c = rw c.shifted-n.ensures (passed_more _ _ _ c.loop-b.invariant _ _ c.in-Some.ensures.steps)
