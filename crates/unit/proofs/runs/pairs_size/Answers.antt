-- `unit::runs::pairs_size` meets its contract.
use mathlib.Core.Bool.{true}
use native.Mathlib.Omega.{arith}
use Rattle.unit.proofs.Flags.{running_none, running_pair}
use Rattle.unit.proofs.runs.pairs_size.Goals as goal

pub loop-at-init : goal.loop-at-init
loop-at-init c = λ known. running_none known c.args.t.now

pub overflow_add-at : goal.overflow_add-at
overflow_add-at c = omega (arith, (c.loop-at.invariant true).within)

pub loop-at-preserved : goal.loop-at-preserved
loop-at-preserved c = λ known. running_pair _ _ _ c.loop-at-test.true (c.pair_passes.ensures c.if-pair_passes.true known) (c.loop-at.invariant known)

pub returns-after-loop-at : goal.returns-after-loop-at
returns-after-loop-at c = ((c.loop-at.invariant true).within, λ known. (c.loop-at.invariant known).quiet)
