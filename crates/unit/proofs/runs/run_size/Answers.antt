-- `unit::runs::run_size` meets its contract.
use Rattle.unit.proofs.Flags.{running_none, running_on}
use Rattle.unit.proofs.runs.run_size.Goals as goal
use Rattle.unit.proofs.runs.run_size.Goals.{In-Some}

pub loop-size-init : goal.loop-size-init
loop-size-init c = running_none c.args.known c.args.t.now

pub loop-size-preserved : goal.loop-size-preserved
loop-size-preserved c = (running_on _ _ _ _ c.loop-size.invariant c.in-Some.ensures).1
