-- `unit::runs::pairs_size` meets its contract.
use mathlib.Core.Bool.{Bool}
use Prim.Native.Nat.{◌-◌}
use lib.ListN.{length}
use Rattle.unit.proofs.Flags.{Running}
use Rattle.unit.proofs.runs.pairs_size.Given as goal

abbrev pub invariant-loop-at : goal.invariant-loop-at
invariant-loop-at l = (known : Bool) → Running known l.t l.at

abbrev pub decreases-loop-at : goal.decreases-loop-at
decreases-loop-at l = length l.t - l.at
