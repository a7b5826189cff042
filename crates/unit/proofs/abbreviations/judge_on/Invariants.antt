-- `unit::abbreviations::judge_on` meets its contract.
use mathlib.Core.Path.{◌≡◌}
use Prim.Native.Nat.{◌-◌}
use lib.ListN.{length}
use Rattle.unit.specs.TableTrees.{Judging}
use Rattle.unit.proofs.abbreviations.judge_on.Given as goal

abbrev pub invariant-loop-declaration : goal.invariant-loop-declaration
invariant-loop-declaration l = Judging l.s l.codes l.at l.count × (length l.codes ≡ length l.initial.codes)

abbrev pub decreases-loop-declaration : goal.decreases-loop-declaration
decreases-loop-declaration l = length l.s - l.at
