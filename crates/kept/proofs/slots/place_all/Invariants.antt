-- `kept::slots::place_all` meets its contract: records that are left are still to be placed.
use Rattle.kept.proofs.Placing.{Placing}
use Rattle.kept.proofs.slots.place_all.Given as goal

abbrev pub invariant-loop-i : goal.invariant-loop-i
invariant-loop-i l = Placing l.t.words l.t.table l.t.units l.t.count l.initial.work l.work l.i
