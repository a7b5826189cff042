-- `kept::slots::place_all` meets its contract: records that are left are still to be placed.
use Rattle.kept.proofs.Placing.{placing_none, placing_more}
use Rattle.kept.proofs.slots.place_all.Goals as goal

pub loop-i-init : goal.loop-i-init
loop-i-init c = placing_none _ _ _ _ _ c.requires.1

pub loop-i-preserved : goal.loop-i-preserved
loop-i-preserved c = placing_more c.requires.0 c.loop-i.invariant c.loop-i-test.true _ c.place_unit.ensures
