-- `kept::writing::put_grid` meets its contract: records that are left are still to be put.
use Rattle.kept.proofs.Pieces.{grid_more}
use Rattle.kept.proofs.writing.IndexForm.put_grid.Goals as goal

pub loop-i-preserved : goal.loop-i-preserved
loop-i-preserved c = grid_more _ _ _ _ _ c.loop-i.invariant c.loop-i-test.true c.put_row-o.ensures.out c.put_row-o.ensures.next
