-- `cells_of` meets its contract.
use Rattle.kept.proofs.Moved.{cells_are, cells_fit}
use Rattle.kept.proofs.cells.cells_of.Goals as goal

pub returns-clause-cells : goal.returns-clause-cells
returns-clause-cells c = λ f base k b. cells_are _ _ c.moved-cells.result _ _ _ c.requires c.moved-cells.ensures f base k b

pub returns-clause-fit : goal.returns-clause-fit
returns-clause-fit c = cells_fit _ _ c.moved-cells.result _ _ _ c.requires c.moved-cells.ensures
