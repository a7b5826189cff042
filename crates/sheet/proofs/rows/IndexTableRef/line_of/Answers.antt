-- `sheet::rows::IndexTableRef::line_of` meets its contract.
use Rattle.sheet.proofs.LawIndex.{line_is}
use Rattle.sheet.proofs.rows.IndexTableRef.line_of.Goals as goal

pub returns : goal.returns
returns c = line_is _ _ c.args.row _ _ _ _ (c.args.self.now.coded.is _ c.requires.2) c.cell_at-cell.ensures
