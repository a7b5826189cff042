-- `sheet::tables::write_tables` meets its contract.
use Rattle.sheet.proofs.LawSheet.{second_fits}
use Rattle.sheet.proofs.tables.write_tables.Goals as goal

pub write_table-requires-2 : goal.write_table-requires-2
write_table-requires-2 c = second_fits _ _ _ c.requires _ c.write_table.ensures
