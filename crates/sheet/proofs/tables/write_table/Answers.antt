-- `sheet::tables::write_table` meets its contract.
use mathlib.Core.Path.{◌∙◌}
use Rattle.sheet.proofs.LawTables.{table_laid}
use Rattle.sheet.proofs.tables.write_table.Goals as goal

pub returns-in-Some : goal.returns-in-Some
returns-in-Some c = c.put_rows.ensures ∙ rw c.of.ensures.0 (table_laid _ _ _ c.in-Some.ensures.0 _ c.requires _ _ (c.of.ensures.1 ∙ c.letter_of.ensures))
