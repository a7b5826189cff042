-- `sheet::rows::tests::table_in` meets its contract.
use mathlib.Core.Path.{sym, ap, ◌∙◌}
use native.Mathlib.Omega.{arith}
use Rattle.numbers.specs.Refused.{told}
use Rattle.sheet.proofs.LawIndex.{index_here}
use Rattle.sheet.proofs.rows.tests.table_in.Goals as goal

pub of-requires : goal.of-requires
of-requires c = index_here _ _ _ (sym c.read.ensures ∙ ap told c.in-Ok.is) (omega (arith, c.fits-bytes))
