-- `sheet::rows::IndexTableRef::put_rows` meets its contract.
use mathlib.Core.Path.{◌≡◌}
use lib.ListN.{length}
use Rattle.sheet.proofs.LawLaid.{laid_from}
use Rattle.sheet.proofs.rows.IndexTableRef.put_rows.Given as goal

abbrev pub invariant-loop-k : goal.invariant-loop-k
invariant-loop-k l = (length l.d ≡ length l.initial.d) × (l.d ≡ laid_from l.self.letter l.self.index.now l.k (length l.initial.d))
