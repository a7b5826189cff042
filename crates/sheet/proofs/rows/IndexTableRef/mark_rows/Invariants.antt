-- `sheet::rows::IndexTableRef::mark_rows` meets its contract.
use mathlib.Core.Path.{◌≡◌}
use lib.ListN.{length}
use Rattle.sheet.proofs.LawSifted.{Sifted}
use Rattle.sheet.proofs.rows.IndexTableRef.mark_rows.Given as goal

abbrev pub invariant-loop-k : goal.invariant-loop-k
invariant-loop-k l = (length l.marks.words.now ≡ length l.fn.marks.words.now) × Sifted l.marks.words.now l.self.index.now.rows l.k
