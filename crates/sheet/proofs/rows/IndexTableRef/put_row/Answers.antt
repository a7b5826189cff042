-- `sheet::rows::IndexTableRef::put_row` meets its contract.
use mathlib.Core.Path.{ap}
use Prim.Native.Nat.{◌+◌, ◌*◌, ◌≤◌, ◌<◌}
use native.Mathlib.Omega.{arith}
use lib.ListN.{length}
use Rattle.sheet.proofs.LawIndex.{line_small}
use Rattle.sheet.proofs.rows.IndexTableRef.put_row.Goals as goal
use Rattle.sheet.proofs.rows.IndexTableRef.put_row.Goals.{In-loop-k}

-- in a turn: the column is there, and there is room for its line
column : (i : In-loop-k) → i.loop-k.k < length i.args.self.now.index.now.codes
column i = omega (arith, i.loop-k-test.true, ap (λ z. z.columns) i.head-k-end.ensures)

room : (i : In-loop-k) → i.args.at + 40 * i.loop-k.k + 40 ≤ length i.loop-k.d
room i = omega (arith, i.requires.2, i.loop-k.invariant.0, column i)

pub put-requires : goal.put-requires
put-requires c = (line_small _ _ _ _ _ _ c.line_of.ensures, room (goal.at.put-requires c).In-loop-k)
