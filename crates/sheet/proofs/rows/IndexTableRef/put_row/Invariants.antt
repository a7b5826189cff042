-- `sheet::rows::IndexTableRef::put_row` meets its contract.
use mathlib.Core.Path.{◌≡◌}
use Prim.Native.Nat.{◌+◌, ◌*◌, ◌-◌}
use lib.ListN.{length, drop}
use Rattle.octets.specs.Octets.{placed}
use Rattle.sheet.specs.Sheet.{cell_lines, row_lines}
use Rattle.sheet.proofs.rows.IndexTableRef.put_row.Given as goal

abbrev pub invariant-loop-k : goal.invariant-loop-k
invariant-loop-k l = (length l.d ≡ length l.initial.d)
    × (placed l.d (l.at + 40 * l.k) (cell_lines l.self.letter l.self.index.now l.identity ((l.row - 1) * length l.self.index.now.codes + l.k) (drop l.k l.self.index.now.codes))
    ≡ placed l.initial.d l.at (row_lines l.self.letter l.self.index.now l.row l.identity))
