-- `sheet::rows::IndexTableRef::put_rows` meets its contract.
use mathlib.Core.Path.{◌≡◌, refl, ap, ◌∙◌}
use Prim.Native.Nat.{suc, ◌*◌, ◌-◌, ◌≤◌, ◌<◌}
use native.Mathlib.Omega.{arith}
use lib.ListN.{length}
use Rattle.sheet.proofs.LawLaid.{laid_none, laid_free, laid_put, laid_all}
use Rattle.sheet.proofs.rows.IndexTableRef.put_rows.Goals as goal
use Rattle.sheet.proofs.rows.IndexTableRef.put_rows.Goals.{After-row_at-row}

pub loop-k-init : goal.loop-k-init
loop-k-init c =
    let t = c.args.self.now in
    let slots : length t.index.now.rows ≤ c.head-head.result.slots = omega (arith, ap (λ z. z.slots) c.head-head.ensures) in
    (refl, laid_none t.letter t.index.now _ _ _ slots (omega (arith, slots, t.here.identities)) c.requires.1 c.requires.0)

-- in a turn: the slot is there, and so are its row and its identity
next : (r : After-row_at-row) → r.loop-k.k ≡ suc (r.loop-k.k - 1)
next r = omega (arith, r.loop-k-test.true)

row_there : (r : After-row_at-row) → r.loop-k.k - 1 < length r.args.self.now.index.now.rows
row_there r = omega (arith, r.loop-k.auto.k, r.loop-k-test.true, ap (λ z. z.slots) r.head-head.ensures)

identity_there : (r : After-row_at-row) → r.loop-k.k - 1 < length r.args.self.now.index.now.identities
identity_there r = omega (arith, row_there r, r.args.self.now.here.identities)

pub loop-k-preserved-then-row-ne0 : goal.loop-k-preserved-then-row-ne0
loop-k-preserved-then-row-ne0 c =
    let r = (goal.at.loop-k-preserved-then-row-ne0 c).After-row_at-row in
    let t = c.args.self.now in
    let width : 40 * c.head-head.result.columns ≡ 40 * length t.index.now.codes = ap (λ z. 40 * z.columns) c.head-head.ensures in
    let most : c.row_at-row.result ≤ t.index.now.units = rw c.row_at-row.ensures (t.here.rows _ (row_there r)) in (
      c.put_row.auto.d ∙ c.loop-k.invariant.0,
      laid_put t.letter t.index.now _ _ _ _ _ (next r) (row_there r) (identity_there r) c.row_at-row.ensures c.identity_at.ensures _ _ _ (omega (arith, c.if-row-ne0.true)) most width c.loop-k.invariant.1 c.put_row.ensures,
    )

pub loop-k-preserved : goal.loop-k-preserved
loop-k-preserved c =
    let r = (goal.at.loop-k-preserved c).After-row_at-row in
    let t = c.args.self.now in
    (c.loop-k.invariant.0, laid_free t.letter t.index.now _ _ _ _ _ (next r) (row_there r) (identity_there r) c.row_at-row.ensures refl _ (omega (arith, c.if-row-ne0.false)) c.loop-k.invariant.1)

pub returns : goal.returns
returns c = laid_all c.args.self.now.letter c.args.self.now.index.now _ _ _ (omega arith) c.loop-k.invariant.1
