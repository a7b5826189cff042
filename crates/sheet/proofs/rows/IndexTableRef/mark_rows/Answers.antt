-- `sheet::rows::IndexTableRef::mark_rows` meets its contract.
use mathlib.Core.Path.{◌≡◌, refl, sym, ap, ◌∙◌}
use Prim.Native.Nat.{suc, ◌-◌, ◌/◌, ◌<◌}
use native.Mathlib.Omega.{arith}
use lib.ListN.{length}
use Rattle.sheet.proofs.LawMarks.{length_with_mark}
use Rattle.sheet.proofs.LawSifted.{sifted_none, sifted_free, sifted_twice, sifted_more}
use Rattle.sheet.proofs.rows.IndexTableRef.mark_rows.Goals as goal
use Rattle.sheet.proofs.rows.IndexTableRef.mark_rows.Goals.{After-row_at-row}

pub loop-k-init : goal.loop-k-init
loop-k-init c = (refl, sifted_none _ _ _ _ c.requires.1 (omega (arith, ap (λ z. z.slots) c.head-k.ensures)))

-- in a turn: the slot is there, and its row has a mark
next : (r : After-row_at-row) → r.loop-k.k ≡ suc (r.loop-k.k - 1)
next r = omega (arith, r.loop-k-test.true)

inside : (r : After-row_at-row) → r.loop-k.k - 1 < length r.args.self.now.index.now.rows
inside r = omega (arith, r.loop-k.auto.k, r.loop-k-test.true, ap (λ z. z.slots) r.head-k.ensures)

row_fits : (r : After-row_at-row) → r.row_at-row.result / 32 < length r.loop-k.marks.words.now
row_fits r = omega (arith, r.loop-k.invariant.0, r.args.self.now.here.rows _ (inside r), r.args.self.now.here.above, r.requires.0, r.row_at-row.ensures)

pub returns-then-has-clause-once : goal.returns-then-has-clause-once
returns-then-has-clause-once c =
    let r = (goal.at.returns-then-has-clause-once c).After-row_at-row in
    sym (sifted_twice _ _ _ _ _ c.loop-k.invariant.1 (next r) (inside r) c.row_at-row.ensures c.if-row-ne0.true (sym c.has.ensures ∙ c.if-has.true))

pub loop-k-preserved-then-row-ne0 : goal.loop-k-preserved-then-row-ne0
loop-k-preserved-then-row-ne0 c =
    let r = (goal.at.loop-k-preserved-then-row-ne0 c).After-row_at-row in (
      ap length c.set.ensures ∙ length_with_mark _ _ ∙ c.loop-k.invariant.0,
      rw c.set.ensures
          (sifted_more _ _ _ _ _ c.loop-k.invariant.1 (next r) (inside r) c.row_at-row.ensures c.if-row-ne0.true (row_fits r) (sym c.has.ensures ∙ c.if-has.false)),
    )

pub loop-k-preserved : goal.loop-k-preserved
loop-k-preserved c =
    let r = (goal.at.loop-k-preserved c).After-row_at-row in
    (c.loop-k.invariant.0, sifted_free _ _ _ _ _ c.loop-k.invariant.1 (next r) (inside r) c.row_at-row.ensures (omega (arith, c.if-row-ne0.false)))
