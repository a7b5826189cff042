-- `unit::judged::Judged::judge_behind` meets its contract.
use mathlib.Core.Path.{refl, ap, ◌∙◌}
use native.Mathlib.Omega.{arith}
use Rattle.std.specs.Prelude.{Err}
use Rattle.unit.specs.declared.abbreviations.Unheld.{Unheld}
use Rattle.unit.proofs.Entering.{behind_enters, behind_requires, moved_begun}
use Rattle.unit.proofs.Recalling.{judged_own, judged_bad, knows_part}
use Rattle.unit.proofs.judged.Judged.judge_behind.Goals as goal

pub enter-requires : goal.enter-requires
enter-requires c =
    let r = c.requires.new in
    let k = judged_own _ _ _ _ _ r.0 c.judge_on.ensures.table c.in-Ok.is in
    behind_requires _ _ _ _ _ _ _ r.1 r.3.0 (r.3.1, r.3.2, r.3.3) c.judge_on.auto.codes k.lies k.held

pub returns-in-Ok-clause-table : goal.returns-in-Ok-clause-table
returns-in-Ok-clause-table c =
    let r = c.requires.new in
    let k = judged_own _ _ _ _ _ r.0 c.judge_on.ensures.table c.in-Ok.is in
    knows_part _ _ _ _ _ _ refl k.ends
    (c.enter.ensures _
    (behind_enters _ _ _ _ _ _ _ r.1 r.3.0 (r.3.1, r.3.2, r.3.3) c.judge_on.auto.codes k.lies k.held r.2))

pub returns-in-Err-Full-clause-begun : goal.returns-in-Err-Full-clause-begun
returns-in-Err-Full-clause-begun c =
    λ e. let f = c.requires.new.3 in
    moved_begun _ _ _ _ _ c.args.place _ c.requires.new.1.room (omega (arith, f)) (omega (arith, f)) c.judge_on.auto.codes
    (c.judge_on.ensures.begun (c.in-Err-Full.is ∙ ap (λ (u : Unheld). Err u) c.in-Err-Full.field-0-is)) c.copy_within.ensures.len c.copy_within.ensures.by_index.0

pub returns-in-Err-Bad-clause-table : goal.returns-in-Err-Bad-clause-table
returns-in-Err-Bad-clause-table c =
    let n = c.nothing-in-Err-Bad.ensures in
    (n.empty, n.memory _ _, λ e. judged_bad _ _ _ c.judge_on.ensures.table _ c.in-Err-Bad.is c.in-Err-Bad.field-0-is)
