-- `unit::abbreviations::judge_on` meets its contract.
use mathlib.Core.Path.{◌≡◌, refl, sym, ap, ◌∙◌}
use Prim.Native.Nat.{◌+◌, ◌≤◌}
use native.Mathlib.Omega.{arith}
use lib.ListN.{length, drop}
use mathlib.Core.Option.{none}
use Rattle.leb128.specs.Leb128.{unsigned}
use Rattle.std.specs.Prelude.{Option, Some}
use Rattle.std.proofs.lemmas.Result.{err_from_is_err_and}
use Rattle.octets.specs.Checked.{pass, mapped}
use Rattle.unit.specs.Tables.{declared_at, declared_is}
use Rattle.unit.specs.TableTrees.{Judges}
use Rattle.unit.specs.declared.abbreviations.Declaration.{Declaration}
use Rattle.unit.proofs.Sizes.{rest}
use Rattle.unit.proofs.Walks.{walk_within}
use Rattle.unit.proofs.Judging.{judging_rising, ended_within, judging_end, judging_not, judging_stops, judging_on}
use Rattle.unit.proofs.abbreviations.judge_on.Goals as goal
use Rattle.unit.proofs.abbreviations.judge_on.Goals.{In-Some, In_default}

-- the declaration at the cursor
told : (c : In-Some) → declared_at (drop c.loop-declaration.at c.args.s.now) ≡ pass (declared_is (Some c.in-Some.declaration))
unfolding mapped
told c =
    ap declared_at (sym (rest c.loop-declaration.at c.args.s.now)) ∙ sym c.in_ok-declaration.ensures
    ∙ ap (λ (d : Option Declaration). pass (declared_is d)) c.in-Some.is

within : (c : In-Some)
    → (5 ≤ c.in-Some.declaration.place.end)
    × (c.loop-declaration.at + c.in-Some.declaration.place.end ≤ length c.args.s.now)
    × (c.loop-declaration.at + c.in-Some.declaration.place.start ≤ length c.args.s.now)
within c = walk_within c.args.s.now c.loop-declaration.at _ (told c) c.loop-declaration.invariant.0.within

pub loop-declaration-init : goal.loop-declaration-init
loop-declaration-init c = (c.requires.1, refl)

pub returns-in_err-declaration-clause-table : goal.returns-in_err-declaration-clause-table
unfolding mapped
returns-in_err-declaration-clause-table c =
    let p = err_from_is_err_and c.from_residual.result c.from_residual.ensures.1 in
    rw (p.1, p.2)
    (judging_not _ _ _ _ c.loop-declaration.invariant.0 _ (ap declared_at (sym (rest c.loop-declaration.at c.args.s.now)) ∙ sym c.in_err-declaration.ensures))

-- the zero code at the cursor
none_there : (c : In_default) → declared_at (drop c.loop-declaration.at c.args.s.now) ≡ pass none
unfolding mapped
none_there c =
    ap declared_at (sym (rest c.loop-declaration.at c.args.s.now)) ∙ sym c.in_ok-declaration.ensures
    ∙ ap (λ (d : Option Declaration). pass (declared_is d)) c.in_default.is

pub overflow_add-size : goal.overflow_add-size
overflow_add-size c =
    omega (
      arith,
      ended_within _ _ _ _ c.loop-declaration.invariant.0 (none_there (goal.at.overflow_add-size c).In_default) _
          (λ code n h. c.code_size.ensures code n (ap unsigned (rest c.loop-declaration.at c.args.s.now) ∙ h)),
    )

pub returns-in_default-clause-table : goal.returns-in_default-clause-table
returns-in_default-clause-table c =
    judging_end _ _ _ _ c.loop-declaration.invariant.0 (none_there (goal.at.returns-in_default-clause-table c).In_default) _
    (λ code n h. c.code_size.ensures code n (ap unsigned (rest c.loop-declaration.at c.args.s.now) ∙ h)) _ refl

pub add_code-requires : goal.add_code-requires
add_code-requires c =
    let j = c.loop-declaration.invariant.0 in
    (judging_rising _ _ _ _ j, omega (arith, c.if-codes-count.false), omega (arith, j.room, j.within, c.requires), omega (arith, j.within, c.requires))

pub returns-then-codes-count-clause-table : goal.returns-then-codes-count-clause-table
unfolding Judges
returns-then-codes-count-clause-table c = omega (arith, c.if-codes-count.true, within (goal.at.returns-then-codes-count-clause-table c).In-Some, c.loop-declaration.invariant.0.room)

pub returns-then-not-add_code-clause-table : goal.returns-then-not-add_code-clause-table
returns-then-not-add_code-clause-table c = judging_stops _ _ _ _ c.loop-declaration.invariant.0 _ (told (goal.at.returns-then-not-add_code-clause-table c).In-Some) _ _ c.add_code.ensures c.if-not-add_code.true

pub overflow_add-at : goal.overflow_add-at
overflow_add-at c = omega (arith, within (goal.at.overflow_add-at c).In-Some)

pub loop-declaration-smaller : goal.loop-declaration-smaller
loop-declaration-smaller c = omega (arith, within (goal.at.loop-declaration-smaller c).In-Some)

pub loop-declaration-preserved : goal.loop-declaration-preserved
loop-declaration-preserved c =
    (judging_on _ _ _ _ c.loop-declaration.invariant.0 _ (told (goal.at.loop-declaration-preserved c).In-Some) _ _ c.add_code.ensures c.if-not-add_code.false, omega (arith, c.loop-declaration.invariant.1))
