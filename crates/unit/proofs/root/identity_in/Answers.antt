-- `unit::root::identity_in` meets its contract.
use mathlib.Core.Path.{◌≡◌, refl, sym, ap, ◌∙◌}
use Prim.Native.Nat.{ℕ, ◌+◌, ◌-◌, ◌≤◌}
use native.Mathlib.Omega.{arith}
use lib.ListN.{length}
use Rattle.std.specs.Prelude.{Option, Some, None}
use Rattle.std.specs.Option.{ok_or}
use Rattle.octets.specs.Checked.{pass, mapped}
use Rattle.numbers.specs.Refused.{told}
use Rattle.numbers.specs.declared.refusals.Refusal.TheVariants.{NoIdentity}
use Rattle.unit.specs.Root.{needed}
use Rattle.unit.specs.Roots.{seen_is, moved_is}
use Rattle.unit.specs.declared.root.Move.{Move}
use Rattle.unit.proofs.Steps.{leaves}
use Rattle.unit.proofs.AttributeWalk.{walked_none, walked_not, walked_end, walked_taken, walked_on}
use Rattle.unit.proofs.root.identity_in.Goals as goal
use Rattle.unit.proofs.root.identity_in.Goals.{In-Some}

-- what is stated, or 12
told_needed : (o : Option ℕ) → told (ok_or o NoIdentity) ≡ needed (seen_is o)
unfolding needed
told_needed (Some x) = refl
told_needed None = refl

pub loop-step-init : goal.loop-step-init
loop-step-init c = (walked_none _ _ _ _ c.requires.0, c.requires.1)

pub returns-in_err-step-clause-is : goal.returns-in_err-step-clause-is
unfolding mapped
returns-in_err-step-clause-is c =
    leaves c.from_residual.result _ c.from_residual.ensures.1
    (walked_not _ _ _ _ _ c.loop-step.invariant.0 _ c.run_behind-run.ensures.run.0 c.run_behind-run.ensures.run.1 _ c.in_err-step.ensures)

pub returns-in_default-clause-is : goal.returns-in_default-clause-is
unfolding mapped
returns-in_default-clause-is c =
    ap told c.ok_or.ensures.value ∙ told_needed c.loop-step.walk.seen
    ∙ walked_end _ _ _ _ _ c.loop-step.invariant.0 _ c.run_behind-run.ensures.run.0 c.run_behind-run.ensures.run.1
    (sym (ap (λ (m : Option Move). pass (moved_is m)) c.in_default.is) ∙ c.in_ok-step.ensures)

-- what the step behind the run takes
taken : (c : In-Some) → (1 ≤ c.in-Some.step.taken)
    × (c.run_behind-run.result + c.in-Some.step.taken ≤ c.loop-step.walk.left.end - c.loop-step.walk.left.at)
    × (c.loop-step.walk.at + c.in-Some.step.passed ≤ length c.args.s.now)
unfolding mapped
taken c =
    walked_taken _ _ _ _ _ c.loop-step.invariant.0 _ c.run_behind-run.ensures.run.0 c.run_behind-run.ensures.run.1 _
    (sym (ap (λ (m : Option Move). pass (moved_is m)) c.in-Some.is) ∙ c.in_ok-step.ensures)

pub overflow_add-walk : goal.overflow_add-walk
overflow_add-walk c = omega (arith, taken (goal.at.overflow_add-walk c).In-Some, c.loop-step.invariant.0.table)

pub overflow_add-walk-in-loop-step : goal.overflow_add-walk-in-loop-step
overflow_add-walk-in-loop-step c = omega (arith, taken (goal.at.overflow_add-walk-in-loop-step c).In-Some)

pub loop-step-smaller : goal.loop-step-smaller
loop-step-smaller c = omega (arith, taken (goal.at.loop-step-smaller c).In-Some)

pub loop-step-preserved : goal.loop-step-preserved
unfolding mapped
loop-step-preserved c = (
  walked_on _ _ _ _ _ c.loop-step.invariant.0 _ c.run_behind-run.ensures.run.0 c.run_behind-run.ensures.run.1 _
      (sym (ap (λ (m : Option Move). pass (moved_is m)) c.in-Some.is) ∙ c.in_ok-step.ensures) _ refl refl refl c.paid_at.ensures refl,
  c.run_behind-run.ensures.memory,
)
