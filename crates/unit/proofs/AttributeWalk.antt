-- The walk over a root's attributes, at its places in the bundle and in the unit.
use mathlib.Core.Path.{◌≡◌, refl, sym, ap, ap₂, subst, ◌∙◌}
use mathlib.Core.Bool.{Bool, true}
use mathlib.Core.List.{List, ◌++◌}
use mathlib.Core.Option.{some, none}
use mathlib.Core.Option as math
use Prim.Native.Nat.{ℕ, ◌+◌, ◌-◌, ◌≤◌}
use native.Mathlib.Omega.{arith}
use lib.ListN.{length, take, drop, length-drop, length-take}
use lib.Seq.{drop-drop, take-take}
use Rattle.std.specs.Prelude.{Option, Some, None, Ok}
use Rattle.std.specs.Option.{is_some}
use Rattle.octets.specs.Checked.{Check, pass, refuse}
use Rattle.octets.proofs.Checks.{true_false}
use Rattle.octets.proofs.Options.{some_none}
use Rattle.bundle.specs.Encoding.{Encoding}
use Rattle.unit.specs.Root.{needed, root_identity}
use Rattle.unit.specs.Roots.{Move, seen_is, attribute_step, identity_from, RootFound}
use Rattle.unit.specs.declared.root.Root.{Root}
use Rattle.unit.specs.Runs.{Quiet}
use Rattle.unit.specs.TableTrees.{between, span_bytes, Lies}
use Rattle.unit.specs.declared.judged.Span.{Span}
use Rattle.unit.specs.declared.root.Walk.{Walk}
use Rattle.unit.proofs.Sizes.{rest}
use Rattle.unit.proofs.Cuts.{between_length, between_drop, between_split}
use Rattle.unit.proofs.Stepping.{only_step, from_not, from_end, from_on, unread, stepped_within}

-- ---- pairs at the front of what is left, of which the code looks at so many bytes
pub pairs_pass : (known : Bool) (b : List ℕ) (at n k : ℕ) → n ≤ length (take k (drop at b)) → ((known : Bool) → Quiet known (take n (take k (drop at b)))) → Quiet known (take n (drop at b))
pairs_pass known b at n k h q = subst (Quiet known) (take-take n k (drop at b) (omega (arith, h, length-take k (drop at b)))) (q known)

-- ---- the walk, as the code takes it
is_stated : (seen : Option ℕ) → is_some seen ≡ true → seen_is seen ≡ none → ⊥
is_stated (Some x) h g = some_none g
is_stated None h g = true_false refl (sym h)

pub record Walked (e : Encoding) (b s : List ℕ) (place : Span) (w : Walk) : Type 0 where
  pub table : Lies b w.left
  pub unit : w.at ≤ length s
  pub paid : w.paid ≤ w.left.at
  pub same : identity_from e (span_bytes b w.left) (drop w.at s) (seen_is w.seen) ≡ identity_from e (span_bytes b place) s none

pub walked_none : (e : Encoding) (b s : List ℕ) (place : Span) → Lies b place → Walked e b s place (record { left = place; at = 0; seen = None; paid = place.at })
walked_none e b s place l = record { table = l; unit = omega arith; paid = omega arith; same = refl }

module _ (e : Encoding) (b s : List ℕ) (place : Span) (w : Walk) (k : Walked e b s place w) (n : ℕ) (h : n ≤ w.left.end - w.left.at) (q : Quiet (is_some w.seen) (take n (drop w.left.at b))) where
  abbrev seen : math.Option ℕ
  seen = seen_is w.seen

  abbrev t : List ℕ
  t = between b (w.left.at + n) w.left.end

  past : identity_from e t (drop w.at s) seen ≡ identity_from e (span_bytes b place) s none
  unfolding Quiet
  past =
      let m : n ≡ w.left.at + n - w.left.at = omega arith in
      let split = between_split b w.left.at (w.left.at + n) w.left.end (omega arith) (omega (arith, h, k.table)) in
      sym (q e t (drop w.at s) seen (is_stated w.seen))
      ∙ ap (λ (x : List ℕ). identity_from e x (drop w.at s) seen) (ap (λ (i : ℕ). take i (drop w.left.at b) ++ t) m ∙ sym split) ∙ k.same

  abbrev step : Check (math.Option Move)
  step = attribute_step e t (take (length s - w.at) (drop w.at s)) seen

  whole : step ≡ attribute_step e t (drop w.at s) seen
  whole = ap (λ (x : List ℕ). attribute_step e t x seen) (rest w.at s)

  pub walked_not : (j : ℕ) → refuse j ≡ step → refuse j ≡ identity_from e (span_bytes b place) s none
  walked_not j g =
      let i = sym (g ∙ whole) in
      ap refuse ((only_step e t (drop w.at s) seen).is j i) ∙ unread e t (drop w.at s) seen (from_not e t (drop w.at s) seen j i) ∙ past

  pub walked_end : pass none ≡ step → needed seen ≡ identity_from e (span_bytes b place) s none
  walked_end g = sym (from_end e t (drop w.at s) seen (sym (g ∙ whole))) ∙ past

  module _ (m : Move) (g : pass (some m) ≡ step) where
    taken : (1 ≤ m.taken) × (m.taken ≤ length t) × (m.passed ≤ length (drop w.at s))
    taken = stepped_within e t (drop w.at s) seen m (sym (g ∙ whole))

    pub walked_taken : (1 ≤ m.taken) × (n + m.taken ≤ w.left.end - w.left.at) × (w.at + m.passed ≤ length s)
    walked_taken =
        let l = between_length b (w.left.at + n) w.left.end (omega (arith, h, k.table)) k.table.1 in
        (omega (arith, taken), omega (arith, taken, l, h, k.table), omega (arith, taken, length-drop w.at s, k.unit))

    -- past the step behind the run
    pub walked_on : (v : Walk) → v.left.at ≡ w.left.at + n + m.taken → v.left.end ≡ w.left.end → v.at ≡ w.at + m.passed → v.paid ≤ w.left.at + n → seen_is v.seen ≡ m.seen
        → Walked e b s place v
    walked_on v a z u c x = record {
      table = (omega (arith, walked_taken, a, z, k.table), omega (arith, z, k.table));
      unit = omega (arith, walked_taken, u);
      paid = omega (arith, a, c);
      same =
          ap₂ (λ (i j : ℕ). identity_from e (between b i j) (drop v.at s) (seen_is v.seen)) a z
          ∙ ap₂ (λ (i : ℕ) (y : math.Option ℕ). identity_from e (between b (w.left.at + n + m.taken) w.left.end) (drop i s) y) u x
          ∙ ap₂ (λ (y z : List ℕ). identity_from e y z m.seen) (between_drop b (w.left.at + n) w.left.end m.taken) (sym (drop-drop m.passed w.at s))
          ∙ sym (from_on e t (drop w.at s) seen m (sym (g ∙ whole))) ∙ past;
    }

-- ---- from the root's attributes on
module _ (b s : List ℕ) (p : Span) (r : Root) where
  pub root_values : RootFound (span_bytes b p) s (Ok r) → r.values ≤ length s
  unfolding RootFound
  root_values f = f.1

  pub root_within : Lies b p → RootFound (span_bytes b p) s (Ok r) → p.at + r.attributes ≤ p.end
  unfolding RootFound
  root_within l f = omega (arith, f.0, l, between_length b p.at p.end l.0 l.1)

  -- the unit as the code cuts it
  pub root_behind : RootFound (span_bytes b p) s (Ok r) → (e : Encoding)
      → root_identity e (span_bytes b p) s ≡ identity_from e (between b (p.at + r.attributes) p.end) (take (length s - r.values) (drop r.values s)) none
  unfolding RootFound
  root_behind f e = f.2 e ∙ ap₂ (λ (x y : List ℕ). identity_from e x y none) (sym (between_drop b p.at p.end r.attributes)) (sym (rest r.values s))
