-- Runs of flags that are present: they may be passed at once.
use mathlib.Core.Path.{◌≡◌, refl, sym, ap, ◌∙◌}
use mathlib.Core.Logic.{◌⊎◌, inl, inr}
use mathlib.Core.Bool.{Bool, true, false, not, beq}
use mathlib.Core.List.{List, [], ◌∷◌, ◌++◌, append_assoc}
use mathlib.Core.Option.{Option, some, none}
use Prim.Native.Nat.{ℕ, suc, ◌+◌, ◌-◌, ◌≤◌, ◌<◌}
use native.Mathlib.Omega.{arith}
use lib.Dec.{eqb}
use lib.ListN.{length, take, drop, get_or, length-drop}
use lib.Seq.{drop-append_seam, drop-cons, length-take-le, take-add}
use borrow.Author.Tests.{eq-eqb, ne_eqb, eqb-true}
use Rattle.octets.specs.Lists.{zero_together}
use Rattle.octets.specs.Checked.{pass}
use Rattle.octets.proofs.Checks.{pass_inj, bind_pass, require_pass}
use Rattle.leb128.specs.Leb128.{short}
use Rattle.leb128.proofs.Local.{taken, local_taken}
use Rattle.leb128.proofs.Tenth.{short_one}
use Rattle.unit.proofs.Local.{attribute_local}
use Rattle.bundle.specs.Encoding.{Encoding}
use Rattle.unit.specs.Abbreviations.{Attribute, attribute_at}
use Rattle.unit.specs.Root.{Value, identity_at}
use Rattle.unit.specs.Roots.{identity_from}
use Rattle.unit.specs.Runs.{Quiet}
use Rattle.unit.proofs.Sizes.{rest}
use Rattle.unit.proofs.Attributes.{attribute_good, attribute_at_taken}
use Rattle.unit.proofs.Values.{value_flag}
use Rattle.unit.proofs.Stepping.{identity_seen, identity_other, step_on, from_on}

-- ---- the attribute at the front of a run
zeros_form : (name form : ℕ) → zero_together name form ≡ true → name ≡ 0 → form ≡ 0
unfolding zero_together
zeros_form name form h z = eqb-true form 0 (rw (zero_together, eq-eqb name 0 z) at h)

module _ (t : List ℕ) (a : Attribute) (n : ℕ) (e : attribute_at t ≡ pass (a, n)) where
  -- a name of 0 has no other form than 0
  formed : (a.form ≡ 0 → ⊥) → a.name ≡ 0 → ⊥
  unfolding attribute_at
  formed f z =
      let p = bind_pass (short t) _ (a, n) e in
      let q = bind_pass (short (drop p.0.1 t)) _ (a, n) p.2 in
      let u = require_pass _ _ _ _ q.2 in
      let v = require_pass _ _ _ _ u.1 in
      let i : p.0.0 ≡ a.name = ap (λ (x : Attribute × ℕ). x.0.name) (pass_inj v.1) in
      let k : q.0.0 ≡ a.form = ap (λ (x : Attribute × ℕ). x.0.form) (pass_inj v.1) in
      f (sym k ∙ zeros_form p.0.0 q.0.0 u.0 (i ∙ z))

-- ---- runs
-- an attribute of another name than 2131 states nothing; and none does where the identity is stated
abbrev Stays : Bool → ℕ → Type 0
Stays known name = ((known ≡ false) × (name ≡ 0x2131 → ⊥)) ⊎ (known ≡ true)

stays : (known : Bool) (e : Encoding) (name : ℕ) (v : Value) (s : List ℕ) (seen : Option ℕ) → Stays known name → (known ≡ true → seen ≡ none → ⊥)
    → identity_at e name v s seen ≡ pass seen
stays known e name v s (some x) h g = identity_seen e name v s x
stays known e name v s none (inl h) g = identity_other e name v s h.1
stays known e name v s none (inr h) g = absurd (g h refl)

module _ (known : Bool) where
  pub quiet_none : Quiet known []
  unfolding Quiet
  quiet_none e t s seen h = refl

  pub quiet_both : (q r : List ℕ) → Quiet known q → Quiet known r → Quiet known (q ++ r)
  unfolding Quiet
  quiet_both q r h g e t s seen k = ap (λ (x : List ℕ). identity_from e x s seen) (append_assoc q r t) ∙ h e (r ++ t) s seen k ∙ g e t s seen k

  module _ (t : List ℕ) (name form n : ℕ) (p : attribute_at t ≡ pass (record { name = name; form = form }, n)) (f : form ≡ 0x19) (h : Stays known name) where
    quiet_flag : Quiet known (take n t)
    unfolding Quiet
    quiet_flag e r s seen g =
        let b = attribute_at_taken t _ p in
        let named = formed t _ n p (λ z. omega (arith, z, f)) in
        let step = step_on e (take n t ++ r) s seen name form n (local_taken taken attribute_at attribute_local t r _ p b.1) named _ (value_flag e form s f) seen (stays known e name _ s seen h g) in
        let l : length (take n t) ≡ n = length-take-le n t b.1 in
        from_on e (take n t ++ r) s seen _ step
        ∙ ap (λ (x : List ℕ). identity_from e x s seen) (ap (λ (k : ℕ). drop k (take n t ++ r)) (sym l) ∙ drop-append_seam (take n t) r)

    -- as the code answers it
    pub flag_passes : (1 ≤ n) × (n ≤ length t) × Quiet known (take n t)
    flag_passes = let b = attribute_at_taken t _ p in (omega (arith, b.0), b.1, quiet_flag)

  -- behind a run and one attribute
  quiet_more : (t : List ℕ) (at n : ℕ) → Quiet known (take at t) → Quiet known (take n (drop at t)) → Quiet known (take (at + n) t)
  quiet_more t at n h g = rw (take-add at n t) (quiet_both (take at t) (take n (drop at t)) h g)

-- ---- a name and a form of one byte each
-- a name of one byte isn't the identity's
stays_short : (known : Bool) (name : ℕ) → name ≤ 0x7f → Stays known name
stays_short true name o = inr refl
stays_short false name o = inl (refl, λ h. omega (arith, h, o))

module _ (name form : ℕ) (f : form ≡ 0x19) (z : name ≡ 0 → ⊥) (o : name ≤ 0x7f) where
  pair_apart : not (beq (eqb name 0) (eqb form 0)) ≡ false
  pair_apart = rw (ne_eqb name 0 z, ne_eqb form 0 (λ h. omega (arith, h, f)))

  pair_read : attribute_at (name ∷ form ∷ []) ≡ pass (record { name = name; form = form }, 2)
  pair_read =
      attribute_good (name ∷ form ∷ []) name 1 (sym (short_one (name ∷ form ∷ []) name (λ h. omega (arith, h)) refl (omega (arith, o))))
      form 1 (sym (short_one (form ∷ []) form (λ h. omega (arith, h)) refl (omega (arith, f)))) pair_apart (λ h. omega (arith, h, f))

  pub pair_quiet : (known : Bool) → Quiet known (name ∷ form ∷ [])
  pair_quiet known = quiet_flag known (name ∷ form ∷ []) name form 2 pair_read f (stays_short known name o)

front_two : (t : List ℕ) (at : ℕ) → at + 1 < length t → take 2 (drop at t) ≡ get_or t at 0 ∷ get_or t (at + 1) 0 ∷ []
front_two t at h =
    ap (take 2) (drop-cons t at 0 (omega arith) ∙ ap (λ (x : List ℕ). get_or t at 0 ∷ x) (drop-cons t (suc at) 0 (omega arith)))
    ∙ ap (λ (k : ℕ). get_or t at 0 ∷ get_or t k 0 ∷ []) (omega arith)

-- ---- the walk over them, as the code takes it
pub record Running (known : Bool) (t : List ℕ) (at : ℕ) : Type 0 where
  pub within : at ≤ length t
  pub quiet : Quiet known (take at t)

pub running_none : (known : Bool) (t : List ℕ) → Running known t 0
running_none known t = record { within = omega arith; quiet = quiet_none known }

-- past a pair
pub running_pair : (known : Bool) (t : List ℕ) (at : ℕ) → at + 1 < length t → Quiet known (get_or t at 0 ∷ get_or t (at + 1) 0 ∷ []) → Running known t at → Running known t (at + 2)
running_pair known t at h q r = record { within = omega (arith, h); quiet = quiet_more known t at 2 r.quiet (rw (front_two t at h) q) }

pub running_on : (known : Bool) (t : List ℕ) (at n : ℕ) → Running known t at →
    (1 ≤ n) × (n ≤ length (take (length t - at) (drop at t))) × Quiet known (take n (take (length t - at) (drop at t))) → (1 ≤ n) × Running known t (at + n)
running_on known t at n r f =
    let g : (1 ≤ n) × (n ≤ length (drop at t)) × Quiet known (take n (drop at t)) = rw (rest at t) at f in
    (g.0, record { within = omega (arith, g.1, length-drop at t, r.within); quiet = quiet_more known t at n r.quiet g.2 })
