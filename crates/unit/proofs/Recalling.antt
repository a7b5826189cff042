-- The search for a table in the directory, and what is recalled.
use mathlib.Core.Path.{◌≡◌, refl, sym, subst, ap, ◌∙◌}
use mathlib.Core.Bool.{true, false}
use mathlib.Core.List.{List, [], ◌∷◌, ◌++◌}
use Prim.Native.Nat.{ℕ, ◌+◌, ◌-◌, ◌*◌, ◌^◌, ◌<◌, ◌≤◌}
use native.Mathlib.Omega.{arith}
use lib.ListN.{length, take, drop, get_or}
use lib.Seq.{take-take}
use Rattle.octets.specs.Lists.{has, any}
use Rattle.octets.proofs.Parts.{part_cut}
use Rattle.unit.specs.Tables.{table_good}
use Rattle.unit.specs.Trees.{Rising, Sought, Seeks, Fresh}
use Rattle.unit.specs.TableTrees.{TableHeld, Judges, span_bytes, Held, directory, between, table_from, Stored, Noted, Entries, Remembers, Knows, KnownAt, Lies, Lent}
use Rattle.unit.specs.declared.judged.Span.{Span}
use Rattle.unit.specs.declared.judged.JudgedTable.{JudgedTable}
use Rattle.unit.specs.declared.judged.Judged.{Judged}
use Rattle.std.specs.Prelude.{IfSome, Option, Some, None, Result, Ok, Err}
use Rattle.bundle.specs.Encoding.{Encoding}
use Rattle.octets.proofs.Checks.{then_pass}
use Rattle.unit.specs.Abbreviations.{declarations_of}
use Rattle.unit.specs.Root.{root_identity}
use Rattle.unit.proofs.Local.{table_local}
use Rattle.unit.proofs.Cuts.{between_length, between_split}
use Rattle.unit.specs.declared.abbreviations.Extent.{Extent}
use Rattle.unit.specs.declared.abbreviations.Unheld.{Unheld}
use Rattle.unit.specs.declared.abbreviations.Unheld.TheVariants.{Bad, Full}
use Rattle.unit.proofs.Finding.{held_rising}
use Rattle.unit.proofs.Holding.{held_alone, entries_rising, remembers_entries}

-- ---- what is recalled
-- a table that the words hold becomes the last one
pub recalled : (b w : List ℕ) (p : Span) (t : JudgedTable) (n free : ℕ) → t.place.at ≡ p.at → t.place.end ≤ p.end → Held b w t → Entries b w n free
    → Knows b w p (record { last = Some t; entries = n; free = free }) t
unfolding Remembers
recalled b w p t n free e f h d = record { memory = (h, d); last = refl; starts = e; ends = f; held = h }

-- of a part that starts there and ends later
pub knows_part : (b w : List ℕ) (p q : Span) (j : Judged) (t : JudgedTable) → q.at ≡ p.at → q.end ≤ p.end → Knows b w q j t → Knows b w p j t
knows_part b w p q j t e f k = record { memory = k.memory; last = k.last; starts = k.starts ∙ e; ends = omega (arith, k.ends); held = k.held }

pub last_held : (b w : List ℕ) (j : Judged) (t : JudgedTable) → j.last ≡ Some t → Remembers b w j → Held b w t
unfolding Remembers
last_held b w j t e m = let h : IfSome (Some t) (Held b w) = rw e at m.0 in h

-- what a search finds
pub found_noted : (b w : List ℕ) (n free key carried : ℕ) → Sought (directory b w) n key carried → Entries b w n free → Noted b w free carried key
found_noted b w n free key carried f t =
    let c : get_or t.keys f.node 0 ≡ key = sym (t.tree.codes f.node (omega (arith, f.inside, t.counted))) ∙ f.is in
    subst (λ (x : ℕ). Noted b w free carried x) c (subst (λ (x : ℕ). Noted b w free x (get_or t.keys f.node 0)) f.carries (t.noted f.node f.inside))

-- a search for a place, as the code asks for it
module _ (b w : List ℕ) (j : Judged) (m : Lent b w j) (at : ℕ) (l : at ≤ length b) (o : Option ℕ) (q : Seeks (directory b w) j.entries at o) where
  pub sought_none : o ≡ None → Fresh (directory b w) j.entries at
  sought_none i = rw i at q

  module _ (start : ℕ) (i : o ≡ Some start) where
    stored : Stored b w j.free start at
    stored = (found_noted b w j.entries j.free at start (rw i at q) (remembers_entries b w j m.memory)).table (omega (arith, m.small))

    pub sought_held : Held b w (record { place = record { at = at; end = at + get_or w (start + 1) 0 }; from = start + 2; count = get_or w start 0 })
    unfolding table_from
    sought_held = stored.held

    pub sought_within : start + 2 ≤ length w
    sought_within = omega (arith, sought_held.inside)

    pub sought_ends : at + get_or w (start + 1) 0 < 2 ^ 32
    sought_ends = omega (arith, sought_held.lies, m.small)

-- what is known of the table that starts there, if there is one
known_some : (b w : List ℕ) (j : Judged) (at : ℕ) (o : Option JudgedTable) (t : JudgedTable) → KnownAt b w j at o → o ≡ Some t → (t.place.at ≡ at) × Held b w t
known_some b w j at o t k e = let h : KnownAt b w j at (Some t) = rw e at k in h

pub known_none : (b w : List ℕ) (j : Judged) (at : ℕ) (o : Option JudgedTable) → KnownAt b w j at o → o ≡ None → Fresh (directory b w) j.entries at
known_none b w j at o k e = let h : KnownAt b w j at None = rw e at k in h

pub recalled_known : (b w : List ℕ) (j : Judged) (p : Span) (o : Option JudgedTable) (t : JudgedTable) → Remembers b w j → KnownAt b w j p.at o → o ≡ Some t → t.place.end ≤ p.end
    → Knows b w p (record { last = Some t; entries = j.entries; free = j.free }) t
recalled_known b w j p o t m k e f = let h = known_some b w j p.at o t k e in recalled b w p t j.entries j.free h.0 f h.1 (remembers_entries b w j m)

-- ---- a table that was judged
module _ (s w : List ℕ) (r : Result Extent Unheld) (j : Judges s w r) where
  pub judged_within : (x : Extent) → r ≡ Ok x → x.size ≤ length s
  unfolding Judges
  judged_within x e = let g : (table_good s ≡ true) × (x.size ≤ length s) × TableHeld (take x.size s) w x.count = rw e at j in g.1

  judged_held : (x : Extent) → r ≡ Ok x → TableHeld (take x.size s) w x.count
  unfolding Judges
  judged_held x e = let g : (table_good s ≡ true) × (x.size ≤ length s) × TableHeld (take x.size s) w x.count = rw e at j in g.2

  pub judged_bad : (u : Unheld) → r ≡ Err u → u ≡ Bad → table_good s ≡ false
  unfolding Judges
  judged_bad u e i = rw (e, i) at j

-- a table that is not held is bad, where the words suffice
pub unheld_bad : (s w : List ℕ) (u : Unheld) → length s ≤ length w → Judges s w (Err u) → table_good s ≡ false
unfolding Judges
unheld_bad s w Bad h j = j
unheld_bad s w Full h j = absurd (omega arith)

-- in a part: its own bytes
abbrev pub own : Span → Extent → Span
own p x = record { at = p.at; end = p.at + x.size }

pub record Owned (b w : List ℕ) (p : Span) (x : Extent) : Type 0 where
  pub lies : Lies b (own p x)
  pub ends : p.at + x.size ≤ p.end
  pub held : TableHeld (span_bytes b (own p x)) w x.count

pub judged_own : (b w : List ℕ) (p : Span) (r : Result Extent Unheld) (x : Extent) → Lies b p → Judges (span_bytes b p) w r → r ≡ Ok x → Owned b w p x
judged_own b w p r x o g i =
    let l : x.size ≤ p.end - p.at = omega (arith, judged_within _ w r g x i, between_length b p.at p.end o.0 o.1) in
    let e : x.size ≡ p.at + x.size - p.at = omega arith in
    record {
      lies = (omega arith, omega (arith, o));
      ends = omega (arith, o.0);
      held = subst (λ (s : List ℕ). TableHeld s w x.count)
          (take-take x.size (p.end - p.at) (drop p.at b) l ∙ ap (λ (n : ℕ). take n (drop p.at b)) e)
          (judged_held _ w r g x i);
    }

-- ---- a directory of no entries
pub fresh_none : (w : List ℕ) (n at : ℕ) → n ≡ 0 → Fresh w n at
unfolding Fresh has any
fresh_none w n at e [] l t = refl
fresh_none w n at e (c ∷ cs) l t = absurd (omega arith)

-- with all the words, where the others are forgotten
pub recalled_alone : (b w : List ℕ) (p : Span) (j : Judged) (r : Result Extent Unheld) (x : Extent) → Lies b p → Remembers b w j → Judges (span_bytes b p) w r → r ≡ Ok x
    → Knows b w p (record { last = Some (record { place = own p x; from = 0; count = x.count }); entries = j.entries; free = j.free }) (record { place = own p x; from = 0; count = x.count })
recalled_alone b w p j r x o m g i =
    let k = judged_own b w p r x o g i in
    recalled b w p _ j.entries j.free refl k.ends (held_alone b w (own p x) x.count k.lies k.held) (remembers_entries b w j m)

-- ---- the table that was recalled, in the part of the words that the code lends
module _ (b w : List ℕ) (p : Span) (j : Judged) (t : JudgedTable) (k : Knows b w p j t) where
  pub known_held : TableHeld (span_bytes b t.place) (take (t.from + 5 * t.count - t.from) (drop t.from w)) t.count
  known_held = rw (part_cut w t.from (5 * t.count)) k.held.is

  pub known_rising : Rising (take (t.from + 5 * t.count - t.from) (drop t.from w)) t.count
  known_rising = held_rising _ _ _ known_held

  pub known_lies : (t.place.at ≤ t.place.end) × (t.place.end ≤ length b) × (t.from + 5 * t.count ≤ length w)
  known_lies = (k.held.lies.0, k.held.lies.1, k.held.inside)

  -- what stands behind it in the part changes nothing
  part_split : span_bytes b p ≡ span_bytes b t.place ++ between b t.place.end p.end
  part_split = ap (λ (at : ℕ). between b at p.end) (sym k.starts) ∙ between_split b t.place.at t.place.end p.end k.held.lies.0 k.ends

  pub known_root : (e : Encoding) (s : List ℕ) → root_identity e (span_bytes b t.place) s ≡ root_identity e (span_bytes b p) s
  unfolding root_identity
  known_root e s =
      let r = k.held.is.read in
      then_pass _ _ _ r ∙ sym (then_pass _ _ _ (ap declarations_of part_split ∙ table_local (span_bytes b t.place) (between b t.place.end p.end) k.held.is.declared r))

-- ---- as functions name them
pub ruleset sought_cases = (last_held, sought_none, sought_held, sought_within, sought_ends, entries_rising, remembers_entries)

pub ruleset known_cases = (known_lies, known_root)
