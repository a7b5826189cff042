-- Tables that lent words hold: what stores elsewhere leave of them.
use mathlib.Core.Path.{◌≡◌, refl, sym, subst, ap, ap₂, ◌∙◌}
use mathlib.Core.List.{List, [], ◌++◌}
use Prim.Native.Nat.{ℕ, ◌+◌, ◌*◌, ◌^◌, ◌<◌, ◌≤◌}
use native.Mathlib.Omega.{arith}
use lib.ListN.{length, take, get_or, length-map, length-take}
use Rattle.octets.specs.Octets.{part}
use Rattle.octets.proofs.Parts.{length_part, get_d_part}
use Rattle.unit.specs.Abbreviations.{Declaration}
use Rattle.unit.specs.Trees.{code_at, carried_at, Rising, Linked, Tree}
use Rattle.unit.specs.TableTrees.{codes_of, no_declaration, Declares, TableTree, Judging, TableHeld, span_bytes, Held, directory_size, directory, table_from, Stored, Noted, Entries, Lies, Remembers, Lent}
use Rattle.unit.specs.declared.judged.Span.{Span}
use Rattle.unit.specs.declared.judged.JudgedTable.{JudgedTable}
use Rattle.unit.specs.declared.judged.Judged.{Judged}
use Rattle.unit.proofs.Trees.{reaches_linked}
use Rattle.unit.proofs.Judging.{tree_none}
use Rattle.unit.proofs.Finding.{held_rising}

-- ---- a tree is as its words are
tree_same : (w v cs : List ℕ) → Tree w cs → 5 * length cs ≤ length v → ((q : ℕ) → q < 5 * length cs → get_or v q 0 ≡ get_or w q 0) → Tree v cs
unfolding code_at
tree_same w v cs t room same = record {
  rising = record {
    room = room;
    later = λ k b l m z. let e = same (5 * k + b) (omega arith) in rw e (t.rising.later k b l m (λ x. z (e ∙ x)));
    among = λ k b l m. rw (same (5 * k + b) (omega arith)) (t.rising.among k b l m);
  };
  codes = λ k l. ap₂ (λ (x y : ℕ). x + 2 ^ 32 * y) (same (5 * k + 3) (omega arith)) (same (5 * k + 4) (omega arith)) ∙ t.codes k l;
  reached = λ k l.
      let r = t.reached k l in
      let linked : Linked (length cs) w v = record { same = λ q g z. same q g } in
      record { steps = r.steps; is = reaches_linked w v (length cs) t.rising linked r.steps (get_or cs k 0) 0 k (omega arith) r.is };
}

table_same : (s w v : List ℕ) (ds : List Declaration) → TableTree s w ds → 5 * length ds ≤ length v → ((q : ℕ) → q < 5 * length ds → get_or v q 0 ≡ get_or w q 0) → TableTree s v ds
unfolding carried_at
table_same s w v ds t room same = record {
  tree = tree_same w v (codes_of ds) t.tree (omega (arith, count)) (λ q l. same q (omega (arith, count)));
  declares = λ k l. subst (λ (x : ℕ). Declares s x (get_or ds k no_declaration)) (sym (same (5 * k + 2) (omega arith))) (t.declares k l);
}
  where
    count : length (codes_of ds) ≡ length ds
    count = length-map ds (λ d. d.code)

held_same : (s w v : List ℕ) (n : ℕ) → TableHeld s w n → 5 * n ≤ length v → ((q : ℕ) → q < 5 * n → get_or v q 0 ≡ get_or w q 0) → TableHeld s v n
held_same s w v n t room same = record {
  declared = t.declared;
  read = t.read;
  counted = t.counted;
  held = table_same s w v t.declared t.held (omega (arith, t.counted)) (λ q l. same q (omega (arith, t.counted)));
}

pub judging_same : (s w v : List ℕ) (at n : ℕ) → Judging s w at n → 5 * n ≤ length v → ((q : ℕ) → q < 5 * n → get_or v q 0 ≡ get_or w q 0) → Judging s v at n
judging_same s w v at n j room same = record {
  ds = j.ds;
  met = j.met;
  counted = j.counted;
  differ = j.differ;
  held = λ y. table_same (take at s ++ y) w v j.ds (j.held y) (omega (arith, j.counted)) (λ q l. same q (omega (arith, j.counted)));
  within = j.within;
  room = j.room;
}

-- ---- a table among the words
pub held_kept : (b w v : List ℕ) (t : JudgedTable) → length v ≡ length w → ((i : ℕ) → t.from ≤ i → i < t.from + 5 * t.count → get_or v i 0 ≡ get_or w i 0) → Held b w t → Held b v t
held_kept b w v t l same h =
    let n = 5 * t.count in
    let room : t.from + 5 * t.count ≤ length v = omega (arith, l, h.inside) in
    record {
      lies = h.lies;
      inside = room;
      is = held_same (span_bytes b t.place) (part w t.from n) (part v t.from n) t.count h.is (omega (arith, length_part v t.from n room))
          (λ q g. get_d_part v t.from n q g ∙ same (t.from + q) (omega arith) (omega arith) ∙ sym (get_d_part w t.from n q g));
    }

-- words x that hold it, in the words v
pub held_in : (b v x : List ℕ) (p : Span) (from n : ℕ) → Lies b p → TableHeld (span_bytes b p) x n → from + length x ≤ length v → ((q : ℕ) → q < length x → get_or v (from + q) 0 ≡ get_or x q 0)
    → Held b v (record { place = p; from = from; count = n })
held_in b v x p from n o t room same =
    let r : 5 * n ≤ length x = (held_rising (span_bytes b p) x n t).room in
    let inside : from + 5 * n ≤ length v = omega arith in
    record {
      lies = o;
      inside = inside;
      is = held_same (span_bytes b p) x (part v from (5 * n)) n t (omega (arith, length_part v from (5 * n) inside)) (λ q g. get_d_part v from (5 * n) q g ∙ same q (omega arith));
    }

-- with all the words
pub held_alone : (b w : List ℕ) (p : Span) (n : ℕ) → Lies b p → TableHeld (span_bytes b p) w n → Held b w (record { place = p; from = 0; count = n })
held_alone b w p n o t = held_in b w w p 0 n o t (omega arith) (λ q g. let e : 0 + q ≡ q = omega arith in ap (λ (m : ℕ). get_or w m 0) e)

-- as the directory has it
stored_kept : (b w v : List ℕ) (free more start at : ℕ) → length v ≡ length w → free ≤ more → ((i : ℕ) → directory_size b ≤ i → i < free → get_or v i 0 ≡ get_or w i 0)
    → Stored b w free start at → Stored b v more start at
unfolding table_from
stored_kept b w v free more start at l m same s =
    let e : get_or v start 0 ≡ get_or w start 0 = same start s.behind (omega (arith, s.before)) in
    let g : get_or v (start + 1) 0 ≡ get_or w (start + 1) 0 = same (start + 1) (omega (arith, s.behind)) (omega (arith, s.before)) in
    record {
      behind = s.behind;
      before = omega (arith, e, s.before);
      held = subst (λ (t : JudgedTable). Held b v t)
          (ap₂ (λ (x y : ℕ). record { place = record { at = at; end = at + x }; from = start + 2; count = y }) (sym g) (sym e))
          (held_kept b w v (table_from w start at) l (λ i g h. same i (omega (arith, s.behind)) (omega (arith, s.before))) s.held);
    }

pub noted_kept : (b w v : List ℕ) (free more carried key : ℕ) → length v ≡ length w → free ≤ more → ((i : ℕ) → directory_size b ≤ i → i < free → get_or v i 0 ≡ get_or w i 0)
    → Noted b w free carried key → Noted b v more carried key
noted_kept b w v free more carried key l m same n = record { table = λ h. stored_kept b w v free more carried key l m same (n.table h); run = n.run }

-- ---- the directory
pub entries_none : (b w : List ℕ) (free : ℕ) → Entries b w 0 free
entries_none b w free = record { keys = []; counted = refl; tree = tree_none (directory b w); noted = λ k l. absurd (omega arith) }

pub entries_rising : (b w : List ℕ) (n free : ℕ) → Entries b w n free → Rising (directory b w) n
entries_rising b w n free t = rw (← t.counted) t.tree.rising

pub entries_kept : (b w v : List ℕ) (n free start : ℕ) → length v ≡ length w → free ≤ start → take (directory_size b) v ≡ take (directory_size b) w
    → ((i : ℕ) → i < start → get_or v i 0 ≡ get_or w i 0) → Entries b w n free → Entries b v n free
entries_kept b w v n free start l f d same t = record {
  keys = t.keys;
  counted = t.counted;
  tree = rw d t.tree;
  noted = λ k g. rw d (noted_kept b w v free free _ _ l (omega arith) (λ i h m. same i (omega arith)) (t.noted k g));
}

pub entries_room : (b w : List ℕ) (n free : ℕ) → Entries b w n free → 5 * n ≤ directory_size b
entries_room b w n free t = omega (arith, (entries_rising b w n free t).room, length-take (directory_size b) w)

pub remembers_entries : (b w : List ℕ) (j : Judged) → Remembers b w j → Entries b w j.entries j.free
unfolding Remembers
remembers_entries b w j m = m.1

-- ---- lent words, that remember something else now
pub lent_kept : (b w v : List ℕ) (j k : Judged) → Lent b w j → length v ≡ length w → Remembers b v k → Lent b v k
lent_kept b w v j k m l r = record { room = omega (arith, l, m.room); small = m.small; memory = r }
