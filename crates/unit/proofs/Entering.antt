-- A table that is judged into the free words, and becomes one of the directory.
use mathlib.Core.Path.{◌≡◌, refl, sym, subst, ap, ap₂, ◌∙◌}
use mathlib.Core.Bool.{Bool, true, false}
use mathlib.Core.List.{List, [], ◌∷◌, ◌++◌}
use Prim.Native.Nat.{ℕ, ◌+◌, ◌-◌, ◌*◌, ◌/◌, ◌^◌, ◌<◌, ◌≤◌}
use native.Mathlib.Omega.{arith}
use native.Mathlib.Decide.{dec_le}
use lib.ListN.{length, take, drop, get_or, length-append, length-drop, get_or-append}
use lib.Seq.{take_at, length-take-le, get_or-take, get_or-drop, get_or-append-add, get_or-append_seam}
use borrow.Rule.Slice.PartMut.{put_mid, mid_of, mid_len, same_len_mid}
use Rattle.std.specs.Prelude.{Some}
use Rattle.std.specs.List.{CopiedTo}
use Rattle.octets.specs.Octets.{placed}
use Rattle.octets.proofs.Checks.{true_false}
use Rattle.octets.proofs.Placed.{length_placed, take_placed}
use Rattle.octets.proofs.Regions.{placed_whole, get_d_placed, get_d_before, get_d_behind}
use Rattle.unit.specs.Trees.{carried_at, Tree, Fresh, Grown, Added}
use Rattle.unit.specs.TableTrees.{Judging, TableHeld, between, span_bytes, Held, directory_size, directory, table_from, Stored, run_key, Noted, Entries, Lies, Enters, Enterable, Remembers, Knows, Begun, Lent}
use Rattle.unit.specs.declared.judged.Span.{Span}
use Rattle.unit.specs.declared.judged.JudgedTable.{JudgedTable}
use Rattle.unit.specs.declared.judged.Judged.{Judged}
use Rattle.unit.specs.declared.abbreviations.Extent.{Extent}
use Rattle.unit.proofs.Recalling.{recalled, own, Owned}
use Rattle.unit.proofs.Judging.{judging_room}
use Rattle.unit.proofs.Finding.{held_rising}
use Rattle.unit.proofs.Holding.{held_kept, held_in, judging_same, noted_kept, entries_rising, entries_kept, remembers_entries}

-- ---- a table that was judged into the words from a place on
module _ (b w x : List ℕ) (from n : ℕ) (l : length x ≡ n) (h : from + n ≤ length w) where
  abbrev left : List ℕ
  left = put_mid from n w x

  left_is : left ≡ placed w from x
  left_is = placed_whole w from n x l

  left_held : (p : Span) (count : ℕ) → Lies b p → TableHeld (span_bytes b p) x count → Held b left (record { place = p; from = from; count = count })
  left_held p count o t =
      rw left_is (held_in b (placed w from x) x p from count o t (omega (arith, length_placed w from x (omega arith))) (λ q g. get_d_placed w from x q g (omega arith)))

  left_at : (q : ℕ) → q < n → get_or left (from + q) 0 ≡ get_or x q 0
  left_at q g = ap (λ (v : List ℕ). get_or v (from + q) 0) left_is ∙ get_d_placed w from x q (omega arith) (omega arith)

  left_front : (m : ℕ) → m ≤ from → take m left ≡ take m w
  left_front m g = rw left_is (take_placed w from x m g (omega arith))

  left_entries : (k free : ℕ) → directory_size b ≤ from → free ≤ from → Entries b w k free → Entries b left k free
  left_entries k free d f t =
      rw left_is (entries_kept b w (placed w from x) k free from (length_placed w from x (omega arith)) f (take_placed w from x (directory_size b) d (omega arith)) (λ i g. get_d_before w from x i g (omega arith)) t)

-- ---- one entry more, where y is what the directory is left as
module _ (b w y : List ℕ) (n free size : ℕ) (e : size ≡ directory_size b) (t : Entries b w n free) (h : size ≤ length w) (ly : length y ≡ length (take size w)) where
  abbrev grown : List ℕ
  grown = y ++ drop size w

  y_length : length y ≡ size
  y_length = ly ∙ length-take-le size w h

  grown_front : directory b grown ≡ y
  grown_front = ap (λ (m : ℕ). take m grown) (sym e) ∙ take_at y (drop size w) size y_length

  pub grown_length : length grown ≡ length w
  grown_length = omega (arith, length-append y (drop size w), length-drop size w, y_length)

  pub grown_behind : (i : ℕ) → size ≤ i → get_or grown i 0 ≡ get_or w i 0
  grown_behind i g =
      let k : length y + (i - size) ≡ i = omega (arith, y_length) in
      let m : size + (i - size) ≡ i = omega arith in
      ap (λ (q : ℕ). get_or grown q 0) (sym k) ∙ get_or-append-add y (drop size w) (i - size) 0 ∙ get_or-drop size w (i - size) 0 ∙ ap (λ (q : ℕ). get_or w q 0) m

  module _ (key carried : ℕ) (f : Fresh (directory b w) n key) (added : Bool)
      (a : (cs : List ℕ) → length cs ≡ n → Tree (take size w) cs → Added (take size w) y cs carried key added) where
    abbrev keys : List ℕ
    keys = t.keys

    front : take size w ≡ directory b w
    front = ap (λ (m : ℕ). take m w) e

    grows : Grown (take size w) y keys carried key
    unfolding Added Fresh
    grows = go added (a keys t.counted (rw front t.tree))
      where
        go : (r : Bool) → Added (take size w) y keys carried key r → Grown (take size w) y keys carried key
        go true g = g
        go false g = absurd (true_false g (f keys t.counted t.tree))

    module _ (more : ℕ) (l : free ≤ more) (new : Noted b grown more carried key) where
      old_noted : (k : ℕ) → k < n → Noted b grown more (carried_at (directory b grown) k) (get_or (keys ++ (key ∷ [])) k 0)
      old_noted k g =
          let m : k < length keys = omega (arith, t.counted) in
          let c : carried_at (directory b grown) k ≡ carried_at (directory b w) k = ap (λ (x : List ℕ). carried_at x k) grown_front ∙ grows.others k m ∙ ap (λ (x : List ℕ). carried_at x k) front in
          rw (c, get_or-append keys (key ∷ []) 0 k m)
          (noted_kept b w grown free more _ _ grown_length l (λ i g n. grown_behind i (omega (arith, e))) (t.noted k g))

      last_noted : (k : ℕ) → k ≡ length keys → Noted b grown more (carried_at (directory b grown) k) (get_or (keys ++ (key ∷ [])) k 0)
      last_noted k i =
          let c : carried_at (directory b grown) k ≡ carried = ap₂ carried_at grown_front i ∙ grows.carries in
          rw (c, i, get_or-append_seam keys key [] 0) new

      pub entries_more : Entries b grown (n + 1) more
      entries_more = record {
        keys = keys ++ (key ∷ []);
        counted = length-append keys (key ∷ []) ∙ ap (λ (m : ℕ). m + 1) t.counted;
        tree = rw grown_front grows.tree;
        noted = λ k g. elim (dec_le (k + 1) n) [
          | yes m ↦ old_noted k (omega arith)
          | no m ↦ last_noted k (omega (arith, t.counted))
        ];
      }

-- ---- a table that the directory has from now on: u is what is left once the numbers of its declarations and bytes are stored, and y what the directory is
-- left as behind that
module _ (b w u y : List ℕ) (size start : ℕ) (t : JudgedTable) (j : Judged) (e : Enters b w size start t j) (f : t.from ≡ start + 2)
    (ui : u ≡ placed w start (t.count ∷ (t.place.end - t.place.at) ∷ [])) (h : start + 2 ≤ length w) (d : size ≤ start) (ly : length y ≡ length (take size u)) where
  abbrev bytes : ℕ
  bytes = t.place.end - t.place.at

  abbrev head : List ℕ
  head = t.count ∷ bytes ∷ []

  u_length : length u ≡ length w
  u_length = ap length ui ∙ length_placed w start head (omega arith)

  u_front : take size u ≡ take size w
  u_front = ap (take size) ui ∙ take_placed w start head size d (omega arith)

  u_room : size ≤ length u
  u_room = omega (arith, u_length)

  u_other : (i : ℕ) → (start ≤ i → i < start + 2 → ⊥) → get_or u i 0 ≡ get_or w i 0
  u_other i z = ap (λ (x : List ℕ). get_or x i 0) ui ∙ elim (dec_le (i + 1) start) [
    | yes m ↦ get_d_before w start head i (omega arith) (omega arith)
    | no m ↦ elim (dec_le (start + 2) i) [
      | yes n ↦ get_d_behind w start head i (omega arith) (omega arith)
      | no n ↦ absurd (z (omega arith) (omega arith))
    ]
  ]

  u_directory : directory b u ≡ directory b w
  u_directory = ap (λ (n : ℕ). take n u) (sym e.size_is) ∙ u_front ∙ ap (λ (n : ℕ). take n w) e.size_is

  u_entries : Entries b u j.entries j.free
  u_entries = entries_kept b w u j.entries j.free start u_length e.free_is u_directory (λ i l. u_other i (λ m n. omega arith)) e.entries

  abbrev v : List ℕ
  v = y ++ drop size u

  v_length : length v ≡ length w
  v_length = grown_length b u y j.entries j.free size e.size_is u_entries u_room ly ∙ u_length

  v_behind : (i : ℕ) → size ≤ i → get_or v i 0 ≡ get_or u i 0
  v_behind = grown_behind b u y j.entries j.free size e.size_is u_entries u_room ly

  -- the words in front of its tree
  stored_at : (i : ℕ) → i < 2 → get_or v (start + i) 0 ≡ get_or head i 0
  stored_at i l = v_behind (start + i) (omega arith) ∙ ap (λ (x : List ℕ). get_or x (start + i) 0) ui ∙ get_d_placed w start head i (omega arith) (omega arith)

  at_start : get_or v start 0 ≡ t.count
  at_start = let z : start ≡ start + 0 = omega arith in ap (λ (n : ℕ). get_or v n 0) z ∙ stored_at 0 (omega arith)

  new_held : Held b v t
  new_held = held_kept b w v t v_length (λ i g l. v_behind i (omega arith) ∙ u_other i (λ m n. absurd (omega arith))) e.held

  new_stored : Stored b v (t.from + 5 * t.count) start t.place.at
  unfolding table_from
  new_stored =
      let l = e.held.lies.0 in
      let whole : t.place.at + bytes ≡ t.place.end = omega arith in
      record {
        behind = omega (arith, e.size_is);
        before = omega (arith, at_start);
        held = rw (at_start, stored_at 1 (omega arith), whole, ← f) new_held;
      }

  module _ (small : t.place.at < 2 ^ 32) (code : ℕ) (added : Bool) (c : code ≡ t.place.at)
      (a : (cs : List ℕ) → length cs ≡ j.entries → Tree (take size u) cs → Added (take size u) y cs start code added) where
    new_noted : Noted b v (t.from + 5 * t.count) start t.place.at
    unfolding run_key
    new_noted = record { table = λ l. new_stored; run = λ at known l i. absurd (no_run at known i) }
      where
        no_run : (at : ℕ) (known : Bool) → t.place.at ≡ run_key at known → ⊥
        no_run at true i = omega (arith, i)
        no_run at false i = omega (arith, i)

    pub entered : Knows b v t.place (record { last = Some t; entries = j.entries + 1; free = t.from + 5 * t.count }) t
    entered =
        recalled b v t.place t (j.entries + 1) (t.from + 5 * t.count) refl (omega arith) new_held
        (entries_more b u y j.entries j.free size e.size_is u_entries u_room ly t.place.at start (subst (λ (x : List ℕ). Fresh x j.entries t.place.at) (sym u_directory) e.fresh) added
        (rw c at a) (t.from + 5 * t.count) (omega (arith, e.free_is)) new_noted)

-- ---- behind the other tables: x is what the words behind the new one's first two are left as
module _ (b w x : List ℕ) (j : Judged) (start : ℕ) (p : Span) (count : ℕ) (m : Lent b w j) (g : start + 2 ≤ length b)
    (s : (j.free ≤ start) × (length b / 25 ≤ start) × (5 * j.entries + 5 ≤ length b / 25))
    (lx : length x ≡ length (mid_of (start + 2) (length b - (start + 2)) w)) (o : Lies b p) (t : TableHeld (span_bytes b p) x count) where
  abbrev n : ℕ
  n = length b - (start + 2)

  x_length : length x ≡ n
  x_length = lx ∙ mid_len (start + 2) (length b) w m.room

  room : start + 2 + n ≤ length w
  room = omega (arith, m.room)

  abbrev table : JudgedTable
  table = record { place = p; from = start + 2; count = count }

  new : Held b (put_mid (start + 2) n w x) table
  new = left_held b w x (start + 2) n x_length room p count o t

  others : Entries b (put_mid (start + 2) n w x) j.entries j.free
  others = left_entries b w x (start + 2) n x_length room j.entries j.free (omega (arith, s)) (omega (arith, s)) (remembers_entries b w j m.memory)

  pub behind_enters : Fresh (directory b w) j.entries p.at → Enters b (put_mid (start + 2) n w x) (length b / 25) start table j
  behind_enters f = record {
    size_is = refl;
    free_is = s.0;
    fresh = subst (λ (d : List ℕ). Fresh d j.entries p.at) (sym (left_front b w x (start + 2) n x_length room (directory_size b) (omega (arith, s)))) f;
    entries = others;
    held = new;
  }

  pub behind_requires : Enterable (put_mid (start + 2) n w x) (length b / 25) start table j
  behind_requires =
      let r : 5 * count ≤ length x = (held_rising (span_bytes b p) x count t).room in
      let small = m.small in
      (o.0, omega arith, omega (arith, x_length), omega arith, refl, s.1, new.inside, s.2, entries_rising b (put_mid (start + 2) n w x) j.entries j.free others)

-- ---- what was judged of it by then, moved to the front: v is what the words are left as
module _ (b w x v : List ℕ) (from : ℕ) (p : Span) (g : Extent) (room : length b ≤ length w) (h : from ≤ length b) (d : length b / 25 ≤ from)
    (lx : length x ≡ length (mid_of from (length b - from) w)) (j : Judging (span_bytes b p) x g.size g.count) (lv : length v ≡ length (put_mid from (length b - from) w x))
    (c : CopiedTo (put_mid from (length b - from) w x) v from (length b / 25) (from + 5 * g.count - from)) where
  abbrev rest : ℕ
  rest = length b - from

  rest_length : length x ≡ rest
  rest_length = lx ∙ mid_len from (length b) w room

  moved_room : length b ≤ length v
  moved_room = omega (arith, lv, same_len_mid from rest w x lx)

  nodes : 5 * g.count ≤ rest
  nodes = omega (arith, judging_room (span_bytes b p) x g.size g.count j, rest_length)

  moved_at : (q : ℕ) → q < 5 * g.count → get_or (between v (length b / 25) (length b)) q 0 ≡ get_or x q 0
  moved_at q l =
      let i : from + (length b / 25 + q - length b / 25) ≡ from + q = omega arith in
      get_or-take (length b - length b / 25) (drop (length b / 25) v) q 0 (omega (arith, nodes)) ∙ get_or-drop (length b / 25) v q 0
      ∙ c (length b / 25 + q) 0 (omega arith) (omega arith) ∙ ap (λ (k : ℕ). get_or (put_mid from rest w x) k 0) i
      ∙ left_at b w x from rest rest_length (omega (arith, room)) q (omega (arith, nodes))

  pub moved_begun : Begun b v p g
  moved_begun = judging_same (span_bytes b p) x (between v (length b / 25) (length b)) g.size g.count j (omega (arith, nodes, mid_len (length b / 25) (length b) v moved_room)) moved_at

-- ---- alone behind the directory: x is what the words there are left as
pub front_knows : (b w x : List ℕ) (p : Span) (e : Extent) (j : Judged) → length b ≤ length w → length x ≡ length (mid_of (length b / 25) (length b - length b / 25) w)
    → Owned b x p e → ((b w : List ℕ) → Remembers b w j)
    → Knows b (put_mid (length b / 25) (length b - length b / 25) w x) p
    (record { last = Some (record { place = own p e; from = length b / 25; count = e.count }); entries = j.entries; free = j.free })
    (record { place = own p e; from = length b / 25; count = e.count })
front_knows b w x p e j room lx o m =
    let from = length b / 25 in
    let n = length b - length b / 25 in
    recalled b (put_mid from n w x) p _ j.entries j.free refl o.ends
    (left_held b w x from n (lx ∙ mid_len from (length b) w room) (omega arith) (own p e) e.count o.lies o.held)
    (remembers_entries b (put_mid from n w x) j (m _ _))
