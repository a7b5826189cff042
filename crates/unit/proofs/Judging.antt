-- A table judged from its front: the declarations met so far, in a tree of their codes.
use mathlib.Core.Path.{◌≡◌, refl, sym, subst, ap, ◌∙◌}
use mathlib.Core.Bool.{Bool, true, false}
use mathlib.Core.List.{List, [], ◌∷◌, ◌++◌, append-nil, append_assoc}
use mathlib.Core.Option.{some, none}
use Rattle.std.specs.Prelude.{Ok, Err}
use Prim.Native.Nat.{ℕ, ◌+◌, ◌*◌, ◌<◌, ◌≤◌}
use native.Mathlib.Omega.{arith}
use native.Mathlib.Decide.{dec_le}
use lib.ListN.{length, take, drop, length-append, length-drop, length-map, get_or-append, take-append-drop, drop_of_length-le}
use lib.Seq.{drop-drop, drop_at, take-add, length-take-le, get_or-append_seam}
use Rattle.octets.specs.Lists.{has, distinct}
use Rattle.octets.specs.Checked.{Check, pass, refuse, ◌>>=◌, require}
use Rattle.octets.proofs.Checks.{pass_inj, pass_refuse, then_pass, then_refuse, passes, fails}
use Rattle.octets.proofs.Joined.{map-append}
use Rattle.octets.proofs.Elements.{distinct_snoc, distinct_repeats}
use Rattle.unit.specs.Abbreviations.{Declaration, attributes_of, declarations_of}
use Rattle.unit.specs.Tables.{Coded, declared_at, declarations, passed, table_good}
use Rattle.unit.specs.Trees.{carried_at, Rising, Tree, Grown, Added}
use Rattle.unit.specs.TableTrees.{codes_of, no_declaration, Declares, TableTree, Met, Judging, Judges}
use Rattle.unit.specs.declared.abbreviations.Unheld.TheVariants.{Bad}
use Rattle.leb128.specs.Leb128.{unsigned}
use Rattle.unit.proofs.Sizes.{unsigned_within}
use Rattle.unit.proofs.Walks.{declared, before, table_end, table_more, table_not, walk_within}
use Rattle.unit.proofs.Local.{ended, ended_front, front_is, front_read, front_more, table_local}

-- ---- the declarations of the bytes p, whatever stands behind them
met_none : Met [] []
unfolding ◌>>=◌
met_none = record { is = λ y. go (declarations y) }
  where
    go : (m : Check (List Declaration)) → m ≡ (m >>= λ es. pass ([] ++ es))
    go (pass es) = refl
    go (refuse k) = refl

behind_one : (ds : List Declaration) (d : Declaration) (m : Check (List Declaration))
    → (m >>= before d >>= λ es. pass (ds ++ es)) ≡ (m >>= λ es. pass ((ds ++ (d ∷ [])) ++ es))
unfolding ◌>>=◌
behind_one ds d (pass es) = ap pass (sym (append_assoc ds (d ∷ []) es))
behind_one ds d (refuse k) = refl

-- a declaration more, of the bytes q
module _ (u q x : List ℕ) (i : u ≡ q ++ x) (d : Coded) (e : declared_at u ≡ pass (some d)) (h : length q ≡ d.place.end) where
  abbrev new : Declaration
  new = declared d (table_more u d e).attributes

  met_more : (p : List ℕ) (ds : List Declaration) → Met p ds → Met (p ++ q) (ds ++ (new ∷ []))
  met_more p ds m = record {
    is = λ y.
        let b : d.place.end ≤ length q = omega arith in
        let l : length q ≤ d.place.end = omega arith in
        ap declarations (append_assoc p q y) ∙ m.is (q ++ y)
        ∙ ap (λ (k : Check (List Declaration)). k >>= λ es. pass (ds ++ es))
        (front_more u q x y i d e b ∙ ap (λ (t : List ℕ). declarations (t ++ y) >>= before new) (drop_of_length-le q l))
        ∙ behind_one ds new (declarations y);
  }

  stands_more : (p y : List ℕ) (at : ℕ) → length p ≡ at → Declares ((p ++ q) ++ y) at new
  stands_more p y at l =
      let b : d.place.end ≤ length q = omega arith in
      let f = table_more u d e in
      let there : drop at ((p ++ q) ++ y) ≡ q ++ y = ap (drop at) (append_assoc p q y) ∙ drop_at p (q ++ y) at l in
      record {
        coded = d;
        size = f.size;
        is = ap declared_at there ∙ front_is u q x y i d e b;
        tag = refl;
        inside = omega (arith, f.order, length-append (p ++ q) y, length-append p q);
        read = ap attributes_of (sym (drop-drop d.place.start at ((p ++ q) ++ y))) ∙ ap (λ (t : List ℕ). attributes_of (drop d.place.start t)) there ∙ front_read u q x y i d e b;
      }

-- ---- what that says of the table
judged : (s : List ℕ) → table_good s ≡ passed (declarations s >>= λ ds. (require (distinct (codes_of ds)) 12 >>= λ _. pass ds))
unfolding table_good declarations_of declarations
judged s = refl

all_read : (s : List ℕ) (ds : List Declaration) → declarations s ≡ pass ds → distinct (codes_of ds) ≡ true → declarations_of s ≡ pass ds
unfolding declarations_of declarations
all_read s ds e g = then_pass _ _ _ e ∙ passes _ _ _ g

pub table_good_law : (s : List ℕ) (ds : List Declaration) → declarations_of s ≡ pass ds → table_good s ≡ true
unfolding table_good passed
table_good_law s ds e = ap passed e

table_refused : (s : List ℕ) (k : ℕ) → declarations s ≡ refuse k → table_good s ≡ false
unfolding passed
table_refused s k e = judged s ∙ ap passed (then_refuse _ _ k e)

table_repeats : (s : List ℕ) (ds : List Declaration) (d : Declaration) (m : Check (List Declaration)) → has (codes_of ds) d.code ≡ true
    → declarations s ≡ (m >>= λ es. pass ((ds ++ (d ∷ [])) ++ es)) → table_good s ≡ false
unfolding passed ◌>>=◌
table_repeats s ds d (refuse k) g e = table_refused s k e
table_repeats s ds d (pass es) g e = judged s ∙ ap passed (then_pass _ _ _ e ∙ fails _ _ _ again)
  where
    again : distinct (codes_of ((ds ++ (d ∷ [])) ++ es)) ≡ false
    again =
        ap (λ (x : List Declaration). distinct (codes_of x)) (append_assoc ds (d ∷ []) es)
        ∙ ap distinct (map-append (λ (x : Declaration). x.code) ds (d ∷ es))
        ∙ distinct_repeats (codes_of ds) (codes_of es) d.code g

-- ---- in a tree
pub tree_none : (w : List ℕ) → Tree w []
tree_none w = record {
  rising = record { room = omega arith; later = λ k b l m z. absurd (omega arith); among = λ k b l m. absurd (omega arith) };
  codes = λ k l. absurd (omega arith);
  reached = λ k l. absurd (omega arith);
}

held_more : (s w v : List ℕ) (ds : List Declaration) (at : ℕ) (d : Declaration) → TableTree s w ds → Grown w v (codes_of ds) at d.code → Declares s at d → TableTree s v (ds ++ (d ∷ []))
held_more s w v ds at d t g e = record {
  tree = rw (map-append (λ (x : Declaration). x.code) ds (d ∷ [])) g.tree;
  declares = λ k l. elim (dec_le (k + 1) (length ds)) [
    | yes h ↦
        let m : k < length ds = omega arith in
        rw (get_or-append ds (d ∷ []) no_declaration k m, g.others k (rw (length-map ds (λ x. x.code)) m)) (t.declares k m)
    | no h ↦
        let i : k ≡ length ds = omega (arith, length-append ds (d ∷ [])) in
        rw (i, get_or-append_seam ds d [] no_declaration) (subst (λ (x : ℕ). Declares s x d) (sym (ap (carried_at v) (sym (length-map ds (λ x. x.code))) ∙ g.carries)) e)
  ];
}

-- ---- the walk over a table: its front is read, whatever stands behind
pub judging_start : (s w : List ℕ) → Judging s w 0 0
unfolding distinct
judging_start s w = record {
  ds = [];
  met = met_none;
  counted = refl;
  differ = refl;
  held = λ y. record { tree = tree_none w; declares = λ k l. absurd (omega arith) };
  within = omega arith;
  room = omega arith;
}

module _ (s w : List ℕ) (at count : ℕ) (j : Judging s w at count) where
  -- as many codes as declarations
  codes_count : length (codes_of j.ds) ≡ count
  codes_count = length-map j.ds (λ d. d.code) ∙ j.counted

  pub judging_rising : Rising w count
  judging_rising = rw (← codes_count) (j.held []).tree.rising

  pub judging_room : 5 * count ≤ length w
  judging_room = judging_rising.room

  front_length : length (take at s) ≡ at
  front_length = length-take-le at s j.within

  met_here : declarations s ≡ (declarations (drop at s) >>= λ es. pass (j.ds ++ es))
  met_here = ap declarations (sym (take-append-drop at s)) ∙ j.met.is (drop at s)

  -- the code of zero ends the table, in n bytes
  module _ (e : declared_at (drop at s) ≡ pass none) (n : ℕ) (r : (code k : ℕ) → unsigned (drop at s) ≡ pass (code, k) → n ≡ k) where
    zero : unsigned (drop at s) ≡ pass (0, n)
    zero = let z = ended (drop at s) e in z.1 ∙ ap (λ (k : ℕ). pass (0, k)) (sym (r 0 z.0 z.1))

    zero_within : n ≤ length (drop at s)
    zero_within = unsigned_within (drop at s) 0 n zero

    pub ended_within : at + n ≤ length s
    ended_within = omega (arith, zero_within, length-drop at s, j.within)

    own : take (at + n) s ≡ take at s ++ take n (drop at s)
    own = take-add at n s

    zero_alone : declared_at (take n (drop at s)) ≡ pass none
    zero_alone =
        ap declared_at (sym (append-nil (take n (drop at s))))
        ∙ ended_front (take n (drop at s)) (drop n (drop at s)) [] n (ap unsigned (take-append-drop n (drop at s)) ∙ zero)
        (omega (arith, length-take-le n (drop at s) zero_within))

    own_read : declarations_of (take (at + n) s) ≡ pass j.ds
    own_read =
        all_read (take (at + n) s) j.ds
        (ap declarations own ∙ j.met.is (take n (drop at s)) ∙ then_pass _ _ _ (table_end (take n (drop at s)) zero_alone) ∙ ap pass (append-nil j.ds)) j.differ

    pub judging_end : (size : ℕ) → size ≡ at + n → Judges s w (Ok (record { count = count; size = size }))
    unfolding Judges
    judging_end size i =
        rw i (
          table_good_law s j.ds (ap declarations_of (sym (take-append-drop (at + n) s)) ∙ table_local (take (at + n) s) (drop (at + n) s) j.ds own_read),
          ended_within,
          record { declared = j.ds; read = own_read; counted = j.counted; held = rw own (j.held (take n (drop at s))) },
        )

  pub judging_not : (k : ℕ) → declared_at (drop at s) ≡ refuse k → Judges s w (Err Bad)
  unfolding Judges
  judging_not k e = table_refused s 12 (met_here ∙ then_refuse _ _ 12 (table_not (drop at s) k e))

  module _ (d : Coded) (e : declared_at (drop at s) ≡ pass (some d)) (v : List ℕ) (r : Bool)
      (a : (cs : List ℕ) → length cs ≡ count → Tree w cs → Added w v cs at d.code r) where
    added : (b : Bool) → r ≡ b → Added w v (codes_of j.ds) at d.code b
    added b i = subst (λ (x : Bool). Added w v (codes_of j.ds) at d.code x) i (a (codes_of j.ds) codes_count (j.held []).tree)

    -- its own bytes
    abbrev q : List ℕ
    q = take d.place.end (drop at s)

    q_is : drop at s ≡ q ++ drop d.place.end (drop at s)
    q_is = sym (take-append-drop d.place.end (drop at s))

    q_length : length q ≡ d.place.end
    q_length = length-take-le d.place.end (drop at s) (table_more (drop at s) d e).within

    q_behind : take (at + d.place.end) s ≡ take at s ++ q
    q_behind = take-add at d.place.end s

    abbrev more : Declaration
    more = declared d (table_more (drop at s) d e).attributes

    abbrev es : List Declaration
    es = j.ds ++ (more ∷ [])

    more_met : Met (take (at + d.place.end) s) es
    more_met = rw q_behind (met_more (drop at s) q _ q_is d e q_length (take at s) j.ds j.met)

    pub judging_stops : r ≡ false → Judges s v (Err Bad)
    unfolding Judges Added
    judging_stops i =
        table_repeats s j.ds more (declarations (drop (at + d.place.end) s)) (added false i)
        (ap declarations (sym (take-append-drop (at + d.place.end) s)) ∙ more_met.is (drop (at + d.place.end) s))

    pub judging_on : r ≡ true → Judging s v (at + d.place.end) (count + 1)
    unfolding Added
    judging_on i =
        let g = added true i in
        let b = walk_within s at d e j.within in
        record {
          ds = es;
          met = more_met;
          counted = length-append j.ds (more ∷ []) ∙ ap (λ (n : ℕ). n + 1) j.counted;
          differ = ap distinct (map-append (λ (x : Declaration). x.code) j.ds (more ∷ [])) ∙ distinct_snoc (codes_of j.ds) d.code j.differ g.new;
          held = λ y.
              rw q_behind
              (held_more ((take at s ++ q) ++ y) w v j.ds at more (rw (append_assoc (take at s) q y) (j.held (q ++ y))) g
              (stands_more (drop at s) q _ q_is d e q_length (take at s) y at front_length));
          within = b.1;
          room = omega (arith, j.room, b.0);
        }

-- ---- as functions name them
pub ruleset code_cases = (pass_inj, pass_refuse)
