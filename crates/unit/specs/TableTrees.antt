-- A table that was judged: its declarations in a tree of their codes, whose nodes carry where in the table they stand. What was judged is remembered.
-- These relations say what the code keeps: no definition of reading units rests on them.
use Rattle.std.specs.Prelude.{Option, Some, None, Result, Ok, Err, IfSome, ◌≡◌, Bool, true, false, List, [], ◌++◌, map, ℕ, ◌+◌, ◌-◌, ◌*◌, ◌/◌, ◌^◌, ◌<◌, ◌≤◌, length, take, drop, slice_index, slice_index_or, if◌then◌else◌}
use Rattle.std.proofs.Math.Option.{some}
use Rattle.octets.specs.Octets.{part}
use Rattle.octets.specs.Lists.{distinct}
use Rattle.octets.specs.Checked.{pass, ◌>>=◌}
use Rattle.unit.specs.Abbreviations.{Declaration, attributes_of, declarations_of}
use Rattle.unit.specs.Tables.{Coded, declared_at, declarations, table_good}
use Rattle.unit.specs.Runs.{Quiet}
use Rattle.unit.specs.Trees.{node_words, carried_at, Rising, Tree, Fresh}
use Rattle.unit.specs.declared.judged.Span.{Span}
use Rattle.unit.specs.declared.judged.JudgedTable.{JudgedTable}
use Rattle.unit.specs.declared.judged.Judged.{Judged}
use Rattle.unit.specs.declared.header.UnitPlace.{UnitPlace}
use Rattle.unit.specs.declared.abbreviations.Extent.{Extent}
use Rattle.unit.specs.declared.abbreviations.Unheld.{Unheld}
use Rattle.unit.specs.declared.abbreviations.Unheld.TheVariants.{Bad, Full}
use Rattle.numbers.specs.declared.refusals.Refusal.{Refusal}
use Rattle.numbers.specs.declared.refusals.Refusal.TheVariants.{NoIdentity}

abbrev pub codes_of : List Declaration → List ℕ
codes_of ds = map (λ d. d.code) ds

-- what stands behind the end of a list of declarations, and is never read
unfoldable pub no_declaration : Declaration
no_declaration = record { code = 0; tag = 0; attributes = [] }

-- a declaration of the table s stands at a place
pub record Declares (s : List ℕ) (at : ℕ) (d : Declaration) : Type 0 where
  pub coded : Coded
  pub size : ℕ
  pub is : declared_at (drop at s) ≡ pass (some coded)
  pub tag : d.tag ≡ coded.place.tag
  pub inside : at + coded.place.start ≤ length s
  pub read : attributes_of (drop (at + coded.place.start) s) ≡ pass (d.attributes, size)

pub record TableTree (s w : List ℕ) (ds : List Declaration) : Type 0 where
  pub tree : Tree w (codes_of ds)
  pub declares : (k : ℕ) → k < length ds → Declares s (carried_at w k) (slice_index_or ds k no_declaration)

-- the words w hold the table s, which has so many declarations
pub record TableHeld (s w : List ℕ) (count : ℕ) : Type 0 where
  pub declared : List Declaration
  pub read : declarations_of s ≡ pass declared
  pub counted : length declared ≡ count
  pub held : TableTree s w declared

-- the declarations of the bytes p, whatever stands behind them
pub record Met (p : List ℕ) (ds : List Declaration) : Type 0 where
  pub is : (y : List ℕ) → declarations (p ++ y) ≡ (declarations y >>= λ es. pass (ds ++ es))

-- the table s is read up to a place, and the words w hold the declarations in front of it, which
-- are so many
pub record Judging (s w : List ℕ) (at count : ℕ) : Type 0 where
  pub ds : List Declaration
  pub met : Met (take at s) ds
  pub counted : length ds ≡ count
  pub differ : distinct (codes_of ds) ≡ true
  pub held : (y : List ℕ) → TableTree (take at s ++ y) w ds
  pub within : at ≤ length s
  pub room : node_words * count ≤ at

-- judged into the words w: the table's own bytes are held, whatever stands behind them. The words do not suffice only where they are fewer than the bytes
unfoldable pub Judges : List ℕ → List ℕ → Result Extent Unheld → Type 0
Judges s w (Ok r) = (table_good s ≡ true) × (r.size ≤ length s) × TableHeld (take r.size s) w r.count
Judges s w (Err Bad) = table_good s ≡ false
Judges s w (Err Full) = length w < length s

-- ---- the tables that were judged
-- the bytes of a bundle from a place to another
abbrev pub between : List ℕ → ℕ → ℕ → List ℕ
between b at end = take (end - at) (drop at b)

abbrev pub span_bytes : List ℕ → Span → List ℕ
span_bytes b p = between b p.at p.end

-- it lies in the bundle
abbrev pub Lies : List ℕ → Span → Type 0
Lies b p = (p.at ≤ p.end) × (p.end ≤ length b)

-- a table, which is read to its end, and its tree, among the words w
pub record Held (b w : List ℕ) (t : JudgedTable) : Type 0 where
  pub lies : Lies b t.place
  pub inside : t.from + node_words * t.count ≤ length w
  pub is : TableHeld (span_bytes b t.place) (part w t.from (node_words * t.count)) t.count

-- the directory: a tree in the first words, by where tables and runs start in the bundle
abbrev pub directory_share : ℕ
directory_share = 25

abbrev pub directory_size : List ℕ → ℕ
directory_size b = length b / directory_share

abbrev pub directory : List ℕ → List ℕ → List ℕ
directory b w = take (directory_size b) w

-- the words in front of a table's tree: how many declarations it has, and how many bytes
abbrev pub head_words : ℕ
head_words = 2

-- the table that starts at a place of the bundle, from a word on
unfoldable pub table_from : List ℕ → ℕ → ℕ → JudgedTable
table_from w start at = record { place = record { at = at; end = at + slice_index w (start + 1) }; from = start + head_words; count = slice_index w start }

-- it stands behind the directory and before the free words
pub record Stored (b w : List ℕ) (free start at : ℕ) : Type 0 where
  pub behind : directory_size b ≤ start
  pub before : start + head_words + node_words * slice_index w start ≤ free
  pub held : Held b w (table_from w start at)

-- the key of a run: where it starts, and whether the identity is stated before it
unfoldable pub run_key : ℕ → Bool → ℕ
run_key at known = at + 2 ^ 32 * (if known then 2 else 1)

-- what an entry of the directory says, which carries a number under a key: where the table stands that starts there, or how many bytes a run takes
pub record Noted (b w : List ℕ) (free carried key : ℕ) : Type 0 where
  pub table : key < 2 ^ 32 → Stored b w free carried key
  pub run : (at : ℕ) (known : Bool) → at < 2 ^ 32 → key ≡ run_key at known → Quiet known (take carried (drop at b))

-- n entries of the directory, the tables among them all before the free words
pub record Entries (b w : List ℕ) (n free : ℕ) : Type 0 where
  pub keys : List ℕ
  pub counted : length keys ≡ n
  pub tree : Tree (directory b w) keys
  pub noted : (k : ℕ) → k < n → Noted b w free (carried_at (directory b w) k) (slice_index keys k)

-- the last table, if there is one, is held by the words; and the tables of the directory
unfoldable pub Remembers : List ℕ → List ℕ → Judged → Type 0
Remembers b w j = IfSome j.last (Held b w) × Entries b w j.entries j.free

-- a table's tree stands behind the two words from start on, and the directory does not have it yet
pub record Enters (b w : List ℕ) (size start : ℕ) (t : JudgedTable) (j : Judged) : Type 0 where
  pub size_is : size ≡ directory_size b
  pub free_is : j.free ≤ start
  pub fresh : Fresh (directory b w) j.entries t.place.at
  pub entries : Entries b w j.entries j.free
  pub held : Held b w t

-- among n words a table more may start at one: its first two words have room there, and the
-- directory has room for a node
abbrev pub Free : ℕ → Judged → ℕ → Type 0
Free n j start =
    (start + head_words ≤ n) × (j.free ≤ start) × (n / directory_share ≤ start)
    × (node_words * j.entries + node_words ≤ n / directory_share)

-- its numbers fit into words, and the words suffice: the directory's for one node more, the others for what stands in front of the tree, and the tree
abbrev pub Enterable : List ℕ → ℕ → ℕ → JudgedTable → Judged → Type 0
Enterable w size start t j =
    (t.place.at ≤ t.place.end) × (t.place.end < 2 ^ 32) × (t.count < 2 ^ 32) × (start < 2 ^ 32)
    × (t.from ≡ start + head_words) × (size ≤ start) × (t.from + node_words * t.count ≤ length w)
    × (node_words * j.entries + node_words ≤ size) × Rising (take size w) j.entries

-- a run that the directory does not have yet takes so many bytes
pub record Notes (b w : List ℕ) (size run key : ℕ) (j : Judged) : Type 0 where
  pub size_is : size ≡ directory_size b
  pub fresh : Fresh (directory b w) j.entries key
  pub memory : Remembers b w j
  pub noted : (free : ℕ) → Noted b w free run key

-- its number fits into a word, the words have the directory, and the bundle has the run
abbrev pub Notable : List ℕ → ℕ → ℕ → Judged → Type 0
Notable w size run j = (run < 2 ^ 32) × (size < 2 ^ 32) × (size ≤ length w) × (run / directory_share ≤ size) × Rising (take size w) j.entries

-- what is judged already of the table at the front of a part stands in the words behind the
-- directory
abbrev pub Begun : List ℕ → List ℕ → Span → Extent → Type 0
Begun b w p g = Judging (span_bytes b p) (between w (directory_size b) (length b)) g.size g.count

-- t is the table at the front of a part, and the last one of the memory
pub record Knows (b w : List ℕ) (p : Span) (j : Judged) (t : JudgedTable) : Type 0 where
  pub memory : Remembers b w j
  pub last : j.last ≡ Some t
  pub starts : t.place.at ≡ p.at
  pub ends : t.place.end ≤ p.end
  pub held : Held b w t

-- the table that starts at a place, if it is remembered
abbrev pub KnownAt : List ℕ → List ℕ → Judged → ℕ → Option JudgedTable → Type 0
KnownAt b w j at (Some t) = (t.place.at ≡ at) × Held b w t
KnownAt b w j at None = Fresh (directory b w) j.entries at

-- or it is not held, and nothing is remembered
abbrev pub Joins : List ℕ → List ℕ → Span → Judged → Result JudgedTable Unheld → Type 0
Joins b w p j (Ok t) = Knows b w p j t
Joins b w p j (Err u) = (j.entries ≡ 0) × Remembers b w j × (u ≡ Bad → table_good (span_bytes b p) ≡ false)

-- or it is bad, and what is remembered is remembered rightly
abbrev pub Recalls : List ℕ → List ℕ → Span → Judged → Result JudgedTable Refusal → Type 0
Recalls b w p j (Ok t) = Knows b w p j t
Recalls b w p j (Err r) = (r ≡ NoIdentity) × Remembers b w j × (table_good (span_bytes b p) ≡ false)

-- words lent for the tables of a bundle, with what was judged before: one for each byte
pub record Lent (b w : List ℕ) (j : Judged) : Type 0 where
  pub room : length b ≤ length w
  pub small : length b < 2 ^ 32
  pub memory : Remembers b w j

-- ---- a unit's bytes, and those of the abbreviations that it is read with
abbrev pub unit_bytes : List ℕ → UnitPlace → List ℕ
unit_bytes b p = part b p.at p.size

abbrev pub abbreviations_bytes : List ℕ → UnitPlace → List ℕ
abbreviations_bytes b p = span_bytes b p.abbreviations

pub record Inside (b : List ℕ) (p : UnitPlace) : Type 0 where
  pub unit : p.at + p.size ≤ length b
  pub order : p.abbreviations.at ≤ p.abbreviations.end
  pub abbreviations : p.abbreviations.end ≤ length b
