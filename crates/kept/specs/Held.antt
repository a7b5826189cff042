-- Work holds the kept units of the definition.
use Rattle.std.specs.Prelude.{◌≡◌, Bool, true, false, ◌⊎◌, List, [], ◌∷◌, map, ℕ, ◌+◌, ◌*◌, ◌-◌, ◌<◌, length, ◌==◌, slice_index, if◌then◌else◌}
use Rattle.index.specs.Written.{Row, offset_of, size_of}
use Rattle.package.specs.Filing.{Filed}
use Rattle.package.specs.Pack.{rows_of, unit_bytes}
use Rattle.kept.specs.Columns.{columns_for, section_at, ColumnsHeld}
use Rattle.kept.specs.Records.{KeptUnit, record_at, records_from, of_table, bytes_of, bytes_from, UnitsInside}
use Rattle.kept.specs.Slots.{SeenHeld, Numbered}
use Rattle.kept.specs.declared.Table.{Table}
use Rattle.kept.specs.declared.Units.{Units}

unfoldable pub identities_of : List Row → List ℕ
identities_of rs = map (λ r. r.identity) rs

-- a record is a row of the definition
pub record RowIs (five : Bool) (k : KeptUnit) (r : Row) : Type 0 where
  pub identity : k.identity ≡ r.identity
  pub offset : (c : ℕ) → c < length (columns_for five) → slice_index k.cells (2 * c) ≡ offset_of (r.cells (section_at five c))
  pub size : (c : ℕ) → c < length (columns_for five) → slice_index k.cells (2 * c + 1) ≡ size_of (r.cells (section_at five c))

pub data RowsAre (five : Bool) : List KeptUnit → List Row → Type 0 where
  none : RowsAre five [] []
  more : {k : KeptUnit} {ks : List KeptUnit} {r : Row} {rs : List Row} → RowIs five k r → RowsAre five ks rs → RowsAre five (k ∷ ks) (r ∷ rs)

-- n records w and the slots of a table hold its rows
pub record TableHeld (five : Bool) (w : List ℕ) (n : ℕ) (slots : List ℕ) (table : ℕ) (t : Table) (rs : List Row) : Type 0 where
  pub count : t.rows ≡ length rs
  pub rows : RowsAre five (of_table w n table) rs
  pub numbered : Numbered w n table
  pub seen : SeenHeld w slots n (identities_of rs)
  pub columns : ColumnsHeld five t.has rs
  -- each slot that is used names a record of the table
  pub names : (k : ℕ) → (slice_index slots k ≡ 0 → ⊥) → (record_at w (slice_index slots k - 1)).table ≡ table

-- a record is a kept unit of the definition
pub record RecordIs (b : List ℕ) (k : KeptUnit) (u : Filed) : Type 0 where
  pub table : k.table ≡ u.table
  pub identity : k.identity ≡ u.identity
  pub bytes : bytes_of b k ≡ u.bytes

pub data RecordsAre (b : List ℕ) : List KeptUnit → List Filed → Type 0 where
  no_record : RecordsAre b [] []
  one_record : {k : KeptUnit} {ks : List KeptUnit} {u : Filed} {us : List Filed} → RecordIs b k u → RecordsAre b ks us → RecordsAre b (k ∷ ks) (u ∷ us)

-- of two the one, or else the other
unfoldable pub picked : {A : Type 0} → Bool → A → A → A
picked one a b = if one then a else b

-- what there is of each table and section: the first for number 1, else the second
unfoldable pub pick : {A : Type 0} → ℕ → A → A → A
pick k a b = if k == 1 then a else b

-- the units by value with one more: its table is t behind it, and its section has so many bytes
abbrev pub with_unit : Units → ℕ → Table → ℕ → ℕ → Units
with_unit u table t home bytes =
    record { count = u.count + 1; cu = pick table t u.cu; tu = pick table u.tu t; info = pick home bytes u.info; types = pick home u.types bytes }

-- tables and sections of units are numbered so
abbrev pub OneOrTwo : ℕ → Type 0
OneOrTwo k = (k ≡ 1) ⊎ (k ≡ 2)

-- records w, and the slots of each table, hold the kept units ks of a bundle
pub record UnitsHeld (five : Bool) (b w : List ℕ) (slots : ℕ → List ℕ) (u : Units) (ks : List Filed) : Type 0 where
  pub count : u.count ≡ length ks
  pub inside : UnitsInside b w u.count
  pub tables : (t : ℕ) → OneOrTwo t → TableHeld five w u.count (slots t) t (pick t u.cu u.tu) (rows_of ks t)
  pub bytes : (h : ℕ) → bytes_from b w h 0 u.count ≡ unit_bytes ks h
  pub many : (h : ℕ) → OneOrTwo h → pick h u.info u.types ≡ length (unit_bytes ks h)
  pub each : RecordsAre b (records_from w 0 u.count) ks
