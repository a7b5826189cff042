-- What the packer has when all objects are filed and both tables are placed, towards the sections of the package by code.
use Rattle.std.specs.Prelude.{◌≡◌, Bool, true, false, List, [], ◌∷◌, ◌++◌, ℕ, ◌+◌, ◌*◌, ◌-◌, ◌/◌, ◌<◌, ◌≤◌, length, set, ◌==◌, slice_index, if◌then◌else◌, Ok}
use Rattle.numbers.specs.Sections.{info_code, types_code, str_offsets_code, str_code, cu_index_code, tu_index_code, section_codes, first_shared, last_shared}
use Rattle.octets.specs.Octets.{placed, padded, zeros}
use Rattle.numbers.specs.Limits.{bundle_limit, work_for_word, section_limit}
use Rattle.numbers.specs.Tables.{compilation_table, type_table}
use Rattle.bundle.specs.Bundle.{kinds, section_kind, lengths, Bundle, bundle_of}
use Rattle.bundle.specs.Encoded.{encoding_is}
use Rattle.bundle.specs.Written.{word_bytes, written}
use Rattle.bundle.specs.declared.encoding.ObjectEncoding.{ObjectEncoding}
use Rattle.strings.specs.Strings.{first_uses, str_of}
use Rattle.strings.specs.Kept.{Kept}
use Rattle.index.specs.Probing.{slots_for}
use Rattle.kept.specs.Regions.{Layout, records_region, slots_region, least_unit, record_words, region, table_words, Apart}
use Rattle.kept.specs.Columns.{codes_in}
use Rattle.kept.specs.Records.{of_table, identities_in, bytes_from, UnitsInside}
use Rattle.kept.specs.Slots.{Within, SeenHeld, slots_in, Placeable, Fitting}
use Rattle.kept.specs.Indexed.{index_size, index_in}
use Rattle.kept.specs.Held.{OneOrTwo}
use Rattle.kept.specs.declared.Table.{Table}
use Rattle.kept.specs.declared.Units.{Units}
use Rattle.kept.specs.declared.state.InProgress.{InProgress}
use Rattle.kept.specs.declared.writing.IndexForm.{IndexForm}
use Rattle.finish.specs.Joining.{sections_joined, shared_joined, remaps, table_lent, UsedBy}
use Rattle.finish.specs.Sections.{Sized, sections_by, sizes_good, framed_size, length_of}
use Rattle.finish.specs.Writing.{Writing}
use Rattle.finish.specs.declared.joining.SharedSections.{SharedSections}
use Rattle.finish.specs.declared.writing.Package.{Package}

-- ---- sizes
-- a table's index, 0 without rows
unfoldable pub index_size_of : Bool → Table → ℕ
index_size_of five t = if t.rows == 0
    then 0
    else index_size (length (codes_in five t.has)) t.rows (slots_for t.rows)

-- by section code
unfoldable pub sizes_of : Bool → InProgress → List ℕ
sizes_of five st =
    set
    (set (set (set (set (set st.bases 0 0) info_code st.units.info) types_code st.units.types) str_code st.strings.size) cu_index_code
    (index_size_of five st.units.cu))
    tu_index_code
    (index_size_of five st.units.tu)

-- ---- slots
-- records and slots of both tables fit the work area
pub record TablesPlaceable (words : ℕ) (u : Units) (room : ℕ) : Type 0 where
  pub enough : work_for_word * words ≤ room
  pub some : 2 ≤ words
  pub limit : 4 * words ≤ bundle_limit
  pub few : least_unit * u.count ≤ words
  pub cu_few : u.cu.rows ≤ u.count
  pub tu_few : u.tu.rows ≤ u.count

-- the slots of a table of so many rows name its records, among n; w is work before, v behind
abbrev pub SlotsHeld : (words n table rows : ℕ) (w v : List ℕ) → Type 0
SlotsHeld words n table rows w v =
    SeenHeld (region w words records_region) (slots_in v words table (slots_for rows)) n (identities_in (region w words records_region) n table)

-- those of both tables do, and all else is as it was
pub record BothPlaced (words : ℕ) (u : Units) (w v : List ℕ) : Type 0 where
  pub same : length v ≡ length w
  pub others : (s : Layout) → Apart (slots_region compilation_table) s → Apart (slots_region type_table) s → region v words s ≡ region w words s
  pub cu : SlotsHeld words u.count compilation_table u.cu.rows w v
  pub tu : SlotsHeld words u.count type_table u.tu.rows w v

-- both tables fit, so that they are placed
pub record TablesPlaced (words : ℕ) (u : Units) (w v : List ℕ) : Type 0 where
  pub placed : Fitting (region w words records_region) u.count compilation_table (slots_for u.cu.rows)
      → Fitting (region w words records_region) u.count type_table (slots_for u.tu.rows)
      → BothPlaced words u w v

-- ---- one table's index
abbrev pub form_of : ObjectEncoding → ℕ → Table → IndexForm
form_of e table t = record { big = e.big; five = e.five; table = table; rows = t.rows; has = t.has }

-- work for a bundle of so many words holds n records, and s is the index of those of a table
pub record IndexHeld (f : IndexForm) (words n : ℕ) (w s : List ℕ) : Type 0 where
  pub can : Placeable words (length w) f.table n (slots_for f.rows)
  pub many : length (of_table (region w words records_region) n f.table) ≡ f.rows
  pub none : f.rows ≡ 0 → s ≡ []
  pub within : Within (slots_in w words f.table (slots_for f.rows)) n
  pub some : (f.rows ≡ 0 → ⊥) → s ≡ index_in f (region w words records_region) n (slots_in w words f.table (slots_for f.rows))

pub record IndexWritable (f : IndexForm) (words n : ℕ) (w : List ℕ) (long at : ℕ) : Type 0 where
  pub bytes : List ℕ
  pub held : IndexHeld f words n w bytes
  pub room : at + length bytes ≤ long

-- ---- all sections
-- s says what the sections are
pub record Ready (e : ObjectEncoding) (b : List ℕ) (st : InProgress) (w : List ℕ) (s : ℕ → List ℕ) : Type 0 where
  pub bundle : Bundle
  pub reads : bundle_of b ≡ Ok bundle
  pub limit : length b ≤ bundle_limit
  pub whole : length b ≡ 4 * (length b / 4)
  pub room : work_for_word * (length b / 4) ≤ length w
  -- info and types
  pub few : record_words * st.units.count ≤ records_region.words * (length b / 4)
  pub inside : UnitsInside b (region w (length b / 4) records_region) st.units.count
  pub units_are : (c : ℕ) → OneOrTwo c → s c ≡ bytes_from b (region w (length b / 4) records_region) c 0 st.units.count
  pub info_many : st.units.info ≡ length (s info_code)
  pub types_many : st.units.types ≡ length (s types_code)
  -- strings
  pub used : List (List ℕ)
  pub kept : Kept b (table_words w (length b / 4) st.strings.room) st.strings used
  pub small : st.strings.over ≡ false
  pub str_is : s str_code ≡ str_of (first_uses used)
  pub good : UsedBy (encoding_is e) b bundle.objects used
  -- shared sections
  pub based : (c : ℕ) → first_shared ≤ c → c ≤ last_shared → slice_index st.bases c ≡ length (sections_joined b bundle.objects c)
  pub shared : (c : ℕ) → first_shared ≤ c → c ≤ last_shared → s c ≡ shared_joined (encoding_is e) (first_uses used) b bundle.objects c
  -- indexes
  pub cu : IndexHeld (form_of e compilation_table st.units.cu) (length b / 4) st.units.count w (s cu_index_code)
  pub tu : IndexHeld (form_of e type_table st.units.tu) (length b / 4) st.units.count w (s tu_index_code)

-- of a package: s says what its sections are
abbrev pub ReadyFor : Package → (ℕ → List ℕ) → Type 0
ReadyFor p s = Ready p.encoding p.bundle.now p.state p.work.now s

-- the words of its bundle
abbrev pub words_of : Package → ℕ
words_of p = length p.bundle.now / 4

-- what is joined of all objects of a package
pub record SharedOf (p : Package) (s : SharedSections) : Type 0 where
  pub encoding : s.encoding ≡ p.encoding
  pub bundle : s.bundle.now ≡ p.bundle.now
  pub remapped : (code : ℕ) → remaps s.table code ≡ (code == str_offsets_code)
  pub table : table_lent s.table ≡ table_words p.work.now (words_of p) p.state.strings.room

-- one section fits at a place of n bytes
pub record SectionWritable (code : ℕ) (p : Package) (n at : ℕ) : Type 0 where
  pub sections : ℕ → List ℕ
  pub ready : ReadyFor p sections
  pub least : 1 ≤ code
  pub most : code < section_codes
  pub room : at + length (sections code) ≤ n

abbrev pub SectionPut : (code : ℕ) (p : Package) (at : ℕ) (d x : List ℕ) → Type 0
SectionPut code p at d x = (s : ℕ → List ℕ) → ReadyFor p s → x ≡ placed d at (s code)

-- the same with its word, where it is not empty
unfoldable pub framed_in : List ℕ → ℕ → ℕ → List ℕ → List ℕ
framed_in d at c x = if length x == 0
    then d
    else placed d at (word_bytes (section_kind * kinds + c * lengths + length x) ++ x)

pub record FrameWritable (code size : ℕ) (p : Package) (n at : ℕ) : Type 0 where
  pub sections : ℕ → List ℕ
  pub ready : ReadyFor p sections
  pub least : 1 ≤ code
  pub most : code < section_codes
  pub sized : size ≡ length (sections code)
  pub short : size ≤ section_limit
  pub room : at + framed_size size ≤ n

abbrev pub FramePut : (code size : ℕ) (p : Package) (at : ℕ) (d x : List ℕ) → Type 0
FramePut code size p at d x = (s : ℕ → List ℕ) → ReadyFor p s → size ≡ length (s code) → x ≡ framed_in d at code (s code)

-- head and object word stand in the output d, and the sections fit
pub record SectionsWritable (p : Package) (d : List ℕ) : Type 0 where
  pub front : List ℕ
  pub sections : ℕ → List ℕ
  pub ready : ReadyFor p sections
  pub sized : Sized p.sizes sections
  pub good : sizes_good p.sizes ≡ true
  pub started : Writing front sections d 8 1

-- all of them are put there, up to a place
abbrev pub SectionsPut : (p : Package) (d x : List ℕ) (at : ℕ) → Type 0
SectionsPut p d x at = (front : List ℕ) (s : ℕ → List ℕ) → ReadyFor p s → Sized p.sizes s → Writing front s d 8 1 → Writing front s x at section_codes

-- the output d is zero, and the package fits
pub record PackageWritable (p : Package) (d : List ℕ) : Type 0 where
  pub sections : ℕ → List ℕ
  pub ready : ReadyFor p sections
  pub sized : Sized p.sizes sections
  pub good : sizes_good p.sizes ≡ true
  pub zero : d ≡ zeros (length d)
  pub room : length_of p.sizes ≤ length d

-- a package of one object with these sections
abbrev pub written_one : Bool → ℕ → (ℕ → List ℕ) → List ℕ
written_one big word s = written big (record { word = word; sections = sections_by s } ∷ [])

abbrev pub PackagePut : (p : Package) (word : ℕ) (d x : List ℕ) → Type 0
PackagePut p word d x =
    (s : ℕ → List ℕ) → ReadyFor p s → Sized p.sizes s → x ≡ padded (written_one p.encoding.big word s) (length d - length (written_one p.encoding.big word s))
