-- Work and what is by value hold the units that are filed. Nothing here need be believed.
use Rattle.std.specs.Prelude.{◌≡◌, Bool, List, [], ◌∷◌, ℕ, ◌+◌, ◌*◌, ◌^◌, ◌<◌, ◌≤◌, length, slice_index}
use Rattle.numbers.specs.Limits.{bundle_limit, work_for_word, least_unit_bytes}
use Rattle.numbers.specs.Sections.{section_codes}
use Rattle.index.specs.Rows.{BySection}
use Rattle.package.specs.Filing.{Filed, kept, repeat, namesake, of_kind, count_of}
use Rattle.package.specs.Pack.{unit_bytes}
use Rattle.kept.specs.Regions.{records_region, region}
use Rattle.kept.specs.Slots.{seen_slots, slots_in}
use Rattle.kept.specs.Held.{OneOrTwo, UnitsHeld}
use Rattle.kept.specs.declared.state.InProgress.{InProgress}
use Rattle.kept.specs.declared.state.Skipped.{Skipped}

-- one unit more is skipped, whose bytes agree with the kept one's or don't
abbrev pub counted_one : Skipped → Bool → Skipped
counted_one s agrees = record { repeats = s.repeats + of_kind repeat agrees; namesakes = s.namesakes + of_kind namesake agrees }

abbrev pub skipped_one : InProgress → Bool → InProgress
skipped_one st agrees = record { units = st.units; bases = st.bases; strings = st.strings; skipped = counted_one st.skipped agrees }

-- what holds of each unit that was read
pub record UnitGood (u : Filed) : Type 0 where
  pub tables : OneOrTwo u.table
  pub homes : OneOrTwo u.home
  pub identity_not0 : u.identity ≡ 0 → ⊥
  pub identity_fits : u.identity < 2 ^ 64

-- each unit of a list is good
unfoldable pub UnitsGood : List Filed → Type 0
UnitsGood [] = Unit {0}
UnitsGood (u ∷ us) = UnitGood u × UnitsGood us

-- the units us are filed, of a bundle b of n words that is read up to a place; bases are those of the object at hand
pub record Held (five : Bool) (b : List ℕ) (n place : ℕ) (w : List ℕ) (st : InProgress) (bases : BySection ℕ) (us : List Filed) : Type 0 where
  pub room : work_for_word * n ≤ length w
  pub words : length b ≡ 4 * n
  pub some : 2 ≤ n
  pub units : UnitsGood us
  -- a unit takes at least 20 bytes of the bundle
  pub spent : least_unit_bytes * length us ≤ place
  pub held : UnitsHeld five b (region w n records_region) (λ t. slots_in w n t (seen_slots n)) st.units (kept us)
  pub based : (c : ℕ) → c < section_codes → slice_index st.bases c ≡ bases c
  -- so that all cells fit 32 bits: what was read lies before the place
  pub low : (c : ℕ) → bases c ≤ place
  pub units_low : (h : ℕ) → length (unit_bytes (kept us) h) ≤ place
  pub within : place ≤ length b
  pub limit : length b ≤ bundle_limit
  pub repeated : st.skipped.repeats ≡ count_of repeat us
  pub named : st.skipped.namesakes ≡ count_of namesake us
