-- What stays of work while units or strings are filed; `kept/specs/State.antt` says what is held. Nothing here need be believed.
use Rattle.std.specs.Prelude.{◌≡◌, List, ℕ, ◌/◌, length}
use Rattle.strings.specs.declared.table.StringTable.{StringTable}
use Rattle.kept.specs.Regions.{strings_region, rows_region, codes_region, store_region, region, Only}
use Rattle.unit.specs.TableTrees.{Remembers}
use Rattle.unit.specs.declared.judged.Judged.{Judged}
use Rattle.kept.specs.declared.state.InProgress.{InProgress}

-- the words of a bundle, by which work is laid out
abbrev pub words_in : List ℕ → ℕ
words_in b = length b / 4

-- the same with another table of strings
abbrev pub with_strings : InProgress → StringTable → InProgress
with_strings st t = record { units = st.units; bases = st.bases; strings = t; skipped = st.skipped }

-- the strings are as they were, in work for a bundle of n words and by value
pub record StringsKept (n : ℕ) (w v : List ℕ) (st next : InProgress) : Type 0 where
  pub same : length v ≡ length w
  pub strings : region v n strings_region ≡ region w n strings_region
  pub table : next.strings ≡ st.strings

-- nothing but the strings and the memory behind them has changed
abbrev pub OnlyStore : ℕ → List ℕ → List ℕ → Type 0
OnlyStore n w v = Only store_region n w v

-- what counts for one object or one table alone is as it was
pub record TransientStay (n : ℕ) (w v : List ℕ) : Type 0 where
  pub rows : region v n rows_region ≡ region w n rows_region
  pub codes : region v n codes_region ≡ region w n codes_region

-- the abbreviation tables that were judged, in work w for the bundle b
abbrev pub Remembered : List ℕ → List ℕ → Judged → Type 0
Remembered b w j = Remembers b (region w (words_in b) codes_region) j
