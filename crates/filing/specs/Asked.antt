-- What the functions that file units require and ensure, each under one name. These only tie code to definitions.
use Rattle.std.specs.Prelude.{◌≡◌, Bool, List, [], ◌∷◌, ◌++◌, ℕ, suc, ◌+◌, ◌-◌, ◌<◌, ◌≤◌, length, take, drop, Result}
use Rattle.octets.specs.Checked.{mapped}
use Rattle.numbers.specs.Refused.{told}
use Rattle.numbers.specs.Tabled.{table_number}
use Rattle.numbers.specs.declared.refusals.Refusal.{Refusal}
use Rattle.octets.specs.Octets.{part}
use Rattle.bundle.specs.Bundle.{items}
use Rattle.bundle.specs.Scan.{Reaches, sections_of, place_behind}
use Rattle.index.specs.Rows.{BySection}
use Rattle.index.specs.declared.judging.Contributions.{Contributions}
use Rattle.unit.specs.UnitRead.{common_size, unit_by}
use Rattle.unit.specs.Headers.{identity_is, identity_good, unit_is}
use Rattle.unit.specs.TableTrees.{Inside, unit_bytes, abbreviations_bytes}
use Rattle.unit.specs.declared.header.Identity.{Identity}
use Rattle.unit.specs.declared.header.UnitPlace.{UnitPlace}
use Rattle.bundle.specs.Encoded.{encoding_is}
use Rattle.unit.specs.declared.header.UnitRead.{UnitRead}
use Rattle.unit.specs.declared.judged.Judged.{Judged}
use Rattle.package.specs.Input.{Input, unit_sections}
use Rattle.package.specs.Filing.{Filed, index_by_place, abbreviations_for, unit_at, units_from, units_in}
use Rattle.kept.specs.Held.{OneOrTwo}
use Rattle.kept.specs.State.{Held}
use Rattle.kept.specs.declared.records.Unit.{Unit as UnitHead}
use Rattle.kept.specs.declared.state.InProgress.{InProgress}
use Rattle.filing.specs.declared.input.InputObject.{InputObject}
use Rattle.filing.specs.declared.units.Reading.{Reading}
use Rattle.filing.specs.Judged.{InputIs}
use Rattle.unit.specs.declared.judged.Span.{Span}
use Rattle.filing.specs.State.{words_in, Remembered}
use Rattle.kept.specs.Regions.{rows_region, region}
use Rattle.filing.specs.Answers.{AtUnit, UnitIs, UnitsAre}
use Rattle.filing.specs.Choices.{ReadAt, NewUnit}
use Rattle.filing.specs.ByPlace.{WorkFor, heads_for, ChainsHeld, AbbreviationsAre}

-- ---- a unit kept; w is work before, v behind
pub record KeepAsked (five : Bool) (n slot : ℕ) (u : UnitHead) (k : Contributions) (st : InProgress) (w : List ℕ) : Type 0 where
  pub bundle : List ℕ
  pub bases : BySection ℕ
  pub units : List Filed
  pub unit : Filed
  pub held : Held five bundle n u.start w st bases units
  pub new : NewUnit bundle n slot u k st w bases units unit

abbrev pub UnitKept : Bool → ℕ → ℕ → UnitHead → Contributions → InProgress → List ℕ → List ℕ → InProgress → Type 0
UnitKept five n slot u k st w v next =
    (b : List ℕ) (bases : BySection ℕ) (us : List Filed) (y : Filed) → Held five b n u.start w st bases us → NewUnit b n slot u k st w bases us y
    → Held five b n (u.start + u.size) v next bases (us ++ (y ∷ []))

-- ---- a unit at a place of a section
-- there is an object, and there are units filed before, for which all is at hand
pub record Ready (b : List ℕ) (x : InputObject) (place : ℕ) (w : List ℕ) (st : InProgress) : Type 0 where
  pub input : Input
  pub bases : BySection ℕ
  pub earlier : List Filed
  pub here : List Filed
  pub at_unit : AtUnit b x input place w st bases earlier here

-- one that was read from the bytes s
pub record ReadAsked (r : Reading) (at : ℕ) (u : UnitRead) (st : InProgress) (w : List ℕ) : Type 0 where
  pub from : r.section.start ≤ at
  pub homes : OneOrTwo r.section.home
  pub fits : at + u.size ≤ length r.bundle.now
  pub ready : Ready r.bundle.now r.object.now at w st
  pub bytes : List ℕ
  pub read : ReadAt ready.input r.section.home (at - r.section.start) u.size (table_number u.handed_in.table) u.handed_in.identity bytes
  pub same : take u.size bytes ≡ part r.bundle.now at u.size

abbrev pub ReadFiled : Reading → ℕ → UnitRead → InProgress → InProgress → List ℕ → List ℕ → Result ℕ Refusal → Type 0
ReadFiled r at u st next w v z =
    (i : Input) (bases : BySection ℕ) (earlier here : List Filed) (s : List ℕ) → AtUnit r.bundle.now r.object.now i at w st bases earlier here
    → ReadAt i r.section.home (at - r.section.start) u.size (table_number u.handed_in.table) u.handed_in.identity s → take u.size s ≡ part r.bundle.now at u.size
    → UnitIs r.bundle.now r.object.now i at w v st next bases earlier here (unit_at i bases earlier here r.section.home (at - r.section.start) s) z

-- ---- the unit at a place is read
-- in work w the rows stand by their places, where units of the section are read by theirs
abbrev pub RowsChained : Reading → List ℕ → Type 0
RowsChained r w = (i : Input) → InputIs r.bundle.now r.object.now i → ChainsHeld (heads_for r.section) (region w (words_in r.bundle.now) rows_region) (index_by_place i r.section.home)

pub record ChainAsked (r : Reading) (w : List ℕ) : Type 0 where
  pub input : Input
  pub is : InputIs r.bundle.now r.object.now input
  pub work : WorkFor r.bundle.now w

-- what counts for the section at hand alone: the rows by place, and the tables that were judged
pub record Transient (r : Reading) (j : Judged) (w : List ℕ) : Type 0 where
  pub chained : RowsChained r w
  pub memory : Remembered r.bundle.now w j

pub record PlaceAsked (r : Reading) (at : ℕ) (w : List ℕ) : Type 0 where
  pub from : r.section.start ≤ at
  pub low : at < r.section.stop
  pub homes : OneOrTwo r.section.home
  pub input : Input
  pub is : InputIs r.bundle.now r.object.now input
  pub work : WorkFor r.bundle.now w

abbrev pub AbbreviationsGiven : Reading → ℕ → ℕ → Result Span Refusal → Type 0
AbbreviationsGiven r at size z =
    (i : Input) → InputIs r.bundle.now r.object.now i → AbbreviationsAre r.bundle.now (abbreviations_for i r.section.home (at - r.section.start) size) z

-- the identity of a unit at a place of the bundle
pub record IdentityAsked (r : Reading) (p : UnitPlace) (j : Judged) (w : List ℕ) : Type 0 where
  pub headed : common_size (encoding_is r.object.now.encoding) ≤ p.size
  pub inside : Inside r.bundle.now p
  pub homes : OneOrTwo r.section.home
  pub work : WorkFor r.bundle.now w
  pub memory : Remembered r.bundle.now w j

abbrev pub IdentityRead : Reading → UnitPlace → Result Identity Refusal → Type 0
IdentityRead r p z =
    mapped identity_is (told z) ≡ identity_good (encoding_is r.object.now.encoding) r.section.home (abbreviations_bytes r.bundle.now p) (unit_bytes r.bundle.now p)

abbrev pub PlaceRead : Reading → ℕ → Result UnitRead Refusal → Type 0
PlaceRead r at z =
    (i : Input) → InputIs r.bundle.now r.object.now i
    → mapped unit_is (told z) ≡ unit_by i.encoding r.section.home (abbreviations_for i r.section.home (at - r.section.start)) (part r.bundle.now at (r.section.stop - at))

-- ---- and filed
pub record UnitAsked (r : Reading) (at : ℕ) (st : InProgress) (w : List ℕ) : Type 0 where
  pub from : r.section.start ≤ at
  pub low : at < r.section.stop
  pub homes : OneOrTwo r.section.home
  pub ready : Ready r.bundle.now r.object.now at w st

abbrev pub UnitAnswered : Reading → ℕ → InProgress → InProgress → List ℕ → List ℕ → Result ℕ Refusal → Type 0
UnitAnswered r at st next w v z =
    (i : Input) (bases : BySection ℕ) (earlier here : List Filed) → AtUnit r.bundle.now r.object.now i at w st bases earlier here
    → UnitIs r.bundle.now r.object.now i at w v st next bases earlier here
    (unit_at i bases earlier here r.section.home (at - r.section.start) (part r.bundle.now at (r.section.stop - at))) z

-- ---- all units of a section
pub record SectionAsked (r : Reading) (st : InProgress) (w : List ℕ) : Type 0 where
  pub homes : OneOrTwo r.section.home
  pub ready : Ready r.bundle.now r.object.now r.section.start w st

abbrev pub SectionAnswered : Reading → InProgress → InProgress → List ℕ → List ℕ → Result (Unit {0}) Refusal → Type 0
SectionAnswered r st next w v z =
    (i : Input) (bases : BySection ℕ) (earlier here : List Filed) → AtUnit r.bundle.now r.object.now i r.section.start w st bases earlier here
    → UnitsAre r.bundle.now r.object.now i r.section.stop w v st next bases earlier
    (units_from (suc (length (part r.bundle.now r.section.start (r.section.stop - r.section.start)))) i bases earlier here r.section.home 0
    (part r.bundle.now r.section.start (r.section.stop - r.section.start))) z

-- ---- all sections of units of an object
pub record ObjectAsked (b : List ℕ) (x : InputObject) (from : ℕ) (st : InProgress) (w : List ℕ) : Type 0 where
  pub reaches : Reaches b from
  pub within : from ≤ length b
  pub ready : Ready b x from w st

abbrev pub ObjectAnswered : List ℕ → InputObject → ℕ → InProgress → InProgress → List ℕ → List ℕ → Result (Unit {0}) Refusal → Type 0
ObjectAnswered b x from st next w v r =
    (i : Input) (bases : BySection ℕ) (earlier here : List Filed) → AtUnit b x i from w st bases earlier here
    → UnitsAre b x i (place_behind from (sections_of (items from (drop from b)))) w v st next bases earlier
    (units_in i bases earlier here (unit_sections b (sections_of (items from (drop from b))))) r
