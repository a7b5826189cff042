-- 15 and 16 by an index or none.
use Rattle.std.specs.Prelude.{Bool, not, List, ℕ, Result}
use Rattle.std.proofs.Math.Option.{Option, some, none}
use Rattle.numbers.specs.Refusals.{no_row}
use Rattle.numbers.specs.declared.refusals.Refusal.{Refusal}
use Rattle.octets.specs.Checked.{Check, pass, ◌>>=◌, require}
use Rattle.index.specs.Index.{Index, Contribution}
use Rattle.index.specs.Rows.{BySection, row_contributions, whole_contributions}
use Rattle.index.specs.Contributed.{ContributionsAre, by_code}
use Rattle.index.specs.declared.judging.Contributions.{Contributions}
use Rattle.index.specs.declared.measures.Measures.{Measures}
use Rattle.index.specs.declared.judging.OwnUnit.{OwnUnit}
use Rattle.package.specs.Input.{Input}
use Rattle.package.specs.Filing.{contributions_of}
use Rattle.filing.specs.declared.input.InputObject.{InputObject}
use Rattle.filing.specs.declared.contributions.ReadUnit.{ReadUnit}
use Rattle.unit.specs.Headers.{unit_is}
use Rattle.unit.specs.declared.header.UnitRead.{UnitRead}
use Rattle.filing.specs.Tells.{Tells}
use Rattle.filing.specs.Judged.{InputIs}

-- without an index for the unit's table: 15 in a package of version 5
unfoldable pub whole_given : Bool → BySection ℕ → Check (BySection (Option Contribution))
whole_given packed lengths = require (not packed) no_row >>= λ _. pass (whole_contributions lengths)

unfoldable pub contributions_by : Bool → Option Index → ℕ → BySection ℕ → ℕ → ℕ → ℕ → ℕ → Check (BySection (Option Contribution))
contributions_by packed (some x) width lengths identity home at size = row_contributions x width lengths identity home at size
contributions_by packed none width lengths identity home at size = whole_given packed lengths

-- the contributions by value
abbrev pub GivenIs : Check (BySection (Option Contribution)) → Result Contributions Refusal → Type 0
GivenIs c r = Tells ContributionsAre c r

-- by measures and a unit by value
abbrev pub GivenBy : Bool → Option Index → Measures → OwnUnit → Result Contributions Refusal → Type 0
GivenBy packed o m u r = GivenIs (contributions_by packed o m.width (by_code m.lengths) u.identity u.home u.at u.size) r

-- of a unit whose table is any number, for any object
abbrev pub GivenByNumber : List ℕ → InputObject → ℕ → ℕ → ReadUnit → Result Contributions Refusal → Type 0
GivenByNumber b x home at u r =
    (i : Input) → InputIs b x i → GivenIs (contributions_of i home at (record { size = u.size; table = u.table; identity = u.identity })) r

-- of a unit that was read, for any object
abbrev pub ContributionsGiven : List ℕ → InputObject → ℕ → ℕ → UnitRead → Result Contributions Refusal → Type 0
ContributionsGiven b x home at u r =
    (i : Input) → InputIs b x i → GivenIs (contributions_of i home at (unit_is u)) r
