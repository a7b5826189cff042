-- The conditions by what the code holds of a package, and the verdict as callers are told it. Nothing here need be believed but `judged`, the last definition.
use Rattle.std.specs.Prelude.{Bool, true, false, not, ◌&&◌, List, [], ◌∷◌, ℕ, Option, Some, None, ◌==◌, slice_index}
use Rattle.numbers.specs.Sections.{macro_code}
use Rattle.numbers.specs.Tables.{index5}
use Rattle.index.specs.declared.reading.IndexHead.{IndexHead}
use Rattle.lookup.specs.Answers.{index_has}
use Rattle.lookup.specs.declared.opening.PackageHead.{PackageHead}
use Rattle.profile.specs.Profile.{profiled, failed}
use Rattle.profile.specs.declared.Verdict.{Verdict}

abbrev pub present_in : Option IndexHead → Bool
present_in (Some h) = true
present_in None = false

abbrev pub row_in : Option IndexHead → Bool
row_in (Some h) = not (h.units == 0)
row_in None = true

-- of a package with an object or without one
abbrev pub conditions_in : Bool → PackageHead → List Bool
conditions_in object h =
    h.encoding.five
    ∷ not h.encoding.big
    ∷ (object && not h.encoding.wide)
    ∷ h.encoding.long
    ∷ (slice_index h.sections.count macro_code == 0)
    ∷ present_in h.cu
    ∷ index_has index5 h.cu
    ∷ row_in h.cu
    ∷ []

-- 0, 1 or 21, and beside it the conditions that fail
unfoldable pub judged : List ℕ → Verdict
judged p = record { code = profiled p; failed = failed p }
