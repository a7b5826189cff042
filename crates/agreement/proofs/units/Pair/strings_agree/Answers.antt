-- `agreement::units::Pair::strings_agree` meets its contract.
use Rattle.agreement.proofs.Strings.{part_there, sizes_same, strings_kept}
use Rattle.agreement.proofs.units.Pair.strings_agree.Goals as goal

pub returns-in_default-part_of-clause-agree : goal.returns-in_default-part_of-clause-agree
returns-in_default-part_of-clause-agree c = part_there _ _ _ _ _ c.requires.offsets c.in_default-part_of.ensures.place

pub returns-clause-strings : goal.returns-clause-strings
returns-clause-strings c =
    let a = c.in-Some-part_of.ensures.place in
    let b = c.in-Some.ensures.place in
    strings_kept _ _ _ _ _ _ _ a b _ c.requires.strings _ (sizes_same _ _ _ _ _ c.requires.offsets _ _ a b) c.in_ok-entries_agree.ensures.agree c.remember.ensures
