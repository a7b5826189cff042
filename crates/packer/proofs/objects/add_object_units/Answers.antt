-- `add_object_units` meets its contract.
use Rattle.filing.proofs.Telling.{tells_exit}
use Rattle.packer.proofs.ObjectUnits.{units_refused, bases_fit, units_added}
use Rattle.packer.proofs.objects.add_object_units.Goals as goal

pub returns-in_err-add_sections : goal.returns-in_err-add_sections
returns-in_err-add_sections c i bases us k = tells_exit _ _ c.from_residual.ensures.1 (units_refused _ _ _ _ _ _ _ i bases us k _ _ c.in_err-add_sections.ensures)

pub grown-st-requires : goal.grown-st-requires
grown-st-requires c = let p = c.requires in bases_fit _ _ _ _ _ _ _ p.input p.bases p.units p.ready c.in_ok-add_sections.ensures

pub returns : goal.returns
returns c i bases us k = units_added _ _ _ _ _ _ _ i bases us k c.in_ok-add_sections.ensures _ c.grown-st.ensures
