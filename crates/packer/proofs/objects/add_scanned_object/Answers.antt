-- `add_scanned_object` meets its contract.
use Rattle.filing.proofs.Telling.{tells_exit}
use Rattle.packer.proofs.OneObject.{read_requires, object_refused, object_read, units_answered}
use Rattle.packer.proofs.objects.add_scanned_object.Goals as goal

pub read_input-requires : goal.read_input-requires
read_input-requires c =
    let p = c.requires in
    read_requires _ _ p.0.ahead _ p.1 _ _ _ _ p.0.bases p.0.inputs p.0.units p.0.held

pub returns-in_err-x : goal.returns-in_err-x
returns-in_err-x c bases is us a =
    tells_exit _ _ c.from_residual.ensures.1
    (object_refused _ _ c.requires.0.ahead _ c.requires.1 _ _ _ _ _ _ _ c.read_input.ensures.frame bases is us a _ c.in_err-x.ensures.read _ _)

pub add_object_units-requires : goal.add_object_units-requires
add_object_units-requires c =
    let p = c.requires in
    let d = object_read _ _ p.0.ahead _ p.1 _ _ _ _ _ _ _ c.read_input.ensures.frame p.0.bases p.0.inputs p.0.units p.0.held _ c.in_ok-x.ensures.read in
    record { ahead = p.0.ahead; input = d.0; bases = p.0.bases; units = p.0.units; ready = d.1.ready }

pub returns : goal.returns
returns c bases is us a =
    units_answered _ _ c.requires.0.ahead _ c.requires.1 _ _ _ _ _ _ _ c.read_input.ensures.frame bases is us a _ c.in_ok-x.ensures.read _ _ _ c.add_object_units.ensures
