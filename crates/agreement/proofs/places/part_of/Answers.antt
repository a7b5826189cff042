-- `agreement::places::part_of` meets its contract.
use Rattle.agreement.proofs.Located.{located, not_located, part_place_inside}
use Rattle.agreement.proofs.places.part_of.Goals as goal

pub returns-in-Ok-clause-inside : goal.returns-in-Ok-clause-inside
returns-in-Ok-clause-inside c = rw (located _ _ c.in-Ok.ensures) (part_place_inside c.args.package.now.bytes.now c.args.unit.version c.args.unit.table c.args.unit.identity c.args.code)

pub returns-in-Err-clause-place : goal.returns-in-Err-clause-place
returns-in-Err-clause-place c = not_located _ _ c.in-Err.ensures
