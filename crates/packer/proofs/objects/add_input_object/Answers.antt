-- `add_input_object` meets its contract.
use Rattle.packer.proofs.OneObject.{next_is}
use Rattle.packer.proofs.objects.add_input_object.Goals as goal

pub returns-clause-next : goal.returns-clause-next
returns-clause-next c = next_is _ _ c.requires.ahead _ c.scan_object-scan.ensures
