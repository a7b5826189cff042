-- `string_room` meets its contract.
use Rattle.packer.proofs.Start.{rooms}
use Rattle.packer.proofs.objects.string_room.Goals as goal

pub returns : goal.returns
returns c = rooms _ _ c.requires c.offsets_size.ensures
