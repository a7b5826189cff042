-- `kept::slots::seek_in` meets its contract.
use Rattle.kept.proofs.Placing.{slots_power}
use Rattle.kept.proofs.slots.seek_in.Goals as goal

pub seek-requires : goal.seek-requires
seek-requires c = rw c.of_work.ensures.slots (slots_power _ c.args.work.now _ _ _ c.requires.can)
