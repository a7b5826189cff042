-- Both tables placed.
use Rattle.finish.proofs.TwoTables.{table_asks, second_asks, both_placed}
use Rattle.finish.proofs.tables.place_tables.Goals as goal

pub place_units-requires : goal.place_units-requires
place_units-requires c = table_asks _ _ _ c.requires _ _ _ c.requires.cu_few c.slots_for.ensures

pub place_units-requires-2 : goal.place_units-requires-2
place_units-requires-2 c = second_asks _ _ _ _ c.requires _ c.slots_for.ensures c.place_units.ensures _ c.slots_for-2.ensures

pub returns : goal.returns
returns c = both_placed _ _ _ _ c.requires _ c.slots_for.ensures c.place_units.ensures _ _ c.slots_for-2.ensures c.place_units-2.ensures
