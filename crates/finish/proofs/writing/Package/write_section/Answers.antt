-- The section of each code by its own function.
use Rattle.std.proofs.Common.{arith}
use Rattle.finish.proofs.Dispatch.{units_few, units_asks, shared_asks, shared_put}
use Rattle.finish.proofs.writing.Package.write_section.Goals as goal

pub of_work-requires : goal.of_work-requires
of_work-requires c = units_few _ _ _ _ c.requires

pub copy_units-requires : goal.copy_units-requires
copy_units-requires c = units_asks _ _ _ _ c.requires c.of_work.result c.of_work.ensures.are c.of_work.ensures.many (omega arith)

pub write-requires : goal.write-requires
write-requires c = shared_asks _ _ _ _ c.requires (omega arith) (omega arith) _ c.shared.ensures

pub returns-in_default : goal.returns-in_default
returns-in_default c = shared_put _ _ _ _ c.requires (omega arith) (omega arith) _ c.shared.ensures _ _ c.write.ensures
