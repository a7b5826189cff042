-- `elf::bundling::header_room` meets its contract.
use Rattle.std.proofs.Common.{length, arith}
use Rattle.bundle.proofs.Next.{filled_up_most}
use Rattle.elf.specs.Held.{header_sections}
use Rattle.elf.proofs.Opened.{room_skip, room_long, room_fits}
use Rattle.elf.proofs.bundling.header_room.Goals as goal

pub returns-in_default : goal.returns-in_default
returns-in_default c = room_skip (header_sections c.args.a.now.file c.args.i) c.in_default.ensures

pub returns-then-s-gt-SECTION_LIMIT : goal.returns-then-s-gt-SECTION_LIMIT
returns-then-s-gt-SECTION_LIMIT c = room_long (header_sections c.args.a.now.file c.args.i) _ c.in-Some.ensures c.if-s-gt-SECTION_LIMIT.true

pub overflow_add-result : goal.overflow_add-result
overflow_add-result c = omega (arith, c.filled_up.ensures, filled_up_most (length c.in-Some.s.bytes.now))

pub returns : goal.returns
returns c = room_fits (header_sections c.args.a.now.file c.args.i) _ c.in-Some.ensures c.if-s-gt-SECTION_LIMIT.false c.filled_up.result c.filled_up.ensures
