-- `elf::bundling::put_wanted` meets its contract.
use Rattle.std.proofs.Common.{sym, ap, arith}
use Rattle.elf.specs.Held.{header_sections, room_sum}
use Rattle.elf.proofs.Rooms.{room_none}
use Rattle.elf.proofs.Putting.{appended_none, appended_one}
use Rattle.elf.proofs.Opened.{section_code, room_section, section_short, section_room}
use Rattle.elf.proofs.bundling.put_wanted.Goals as goal

pub returns-in-None-clause-next : goal.returns-in-None-clause-next
returns-in-None-clause-next c = omega (arith, ap room_sum c.in-None.ensures, room_none)

pub returns-in-None-clause-output : goal.returns-in-None-clause-output
returns-in-None-clause-output c = let a = c.args in appended_none (header_sections a.a.now.file a.i) a.at a.out.now (sym c.in-None.ensures)

pub overflow_cast-s : goal.overflow_cast-s
overflow_cast-s c = omega (arith, section_code c.args.a.now.file c.args.i _ c.in-Some.ensures)

pub put_section-requires : goal.put_section-requires
put_section-requires c =
    let a = c.args in
    let e = a.a.now.file in
    let ss = header_sections e a.i in (
      omega (arith, section_code e a.i _ c.in-Some.ensures),
      omega (arith, section_short ss _ c.in-Some.ensures a.at a.out.now c.requires.1),
      section_room ss _ c.in-Some.ensures a.at a.out.now c.requires.1,
    )

pub returns-in-Some-clause-next : goal.returns-in-Some-clause-next
returns-in-Some-clause-next c = let a = c.args in omega (arith, c.put_section.ensures.next, room_section (header_sections a.a.now.file a.i) _ c.in-Some.ensures)

pub returns-in-Some-clause-output : goal.returns-in-Some-clause-output
returns-in-Some-clause-output c =
    let a = c.args in
    appended_one (header_sections a.a.now.file a.i) _ a.at a.out.now _ (sym c.in-Some.ensures) c.requires.1.room c.put_section.ensures.output
