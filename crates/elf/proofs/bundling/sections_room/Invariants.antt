-- `elf::bundling::sections_room` meets its contract.
use Rattle.std.proofs.Common.{◌≡◌, ◌*◌, ◌≤◌, true, take}
use Rattle.octets.specs.Lists.{all}
use Rattle.elf.specs.Held.{file_is, sections_in, short_enough, room_sum}
use Rattle.elf.proofs.bundling.sections_room.Given as goal

abbrev pub invariant-loop-i : goal.invariant-loop-i
invariant-loop-i l = record {
  short : all short_enough (sections_in l.a.file.bytes.now l.a.file.names.now (take l.i (file_is l.a.file).headers)) ≡ true;
  sum : l.total ≡ room_sum (sections_in l.a.file.bytes.now l.a.file.names.now (take l.i (file_is l.a.file).headers));
  most : l.total ≤ 8_388_615 * l.i;
}
