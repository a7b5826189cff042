-- `elf::bundling::put_sections` meets its contract.
use Rattle.std.proofs.Common.{◌≡◌, ◌+◌, take}
use Rattle.elf.specs.Held.{file_is, sections_in, room_sum, Appended}
use Rattle.elf.proofs.bundling.put_sections.Given as goal

abbrev pub invariant-loop-i : goal.invariant-loop-i
invariant-loop-i l = record {
  place : l.at ≡ l.from + room_sum (sections_in l.a.file.bytes.now l.a.file.names.now (take l.i (file_is l.a.file).headers));
  put : Appended (sections_in l.a.file.bytes.now l.a.file.names.now (take l.i (file_is l.a.file).headers)) l.from l.initial.out l.out;
}
