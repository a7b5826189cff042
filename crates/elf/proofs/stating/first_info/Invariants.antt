-- `elf::stating::first_info` meets its contract.
use Rattle.std.proofs.Common.{◌≡◌, drop}
use Rattle.octets.specs.Lists.{those}
use Rattle.elf.specs.File.{is_wanted}
use Rattle.elf.specs.Reader.{first_info}
use Rattle.elf.specs.Held.{file_is}
use Rattle.elf.proofs.stating.first_info.Given as goal

abbrev pub invariant-loop-i : goal.invariant-loop-i
invariant-loop-i l =
    first_info l.a.file.bytes.now l.a.file.names.now (those (is_wanted l.a.file.names.now) (drop l.i (file_is l.a.file).headers))
    ≡ first_info l.a.file.bytes.now l.a.file.names.now (those (is_wanted l.a.file.names.now) (file_is l.a.file).headers)
