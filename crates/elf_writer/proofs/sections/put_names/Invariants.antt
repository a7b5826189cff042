-- `elf_writer::sections::put_names` meets its contract.
use Rattle.elf_writer.specs.Held.{name_at}
use Rattle.elf_writer.proofs.Loops.{Putting}
use Rattle.elf_writer.proofs.sections.put_names.Given as goal

abbrev pub invariant-loop-code : goal.invariant-loop-code
invariant-loop-code l = Putting (name_at l.s) l.initial.d l.from l.d l.at l.code
