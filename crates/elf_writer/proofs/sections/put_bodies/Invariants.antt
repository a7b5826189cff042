-- `elf_writer::sections::put_bodies` meets its contract.
use Rattle.elf_writer.specs.Held.{body_at}
use Rattle.elf_writer.proofs.Loops.{Putting}
use Rattle.elf_writer.proofs.sections.put_bodies.Given as goal

abbrev pub invariant-loop-code : goal.invariant-loop-code
invariant-loop-code l = Putting (body_at l.package.bytes.now) l.initial.d 64 l.d l.at l.code
