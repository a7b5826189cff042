-- `elf_writer::sections::Sections::measure` meets its contract.
use Rattle.elf_writer.proofs.Loops.{Measuring}
use Rattle.elf_writer.proofs.sections.Sections.measure.Given as goal

abbrev pub invariant-loop-code : goal.invariant-loop-code
invariant-loop-code l = Measuring l.self.scan l.e l.code
