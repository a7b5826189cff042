-- `elf_writer::sections::Sections::put_headers` meets its contract.
use Rattle.elf_writer.proofs.Headings.{Heading}
use Rattle.elf_writer.proofs.sections.Sections.put_headers.Given as goal

abbrev pub invariant-loop-code : goal.invariant-loop-code
invariant-loop-code l = Heading l.big l.table l.self.scan l.initial.d l.from l.d l.h l.code
