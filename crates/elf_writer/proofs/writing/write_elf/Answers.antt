-- `elf_writer::writing::write_elf` meets its contract.
use Rattle.std.proofs.Common.{◌∙◌, sym, ap}
use Rattle.octets.specs.Octets.{zeros}
use Rattle.elf_writer.proofs.writing.write_elf.Goals as goal

pub write_into-requires : goal.write_into-requires
unfolding zeros
write_into-requires c = c.fill.ensures.after (λ y e. e) ∙ ap zeros (sym c.fill.ensures.len)
