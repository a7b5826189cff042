-- `elf_writer::writing::write_elf` meets its contract.
use Rattle.std.proofs.Common.{◌∙◌, sym, ap}
use Rattle.octets.specs.Octets.{zeros}
use Rattle.elf_writer.proofs.writing.write_elf_for.Goals as goal

pub write_into_for-requires : goal.write_into_for-requires
unfolding zeros
write_into_for-requires c = c.fill.ensures.after (λ y e. e) ∙ ap zeros (sym c.fill.ensures.len)
