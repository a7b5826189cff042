-- `elf::file::ElfFile::code_of` meets its contract.
use Rattle.std.proofs.Common.{◌∙◌, ap, arith}
use Rattle.elf.specs.Held.{header_is, code_found}
use Rattle.elf.proofs.Names.{code_behind, code_there}
use Rattle.elf.proofs.file.ElfFile.code_of.Goals as goal

pub returns-in_err-get : goal.returns-in_err-get
returns-in_err-get c =
    let a = c.args in
    c.from_residual.ensures ∙ ap code_found (code_behind a.self.now.names.now (header_is a.h) (omega (arith, c.in_err-get.ensures.lookup.0)))

pub returns : goal.returns
returns c = let a = c.args in c.code_at.ensures ∙ ap code_found (code_there a.self.now.names.now (header_is a.h) _ c.in_ok-get.ensures.lookup.0.2)
