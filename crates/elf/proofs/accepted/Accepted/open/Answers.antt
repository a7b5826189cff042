-- `elf::accepted::Accepted::open` meets its contract.
use Rattle.std.proofs.Common.{◌∙◌, ◌&&◌, List, ℕ, sym, ap}
use Rattle.std.proofs.lemmas.Result.{err_from_is_err_and}
use Rattle.octets.specs.Checked.{mapped}
use Rattle.octets.specs.Lists.{all}
use Rattle.elf.specs.File.{ended, inside, wanted_of}
use Rattle.elf.specs.Held.{file_is}
use Rattle.elf.proofs.Refusals.{elf_refused, elf_bad, elf_good}
use Rattle.elf.proofs.accepted.Accepted.open.Goals as goal

pub returns-in_err-file-clause-file : goal.returns-in_err-file-clause-file
unfolding mapped
returns-in_err-file-clause-file c =
    let p = err_from_is_err_and c.from_residual.result c.from_residual.ensures.1 in
    rw (p.1, p.2) (elf_refused c.args.f.now _ c.in_err-file.ensures.file)

pub returns-then-headers_good-clause-file : goal.returns-then-headers_good-clause-file
unfolding mapped
returns-then-headers_good-clause-file c =
    let e = c.in_ok-file.file in
    let b = ap (λ (f : List ℕ). all (ended e.names.now) (file_is e).headers && all (inside f) (wanted_of (file_is e))) c.in_ok-file.ensures.bytes in
    elf_good c.args.f.now (file_is e) c.in_ok-file.ensures.file (sym b ∙ sym c.headers_good.ensures ∙ c.if-headers_good.true)

pub returns-else-headers_good-clause-file : goal.returns-else-headers_good-clause-file
unfolding mapped
returns-else-headers_good-clause-file c =
    let e = c.in_ok-file.file in
    let b = ap (λ (f : List ℕ). all (ended e.names.now) (file_is e).headers && all (inside f) (wanted_of (file_is e))) c.in_ok-file.ensures.bytes in
    elf_bad c.args.f.now (file_is e) c.in_ok-file.ensures.file (sym b ∙ sym c.headers_good.ensures ∙ c.if-headers_good.false)
