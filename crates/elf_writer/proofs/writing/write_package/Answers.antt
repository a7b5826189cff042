-- 21 and 37 in this order, or the file.
use Rattle.std.proofs.Common.{◌≡◌, sym, ap, ◌∙◌, List, ℕ, arith, length}
use Rattle.std.proofs.lemmas.Result.{err_from_is_err_and}
use Rattle.octets.specs.Checked.{mapped}
use Rattle.elf.specs.Writer.{file_made, in_output}
use Rattle.elf_writer.specs.Held.{file_of, file_size}
use Rattle.elf_writer.proofs.Whole.{file_length}
use Rattle.elf_writer.proofs.Answering.{refused_output, refused_written, made_output, made_written, made_bad, made_short, made_whole}
use Rattle.elf_writer.proofs.writing.write_package.Goals as goal
use Rattle.elf_writer.proofs.writing.write_package.Goals.{After-measure-e}

-- the file of what was opened is as long as was measured
long : (n : After-measure-e) → length (file_of n.in_ok-opened.opened.bytes.now n.args.machine) ≡ file_size n.measure-e.result
long n = let k = n.in_ok-opened.opened in file_length k.bytes.now k.head k.opened _ n.measure-e.ensures n.args.machine

pub returns-in_err-opened : goal.returns-in_err-opened
unfolding mapped
returns-in_err-opened c =
    let a = c.args in
    let p = err_from_is_err_and c.from_residual.result c.from_residual.ensures.1 in
    let e = made_bad a.package.now a.machine (length a.out.now) _ c.in_err-opened.ensures.head in
    record { answer = rw (p.1, p.2) (refused_written _ _ e); output = c.requires ∙ refused_output _ _ _ e }

pub file_size-length-requires : goal.file_size-length-requires
file_size-length-requires c = c.measure-e.ensures.within

pub returns-then-out-length : goal.returns-then-out-length
returns-then-out-length c =
    let a = c.args in
    let k = c.in_ok-opened.opened in
    let o = length a.out.now in
    let l = long (goal.at.returns-then-out-length c).After-measure-e in
    let w = made_short k.bytes.now a.machine o k.opened.is (omega (arith, l, c.file_size-length.ensures, c.if-out-length.true)) in
    let e = ap (λ (p : List ℕ). in_output (file_made p a.machine) o) (sym c.in_ok-opened.ensures.bytes) ∙ w in
    record { answer = refused_written _ _ e; output = c.requires ∙ refused_output _ _ _ e }

pub put_file-requires : goal.put_file-requires
put_file-requires c = record { measured = c.measure-e.ensures; blank = c.requires; room = omega (arith, c.file_size-length.ensures, c.if-out-length.false) }

pub returns : goal.returns
returns c =
    let a = c.args in
    let k = c.in_ok-opened.opened in
    let o = length a.out.now in
    let l = long (goal.at.returns c).After-measure-e in
    let w = made_whole k.bytes.now a.machine o k.opened.is (omega (arith, l, c.file_size-length.ensures, c.if-out-length.false)) in
    let e = ap (λ (p : List ℕ). in_output (file_made p a.machine) o) (sym c.in_ok-opened.ensures.bytes) ∙ w in
    record { answer = made_written _ _ _ e (c.file_size-length.ensures ∙ sym l); output = c.put_file.ensures ∙ made_output _ _ _ e }
