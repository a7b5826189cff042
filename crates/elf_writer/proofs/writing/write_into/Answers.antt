-- 36, or what is written whatever the machine.
use Rattle.std.proofs.Common.{sym, ap, ◌∙◌, length}
use Rattle.answers.specs.Answers.{Answer, written_of, output_of}
use Rattle.elf_writer.proofs.Answering.{refused_output, refused_written, written_machine, written_is}
use Rattle.elf_writer.proofs.writing.write_into.Goals as goal

pub returns-then-not-machine_good : goal.returns-then-not-machine_good
returns-then-not-machine_good c =
    let e = written_machine c.args.package.now c.args.machine (length c.args.out.now) (sym c.machine_good.ensures ∙ c.if-not-machine_good.true) in
    record { answer = refused_written _ _ e; output = c.requires ∙ refused_output _ _ _ e }

pub returns : goal.returns
returns c =
    let o = length c.args.out.now in
    let e = written_is c.args.package.now c.args.machine o (sym c.machine_good.ensures ∙ c.if-not-machine_good.false) in
    record {
      answer = c.write_package.ensures.answer ∙ ap (λ (a : Answer). written_of a) e;
      output = c.write_package.ensures.output ∙ ap (λ (a : Answer). output_of a o) e;
    }
