-- 36, or what is written whatever the machine.
use Rattle.std.proofs.Common.{sym, ap, ◌∙◌, length}
use Rattle.answers.specs.Answers.{Answer, written_of, output_of}
use Rattle.elf_writer.proofs.Answering.{refused_output, refused_written, written_for_machine, written_for_is}
use Rattle.elf_writer.proofs.writing.write_into_for.Goals as goal

pub returns-then-not-is_machine : goal.returns-then-not-is_machine
returns-then-not-is_machine c =
    let e = written_for_machine c.args.package.now c.args.machine (length c.args.out.now) (sym c.is_machine.ensures ∙ c.if-not-is_machine.true) in
    record { answer = refused_written _ _ e; output = c.requires ∙ refused_output _ _ _ e }

pub returns : goal.returns
returns c =
    let o = length c.args.out.now in
    let e = written_for_is c.args.package.now c.args.machine o (sym c.is_machine.ensures ∙ c.if-not-is_machine.false) in
    record {
      answer = c.write_package.ensures.answer ∙ ap (λ (a : Answer). written_of a) e;
      output = c.write_package.ensures.output ∙ ap (λ (a : Answer). output_of a o) e;
    }
