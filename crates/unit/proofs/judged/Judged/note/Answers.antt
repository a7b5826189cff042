-- `unit::judged::Judged::note` meets its contract.
use Rattle.unit.proofs.Noting.{run_more}
use Rattle.unit.proofs.judged.Judged.note.Goals as goal

pub returns : goal.returns
returns c = λ b n. run_more b c.args.codes.now _ _ _ _ c.args.self.now n _ c.kept-count.ensures.1 c.requires.2 c.add_code.auto.codes _ c.add_code.ensures (c.spares.ensures c.if-not-spares.false)
