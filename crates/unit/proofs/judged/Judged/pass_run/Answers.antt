-- `unit::judged::Judged::pass_run` meets its contract.
use Rattle.unit.proofs.Holding.{lent_kept}
use Rattle.unit.proofs.Noting.{run_found, run_notes}
use Rattle.unit.proofs.judged.Judged.pass_run.Goals as goal

pub returns-in-Some-clause-run : goal.returns-in-Some-clause-run
returns-in-Some-clause-run c =
    (c.if-run-place.true, run_found c.args.b.now c.args.codes.now c.args.self.now c.requires.1 c.args.place c.requires.0 c.args.known _ c.run_key-key.ensures _ c.find.ensures _ c.in-Some.is)

pub returns-in-None-clause-memory : goal.returns-in-None-clause-memory
returns-in-None-clause-memory c =
    lent_kept _ _ _ _ _ c.requires.1 c.note.auto.codes
    (c.note.ensures _
    (run_notes c.args.b.now c.args.codes.now c.args.self.now c.requires.1 c.args.place c.requires.0 c.args.known _ c.run_key-key.ensures _ c.find.ensures _ c.in-None.is c.run_size-run.ensures))
