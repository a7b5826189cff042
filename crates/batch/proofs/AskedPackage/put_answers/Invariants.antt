-- `batch::AskedPackage::put_answers` meets its contract.
use Rattle.batch.proofs.Answering.{Answering}
use Rattle.batch.proofs.AskedPackage.put_answers.Given as goal

abbrev pub invariant-loop-i : goal.invariant-loop-i
invariant-loop-i l = Answering l.self.bytes.now l.self.version l.questions l.initial.answers l.answers l.i
