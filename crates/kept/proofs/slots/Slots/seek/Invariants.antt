-- `kept::slots::Slots::seek` meets its contract: the looks that are left decide the walk.
use Rattle.kept.proofs.Seeking.{Seeking}
use Rattle.kept.proofs.slots.Slots.seek.Given as goal

abbrev pub invariant-loop-looks : goal.invariant-loop-looks
invariant-loop-looks l = Seeking l.self.records.words.now l.self.slots.now l.x l.at l.by l._looks
