-- `unit::judged::Judged::judge_once` meets its contract.
use Rattle.unit.proofs.Judging.{judging_start}
use Rattle.unit.proofs.judged.Judged.judge_once.Goals as goal

pub judge_front-requires : goal.judge_front-requires
judge_front-requires c = (c.requires.0, c.requires.1.room, c.requires.1.small, judging_start _ _)
