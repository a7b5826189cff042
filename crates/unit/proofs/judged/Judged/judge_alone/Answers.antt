-- `unit::judged::Judged::judge_alone` meets its contract.
use Rattle.unit.proofs.Recalling.{recalled_alone}
use Rattle.unit.proofs.judged.Judged.judge_alone.Goals as goal

pub returns : goal.returns
returns c = recalled_alone _ _ _ _ _ _ c.requires.0 (c.nothing.ensures.memory _ _) c.judge_table.ensures c.in_ok-extent.was
