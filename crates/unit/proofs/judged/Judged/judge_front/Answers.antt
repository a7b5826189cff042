-- `unit::judged::Judged::judge_front` meets its contract.
use Rattle.unit.proofs.Entering.{front_knows}
use Rattle.unit.proofs.Recalling.{judged_own, judged_bad}
use Rattle.unit.proofs.judged.Judged.judge_front.Goals as goal

pub returns-in-Ok : goal.returns-in-Ok
returns-in-Ok c =
    front_knows _ _ _ _ _ _ c.requires.1 c.judge_on.auto.codes
    (judged_own _ _ _ _ _ c.requires.0 c.judge_on.ensures.table c.in-Ok.is) c.nothing.ensures.memory

pub returns-in-Err : goal.returns-in-Err
returns-in-Err c = (c.nothing.ensures.empty, c.nothing.ensures.memory _ _, judged_bad _ _ _ c.judge_on.ensures.table _ c.in-Err.is)
