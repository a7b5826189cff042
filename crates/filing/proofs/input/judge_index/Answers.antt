-- `judge_index` meets its contract.
use Rattle.filing.proofs.Judging.{index_other}
use Rattle.filing.proofs.input.judge_index.Goals as goal

pub returns-then-head-form : goal.returns-then-head-form
returns-then-head-form c = index_other _ _ _ _ c.if-count-eq0.false _ _ c.form.ensures _ c.head-head.ensures c.in_ok-index.ensures c.if-head-form.true
