-- `agreement::agrees` meets its contract.
use Rattle.agreement.specs.Memory.{PartsSame, StringsSame}
use Rattle.agreement.proofs.Memories.{front_none_known, back_none_known}
use Rattle.agreement.proofs.agrees.Goals as goal

pub table_agrees-requires-clause-parts : goal.table_agrees-requires-clause-parts
table_agrees-requires-clause-parts c = front_none_known (PartsSame c.args.pair.now.p.bytes.now c.args.pair.now.q.bytes.now) _ _ _ c.requires c.split_at_mut-parts.ensures.front

pub table_agrees-requires-clause-strings : goal.table_agrees-requires-clause-strings
table_agrees-requires-clause-strings c = back_none_known (StringsSame c.args.pair.now.p.bytes.now c.args.pair.now.q.bytes.now c.args.version) _ _ _ c.requires c.split_at_mut-parts.ensures.back
