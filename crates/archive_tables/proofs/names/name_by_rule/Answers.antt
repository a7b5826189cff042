-- The prefix, the word and the suffix stand one behind the other.
use Rattle.std.proofs.Common.{arith}
use Rattle.archive_tables.specs.NameRule.{name_front, name_end}
use Rattle.archive_tables.proofs.Named.{word_most, room_word, room_suffix, name_index, name_dwo}
use Rattle.archive_tables.proofs.names.name_by_rule.Goals as goal

pub put_bytes-requires-2 : goal.put_bytes-requires-2
unfolding name_front
put_bytes-requires-2 c = room_word _ _ c.word_of-word.ensures _ _ (omega arith) c.put_bytes.ensures

pub shared_ref_as_front-result : goal.shared_ref_as_front-result
unfolding name_front
shared_ref_as_front-result c = omega (arith, word_most _ _ c.word_of-word.ensures _ _ (omega arith) c.put_bytes.ensures)

pub returns-then-code-gt-STR : goal.returns-then-code-gt-STR
unfolding name_front
returns-then-code-gt-STR c = name_index _ _ c.word_of-word.ensures _ _ (omega arith) c.put_bytes.ensures _ c.put_bytes-2.ensures c.if-code-gt-STR.true

pub put_bytes-requires-3 : goal.put_bytes-requires-3
unfolding name_front
put_bytes-requires-3 c = room_suffix _ _ c.word_of-word.ensures _ _ (omega arith) c.put_bytes.ensures _ c.put_bytes-2.ensures

pub shared_ref_as_front-result-2 : goal.shared_ref_as_front-result-2
unfolding name_front
shared_ref_as_front-result-2 c = omega (arith, word_most _ _ c.word_of-word.ensures _ _ (omega arith) c.put_bytes.ensures)

pub returns : goal.returns
unfolding name_front name_end
returns c = name_dwo _ _ c.word_of-word.ensures _ _ (omega arith) c.put_bytes.ensures _ c.put_bytes-2.ensures c.if-code-gt-STR.false _ c.put_bytes-3.ensures
