-- The section that a line stated lies in the room, and the text gets shorter.
use Rattle.std.proofs.Common.{length, ◌≤◌}
use Rattle.index_search.proofs.answer_lines.Given as goal

abbrev pub invariant-loop-rest : goal.invariant-loop-rest
invariant-loop-rest g l = l.size ≤ 4096

abbrev pub decreases-loop-rest : goal.decreases-loop-rest
decreases-loop-rest g l = length l.rest
