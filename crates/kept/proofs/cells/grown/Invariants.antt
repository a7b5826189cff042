-- The bases before c have grown, the others are as they were.
use Rattle.std.proofs.Common.{◌≡◌, ℕ, ◌+◌, ◌<◌, ◌≤◌, length, get_or}
use Rattle.kept.proofs.cells.grown.Given as goal

abbrev pub invariant-loop-c : goal.invariant-loop-c
invariant-loop-c l = record {
  same : length l.bases ≡ 14;
  done : (c : ℕ) → c < l.c → get_or l.bases c 0 ≡ get_or l.initial.bases c 0 + get_or l.size c 0;
  rest : (c : ℕ) → l.c ≤ c → get_or l.bases c 0 ≡ get_or l.initial.bases c 0;
}
