-- `agreement::units::Pair::entries_agree` meets its contract.
use Rattle.std.proofs.Common.{◌≡◌, ℕ, ◌<◌}
use Rattle.std.specs.Prelude.{true}
use Rattle.agreement.specs.Agreement.{string_agrees}
use Rattle.agreement.proofs.units.Pair.entries_agree.Given as goal

abbrev pub invariant-loop-k : goal.invariant-loop-k
invariant-loop-k l = (k : ℕ) → k < l.k → string_agrees l.self.p.bytes.now l.self.q.bytes.now l.unit.version l.unit.table l.unit.identity k ≡ true
