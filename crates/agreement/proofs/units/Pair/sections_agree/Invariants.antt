-- `agreement::units::Pair::sections_agree` meets its contract.
use Rattle.std.proofs.Common.{◌≡◌, ℕ, ◌≤◌, ◌<◌}
use Rattle.std.specs.Prelude.{true}
use Rattle.agreement.specs.Agreement.{section_agrees}
use Rattle.agreement.specs.Memory.{Memory, PartsSame}
use Rattle.agreement.proofs.units.Pair.sections_agree.Given as goal

abbrev pub invariant-loop-code : goal.invariant-loop-code
invariant-loop-code l =
    ((code : ℕ) → 1 ≤ code → code < l.code → section_agrees l.self.p.bytes.now l.self.q.bytes.now l.unit.version l.unit.table l.unit.identity code ≡ true)
    × Memory (PartsSame l.self.p.bytes.now l.self.q.bytes.now) l.parts
