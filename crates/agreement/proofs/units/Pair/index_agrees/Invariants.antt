-- `agreement::units::Pair::index_agrees` meets its contract.
use Rattle.std.proofs.Common.{◌≡◌, ℕ, ◌<◌, get_or}
use Rattle.agreement.specs.Agreement.{UnitAgrees}
use Rattle.agreement.specs.Memory.{Memory, PartsSame, StringsSame}
use Rattle.agreement.proofs.units.Pair.index_agrees.Given as goal

abbrev pub invariant-loop-k : goal.invariant-loop-k
invariant-loop-k l =
    ((k : ℕ) → k < l.k → (get_or l.index.rows k 0 ≡ 0 → ⊥) → UnitAgrees l.self.p.bytes.now l.self.q.bytes.now l.version l.table (get_or l.index.identities k 0))
    × Memory (PartsSame l.self.p.bytes.now l.self.q.bytes.now) l.parts
    × Memory (StringsSame l.self.p.bytes.now l.self.q.bytes.now l.version) l.strings
