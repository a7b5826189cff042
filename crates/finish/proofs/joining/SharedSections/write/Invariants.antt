-- Each object's section is put behind those before it: `Sharing` is what the loop keeps.
use Rattle.std.proofs.Common.{◌≡◌, ◌-◌, length}
use Rattle.bundle.specs.Encoded.{encoding_is}
use Rattle.finish.specs.Joining.{SharedJoinable}
use Rattle.finish.proofs.Remapping.{Sharing}
use Rattle.finish.proofs.joining.SharedSections.write.Given as goal

abbrev pub invariant-loop-next : goal.invariant-loop-next
invariant-loop-next l =
    (length l.out ≡ length l.initial.out)
    × ((a : SharedJoinable (encoding_is l.self.encoding) l.self.bundle.now l.self.table l.code (length l.initial.out) l.at) → Sharing l.self.encoding l.self.bundle.now l.self.table l.code l.at l.initial.out a l.out l.o l.place l.first)

abbrev pub decreases-loop-next : goal.decreases-loop-next
decreases-loop-next l = length l.self.bundle.now - l.place
