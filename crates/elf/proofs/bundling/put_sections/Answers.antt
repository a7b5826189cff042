-- `elf::bundling::put_sections` meets its contract.
use Rattle.std.proofs.Common.{◌∙◌, ◌+◌, List, subst, ap, arith}
use Rattle.bundle.specs.Written.{Section}
use Rattle.elf.specs.Held.{room_sum, Appended}
use Rattle.elf.proofs.Rooms.{sections_none, room_none}
use Rattle.elf.proofs.Putting.{appended_none}
use Rattle.elf.proofs.Opened.{turn_fits, turn_place, turn_appended, whole}
use Rattle.elf.proofs.bundling.put_sections.Goals as goal

pub loop-i-init : goal.loop-i-init
loop-i-init c =
    let a = c.args in
    let none = sections_none a.a.now.file.bytes.now a.a.now.file.names.now in
    record { place = omega (arith, ap room_sum none, room_none); put = appended_none _ a.from a.out.now none }

pub put_wanted-at-requires : goal.put_wanted-at-requires
put_wanted-at-requires c =
    let a = c.args in
    let v = c.loop-i.invariant in
    (c.loop-i-test.true, turn_fits a.a.now.file c.loop-i.i a.from c.loop-i.at c.loop-i-test.true v.place a.out.now c.loop-i.out c.requires v.put.same)

pub loop-i-preserved : goal.loop-i-preserved
loop-i-preserved c =
    let a = c.args in
    let e = a.a.now.file in
    let i = c.loop-i.i in
    let v = c.loop-i.invariant in
    record {
      place = turn_place e i a.from c.loop-i.at c.loop-i-test.true v.place _ c.put_wanted-at.ensures.next;
      put = turn_appended e i a.from c.loop-i.at c.loop-i-test.true v.place a.out.now c.loop-i.out _ v.put c.put_wanted-at.ensures.output;
    }

pub returns : goal.returns
returns c =
    let a = c.args in
    let q = whole a.a.now.file c.loop-i.i c.loop-i-test.false in
    record { next = c.loop-i.invariant.place ∙ ap (λ (z : List Section). a.from + room_sum z) q; output = subst (λ (z : List Section). Appended z a.from a.out.now c.loop-i.out) q c.loop-i.invariant.put }
