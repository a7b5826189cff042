-- `elf_writer::sections::put_names` meets its contract.
use Rattle.elf_writer.specs.Held.{name_at}
use Rattle.elf_writer.proofs.Loops.{putting_none, putting_room, putting_more, putting_end, putting_next}
use Rattle.elf_writer.proofs.sections.put_names.Goals as goal

pub loop-code-init : goal.loop-code-init
loop-code-init c = putting_none _ _ _

pub put_name-at-requires : goal.put_name-at-requires
put_name-at-requires c = (c.loop-code-test.true, putting_room (name_at c.args.s.now) c.args.d.now c.args.from c.requires _ _ _ c.loop-code.invariant c.loop-code-test.true)

pub loop-code-preserved : goal.loop-code-preserved
loop-code-preserved c = putting_more (name_at c.args.s.now) c.args.d.now c.args.from c.requires _ _ _ c.loop-code.invariant c.loop-code-test.true _ _ c.put_name-at.ensures.output c.put_name-at.ensures.next

pub shape_of-d : goal.shape_of-d
shape_of-d c = c.loop-code.invariant.same

pub returns : goal.returns
returns c = record {
  next = putting_next (name_at c.args.s.now) c.args.d.now c.args.from c.requires _ _ _ c.loop-code.invariant c.loop-code-test.false;
  output = putting_end (name_at c.args.s.now) c.args.d.now c.args.from c.requires _ _ _ c.loop-code.invariant c.loop-code-test.false;
}
