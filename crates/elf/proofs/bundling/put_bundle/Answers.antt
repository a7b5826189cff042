-- `elf::bundling::put_bundle` meets its contract.
use Rattle.elf.specs.Held.{all_sections}
use Rattle.elf.proofs.Putting.{bundle_put}
use Rattle.elf.proofs.bundling.put_bundle.Goals as goal

pub returns : goal.returns
returns c =
    let a = c.args in
    let e = a.a.now.file in
    bundle_put e.big a.word (all_sections e) a.out.now _ _ _ _ _ c.requires c.put_head.ensures c.put_object.ensures c.put_sections-at.ensures.output c.put_sections-at.ensures.next c.put_end.ensures
