-- Head, object word, sections, end.
use Rattle.finish.proofs.PackageSteps.{head_fits, object_fits, package_started, package_end, package_done}
use Rattle.finish.proofs.writing.Package.write.Goals as goal

pub put_head-requires : goal.put_head-requires
put_head-requires c = head_fits c.args.self.now.encoding.big 0 _ _ c.requires.zero c.requires.room

pub put_object-requires : goal.put_object-requires
put_object-requires c = let p = c.requires in object_fits _ 0 _ _ p.zero p.room _ c.put_head.ensures

pub write_sections-at-requires : goal.write_sections-at-requires
write_sections-at-requires c =
    let p = c.requires in
    record {
      front = _;
      sections = p.sections;
      ready = p.ready;
      sized = p.sized;
      good = p.good;
      started = package_started _ _ _ _ p.zero p.room _ c.put_head.ensures _ c.put_object.ensures p.sections p.sized;
    }

pub put_end-requires : goal.put_end-requires
put_end-requires c =
    let p = c.requires in
    let h = c.put_head.ensures in
    let o = c.put_object.ensures in
    let writing = c.write_sections-at.ensures _ p.sections p.ready p.sized (package_started _ _ _ _ p.zero p.room _ h _ o p.sections p.sized) in
    package_end _ _ _ _ p.zero p.room _ h _ o p.sections p.sized _ _ writing c.write_sections-at.auto.out p.good

pub returns : goal.returns
returns c s r z =
    let p = c.requires in
    let h = c.put_head.ensures in
    let o = c.put_object.ensures in
    let writing = c.write_sections-at.ensures _ s r z (package_started _ _ _ _ p.zero p.room _ h _ o s z) in
    package_done _ _ _ _ p.zero p.room _ h _ o s z _ _ writing c.write_sections-at.auto.out _ c.put_end.ensures
