-- `add_strings` meets its contract.
use Rattle.strings.proofs.Remembering.{begun}
use Rattle.strings.proofs.Adding.{put_added}
use Rattle.strings.proofs.table.StringTable.add_strings.Goals as goal

pub returns : goal.returns
returns c = λ used k. put_added _ _ _ _ _ c.args.self.now _ _ _ (c.add_entries.ensures used (begun _ _ _ _ _ _ _ c.requires.0.strings_inside c.begin-ended.ensures.forgotten k))
