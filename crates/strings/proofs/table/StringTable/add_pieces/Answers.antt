-- `add_pieces` meets its contract.
use Rattle.strings.proofs.Remembering.{begun}
use Rattle.strings.proofs.table.StringTable.add_pieces.Goals as goal

pub returns : goal.returns
returns c = λ ts ps k h. c.put_pieces.ensures ts ps (begun _ _ _ _ _ _ _ c.requires.0.strings_inside c.begin-ended.ensures.forgotten k) h
