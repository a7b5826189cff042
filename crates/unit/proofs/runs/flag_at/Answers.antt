-- `unit::runs::flag_at` meets its contract.
use Rattle.std.proofs.Common.{rules}
use Rattle.octets.specs.Checked.{mapped}
use Rattle.unit.proofs.Flags.{flag_passes}
use Rattle.unit.proofs.runs.flag_at.Goals as goal

pub returns : goal.returns
unfolding mapped
returns c = flag_passes c.args.known c.args.t.now _ _ _ (search (rules, c.attribute_at.ensures, c.ok.ensures.value, c.in_ok-attribute.was)) c.if-attribute-ne-FLAG_PRESENT.false c.else-not-known.either
