-- `bundle::scan_object` meets its contract.
use mathlib.Core.Path.{sym, ap, ◌∙◌}
use native.Mathlib.Omega.{arith}
use Rattle.octets.specs.Checked.{pass}
use Rattle.bundle.proofs.Scanning.{scanned_notable}
use Rattle.bundle.proofs.scan_object.Goals as goal

pub note-requires : goal.note-requires
note-requires c = scanned_notable _ _ _ c.loop-section.invariant _ (sym (ap pass c.in-Ok-Section.field-0-is) ∙ c.in-Ok-Section.ensures) (omega arith)
