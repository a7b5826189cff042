-- The package fits the output.
use Rattle.std.proofs.Common.{sym, length-take-le}
use Rattle.packer.proofs.Answered.{package_fits}
use Rattle.small_packer.proofs.main.Goals as goal

pub slice_bounds-output-end : goal.slice_bounds-output-end
slice_bounds-output-end c = package_fits _ _ _ _ c.in-Ok.ensures.answer c.pack_small.ensures.output

pub slice_bounds-tell_package-end : goal.slice_bounds-tell_package-end
slice_bounds-tell_package-end c = sym (length-take-le _ _ (package_fits _ _ _ _ c.in-Ok.ensures.answer c.pack_small.ensures.output))
