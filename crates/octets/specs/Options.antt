-- What a definition finds or not, as the code answers it.
use Rattle.std.specs.Prelude.{Option, Some, None}
use Rattle.std.proofs.Math.Option as math

abbrev pub found : {A : Type 0} → math.Option A → Option A
found (math.some a) = Some a
found math.none = None
