-- A release that arrives over a week: what is packed in two sittings is what is packed at once (FORMAT 6.11).
use Rattle.sittings.specs.Sittings as sittings

-- The first sitting packs some objects, the second the object of that package and further ones behind it. Where both are accepted, all objects at once give the second
-- package, if they are within the length limit and work and output are long enough. A bundle holds objects, each with its word and its sections' bytes, in order; so the
-- law says nothing of how bundles come to hold them.
abbrev pub TwoSittings : Type 0
TwoSittings = sittings.TwoSittings
