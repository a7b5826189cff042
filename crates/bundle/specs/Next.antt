-- What the functions that read a bundle's words answer, from the definitions.
use Rattle.std.specs.Prelude.{List, ℕ, ◌+◌}
use Rattle.octets.specs.Checked.{Check, pass, refuse, ◌>>=◌, require, mapped}
use Rattle.numbers.specs.Refusals.{bad_words}
use Rattle.bundle.specs.Bundle as bundle
use Rattle.bundle.specs.Bundle.{Part, Step, more, end, broken, object, section, object_first}
use Rattle.bundle.specs.declared.Section.{Section}
use Rattle.bundle.specs.declared.Item.{Item}
use Rattle.bundle.specs.declared.Item.TheVariants.{Object, Section as ASection, End}

-- a section with the place behind it
abbrev pub section_at : Part → ℕ → Section
section_at p next = record { code = p.code; start = p.start; size = p.size; next = next }

-- of a step at a place: the item with the place behind it
unfoldable pub next_of : ℕ → Step → Check Item
next_of at (more (object w) n) = pass (Object w (at + 4 + n))
next_of at (more (section p) n) = pass (ASection (section_at p (at + 4 + n)))
next_of at end = pass End
next_of at broken = refuse bad_words

-- of items: that they reach the bundle's end, and also that no section stands before an object
unfoldable pub ended : Check (List bundle.Item) → Check (Unit {0})
ended m = mapped (λ _. tt) m

unfoldable pub in_order : Check (List bundle.Item) → Check (Unit {0})
in_order m = m >>= λ is. require (object_first is) bad_words
