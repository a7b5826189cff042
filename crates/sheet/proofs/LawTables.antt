-- Laws of a table of a package that was opened: what the code holds of its index, its measure and its lines.
use mathlib.Core.Path.{◌≡◌, refl, sym, ap, ◌∙◌}
use mathlib.Core.Bool.{Bool, true, false}
use mathlib.Core.List.{List, [], ◌∷◌}
use mathlib.Core.Option.{Option, some, none}
use mathlib.Core.Logic.{⊎_elim}
use Prim.Native.Nat.{ℕ, ◌+◌, ◌*◌, ◌≤◌, ◌<◌}
use native.Mathlib.Omega.{arith}
use native.Mathlib.Nat.{sub-zero}
use native.Mathlib.Decide.{ℕ_discrete}
use lib.ListN.{length}
use Rattle.octets.specs.Octets.{zeros, padded, part}
use Rattle.octets.specs.Checked.{Check, pass, refuse, mapped}
use Rattle.octets.proofs.Checks.{pass_inj, pass_refuse}
use Rattle.octets.proofs.Parts.{length_part_le}
use Rattle.octets.proofs.Placed.{padded_none}
use Rattle.bundle.specs.Bundle.{Part, Item, object, section, Object, more, leading, first_part, body}
use Rattle.bundle.proofs.Passed.{here, step_here, left_cons}
use Rattle.bundle.proofs.Next.{section_step}
use Rattle.bundle.proofs.Sections.{first_same, first_other}
use Rattle.bundle.proofs.Within.{First}
use Rattle.index.specs.Index.{Index}
use Rattle.lookup.specs.Lookup.{Package, package_of, index_for}
use Rattle.lookup.specs.Answers.{package_in, Opened, index_code}
use Rattle.lookup.specs.declared.opening.PackageHead.{PackageHead}
use Rattle.lookup.proofs.Known.{package_objects, index_known}
use Rattle.sheet.specs.Sheet.{rows_from, table_lines}
use Rattle.sheet.specs.Held.{IndexHere, single, blocks, laid_out}
use Rattle.sheet.specs.Laid.{letter_of, table_of, lines_of, TableFits}
use Rattle.sheet.proofs.LawIndex.{index_here}
use Rattle.sheet.proofs.LawSlots.{single_lines, not_single_lines}
use Rattle.sheet.proofs.LawBlocks.{length_blocks}

-- ---- a section of a package is shorter than 2 ^ 23 bytes, since its word has 23 bits for the length
leading_short : (b : List ℕ) (at : ℕ) (is : List Item) → here b at ≡ pass is → (c : ℕ) (s : Part) → first_part (leading is) c ≡ some s → s.size < 0x80_0000
unfolding leading first_part
leading_short b at [] e c s f = absurd (let z : ◌≡◌ {A = ℕ} 0 1 = cc in omega arith)
leading_short b at (object w ∷ is) e c s f = absurd (let z : ◌≡◌ {A = ℕ} 0 1 = cc in omega arith)
leading_short b at (section p ∷ is) e c s f = go (left_cons b at (section p) is e) (λ n h g. leading_short b (at + 4 + n) is h c s g)
  where
    go : (n : ℕ) × (step_here b at ≡ more (section p) n) × (here b (at + 4 + n) ≡ pass is)
        → ((n : ℕ) → here b (at + 4 + n) ≡ pass is → first_part (leading is) c ≡ some s → s.size < 0x80_0000) → s.size < 0x80_0000
    go (n, st, h) on = elim (ℕ_discrete p.code c) [
      | yes d ↦
          let same : p ≡ s = (let g = first_same c p (leading is) d in cc) in
          rw same at (section_step b at p n st).short
      | no d ↦ on n h (sym (first_other c p (leading is) d) ∙ f)
    ]

section_short : (p : List ℕ) (k : Package) → package_of p ≡ pass k → (c : ℕ) → length (body p k.parts c) < 0x80_0000
unfolding body first_part
section_short p k e c = ⊎_elim
    (λ h. rw h.parts (omega arith))
    (λ h. holding h.0 h.1.first (sym h.1.judged.parts))
    (package_objects p k e)
  where
    at : (o : Object) → First p o → (m : Option Part) → first_part o.parts c ≡ m → length {A = ℕ} (elim m [ some s ↦ part p s.start s.size | none ↦ [] ]) < 0x80_0000
    at o f none g = omega arith
    at o f (some s) g =
        let n = leading_short p f.from f.items f.left c s (ap (λ (ps : List Part). first_part ps c) (sym f.parts) ∙ g) in
        omega (arith, length_part_le p s.start s.size)

    holding : (o : Object) → First p o → o.parts ≡ k.parts → length (body p k.parts c) < 0x80_0000
    holding o f q = rw (sym q) (at o f (first_part o.parts c) refl)

-- ---- the index of a table
pub table_here : (p : List ℕ) (h : PackageHead) → Opened p h → (table : ℕ) (i : Index) → index_for (package_in p) table ≡ some i → IndexHere i
table_here p h o table i e =
    index_here (package_in p).encoding.big (body p (package_in p).parts (index_code table)) i (index_known p (package_in p) o.is table i e)
    (section_short p (package_in p) o.is (index_code table))

-- ---- a table with an index
module _ (p : List ℕ) (table : ℕ) (i : Index) (e : index_for (package_in p) table ≡ some i) where
  is_rows : table_of p table ≡ rows_from (letter_of table) i 1 i.units
  unfolding table_of table_lines
  is_rows = ap (table_lines (letter_of table)) e

  pub table_bad : single i.rows i.identities 1 i.units ≡ false → refuse 21 ≡ mapped length (table_of p table)
  unfolding mapped
  table_bad f = sym (ap (mapped length) (is_rows ∙ not_single_lines (letter_of table) i 1 i.units f))

  abbrev Blocks : List ℕ
  Blocks = blocks (letter_of table) i i.rows i.identities 1 i.units

  length_is : length Blocks ≡ 40 * length i.codes * i.units
  length_is = length_blocks (letter_of table) i _ _ 1 i.units

  pub table_measured : single i.rows i.identities 1 i.units ≡ true → pass (40 * length i.codes * i.units) ≡ mapped length (table_of p table)
  unfolding mapped
  table_measured f = sym (ap (mapped length) (is_rows ∙ single_lines (letter_of table) i 1 i.units f) ∙ ap pass length_is)

  -- ---- its lines
  module _ (page : List ℕ) (f : TableFits p table page) where
    all_single : single i.rows i.identities 1 i.units ≡ true
    all_single = go (single i.rows i.identities 1 i.units) refl
      where
        go : (t : Bool) → single i.rows i.identities 1 i.units ≡ t → single i.rows i.identities 1 i.units ≡ true
        go true g = g
        go false g = absurd (pass_refuse _ _ (sym f.are ∙ is_rows ∙ not_single_lines (letter_of table) i 1 i.units g))

    lines_are : table_of p table ≡ pass Blocks
    lines_are = is_rows ∙ single_lines (letter_of table) i 1 i.units all_single

    pub table_room : 40 * length i.codes * i.units ≤ length page
    table_room = let same : f.lines ≡ Blocks = pass_inj (sym f.are ∙ lines_are) in omega (arith, f.room, ap length same, length_is)

    pub table_laid : (letter o : ℕ) → letter ≡ letter_of table → laid_out letter i o ≡ lines_of (table_of p table) o
    unfolding laid_out lines_of
    table_laid letter o l = ap (λ (z : ℕ). laid_out z i o) l ∙ sym (ap (λ (m : Check (List ℕ)). lines_of m o) lines_are)

-- ---- a table without an index
module _ (p : List ℕ) (table : ℕ) (e : index_for (package_in p) table ≡ none) where
  none_are : table_of p table ≡ pass []
  unfolding table_of table_lines
  none_are = ap (table_lines (letter_of table)) e

  pub missing_measured : pass 0 ≡ mapped length (table_of p table)
  unfolding mapped
  missing_measured = sym (ap (mapped length) none_are)

  pub missing_lines : (page : List ℕ) → page ≡ zeros (length page) → page ≡ lines_of (table_of p table) (length page)
  unfolding lines_of
  missing_lines page b = b ∙ sym (ap (λ (z : Check (List ℕ)). lines_of z (length page)) none_are ∙ ap (padded []) (sub-zero (length page)) ∙ padded_none (length page))
