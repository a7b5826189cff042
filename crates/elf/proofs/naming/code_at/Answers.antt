-- `elf::naming::code_at` meets its contract.
use mathlib.Core.List.{List, []}
use mathlib.Core.Path.{◌≡◌, ◌∙◌, refl, sym, ap}
use Prim.Native.Nat.{ℕ, ◌+◌, ◌<◌}
use native.Mathlib.Omega.{arith}
use borrow.Author.Tests.{tests}
use lib.ListN.{length, drop, get_or, length-drop}
use Rattle.std.proofs.Common.{rules, Bor}
use Rattle.std.specs.Prelude.{Option, Some, None}
use Rattle.std.specs.Option.{option_map}
use Rattle.std.proofs.lemmas.Grind.{get_or_after_one}
use Rattle.std.proofs.lemmas.Iterator.{YieldsList-from_range}
use Rattle.std.proofs.lemmas.Iterator.Search.{find_from_yields_List}
use Rattle.numbers.specs.Names.{section_names}
use Rattle.numbers.proofs.NameTable.{bytes_at}
use Rattle.elf.specs.File.{starts_with}
use Rattle.elf.proofs.Names.{among_found, names_fourteen}
use Rattle.elf.proofs.naming.code_at.Goals as goal

same : (o : Option ℕ) → o ≡ option_map (λ x. x) o
same (Some x) = refl
same None = refl

pub returns : goal.returns
returns c =
    let s = c.args.s.now in
    let names = c.section_names-names.result in
    -- what the test reads of the table; no number that is tried lies outside it
    let nothing : Bor (List ℕ) = record { ref_ptr = (0, 0); now = [] } in
    let read = λ (code : ℕ). get_or names code (get_or names code nothing) in
    let test = λ (code : ℕ). starts_with s (read code).now in
    let numbers = YieldsList-from_range 1 14 (length (drop 1 section_names)) refl (omega (arith, length-drop 1 section_names, names_fourteen)) in
    let named : (i : ℕ) → i < length (drop 1 section_names) → (read (1 + i)).now ≡ get_or (drop 1 section_names) i [] = λ i h.
    bytes_at names section_names _ (1 + i) c.section_names-names.ensures (omega (arith, h, length-drop 1 section_names))
    ∙ sym (get_or_after_one section_names i []) in
    same c.find.result
    ∙ find_from_yields_List test _ _ c.find.result c.find.ensures.ran numbers (λ x b q k. search (rules, tests))
    ∙ among_found s test 1 (drop 1 section_names) (omega arith) (λ i h. ap (starts_with s) (named i h))
