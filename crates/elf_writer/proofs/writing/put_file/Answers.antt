-- The parts stand one behind the other, and the output has room for all of them.
use Rattle.std.proofs.Common.{◌≡◌, sym, ap, ◌∙◌, List, ℕ, ◌+◌, ◌*◌, ◌≤◌, arith, length}
use Rattle.octets.specs.Octets.{placed}
use Rattle.elf.specs.Writer.{file_header}
use Rattle.lookup.specs.declared.package.Package.{Package}
use Rattle.elf_writer.specs.Held.{body_at, joined_from, headers_from, first_header, headers_place, Ready}
use Rattle.elf_writer.specs.declared.sections.Extent.{Extent}
use Rattle.elf_writer.proofs.Matched.{sizes_are}
use Rattle.elf_writer.proofs.Whole.{place_small, place_behind, size_is, file_laid}
use Rattle.elf_writer.proofs.writing.put_file.Goals as goal

module _ (k : Package) (e : Extent) (out : List ℕ) (r : Ready k e out) where
  room : headers_place e + 64 * (e.count + 2) ≤ length out
  room = omega (arith, size_is e, r.room)

  bodies : length (joined_from (body_at k.bytes.now) 1) ≡ e.bodies
  bodies = sym (r.measured.bodies ∙ sizes_are k.bytes.now k.head k.opened)

pub headers_place-at-requires : goal.headers_place-at-requires
headers_place-at-requires c = c.requires.measured.within

pub overflow_add-e : goal.overflow_add-e
overflow_add-e c = omega (arith, c.requires.measured.within.few)

pub put_file_header-requires : goal.put_file_header-requires
put_file_header-requires c =
    let e = c.args.e in
    let w = c.requires.measured.within in
    (omega (arith, c.headers_place-at.ensures, place_small e w), omega (arith, w.few), omega arith, omega (arith, room _ _ _ c.requires, place_behind e))

pub put_bodies-requires : goal.put_bodies-requires
put_bodies-requires c = omega (arith, room _ _ _ c.requires, bodies _ _ _ c.requires, place_behind c.args.e, c.put_file_header.auto.d)

pub overflow_add-e-2 : goal.overflow_add-e-2
overflow_add-e-2 c = omega (arith, c.requires.measured.within.short)

pub put_name_table-requires : goal.put_name_table-requires
put_name_table-requires c = omega (arith, room _ _ _ c.requires, c.requires.measured.names, place_behind c.args.e, c.put_file_header.auto.d, c.put_bodies.auto.d)

pub overflow_add-at : goal.overflow_add-at
overflow_add-at c = omega (arith, c.headers_place-at.ensures, place_small c.args.e c.requires.measured.within)

pub put_headers-requires : goal.put_headers-requires
put_headers-requires c =
    let m = c.requires.measured in
    (omega (arith, m.within.brief), omega (arith, c.headers_place-at.ensures, room _ _ _ c.requires, m.count, c.put_file_header.auto.d, c.put_bodies.auto.d, c.put_name_table.auto.d))

pub returns : goal.returns
returns c =
    let a = c.args in
    let k = a.package.now in
    let at = c.headers_place-at.ensures in
    file_laid k.bytes.now k.head k.opened a.e c.requires.measured a.machine a.out.now _ _ _ _ c.requires.blank c.requires.room
    (c.put_file_header.ensures ∙ ap (λ (n : ℕ). placed a.out.now 0 (file_header k.head.encoding.big a.machine n (a.e.count + 2))) at)
    c.put_bodies.ensures c.put_name_table.ensures
    (c.put_headers.ensures ∙ ap (λ (n : ℕ). placed c.put_name_table.new.d (n + 64) (headers_from k.head.encoding.big a.e.names k.head.sections (first_header (n + 64)) 1)) at)
