-- `elf::judging::header_good` meets its contract.
use Rattle.std.proofs.Common.{◌≡◌, ◌∙◌, true, false, not, ◌||◌, sym, ap}
use Rattle.elf.specs.File.{is_wanted, inside}
use Rattle.elf.specs.Held.{header_is, header_good}
use Rattle.elf.proofs.Judged.{told_wanted, stored_inside, good_unended, good_ended}
use Rattle.elf.proofs.judging.header_good.Goals as goal

pub returns-then-is_none : goal.returns-then-is_none
returns-then-is_none c =
    let e = c.args.file.now in
    let f = e.bytes.now in
    let h = header_is c.header-h.result in
    let none : is_wanted e.names.now h ≡ false = sym (told_wanted e.names.now h _ c.code_of.ensures) ∙ c.is_none.ensures ∙ ap not c.if-is_none.true in
    let good : true ≡ (not (is_wanted e.names.now h) || inside f h) = rw none in
    c.if-is_none.true ∙ good ∙ good_ended f e.names.now h c.args.last c.requires.1 c.if-h-last.true ∙ ap (header_good f e.names.now) c.header-h.ensures

pub returns-else-is_none : goal.returns-else-is_none
returns-else-is_none c =
    let e = c.args.file.now in
    let f = e.bytes.now in
    let h = header_is c.header-h.result in
    let some : is_wanted e.names.now h ≡ true = sym (told_wanted e.names.now h _ c.code_of.ensures) ∙ c.is_none.ensures ∙ ap not c.if-is_none.false in
    let good : inside f h ≡ (not (is_wanted e.names.now h) || inside f h) = rw some in
    c.is_some.ensures ∙ stored_inside f h _ c.found_in.ensures ∙ good ∙ good_ended f e.names.now h c.args.last c.requires.1 c.if-h-last.true ∙ ap (header_good f e.names.now) c.header-h.ensures

pub returns-else-h-last : goal.returns-else-h-last
returns-else-h-last c = let e = c.args.file.now in good_unended e.bytes.now e.names.now (header_is c.header-h.result) c.args.last c.requires.1 c.if-h-last.false ∙ ap (header_good e.bytes.now e.names.now) c.header-h.ensures
