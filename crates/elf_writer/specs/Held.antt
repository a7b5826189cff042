-- The parts of a file by section codes, as the code measures and writes them: what a section that is missing adds is empty. Nothing here need be believed.
use Rattle.std.specs.Prelude.{◌≡◌, Bool, true, false, List, [], ◌∷◌, ◌++◌, map, ℕ, ◌+◌, ◌*◌, ◌-◌, ◌≤◌, ◌<◌, length, drop, nat_le, slice_index, if◌then◌else◌}
use Rattle.numbers.specs.Sections.{section_codes}
use Rattle.numbers.specs.Names.{section_name}
use Rattle.numbers.specs.Limits.{package_limit}
use Rattle.octets.specs.Octets.{zeros}
use Rattle.octets.specs.Lists.{joined, sum}
use Rattle.bundle.specs.Bundle.{body}
use Rattle.bundle.specs.declared.Scan.{Scan}
use Rattle.lookup.specs.Lookup.{codes}
use Rattle.lookup.specs.Answers.{package_in}
use Rattle.lookup.specs.declared.package.Package.{Package}
use Rattle.elf.specs.Writer.{ended_name, table_name, header_size, program_bits, string_table, section_header, aligned, sections_here, file_bytes}
use Rattle.elf_writer.specs.declared.sections.Extent.{Extent}
use Rattle.elf_writer.specs.declared.sections.HeaderPlace.{HeaderPlace}

-- ---- one section
unfoldable pub here : Scan → ℕ → Bool
here s c = nat_le 1 (slice_index s.count c)

unfoldable pub size_at : Scan → ℕ → ℕ
size_at s c = slice_index s.size c

unfoldable pub counted : Scan → ℕ → ℕ
counted s c = if here s c then 1 else 0

unfoldable pub name_at : Scan → ℕ → List ℕ
name_at s c = if here s c then ended_name (section_name c) else []

unfoldable pub body_at : List ℕ → ℕ → List ℕ
body_at p c = body p (package_in p).parts c

-- its header, and where the next one stands, its name and its bytes
unfoldable pub header_at : Bool → Scan → ℕ → HeaderPlace → List ℕ
header_at big s c h = if here s c
    then section_header big h.name program_bits h.offset (size_at s c)
    else []

unfoldable pub place_after : Scan → ℕ → HeaderPlace → HeaderPlace
place_after s c h =
    if here s c
    then record { at = h.at + header_size; name = h.name + length (section_name c) + 1; offset = h.offset + size_at s c }
    else h

-- ---- the sections from a code on
unfoldable pub codes_from : ℕ → List ℕ
codes_from c = drop (c - 1) codes

unfoldable pub joined_from : (ℕ → List ℕ) → ℕ → List ℕ
joined_from f c = joined (map f (codes_from c))

unfoldable pub sum_from : (ℕ → ℕ) → ℕ → ℕ
sum_from f c = sum (map f (codes_from c))

-- the headers of these, and that of the name table, which has so many bytes
unfoldable pub headers_of : Bool → ℕ → Scan → HeaderPlace → List ℕ → List ℕ
headers_of big table s h [] = section_header big h.name string_table h.offset table
headers_of big table s h (c ∷ cs) = header_at big s c h ++ headers_of big table s (place_after s c h) cs

unfoldable pub headers_from : Bool → ℕ → Scan → HeaderPlace → ℕ → List ℕ
headers_from big table s h c = headers_of big table s h (codes_from c)

-- ---- all of them
unfoldable pub name_table_of : Scan → List ℕ
name_table_of s = 0 ∷ (joined_from (name_at s) 1 ++ ended_name table_name)

-- the first header behind the null one stands at a place; its name is the first, and its bytes follow the file's header
unfoldable pub first_header : ℕ → HeaderPlace
first_header at = record { at = at; name = 1; offset = header_size }

-- the numbers are small: 13 sections at most, and names of 23 bytes at most with their zeros
pub record Within (e : Extent) : Type 0 where
  pub few : e.count ≤ 13
  pub short : e.bodies ≤ 13 * package_limit
  pub brief : e.names ≤ 310

-- what is measured before anything is written
pub record Measured (s : Scan) (e : Extent) : Type 0 where
  pub count : e.count ≡ sum_from (counted s) 1
  pub bodies : e.bodies ≡ sum_from (size_at s) 1
  pub names : e.names ≡ length (name_table_of s)
  pub within : Within e

-- no section is longer than a package
pub record Bounded (s : Scan) : Type 0 where
  pub is : (c : ℕ) → c < section_codes → size_at s c ≤ package_limit

unfoldable pub headers_place : Extent → ℕ
headers_place e = aligned (header_size + e.bodies + e.names)

unfoldable pub file_size : Extent → ℕ
file_size e = headers_place e + header_size * (e.count + 2)

-- the file of a package that was opened
unfoldable pub file_of : List ℕ → ℕ → List ℕ
file_of p machine = file_bytes (package_in p).encoding.big machine (sections_here p (package_in p).parts)

-- a package was measured, and the output is zero and has room
pub record Ready (p : Package) (e : Extent) (out : List ℕ) : Type 0 where
  pub measured : Measured p.head.sections e
  pub blank : out ≡ zeros (length out)
  pub room : file_size e ≤ length out
