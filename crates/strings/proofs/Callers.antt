-- What callers read from the answers of the code.
use native.Mathlib.Omega.{arith}
use mathlib.Core.Path.{◌≡◌, refl}
use mathlib.Core.List.{List}
use Prim.Native.Nat.{ℕ}
use lib.ListN.{length}
use Rattle.octets.specs.Checked.{Check, pass, refuse, mapped}
use Rattle.bundle.specs.Encoding.{Encoding}
use Rattle.bundle.specs.Encoded.{encoding_is}
use Rattle.bundle.specs.declared.encoding.ObjectEncoding.{ObjectEncoding}
use Rattle.strings.specs.Strings.{entries_in, entries_of}
use Rattle.strings.specs.Kept.{bytes_at}
use Rattle.strings.specs.Objects.{entries_at}
use Rattle.strings.specs.declared.table.StrOffsets.{StrOffsets}
use Rattle.strings.proofs.StrOffsets.{entries_whole}

-- what check_entries answers
read_count : (n : ℕ) (m : Check (List ℕ)) → pass n ≡ mapped length m → (ns : List ℕ) × (m ≡ pass ns) × (n ≡ length ns)
unfolding mapped
read_count n (pass ns) e = (ns, refl, cc)
read_count n (refuse k) e = cc

pub read_ill : (n : ℕ) (m : Check (List ℕ)) → refuse n ≡ mapped length m → m ≡ refuse n
unfolding mapped
read_ill n (pass ns) e = cc
read_ill n (refuse k) e = cc

pub entries_counted : (e : Encoding) (s : List ℕ) (n : ℕ) → pass n ≡ mapped length (entries_of e s) → (n ≡ length (entries_in e s)) × (entries_of e s ≡ pass (entries_in e s))
entries_counted e s n p = grind (arith, read_count, entries_whole)

-- of an object's section, as StrOffsets cuts it out
pub section_counted : (o : StrOffsets) (b : List ℕ) (e : ObjectEncoding) (s : List ℕ) → e ≡ o.encoding → s ≡ bytes_at b o.offsets
    → (n : ℕ) → pass n ≡ mapped length (entries_of (encoding_is e) s) → (n ≡ length (entries_at o b)) × (entries_of (encoding_is o.encoding) (bytes_at b o.offsets) ≡ pass (entries_at o b))
section_counted o b e s f g n p = entries_counted (encoding_is o.encoding) (bytes_at b o.offsets) n (rw (f, g) at p)

pub section_ill : (o : StrOffsets) (b : List ℕ) (e : ObjectEncoding) (s : List ℕ) → e ≡ o.encoding → s ≡ bytes_at b o.offsets
    → (n : ℕ) → refuse n ≡ mapped length (entries_of (encoding_is e) s) → entries_of (encoding_is o.encoding) (bytes_at b o.offsets) ≡ refuse n
section_ill o b e s f g n p = read_ill n (entries_of (encoding_is o.encoding) (bytes_at b o.offsets)) (rw (f, g) at p)
