-- An object's str_offsets piece by piece: each has its own header and entries, is judged alone (8 and 9) and is remapped once.
-- Assumes nothing.
use mathlib.Core.List.{List, [], _∷_, _++_, map}
use Prim.Native.Nat.{ℕ}
use Rattle·octets.specs.Octets.{part}
use Rattle·octets.specs.Lists.{joined}
use Rattle·octets.specs.Checked.{Check, pass, _>>=_}
use Rattle·bundle.specs.Encoding.{Encoding}
use Rattle·strings.specs.Strings.{entriesOf, stringsAt, remapped}
use Rattle·index.specs.Index.{Contribution}

-- its bytes, and the strings that its entries name, in order
pub record Piece : Type 0 where
  pub bytes : List ℕ
  pub used : List (List ℕ)

-- 8 and 9, of one piece
unfoldable pub pieceOf : Encoding → List ℕ → List ℕ → Check Piece
pieceOf e str s = entriesOf e s >>= λ os. (stringsAt str os >>= λ us. pass (record { bytes = s; used = us }))

-- of the parts of a section, one after the other
unfoldable pub piecesOf : Encoding → List ℕ → List ℕ → List Contribution → Check (List Piece)
piecesOf e str s [] = pass []
piecesOf e str s (c ∷ cs) = pieceOf e str (part s (c .offset) (c .size)) >>= λ p. (piecesOf e str s cs >>= λ ps. pass (p ∷ ps))

-- the strings that they name, in order
unfoldable pub usedIn : List Piece → List (List ℕ)
usedIn [] = []
usedIn (p ∷ ps) = p .used ++ usedIn ps

-- "parts in order of offset, sizes kept"
unfoldable pub remappedAll : Encoding → List (List ℕ) → List Piece → List ℕ
remappedAll e table ps = joined (map (λ p. remapped e table (p .bytes) (p .used)) ps)
