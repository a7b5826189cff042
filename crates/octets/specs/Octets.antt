-- Bytes are numbers below 256, and a section is a list of them. A number takes w bytes in either byte order.
use Rattle.std.specs.Prelude.{Bool, true, false, List, [], ◌∷◌, ◌++◌, ℕ, zero, suc, ◌+◌, ◌*◌, ◌/◌, ◌%◌, length, take, drop, replicate, ◌==◌, if◌then◌else◌}

-- the n bytes of s from a place on
unfoldable pub part : List ℕ → ℕ → ℕ → List ℕ
part s start n = take n (drop start s)

-- the number that bytes state, least byte first
unfoldable pub little : List ℕ → ℕ
little [] = 0
little (b ∷ bs) = b + 256 * little bs

-- greatest byte first; n is what the bytes before state
unfoldable pub big_from : ℕ → List ℕ → ℕ
big_from n [] = n
big_from n (b ∷ bs) = big_from (n * 256 + b) bs

-- in the byte order that a flag names: true is big-endian
unfoldable pub number : Bool → List ℕ → ℕ
number true bs = big_from 0 bs
number false bs = little bs

-- the number in the w bytes of s at a place
unfoldable pub number_at : Bool → ℕ → List ℕ → ℕ → ℕ
number_at big w s at = number big (part s at w)

-- the n numbers at the front of s, w bytes wide
unfoldable pub numbers_in : Bool → ℕ → ℕ → List ℕ → List ℕ
numbers_in big w zero s = []
numbers_in big w (suc n) s = number_at big w s 0 ∷ numbers_in big w n (drop w s)

-- the w bytes that state n, least first and greatest first
unfoldable pub little_of : ℕ → ℕ → List ℕ
little_of zero n = []
little_of (suc w) n = n % 256 ∷ little_of w (n / 256)

unfoldable pub big_of : ℕ → ℕ → List ℕ
big_of zero n = []
big_of (suc w) n = big_of w (n / 256) ++ (n % 256 ∷ [])

unfoldable pub bytes_of : Bool → ℕ → ℕ → List ℕ
bytes_of true w n = big_of w n
bytes_of false w n = little_of w n

-- numbers one behind the other, w bytes for each
unfoldable pub numbers_of : Bool → ℕ → List ℕ → List ℕ
numbers_of big w [] = []
numbers_of big w (n ∷ ns) = bytes_of big w n ++ numbers_of big w ns

-- 128 in place of each byte that is zero, and zero in place of each other
unfoldable pub zero_marks : List ℕ → List ℕ
zero_marks [] = []
zero_marks (b ∷ s) = (if b == 0 then 128 else 0) ∷ zero_marks s

-- n zeros
unfoldable pub zeros : ℕ → List ℕ
zeros n = replicate n 0

-- d with x in place of what stood there
unfoldable pub placed : List ℕ → ℕ → List ℕ → List ℕ
placed d at x = take at d ++ x ++ drop (at + length x) d

-- p, and n zeros behind it
unfoldable pub padded : List ℕ → ℕ → List ℕ
padded p n = p ++ zeros n
