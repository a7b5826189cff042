-- LEB128 numbers with their limits (FORMAT 3.8; DWARF 5, 7.6): tags, names and forms keep within 3 bytes and 65,535, all others within
-- 10 bytes and 64 bits; a form that is signed has signed ones. A padded number counts by its value. A reader gives the value and the bytes taken.
use Rattle.std.specs.Prelude.{true, false, ◌||◌, List, [], ◌∷◌, ℕ, zero, suc, ◌+◌, ◌*◌, ◌-◌, ◌^◌, nat_le, nat_lt, if◌then◌else◌, Result, Ok, Err}
use Rattle.numbers.specs.Refusals.{no_identity}
use Rattle.octets.specs.Checked.{◌>>=◌, require}

-- groups of seven bits, least first, in at most so many bytes; a byte below 128 is the last
unfoldable pub groups : ℕ → List ℕ → Result (ℕ × ℕ) ℕ
groups zero s = Err no_identity
groups (suc k) [] = Err no_identity
groups (suc k) (b ∷ s) =
    if nat_lt b 128
    then Ok (b, 1)
    else groups k s >>= λ r. Ok (b - 128 + 128 * r.0, suc r.1)

-- a tag, a name or a form
unfoldable pub short : List ℕ → Result (ℕ × ℕ) ℕ
short s = do
  r ← groups 3 s
  _ ← require (nat_le r.0 65535) no_identity
  Ok r

-- an unsigned number
unfoldable pub unsigned : List ℕ → Result (ℕ × ℕ) ℕ
unsigned s = do
  r ← groups 10 s
  _ ← require (nat_lt r.0 (2 ^ 64)) no_identity
  Ok r

-- how many bytes a signed number takes. Only ten bytes can leave 64 bits: their 70 bits then are neither below 2^63 nor among the last 2^63
unfoldable pub signed_size : List ℕ → Result ℕ ℕ
signed_size s = do
  r ← groups 10 s
  _ ← require (nat_lt r.0 (2 ^ 63) || nat_le (2 ^ 70 - 2 ^ 63) r.0) no_identity
  Ok r.1
