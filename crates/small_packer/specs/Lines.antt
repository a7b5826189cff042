-- A word as a line: 8 hexadecimal digits with capitals, and a newline.
use Rattle.std.specs.Prelude.{true, false, List, [], ◌∷◌, ℕ, ◌+◌, ◌/◌, ◌%◌, nat_lt, if◌then◌else◌}

-- the character of a digit: 0 to 9 from 48 on, A to F from 65 on
unfoldable pub digit_of : ℕ → ℕ
digit_of d = if nat_lt d 10 then 48 + d else 55 + d

unfoldable pub line_of : ℕ → List ℕ
line_of word =
    digit_of (word / 0x1000_0000) ∷ digit_of (word / 0x100_0000 % 16) ∷ digit_of (word / 0x10_0000 % 16) ∷ digit_of (word / 0x1_0000 % 16)
    ∷ digit_of (word / 0x1000 % 16) ∷ digit_of (word / 0x100 % 16) ∷ digit_of (word / 0x10 % 16) ∷ digit_of (word % 16) ∷ 10 ∷ []
