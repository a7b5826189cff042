-- Many questions for the package of an accepted bundle: the sum of their looks.
use Rattle.std.specs.Prelude.{◌≡◌, List, [], ◌∷◌, ℕ, ◌+◌, ◌*◌, ◌/◌, ◌≤◌, max, length}
use Rattle.numbers.specs.Tables.{compilation_table, type_table}
use Rattle.answers.specs.Answers.{made as answeredBy}
use Rattle.package.specs.Pack.{packed, made}
use Rattle.batch.specs.Batch.{batch_answered}
use Rattle.archive.specs.Theorem.{AreBytes}
use Rattle.archive.specs.Looks.{units_of}

-- the looks in the words of answers: the last of each four
unfoldable pub looks_in : List ℕ → ℕ
looks_in [] = 0
looks_in (code ∷ []) = 0
looks_in (code ∷ start ∷ []) = 0
looks_in (code ∷ start ∷ size ∷ []) = 0
looks_in (code ∷ start ∷ size ∷ looks ∷ rest) = looks + looks_in rest

-- the looks of all answers together: for each question no more than the larger table has units, and one (FORMAT 7.5); three words are a question
abbrev pub SumOfLooks : List ℕ → Type 0
SumOfLooks p =
    (v room : ℕ) (questions answers : List ℕ) → batch_answered p v questions room ≡ answeredBy answers
    → looks_in answers ≤ length questions / 3 * (max (units_of p compilation_table) (units_of p type_table) + 1)

-- b is a bundle that packing accepts, p its package
abbrev pub LooksAreFew : Type 0
LooksAreFew = (b : List ℕ) (w o : ℕ) (p : List ℕ) → AreBytes b → packed b w o ≡ made p → SumOfLooks p
