-- An entry of the table of section names, as the definition has it.
use Rattle.std.proofs.Common.{◌≡◌, ℕ, ◌<◌, List, [], map, length, get_or, Bor, sym, ap, ◌∙◌, arith}
use Rattle.std.proofs.lemmas.List.{get_or-map, length-map}

pub bytes_at : (rows : List (Bor (List ℕ))) (names : List (List ℕ)) (d : Bor (List ℕ)) (i : ℕ) → map (λ r. r.now) rows ≡ names → i < length names
    → (get_or rows i d).now ≡ get_or names i []
bytes_at rows names d i e h =
    sym (get_or-map (λ r. r.now) rows i d [] (omega (arith, ap length e, length-map rows (λ (r : Bor (List ℕ)). r.now)))) ∙ ap (λ (l : List (List ℕ)). get_or l i []) e
