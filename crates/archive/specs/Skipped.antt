-- How many type units an accepted packing skipped, as callers of the C entries are told it. What a repeat and a namesake are is said in
-- `package/specs/Filing.antt`.
use Rattle.std.specs.Prelude.{◌≡◌, List, ℕ, ◌+◌, ◌-◌, length}
use Rattle.package.specs.Filing.{kept}
use Rattle.package.specs.Pack.{packed, made, handed_in, repeats, namesakes}
use Rattle.packer.specs.Told.{numbered as told}

pub record TellsSkipped : Type 0 where
  pub repeated : (b : List ℕ) (w o : ℕ) → (told b (packed b w o)).repeats ≡ repeats b w o
  pub named : (b : List ℕ) (w o : ℕ) → (told b (packed b w o)).namesakes ≡ namesakes b w o
  -- together they are the units handed in less the units kept
  pub together : (b : List ℕ) (w o : ℕ) (p : List ℕ) → packed b w o ≡ made p → repeats b w o + namesakes b w o ≡ length (handed_in b) - length (kept (handed_in b))
  -- with a refusal, 18 too, none
  pub refused : (b : List ℕ) (w o : ℕ) → ((told b (packed b w o)).code ≡ 0 → ⊥) → (repeats b w o ≡ 0) × (namesakes b w o ≡ 0)
