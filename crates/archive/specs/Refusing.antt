-- By which numbers calls refuse: packing by 1 to 16, 18, 19 and 34; looking up by 21 to 26. The number is the code that a caller is told.
use Rattle.std.specs.Prelude.{◌≡◌, ◌⊎◌, List, ℕ, ◌≤◌}
use Rattle.numbers.specs.Refusals.{bad_length, bad_row, output_short, section_too_long, bad_parts, bad_package, no_string_there}
use Rattle.package.specs.Pack.{packed}
use Rattle.packer.specs.Small.{packed_small}
use Rattle.packer.specs.Told.{numbered as told}
use Rattle.lookup.specs.Lookup.{looked_up, string_found}
use Rattle.lookup.specs.Answers.{numbered}

-- 0, a package is made, or a refusal of packing
abbrev pub PackingCode : ℕ → Type 0
PackingCode n = (n ≡ 0) ⊎ ((bad_length ≤ n) × (n ≤ bad_row)) ⊎ (n ≡ output_short) ⊎ (n ≡ section_too_long) ⊎ (n ≡ bad_parts)

-- 0, found, 1, absent, or a refusal of looking up
abbrev pub LookupCode : ℕ → Type 0
LookupCode n = (n ≡ 0) ⊎ (n ≡ 1) ⊎ ((bad_package ≤ n) × (n ≤ no_string_there))

pub record RefusesByNumber : Type 0 where
  pub packing : (b : List ℕ) (w o : ℕ) → PackingCode (told b (packed b w o)).code
  pub packing_small : (b : List ℕ) (o : ℕ) → PackingCode (told b (packed_small b o)).code
  pub looking_up : (p : List ℕ) (v table x code : ℕ) → LookupCode (numbered (looked_up p v table x code)).code
  pub looking_up_string : (p : List ℕ) (v table x k : ℕ) → LookupCode (numbered (string_found p v table x k)).code
