-- Items taken apart: the sections before the next object, what stands behind them, the objects.
-- Assumes nothing.
use mathlib.Core.Path.{_≡_, refl, ap}
use mathlib.Core.Bool.{true}
use mathlib.Core.List.{List, [], _∷_, _++_, map}
use Prim.Native.Nat.{ℕ}
use native.Mathlib.Omega.{arith}
use Rattle·bundle·specs.specs.Bundle.{Part, Item, object, section, leading, objectsOf, objectFirst}

-- what stands behind the leading sections
unfoldable pub behind : List Item → List Item
behind [] = []
behind (object w ∷ is) = object w ∷ is
behind (section p ∷ is) = behind is

pub behind-objects : (is : List Item) → objectsOf (behind is) ≡ objectsOf is
unfolding behind objectsOf
behind-objects [] = refl
behind-objects (object w ∷ is) = refl
behind-objects (section p ∷ is) = behind-objects is

pub behind-first : (is : List Item) → objectFirst (behind is) ≡ true
unfolding behind objectFirst
behind-first [] = refl
behind-first (object w ∷ is) = refl
behind-first (section p ∷ is) = behind-first is

-- sections that another section follows
pub leading-sections : (ps : List Part) (is : List Item) → leading (map section ps ++ is) ≡ ps ++ leading is
unfolding leading
leading-sections [] is = refl
leading-sections (p ∷ ps) is = ap (λ (l : List Part). p ∷ l) (leading-sections ps is)

pub objects-sections : (ps : List Part) (is : List Item) → objectsOf (map section ps ++ is) ≡ objectsOf is
unfolding objectsOf
objects-sections [] is = refl
objects-sections (p ∷ ps) is = objects-sections ps is

-- nothing leads where an object is first
pub leading-none : (is : List Item) → objectFirst is ≡ true → leading is ≡ []
unfolding leading objectFirst
leading-none [] e = refl
leading-none (object w ∷ is) e = refl
leading-none (section p ∷ is) e = absurd (let z : _≡_ {A = ℕ} 0 1 = cc in omega arith)
