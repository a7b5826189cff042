-- The checks of one object, in the order of `input_of`: 4 to 7, then what is opened, in either order.
use mathlib.Core.Path.{◌≡◌, refl, sym, ap}
use mathlib.Core.Bool.{Bool, true, false}
use mathlib.Core.List.{List, [], ◌∷◌, append-nil}
use mathlib.Core.Option.{Option}
use Prim.Native.Nat.{ℕ}
use lib.Dec.{eqb}
use Rattle.octets.specs.Checked.{Check, pass, refuse, ◌>>=◌, require}
use Rattle.octets.proofs.Checks.{then_pass}
use Rattle.bundle.specs.Bundle.{Part, Object, body}
use Rattle.bundle.specs.Encoding.{Encoding, encoding_of, encoding_good}
use Rattle.strings.specs.Strings.{entries_of, strings_at}
use Rattle.index.specs.Index.{Index}
use Rattle.index.specs.Rows.{BySection}
use Rattle.package.specs.Pieces.{Piece, piece_of, used_in}
use Rattle.package.specs.Input.{present, edition_good, complete, form_of, input_index, whole_pieces, is_packed, tiled_pieces, Opened, opened_whole, opened_tiled, opened, input_of}
use Rattle.filing.specs.Judged.{object_check, index_check}
use Rattle.filing.specs.ByObject.{strings_check, input_given}

four_tests : {A B : Type 0} (s t u v : Bool) (a : A) (f : A → Check B)
    → ((require s 4 >>= λ _. (require t 5 >>= λ _. (require u 6 >>= λ _. (require v 7 >>= λ _. pass a)))) >>= f) ≡ (require s 4 >>= λ _. (require t 5 >>= λ _. (require u 6 >>= λ _. (require v 7 >>= λ _. f a))))
unfolding require ◌>>=◌
four_tests false t u v a f = refl
four_tests true false u v a f = refl
four_tests true true false v a f = refl
four_tests true true true false a f = refl
four_tests true true true true a f = refl

pub input_checks : (b : List ℕ) (big : Bool) (first : ℕ) (o : Object) → input_of b big first o
    ≡ (object_check big first o.word o.parts >>= λ e. input_given b e o.parts (opened e o.parts (body b o.parts)))
unfolding input_of object_check input_given
input_checks b big first o = sym (four_tests (encoding_good (encoding_of big o.word)) (eqb o.word first) (edition_good (encoding_of big o.word) o.parts) (complete o.parts) (encoding_of big o.word) _)

-- ---- either order
two_steps : {A B C : Type 0} (m : Check A) (w : Check B) (f : A × B → Check C) → ((m >>= λ a. (w >>= λ b. pass (a, b))) >>= f) ≡ (m >>= λ a. (w >>= λ b. f (a, b)))
unfolding ◌>>=◌
two_steps (pass a) (pass b) f = refl
two_steps (pass a) (refuse n) f = refl
two_steps (refuse n) w f = refl

module _ (e : Encoding) (ps : List Part) (bytes : BySection (List ℕ)) where
  pub packed_tiled : is_packed e ps ≡ true → opened e ps bytes ≡ opened_tiled e ps bytes
  unfolding opened
  packed_tiled z = rw (opened, z)

  pub packed_whole : is_packed e ps ≡ false → opened e ps bytes ≡ opened_whole e ps bytes
  unfolding opened
  packed_whole z = rw (opened, z)

  -- both indexes, the first refusal first
  abbrev pub indexes : Check (Option Index × Option Index)
  indexes = input_index e ps bytes 12 >>= λ cu. (input_index e ps bytes 13 >>= λ tu. pass (cu, tu))

  -- 8, 9, 10
  pub whole_steps : opened_whole e ps bytes ≡ (whole_pieces e ps bytes >>= λ q. (indexes >>= λ p. pass (record { pieces = q; cu_index = p.0; tu_index = p.1 })))
  unfolding opened_whole
  whole_steps = ap (λ (f : List Piece → Check Opened). whole_pieces e ps bytes >>= f) (λ i q. sym (two_steps (input_index e ps bytes 12) (input_index e ps bytes 13) (λ p. pass (record { pieces = q; cu_index = p.0; tu_index = p.1 }))) i)

  -- 10, 34, 8, 9
  pub tiled_steps : opened_tiled e ps bytes ≡ (indexes >>= λ p. (tiled_pieces e bytes p.0 p.1 >>= λ q. pass (record { pieces = q; cu_index = p.0; tu_index = p.1 })))
  unfolding opened_tiled
  tiled_steps = sym (two_steps (input_index e ps bytes 12) (input_index e ps bytes 13) (λ p. tiled_pieces e bytes p.0 p.1 >>= λ q. pass (record { pieces = q; cu_index = p.0; tu_index = p.1 })))

  -- 10, as code judges it
  pub index_is : (c : ℕ) → index_check e.big (form_of e) (present ps c) (bytes c) ≡ input_index e ps bytes c
  unfolding input_index index_check
  index_is c = refl

-- ---- the strings of one piece
module _ (e : Encoding) (str s : List ℕ) where
  abbrev made : List (List ℕ) → Piece
  made us = record { bytes = s; used = us }

  used_last : (k : Check (List (List ℕ))) → (((k >>= λ us. pass (made us)) >>= λ p. pass (p ∷ [])) >>= λ ps. pass (used_in ps)) ≡ k
  unfolding ◌>>=◌ used_in
  used_last (pass us) = ap pass (append-nil us)
  used_last (refuse n) = refl

  used_one : (k : Check (List ℕ)) → (((k >>= λ os. (strings_at str os >>= λ us. pass (made us))) >>= λ p. pass (p ∷ [])) >>= λ ps. pass (used_in ps)) ≡ (k >>= strings_at str)
  unfolding ◌>>=◌
  used_one (pass os) = used_last (strings_at str os)
  used_one (refuse n) = refl

pub whole_used : (e : Encoding) (ps : List Part) (bytes : BySection (List ℕ)) → (whole_pieces e ps bytes >>= λ q. pass (used_in q)) ≡ strings_check e (present ps 6) (bytes 6) (bytes 11)
unfolding whole_pieces strings_check piece_of used_in
whole_used e ps bytes = go (present ps 6) refl
  where
    go : (t : Bool) → present ps 6 ≡ t → (whole_pieces e ps bytes >>= λ q. pass (used_in q)) ≡ strings_check e (present ps 6) (bytes 6) (bytes 11)
    go true z = rw (whole_pieces, strings_check, z) (used_one e (bytes 11) (bytes 6) (entries_of e (bytes 6)))
    go false z = rw (whole_pieces, strings_check, z) (then_pass _ _ [] refl)
