-- A name put together from its word.
use Rattle.std.proofs.Common.{◌≡◌, ap, sym, ◌∙◌, List, [], ◌∷◌, ◌++◌, append-nil, append_assoc, ℕ, zero, suc, ◌+◌, ◌-◌, ◌≤◌, ◌<◌, arith, length, get_or, take, length-append}
use Rattle.std.proofs.lemmas.Bool.{le-leb, lt-leb}
use Rattle.octets.specs.Octets.{placed}
use Rattle.octets.proofs.Parts.{part_front}
use Rattle.octets.proofs.Placed.{length_placed, placed_placed}
use Rattle.octets.proofs.Regions.{part_placed}
use Rattle.archive_tables.specs.NameRule.{words, name_front, name_end, word_of, suffix_of, name_by_rule}

-- each of the lists has at most 11 bytes
abbrev Short : List (List ℕ) → Type 0
Short [] = Unit {0}
Short (w ∷ ws) = (length w ≤ 11) × Short ws

short_at : (words : List (List ℕ)) (i : ℕ) → Short words → length (get_or words i []) ≤ 11
short_at [] i h = omega arith
short_at (w ∷ ws) zero h = h.0
short_at (w ∷ ws) (suc i) h = short_at ws i h.1

word_short : (code : ℕ) → length (word_of code) ≤ 11
unfolding word_of words
word_short code = short_at words (code - 1) (omega arith)

-- what a code adds behind its word
suffix_up_to : (code : ℕ) → code ≤ 11 → suffix_of code ≡ name_end
unfolding suffix_of
suffix_up_to code h = rw (suffix_of, le-leb code 11 h)

suffix_behind : (code : ℕ) → 11 < code → suffix_of code ≡ []
unfolding suffix_of
suffix_behind code h = rw (suffix_of, lt-leb code 11 h)

-- what stands in the front
front : (d x : List ℕ) (n : ℕ) → n ≡ length x → take n (placed d 0 x) ≡ x
front d x n e = ap (λ (k : ℕ). take k (placed d 0 x)) e ∙ sym (part_front (placed d 0 x) (length x)) ∙ part_placed d 0 x (omega arith)

-- ---- `.debug_`, a word and `.dwo`, stored one behind the other in so much room
module _ (code : ℕ) (word : List ℕ) (e : word ≡ word_of code) (room a : List ℕ) (l : length room ≡ 22) (put : a ≡ placed room 0 name_front) where
  pub word_most : length word ≤ 11
  word_most = rw e (word_short code)

  first_long : length a ≡ 22
  unfolding name_front
  first_long = ap length put ∙ length_placed room 0 name_front (omega arith) ∙ l

  pub room_word : 7 + length word ≤ length a
  room_word = omega (arith, word_most, first_long)

  module _ (b : List ℕ) (then : b ≡ placed a 7 word) where
    pub room_suffix : 7 + length word + 4 ≤ length b
    room_suffix = omega (arith, word_most, first_long, ap length then, length_placed a 7 word room_word)

    prefixed : length (name_front ++ word) ≡ 7 + length word
    unfolding name_front
    prefixed = length-append name_front word

    two : b ≡ placed room 0 (name_front ++ word)
    unfolding name_front
    two = then ∙ ap (λ (z : List ℕ). placed z 7 word) put ∙ placed_placed room 0 name_front word (omega arith)

    pub name_index : 11 < code → take (7 + length word) b ≡ name_by_rule code
    unfolding name_by_rule
    name_index h =
        ap (take (7 + length word)) two ∙ front room (name_front ++ word) (7 + length word) (sym prefixed)
        ∙ ap (λ (x : List ℕ). name_front ++ x) (e ∙ sym (append-nil (word_of code)) ∙ ap (λ (x : List ℕ). word_of code ++ x) (sym (suffix_behind code h)))

    pub name_dwo : code ≤ 11 → (c : List ℕ) → c ≡ placed b (7 + length word) name_end → take (7 + length word + 4) c ≡ name_by_rule code
    unfolding name_by_rule name_end
    name_dwo h c f =
        let whole = name_front ++ word ++ name_end in
        let behind : 7 + length word ≡ 0 + length (name_front ++ word) = omega (arith, prefixed) in
        let three : c ≡ placed room 0 whole =
        f ∙ ap (λ (k : ℕ). placed b k name_end) behind ∙ ap (λ (z : List ℕ). placed z (0 + length (name_front ++ word)) name_end) two
        ∙ placed_placed room 0 (name_front ++ word) name_end (omega (arith, prefixed, word_most)) in
        let long : 7 + length word + 4 ≡ length whole = omega (arith, prefixed, length-append (name_front ++ word) name_end) in
        ap (take (7 + length word + 4)) three ∙ front room whole (7 + length word + 4) long ∙ append_assoc name_front word name_end
        ∙ ap (λ (x : List ℕ). name_front ++ (x ++ name_end)) e ∙ ap (λ (x : List ℕ). name_front ++ (word_of code ++ x)) (sym (suffix_up_to code h))
