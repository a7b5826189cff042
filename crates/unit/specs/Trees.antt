-- Codes in a digital search tree, in lent words. A node has five words: the nodes on its left and on its right, 0 where there is none; a number that it carries; its code, low
-- and high word. Node 0 is the root, which no link names. At each step the lowest bit that is left of a code says where it goes on.
-- These relations say what the code keeps: no definition of reading units rests on them.
use Rattle.std.specs.Prelude.{◌≡◌, Bool, true, false, List, [], ◌∷◌, ◌++◌, ℕ, zero, suc, ◌+◌, ◌*◌, ◌/◌, ◌%◌, ◌^◌, ◌<◌, ◌≤◌, length, Option, Some, None, Result, Ok, Err, slice_index}
use Rattle.octets.specs.Lists.{has}

abbrev pub node_words : ℕ
node_words = 5

-- ---- a node
unfoldable pub code_at : List ℕ → ℕ → ℕ
code_at w k = slice_index w (node_words * k + 3) + 2 ^ 32 * slice_index w (node_words * k + 4)

unfoldable pub carried_at : List ℕ → ℕ → ℕ
carried_at w k = slice_index w (node_words * k + 2)

unfoldable pub next_at : List ℕ → ℕ → ℕ → ℕ
next_at w k rest = slice_index w (node_words * k + rest % 2)

-- the words of a node without links
unfoldable pub node_of : ℕ → ℕ → List ℕ
node_of carried code = 0 ∷ 0 ∷ carried ∷ (code % 2 ^ 32) ∷ (code / 2 ^ 32) ∷ []

-- ---- a walk
-- by the bits of rest it comes from node i to node k, in so many steps
unfoldable pub Reaches : ℕ → List ℕ → ℕ → ℕ → ℕ → Type 0
Reaches zero w rest i k = i ≡ k
Reaches (suc n) w rest i k = (next_at w i rest ≡ 0 → ⊥) × Reaches n w (rest / 2) (next_at w i rest) k

-- from the root
pub record Reached (w : List ℕ) (code k : ℕ) : Type 0 where
  pub steps : ℕ
  pub is : Reaches steps w code 0 k

-- the links of the first n nodes lead to later ones among them: so every walk ends
pub record Rising (w : List ℕ) (n : ℕ) : Type 0 where
  pub room : node_words * n ≤ length w
  pub later : (k b : ℕ) → k < n → b < 2 → (slice_index w (node_words * k + b) ≡ 0 → ⊥) → k < slice_index w (node_words * k + b)
  pub among : (k b : ℕ) → k < n → b < 2 → slice_index w (node_words * k + b) < n

-- v has the links of the first n nodes of w that lead somewhere
pub record Linked (n : ℕ) (w v : List ℕ) : Type 0 where
  pub same : (q : ℕ) → q < node_words * n → (slice_index w q ≡ 0 → ⊥) → slice_index v q ≡ slice_index w q

-- ---- the tree of codes: each is found by its own walk
pub record Tree (w cs : List ℕ) : Type 0 where
  pub rising : Rising w (length cs)
  pub codes : (k : ℕ) → k < length cs → code_at w k ≡ slice_index cs k
  pub reached : (k : ℕ) → k < length cs → Reached w (slice_index cs k) k

-- the walk of a code ends at an empty link: no node of the code is reached, and a node that hangs from the link would be
pub record EndsFree (w : List ℕ) (n code link : ℕ) : Type 0 where
  pub node : ℕ
  pub side : ℕ
  pub is : link ≡ node_words * node + side
  pub inside : node < n
  pub left_right : side < 2
  pub free : slice_index w link ≡ 0
  pub none : (k : ℕ) → code_at w k ≡ code → Reached w code k → ⊥
  pub hangs : (v : List ℕ) → Linked n w v → (slice_index v link ≡ 0 → ⊥) → Reached v code (slice_index v link)

unfoldable pub Ends : List ℕ → ℕ → ℕ → Result ℕ ℕ → Type 0
Ends w n code (Ok k) = (k < n) × (code_at w k ≡ code)
Ends w n code (Err link) = EndsFree w n code link

-- ---- a search
-- a tree of n codes does not have the code
unfoldable pub Fresh : List ℕ → ℕ → ℕ → Type 0
Fresh w n code = (cs : List ℕ) → length cs ≡ n → Tree w cs → has cs code ≡ false

-- a node of the code, and what it carries
pub record Sought (w : List ℕ) (n code at : ℕ) : Type 0 where
  pub node : ℕ
  pub inside : node < n
  pub is : code_at w node ≡ code
  pub carries : carried_at w node ≡ at

abbrev pub Seeks : List ℕ → ℕ → ℕ → Option ℕ → Type 0
Seeks w n code (Some at) = Sought w n code at
Seeks w n code None = Fresh w n code

-- ---- one code more
pub record Grown (w v cs : List ℕ) (carried code : ℕ) : Type 0 where
  pub new : has cs code ≡ false
  pub tree : Tree v (cs ++ (code ∷ []))
  pub carries : carried_at v (length cs) ≡ carried
  pub others : (k : ℕ) → k < length cs → carried_at v k ≡ carried_at w k

-- it was added, or one of the codes is the same
unfoldable pub Added : List ℕ → List ℕ → List ℕ → ℕ → ℕ → Bool → Type 0
Added w v cs carried code true = Grown w v cs carried code
Added w v cs carried code false = has cs code ≡ true
