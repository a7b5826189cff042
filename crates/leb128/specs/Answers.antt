-- What so many bytes say, which only ties code to `groups`: nothing here need be believed.
use Rattle.std.specs.Prelude.{true, false, List, [], ◌∷◌, ℕ, zero, suc, ◌+◌, ◌*◌, ◌-◌, nat_lt, if◌then◌else◌}
use Rattle.leb128.specs.declared.Groups.{Groups}
use Rattle.leb128.specs.declared.Groups.TheVariants.{Ended, Open, Cut}

-- one byte before others, which is not the last
unfoldable pub before : ℕ → Groups → Groups
before b (Ended v n) = Ended (b - 128 + 128 * v) (suc n)
before b (Open v) = Open (b - 128 + 128 * v)
before b Cut = Cut

-- the groups of seven bits in at most k bytes, as `groups` has them, and what they say where none is the last
unfoldable pub groups_read : ℕ → List ℕ → Groups
groups_read zero s = Open 0
groups_read (suc k) [] = Cut
groups_read (suc k) (b ∷ s) = if nat_lt b 128 then Ended b 1 else before b (groups_read k s)
