-- 6 and 7 by how many sections of each code there are, as code counts them. Nothing here need be believed: laws say that it is `edition_good` and `complete`.
use Rattle.std.specs.Prelude.{Bool, true, false, not, ◌&&◌, ◌||◌, List, [], ◌∷◌, ℕ, nat_le, slice_index}
use Rattle.numbers.specs.Sections.{info_code, types_code, abbrev_code, loc_code, str_offsets_code, macinfo_code, loclists_code, rnglists_code, str_code, cu_index_code, tu_index_code}
use Rattle.octets.specs.Lists.{all}
use Rattle.package.specs.Input.{only_once}

unfoldable pub wrong_for : Bool → List ℕ
wrong_for true = types_code ∷ loc_code ∷ macinfo_code ∷ []
wrong_for false = loclists_code ∷ rnglists_code ∷ []

unfoldable pub edition_by : Bool → List ℕ → Bool
edition_by five count =
    all (λ c. not (nat_le 1 (slice_index count c))) (wrong_for five) && all (λ c. not (nat_le 2 (slice_index count c))) only_once
    && not ((nat_le 1 (slice_index count cu_index_code) || (five && nat_le 1 (slice_index count tu_index_code))) && nat_le 2 (slice_index count info_code))
    && not (nat_le 1 (slice_index count tu_index_code) && nat_le 2 (slice_index count types_code))

unfoldable pub complete_by : List ℕ → Bool
complete_by count = nat_le 1 (slice_index count abbrev_code) && nat_le 1 (slice_index count info_code) && (not (nat_le 1 (slice_index count str_offsets_code)) || nat_le 1 (slice_index count str_code))
