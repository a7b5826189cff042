-- The names of the sections in an object file, in ASCII bytes: `.debug_`, the section's word and `.dwo`, but for the two indexes, which end in their word (FORMAT 2.2).
-- One table, which the ELF files read and written and the printed tables use.
use Rattle.std.specs.Prelude.{List, [], ◌∷◌, ◌++◌, map, ℕ, slice_index_or}

-- the words of codes 1 to 11
unfoldable pub dwo_words : List (List ℕ)
dwo_words =
    -- info, types, abbrev, line, loc
    (105 ∷ 110 ∷ 102 ∷ 111 ∷ [])
    ∷ (116 ∷ 121 ∷ 112 ∷ 101 ∷ 115 ∷ [])
    ∷ (97 ∷ 98 ∷ 98 ∷ 114 ∷ 101 ∷ 118 ∷ [])
    ∷ (108 ∷ 105 ∷ 110 ∷ 101 ∷ [])
    ∷ (108 ∷ 111 ∷ 99 ∷ [])
    -- str_offsets, macinfo, macro
    ∷ (115 ∷ 116 ∷ 114 ∷ 95 ∷ 111 ∷ 102 ∷ 102 ∷ 115 ∷ 101 ∷ 116 ∷ 115 ∷ [])
    ∷ (109 ∷ 97 ∷ 99 ∷ 105 ∷ 110 ∷ 102 ∷ 111 ∷ [])
    ∷ (109 ∷ 97 ∷ 99 ∷ 114 ∷ 111 ∷ [])
    -- loclists, rnglists, str
    ∷ (108 ∷ 111 ∷ 99 ∷ 108 ∷ 105 ∷ 115 ∷ 116 ∷ 115 ∷ [])
    ∷ (114 ∷ 110 ∷ 103 ∷ 108 ∷ 105 ∷ 115 ∷ 116 ∷ 115 ∷ [])
    ∷ (115 ∷ 116 ∷ 114 ∷ [])
    ∷ []

-- cu_index and tu_index, codes 12 and 13
unfoldable pub index_words : List (List ℕ)
index_words = (99 ∷ 117 ∷ 95 ∷ 105 ∷ 110 ∷ 100 ∷ 101 ∷ 120 ∷ []) ∷ (116 ∷ 117 ∷ 95 ∷ 105 ∷ 110 ∷ 100 ∷ 101 ∷ 120 ∷ []) ∷ []

-- `.debug_`
unfoldable pub name_prefix : List ℕ
name_prefix = 46 ∷ 100 ∷ 101 ∷ 98 ∷ 117 ∷ 103 ∷ 95 ∷ []

-- `.dwo`
unfoldable pub name_suffix : List ℕ
name_suffix = 46 ∷ 100 ∷ 119 ∷ 111 ∷ []

unfoldable pub dwo_name : List ℕ → List ℕ
dwo_name word = name_prefix ++ (word ++ name_suffix)

unfoldable pub index_name : List ℕ → List ℕ
index_name word = name_prefix ++ word

-- by code; no section has code 0
unfoldable pub section_names : List (List ℕ)
section_names = [] ∷ (map dwo_name dwo_words ++ map index_name index_words)

unfoldable pub section_name : ℕ → List ℕ
section_name code = slice_index_or section_names code []
