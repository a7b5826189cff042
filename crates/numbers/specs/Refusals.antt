-- The numbers by which calls refuse, each with what it says (FORMAT 13).
use Rattle.std.specs.Prelude.{ℕ}

-- ---- packing
-- the length of the bundle
abbrev pub bad_length : ℕ
bad_length = 1

-- too few words of work
abbrev pub work_short : ℕ
work_short = 2

-- the word format is broken
abbrev pub bad_words : ℕ
bad_words = 3

-- version, offset width or address size of an object
abbrev pub bad_encoding : ℕ
bad_encoding = 4

-- the object word differs from the first object's
abbrev pub other_encoding : ℕ
other_encoding = 5

-- a section of the wrong edition, or a second one
abbrev pub wrong_edition : ℕ
wrong_edition = 6

-- no abbrev, no info, or str_offsets without str
abbrev pub section_missing : ℕ
section_missing = 7

-- str_offsets, or a part of it, ill-formed
abbrev pub bad_str_offsets : ℕ
bad_str_offsets = 8

-- an entry without a string
abbrev pub no_string : ℕ
no_string = 9

-- an index ill-formed
abbrev pub bad_index : ℕ
bad_index = 10

-- a unit's header
abbrev pub bad_header : ℕ
bad_header = 11

-- a unit's identity can't be read
abbrev pub no_identity : ℕ
no_identity = 12

-- a unit's identity is 0
abbrev pub identity_zero : ℕ
identity_zero = 13

-- a compilation identity already seen
abbrev pub identity_seen : ℕ
identity_seen = 14

-- no row for a unit, several, or a needed column missing
abbrev pub no_row : ℕ
no_row = 15

-- a part of a unit's row ends outside its section or cuts entries, or the row names another place
abbrev pub bad_row : ℕ
bad_row = 16

-- the output is too short; 17 is not used
abbrev pub output_short : ℕ
output_short = 18

-- a section, or what is written, is too long
abbrev pub section_too_long : ℕ
section_too_long = 19

-- ---- looking up
-- what is handed in is no package
abbrev pub bad_package : ℕ
bad_package = 21

-- an index of another version than the one given
abbrev pub other_version : ℕ
other_version = 22

-- no such table, or no such section code
abbrev pub bad_question : ℕ
bad_question = 23

-- a part ends outside its section, or its section is missing
abbrev pub part_outside : ℕ
part_outside = 24

-- no such entry
abbrev pub no_entry : ℕ
no_entry = 25

-- no string there
abbrev pub no_string_there : ℕ
no_string_there = 26

-- ---- reading an ELF file
-- no such ELF file, or not all of it is there
abbrev pub not_elf : ℕ
not_elf = 31

-- a wanted section is compressed, relocated or not stored
abbrev pub unreadable_section : ℕ
unreadable_section = 32

-- no unit in info that states the encoding
abbrev pub no_unit : ℕ
no_unit = 33

-- ---- packing a package of version 5
-- parts of str_offsets end outside it, overlap, or leave a byte out
abbrev pub bad_parts : ℕ
bad_parts = 34

-- ---- the sheet
-- the page is too short
abbrev pub page_short : ℕ
page_short = 35

-- ---- writing an ELF file
-- another machine
abbrev pub other_machine : ℕ
other_machine = 36

-- the output is too short for the file
abbrev pub file_short : ℕ
file_short = 37

-- ---- many questions
-- no questions, too many, or too little room for their answers
abbrev pub bad_questions : ℕ
bad_questions = 38
