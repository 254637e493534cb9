-- The alphabets of RFC 4648 as it prints them: tables of values and letters. `specs/Rfc4648.antt`
-- has them as texts; the law `alphabets_as_published` says that these are the same.
use Rattle.std.specs.Prelude.{◌≡◌, ℕ, ◌*◌, ◌^◌, List, [], ◌∷◌, ◌++◌, length, map, slice_index}
use Rattle.std.specs.Str.{byte}
use Rattle.strkw_coding.specs.declared.codec.Codec.{Codec}
use Rattle.strkw_coding.specs.declared.codec.Codec.TheVariants.{Base64, Base64Url, Base32}
use Rattle.strkw_coding.specs.declared.codec.Codec.TheVariants.{Base32Hex, Base16}
use Rattle.strkw_coding.specs.Rfc4648.{alphabet, letter_bits, block_letters}

-- what tables 1 and 2 share: the letters of 0 to 61
abbrev pub tables_1_and_2 : List (ℕ × ℕ)
tables_1_and_2 =
    (0, byte "A") ∷ (1, byte "B") ∷ (2, byte "C") ∷ (3, byte "D") ∷ (4, byte "E") ∷ (5, byte "F") ∷
    (6, byte "G") ∷ (7, byte "H") ∷ (8, byte "I") ∷ (9, byte "J") ∷ (10, byte "K") ∷ (11, byte "L")
    ∷
    (12, byte "M") ∷ (13, byte "N") ∷ (14, byte "O") ∷ (15, byte "P") ∷ (16, byte "Q")
    ∷ (17, byte "R") ∷
    (18, byte "S") ∷ (19, byte "T") ∷ (20, byte "U") ∷ (21, byte "V") ∷ (22, byte "W")
    ∷ (23, byte "X") ∷
    (24, byte "Y") ∷ (25, byte "Z") ∷ (26, byte "a") ∷ (27, byte "b") ∷ (28, byte "c")
    ∷ (29, byte "d") ∷
    (30, byte "e") ∷ (31, byte "f") ∷ (32, byte "g") ∷ (33, byte "h") ∷ (34, byte "i")
    ∷ (35, byte "j") ∷
    (36, byte "k") ∷ (37, byte "l") ∷ (38, byte "m") ∷ (39, byte "n") ∷ (40, byte "o")
    ∷ (41, byte "p") ∷
    (42, byte "q") ∷ (43, byte "r") ∷ (44, byte "s") ∷ (45, byte "t") ∷ (46, byte "u")
    ∷ (47, byte "v") ∷
    (48, byte "w") ∷ (49, byte "x") ∷ (50, byte "y") ∷ (51, byte "z") ∷ (52, byte "0")
    ∷ (53, byte "1") ∷
    (54, byte "2") ∷ (55, byte "3") ∷ (56, byte "4") ∷ (57, byte "5") ∷ (58, byte "6")
    ∷ (59, byte "7") ∷
    (60, byte "8") ∷ (61, byte "9") ∷ []

-- table 1 (section 4): base64
abbrev pub table_1 : List (ℕ × ℕ)
table_1 = tables_1_and_2 ++ (62, byte "+") ∷ (63, byte "/") ∷ []

-- table 2 (section 5): base64url
abbrev pub table_2 : List (ℕ × ℕ)
table_2 = tables_1_and_2 ++ (62, byte "-") ∷ (63, byte "_") ∷ []

-- table 3 (section 6): base32
abbrev pub table_3 : List (ℕ × ℕ)
table_3 =
    (0, byte "A") ∷ (1, byte "B") ∷ (2, byte "C") ∷ (3, byte "D") ∷ (4, byte "E") ∷ (5, byte "F") ∷
    (6, byte "G") ∷ (7, byte "H") ∷ (8, byte "I") ∷ (9, byte "J") ∷ (10, byte "K") ∷ (11, byte "L")
    ∷
    (12, byte "M") ∷ (13, byte "N") ∷ (14, byte "O") ∷ (15, byte "P") ∷ (16, byte "Q")
    ∷ (17, byte "R") ∷
    (18, byte "S") ∷ (19, byte "T") ∷ (20, byte "U") ∷ (21, byte "V") ∷ (22, byte "W")
    ∷ (23, byte "X") ∷
    (24, byte "Y") ∷ (25, byte "Z") ∷ (26, byte "2") ∷ (27, byte "3") ∷ (28, byte "4")
    ∷ (29, byte "5") ∷
    (30, byte "6") ∷ (31, byte "7") ∷ []

-- table 4 (section 7): base32hex
abbrev pub table_4 : List (ℕ × ℕ)
table_4 =
    (0, byte "0") ∷ (1, byte "1") ∷ (2, byte "2") ∷ (3, byte "3") ∷ (4, byte "4") ∷ (5, byte "5") ∷
    (6, byte "6") ∷ (7, byte "7") ∷ (8, byte "8") ∷ (9, byte "9") ∷ (10, byte "A") ∷ (11, byte "B")
    ∷
    (12, byte "C") ∷ (13, byte "D") ∷ (14, byte "E") ∷ (15, byte "F") ∷ (16, byte "G")
    ∷ (17, byte "H") ∷
    (18, byte "I") ∷ (19, byte "J") ∷ (20, byte "K") ∷ (21, byte "L") ∷ (22, byte "M")
    ∷ (23, byte "N") ∷
    (24, byte "O") ∷ (25, byte "P") ∷ (26, byte "Q") ∷ (27, byte "R") ∷ (28, byte "S")
    ∷ (29, byte "T") ∷
    (30, byte "U") ∷ (31, byte "V") ∷ []

-- table 5 (section 8): base16
abbrev pub table_5 : List (ℕ × ℕ)
table_5 =
    (0, byte "0") ∷ (1, byte "1") ∷ (2, byte "2") ∷ (3, byte "3") ∷ (4, byte "4") ∷ (5, byte "5") ∷
    (6, byte "6") ∷ (7, byte "7") ∷ (8, byte "8") ∷ (9, byte "9") ∷ (10, byte "A") ∷ (11, byte "B")
    ∷
    (12, byte "C") ∷ (13, byte "D") ∷ (14, byte "E") ∷ (15, byte "F") ∷ []

-- the letters of an encoding are a table's, one for each number of so many bits, and a block is a
-- group of bits
pub record HasTable (c : Codec) (table : List (ℕ × ℕ)) (group_bits : ℕ) : Type 0 where
  pub letters : map (λ row. slice_index (alphabet c) row.0) table ≡ map (λ row. row.1) table
  pub as_many : length (alphabet c) ≡ length table
  pub each_number : 2 ^ letter_bits c ≡ length table
  pub group : block_letters c * letter_bits c ≡ group_bits

-- a block is 24 bits of base64 (section 4), 40 bits of base32 (section 6) and a byte of base16
-- (section 8)
pub record AlphabetsAsPublished : Type 0 where
  pub base64 : HasTable Base64 table_1 24
  pub base64url : HasTable Base64Url table_2 24
  pub base32 : HasTable Base32 table_3 40
  pub base32hex : HasTable Base32Hex table_4 40
  pub base16 : HasTable Base16 table_5 8
