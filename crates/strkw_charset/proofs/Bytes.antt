-- Bytes of a text that are characters, and their columns.
use Rattle.std.proofs.Common.{◌≡◌, ⊎_elim, ℕ, ◌+◌, ◌*◌, ◌/◌, ◌%◌, ◌<◌, ◌≤◌, List, ◌∷◌, ◌++◌, Vec, Global, Some, length, get_or, drop, IsUtf8}
use Rattle.std.proofs.Common.{encode_utf8, length-drop, get_or-drop, drop-drop, subst, sym, ap, ◌∙◌, arith}
use lib.Utf8.{scalar_cases}
use Rattle.std.specs.Char.{IsScalar}
use Rattle.std.specs.Str.Pattern.{StartsWithChar}
use Rattle.std.specs.Str.{chars}
use Rattle.std.proofs.iter.FirstChar.{wide, in_one, in_two, in_three, in_four}
use Rattle.std.proofs.lemmas.List.{drop_more}
use Rattle.std.proofs.lemmas.Str.{chars_past_char, IsUtf8-past_char, encode_ascii}
use Rattle.strkw_charset.specs.machine.CharClasses.{answers, column_of, IsColumnAt}
use Rattle.strkw_charset.specs.declared.char_classes.CharClasses.{CharClasses}
use Rattle.strkw_charset.specs.declared.tree.CharSet.{CharSet}
use Rattle.strkw_charset.proofs.ToldSets.{place_is}

-- the column of a character is one of those of the keys
pub column_within : (classes : List (Vec CharSet Global)) (keys : List ℕ) (c k : ℕ) → column_of classes keys c ≡ Some k → k < length keys
column_within classes keys c k is = (place_is keys (answers 0 classes c) k is).0

-- at a place of a text there is a character with this column, which is one byte
pub record ReadsByte (t : CharClasses) (text : List ℕ) (k b column : ℕ) : Type 0 where
  pub char : chars (drop k text) ≡ b ∷ chars (drop (k + 1) text)
  pub utf8 : IsUtf8 (drop (k + 1) text)
  pub is : column_of t.classes.items t.keys.items b ≡ Some column
  pub within : column < length t.keys.items

-- a byte that the columns of ASCII characters reach
module _ (t : CharClasses) (text bytes columns : List ℕ) (all : bytes ≡ text) (ascii : columns ≡ t.ascii.items) (k b entry column : ℕ)
    (within : k < length bytes) (b_is : b ≡ get_or bytes k 0) (reached : b < length columns) (entry_is : entry ≡ get_or columns b 0)
    (column_is : column ≡ entry) (utf8 : IsUtf8 (drop k text)) where
  -- its place lies in the text
  in_text : k < length text
  in_text = let same : length bytes ≡ length text = ap length all in omega arith

  -- it has a column in that list
  in_ascii : b < length t.ascii.items
  in_ascii = let same : length columns ≡ length t.ascii.items = ap length ascii in omega arith

  -- from its place on the text begins with it, encoded as a character
  begins : drop k text ≡ encode_utf8 b ++ drop (k + 1) text
  begins =
      let most : length t.ascii.items ≤ 128 = t.few_ascii in
      let small : b < 128 = omega (arith, in_ascii) in
      drop_more text k 0 in_text
      ∙ ap (λ (c : ℕ). c ∷ drop (k + 1) text) (sym (b_is ∙ ap (λ (l : List ℕ). get_or l k 0) all))
      ∙ ap (λ (s : List ℕ). s ++ drop (k + 1) text) (sym (encode_ascii b small))

  -- its column is that of the character
  right : column_of t.classes.items t.keys.items b ≡ Some column
  right = t.right_ascii b in_ascii ∙ ap Some (sym (column_is ∙ entry_is ∙ ap (λ (l : List ℕ). get_or l b 0) ascii))

  -- at its place there is that character with that column
  pub reads_byte : ReadsByte t text k b column
  reads_byte = record {
    char = chars_past_char (drop k text) (drop (k + 1) text) b utf8 begins;
    utf8 = IsUtf8-past_char (drop k text) (drop (k + 1) text) b utf8 begins;
    is = right;
    within = column_within t.classes.items t.keys.items b column right;
  }

-- where a character of so many bytes stands at a place of a text, it is the first from there on, and the others follow
pub reads_char : (text bytes : List ℕ) (k c width : ℕ) → bytes ≡ text → IsUtf8 (drop k text) → StartsWithChar (drop k bytes) c width
    → (chars (drop k text) ≡ c ∷ chars (drop (k + width) text)) × IsUtf8 (drop (k + width) text)
reads_char text bytes k c width all utf8 starts =
    let here = subst (λ (l : List ℕ). StartsWithChar (drop k l) c width) all starts in
    let rest = drop-drop width k text in (
      chars_past_char (drop k text) (drop width (drop k text)) c utf8 here.0 ∙ ap (λ (l : List ℕ). c ∷ chars l) rest,
      subst IsUtf8 rest here.4,
    )

-- at a place of a text stands a character, whose first byte tells how many bytes it has
module _ (text : List ℕ) (k : ℕ) (within : k < length text) (utf8 : IsUtf8 (drop k text)) where
  -- something stands there
  some : 0 < length (drop k text)
  some = omega (arith, within, length-drop k text)

  -- the bytes there are those of the text from the place on
  byte : (i : ℕ) → get_or (drop k text) i 0 ≡ get_or text (k + i) 0
  byte i = get_or-drop k text i 0

  -- the first of them is the byte at the place
  first : get_or (drop k text) 0 0 ≡ get_or text k 0
  first = let same : k + 0 ≡ k = omega arith in byte 0 ∙ ap (λ (n : ℕ). get_or text n 0) same

  -- so many more stand behind the first
  pub one_more : 128 ≤ get_or text k 0 → k + 1 < length text
  one_more low = omega (arith, (wide (drop k text) utf8 some).0 (omega (arith, first, low)), length-drop k text)

  -- two more, behind one from 224 on
  pub two_more : 224 ≤ get_or text k 0 → k + 2 < length text
  two_more low = omega (arith, (wide (drop k text) utf8 some).1 (omega (arith, first, low)), length-drop k text)

  -- three more, behind one from 240 on
  pub three_more : 240 ≤ get_or text k 0 → k + 3 < length text
  three_more low = omega (arith, (wide (drop k text) utf8 some).2 (omega (arith, first, low)), length-drop k text)

  -- the page of a character of so many bytes, by those before the last
  abbrev pub page_of_two : ℕ
  page_of_two = get_or text k 0 % 32

  -- of three bytes
  abbrev pub page_of_three : ℕ
  page_of_three = get_or text k 0 % 16 * 64 + get_or text (k + 1) 0 % 64

  -- of four bytes
  abbrev pub page_of_four : ℕ
  page_of_four = (get_or text k 0 % 8 * 64 + get_or text (k + 1) 0 % 64) * 64 + get_or text (k + 2) 0 % 64

  -- a scalar value is less than this
  most : (c : ℕ) → IsScalar c → c < 1114112
  most c scalar = ⊎_elim (λ low. omega (arith, low)) (λ high. high.1) (scalar_cases c scalar)

  -- so its page is one of those that there are
  pub few_pages : 240 ≤ get_or text k 0 → page_of_four < 17408
  few_pages low =
      let here = in_four (drop k text) utf8 some (omega (arith, first, low)) in
      let at : ℕ → ℕ = λ i. get_or (drop k text) i 0 in
      let below = most (at 0 % 8 * 262144 + at 1 % 64 * 4096 + at 2 % 64 * 64 + at 3 % 64) here.0 in
      omega (arith, below, first, byte 1, byte 2)

  module _ (t : CharClasses) (column : ℕ) where
    -- the characters of a page whose last byte is this have the column
    abbrev IsColumnIn : ℕ → ℕ → Type 0
    IsColumnIn page last = (c : ℕ) → IsScalar c → c / 64 ≡ page → c % 64 ≡ last % 64 → column_of t.classes.items t.keys.items c ≡ Some column

    -- and so does the character that stands there, where that is its page and its last byte
    abbrev IsColumnHere : ℕ → Type 0
    IsColumnHere width = IsColumnAt t.classes.items t.keys.items text k column width

    pub one_byte : get_or text k 0 < 128 → IsColumnIn (get_or text k 0 / 64) (get_or text k 0) → IsColumnHere 1
    one_byte high right =
        let here = in_one (drop k text) utf8 some (omega (arith, first, high)) in
        (_, here.0, here.1, right _ here.0 (omega (arith, first)) (omega (arith, first)))

    pub two_bytes : 128 ≤ get_or text k 0 → get_or text k 0 < 224 → IsColumnIn page_of_two (get_or text (k + 1) 0) → IsColumnHere 2
    two_bytes low high right =
        let here = in_two (drop k text) utf8 some (omega (arith, first, low)) (omega (arith, first, high)) in
        (_, here.0, here.1, right _ here.0 (omega (arith, first)) (omega (arith, byte 1)))

    pub three_bytes : 224 ≤ get_or text k 0 → get_or text k 0 < 240 → IsColumnIn page_of_three (get_or text (k + 2) 0) → IsColumnHere 3
    three_bytes low high right =
        let here = in_three (drop k text) utf8 some (omega (arith, first, low)) (omega (arith, first, high)) in
        (_, here.0, here.1, right _ here.0 (omega (arith, first, byte 1)) (omega (arith, byte 2)))

    pub four_bytes : 240 ≤ get_or text k 0 → IsColumnIn page_of_four (get_or text (k + 3) 0) → IsColumnHere 4
    four_bytes low right =
        let here = in_four (drop k text) utf8 some (omega (arith, first, low)) in
        (_, here.0, here.1, right _ here.0 (omega (arith, first, byte 1, byte 2)) (omega (arith, byte 3)))
