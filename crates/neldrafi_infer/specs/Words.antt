-- The few texts that all texts of a property are.
use Rattle.std.specs.Prelude.{◌≡◌, ℕ, List, [], ◌∷◌, ◌++◌, Bool, false, ◌||◌, count_by, fold, if◌then◌else◌, length, map, nat_le, nat_lt, string_bytes}
use Rattle.std.specs.List.{list_any}
use Rattle.std.specs.Str.{bytes_eq}
use Rattle.neldrafi_infer.specs.declared.words.Word.{Word}
use Rattle.neldrafi_infer.specs.declared.words.Words.{Words}

-- how many of the texts are this
abbrev pub times : List ℕ → List (List ℕ) → ℕ
times text texts = count_by (bytes_eq text) texts

-- the text is put behind others, unless it is one of them
abbrev pub with_text : List (List ℕ) → List ℕ → List (List ℕ)
with_text others text = if list_any (λ other. bytes_eq other text) others then others else others ++ text ∷ []

-- each text once, by the place at which it comes first
abbrev pub distinct : List (List ℕ) → List (List ℕ)
distinct texts = fold with_text [] texts

-- a text, and whether it came again
abbrev pub word_view : Word → List ℕ × Bool
word_view w = (string_bytes w.text, w.is_repeated)

abbrev pub word_of : List (List ℕ) → List ℕ → List ℕ × Bool
word_of texts text = (text, nat_le 2 (times text texts))

-- the texts are these words, unless they are more than ten
pub record AreWords (texts : List (List ℕ)) (w : Words) : Type 0 where
  pub over : w.is_over ≡ nat_lt 10 (length (distinct texts))
  pub words : w.is_over ≡ false → map word_view w.words.items ≡ map (word_of texts) (distinct texts)

-- the word came again where it is this text
abbrev pub marked : List ℕ → List ℕ × Bool → List ℕ × Bool
marked text word = (word.0, word.1 || bytes_eq word.0 text)
