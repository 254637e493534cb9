-- The labels of a text, one after another, and what holds of the characters that a loop has read.
use Rattle.std.proofs.Common.{◌≡◌, ℕ, ◌+◌, ◌-◌, ◌<◌, true, false, List, [], ◌∷◌, ◌++◌, length, get_or, take, drop, take_all, All}
use Rattle.std.proofs.Common.{Option, Some, None, option_map, sym, ap, ◌∙◌, arith, length-drop, take-append-drop}
use Rattle.std.specs.Char.{IsScalar}
use Rattle.std.specs.List.{slice_split}
use Rattle.std.specs.Str.{IsUtf8, chars}
use Rattle.std.proofs.Math.Utf8.{scalar, scalars}
use Rattle.std.proofs.lemmas.Bool.{and_parts}
use Rattle.std.proofs.lemmas.List.{drop_more}
use Rattle.std.proofs.lemmas.List.Elements.{All-nil, All-cons}
use Rattle.std.proofs.lemmas.List.Splits.{slice_split_at}
use Rattle.std.proofs.lemmas.Str.{scalars-chars}
use Rattle.strkw_label.specs.IdnHostName.{is_label_separator}

-- where the first separator stands
pub split_here : (text : List ℕ) (at : ℕ) → at < length text → is_label_separator (get_or text at 0) ≡ true
    → All (λ c. is_label_separator c ≡ false) (take at text)
    → slice_split is_label_separator text ≡ take at text ∷ slice_split is_label_separator (take (length text - (at + 1)) (drop (at + 1) text))
split_here text at lt sep none =
    let parts : take at text ++ get_or text at 0 ∷ drop (at + 1) text ≡ text =
    ap (λ x. take at text ++ x) (sym (drop_more text at 0 lt)) ∙ take-append-drop at text in
    let rest : take (length text - (at + 1)) (drop (at + 1) text) ≡ drop (at + 1) text = take_all _ _ (omega (arith, length-drop (at + 1) text)) in
    ap (slice_split is_label_separator) (sym parts) ∙ slice_split_at is_label_separator (take at text) (get_or text at 0) (drop (at + 1) text) none sep
    ∙ ap (λ x. take at text ∷ slice_split is_label_separator x) (sym rest)

-- an optional value, as it is seen
pub some_seen : {T : Type 0} (view : T → List ℕ) (o : Option T) (x : T) (seen : Option (List ℕ)) → option_map view o ≡ seen → o ≡ Some x → seen ≡ Some (view x)
some_seen view o x seen e f = sym e ∙ ap (option_map view) f

-- and none
pub none_seen : {T : Type 0} (view : T → List ℕ) (o : Option T) (seen : Option (List ℕ)) → option_map view o ≡ seen → o ≡ None → seen ≡ None
none_seen view o seen e f = sym e ∙ ap (option_map view) f

-- a list of scalar values by the test of all, element by element
All-scalars : (cs : List ℕ) → scalars cs ≡ true → All IsScalar cs
All-scalars [] e = All-nil IsScalar
All-scalars (c ∷ cs) e =
    let parts = and_parts (scalar c) (scalars cs) e in
    All-cons IsScalar c cs parts.0 (All-scalars cs parts.1)

-- the characters of a text are scalar values
pub chars_are_scalars : (text : List ℕ) → IsUtf8 text → All IsScalar (chars text)
chars_are_scalars text utf8 = All-scalars (chars text) (scalars-chars text utf8)
