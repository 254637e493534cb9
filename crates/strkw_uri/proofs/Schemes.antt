-- Whether a scheme is there, and where it ends, is settled by the text.
use Rattle.std.proofs.Common.{◌≡◌, ◌↔◌, ℕ, List, ◌∷◌, ◌++◌, inl, refl, sym, ap, subst, ◌∙◌, codes}
use Rattle.std.specs.Char.{is_ascii_alphabetic}
use Rattle.strkw_text.specs.Abnf.{Form, ◌⨾◌, Literal, Repeat, OneOf}
use Rattle.strkw_text.specs.Characters.{Alpha}
use Rattle.strkw_text.specs.Fronts.{StartsWith, StartsWithNo, RunThen, NotFirst}
use Rattle.strkw_text.proofs.Equivalences.{iff_trans, iff_sym}
use Rattle.strkw_text.proofs.Fronts.{free_by}
use Rattle.strkw_text.proofs.Laws.{assoc, no_start_then, Repeat-cons, Repeat-weaker}
use Rattle.strkw_text.proofs.Runs.{IsPrefixFree, OneOf-free, Literal-free, Then-free, run-free, free_then, run_then, one_stops, then_start, no_start_first}
use Rattle.strkw_text.proofs.Runs.{no_start_second, literal_start}
use Rattle.strkw_text.proofs.Weaker.{OneOf-weaker}
use Rattle.strkw_uri.specs.Characters.{is_scheme_char, is_nc_char, is_pchar}
use Rattle.strkw_uri.specs.Uri.{Encoded, Scheme, Authority, PathAbempty, QueryAndFragment, RelativeRef}
use Rattle.strkw_uri.specs.Scan.{alphabet, PathAndTail}
use Rattle.strkw_uri.specs.declared.part.Syntax.{Syntax}
use Rattle.strkw_uri.specs.declared.part.Part.TheVariants.{SegmentNcChar}
use Rattle.strkw_uri.proofs.Delimiters.{path_stops_nc, path_no_colon, tail_no_slash}
use Rattle.strkw_uri.proofs.Encodings.{encoded_free, stops_at}
use Rattle.strkw_uri.proofs.Hier.{hier_none}
use Rattle.strkw_uri.proofs.Parts.{no_percent, no_slash_in_segment, no_slash_in_nc, no_colon_in_nc, letter_in_nc, scheme_in_nc}

-- any number of further characters of a scheme
abbrev SchemeChars : Form
SchemeChars = Repeat (OneOf is_scheme_char)

-- a scheme and a colon are a letter, further characters and a colon
scheme_regroup : (text : List ℕ) → (Scheme ⨾ Literal (codes ":")) text ↔ (Alpha ⨾ SchemeChars ⨾ Literal (codes ":")) text
scheme_regroup = assoc Alpha SchemeChars (Literal (codes ":"))

-- a colon is no character of a scheme
colon_stops : (x y : List ℕ) → Literal (codes ":") x → StartsWithNo (OneOf is_scheme_char) (x ++ y)
colon_stops x y e = one_stops is_scheme_char 58 (x ++ y) y (ap (λ s. s ++ y) e) refl

-- where further characters and a colon end is settled by the text
others_free : IsPrefixFree (SchemeChars ⨾ Literal (codes ":"))
others_free = run-free (OneOf is_scheme_char) (Literal (codes ":")) (OneOf-free is_scheme_char) (Literal-free (codes ":")) colon_stops

-- where a scheme and a colon end is settled by the text
scheme_free : IsPrefixFree (Scheme ⨾ Literal (codes ":"))
scheme_free = free_by (Scheme ⨾ Literal (codes ":")) (Alpha ⨾ SchemeChars ⨾ Literal (codes ":")) (λ x h. (scheme_regroup x).0 h)
    (Then-free Alpha (SchemeChars ⨾ Literal (codes ":")) (OneOf-free is_ascii_alphabetic) others_free)

-- a letter, further characters and a colon at the front are a scheme and a colon there
pub scheme_found : (text others rest after : List ℕ) → StartsWith Alpha text others → RunThen (OneOf is_scheme_char) others rest → rest ≡ 58 ∷ after
    → StartsWith (Scheme ⨾ Literal (codes ":")) text after
scheme_found text others rest after letter r at =
    then_start Scheme (Literal (codes ":")) text rest after
    (then_start Alpha SchemeChars text others rest letter r.run) (literal_start 58 rest after at)

-- a text that begins with no letter begins with no scheme and colon
pub no_letter : (text : List ℕ) → StartsWithNo Alpha text → StartsWithNo (Scheme ⨾ Literal (codes ":")) text
no_letter text n = no_start_first Scheme (Literal (codes ":")) text (no_start_first Alpha SchemeChars text n)

-- nor does one with no colon behind the letter and the run
pub no_scheme : (text others rest : List ℕ) → StartsWith Alpha text others → RunThen (OneOf is_scheme_char) others rest → NotFirst 58 rest
    → StartsWithNo (Scheme ⨾ Literal (codes ":")) text
no_scheme text others rest letter r n after f =
    no_start_second Alpha (SchemeChars ⨾ Literal (codes ":")) text others (OneOf-free is_ascii_alphabetic) letter (no_colon others rest r n)
    after (record { front = f.front; is = (scheme_regroup f.front).0 f.is; joined = f.joined })
  where
    no_colon : (others rest : List ℕ) → RunThen (OneOf is_scheme_char) others rest → NotFirst 58 rest → StartsWithNo (SchemeChars ⨾ Literal (codes ":")) others
    no_colon others rest r n after g =
        let h = (assoc SchemeChars (Literal (codes ":")) (λ x. x ≡ after) others).0
        (record { front = g.front; back = after; first = g.is; second = refl; joined = g.joined }) in
        let k = (run_then (OneOf is_scheme_char) (Literal (codes ":") ⨾ (λ x. x ≡ after)) others rest (OneOf-free is_scheme_char)
        (λ x i. subst (StartsWithNo (OneOf is_scheme_char)) i.joined (colon_stops i.front i.back i.first)) r).0 h in
        n k.back (sym k.joined ∙ ap (λ s. s ++ k.back) k.first)

-- what begins with a scheme and colon is these and an H exactly where the rest is one
pub scheme_then : (H : Form) (text rest : List ℕ) → StartsWith (Scheme ⨾ Literal (codes ":")) text rest → (Scheme ⨾ Literal (codes ":") ⨾ H) text ↔ H rest
scheme_then H text rest f = iff_trans (iff_sym (assoc Scheme (Literal (codes ":")) H text)) (free_then (Scheme ⨾ Literal (codes ":")) H text rest scheme_free f)

-- a text that begins with no scheme and colon is no scheme, colon and H
pub no_scheme_then : (H : Form) (text : List ℕ) → StartsWithNo (Scheme ⨾ Literal (codes ":")) text → (Scheme ⨾ Literal (codes ":") ⨾ H) text → ⊥
no_scheme_then H text n h = no_start_then (Scheme ⨾ Literal (codes ":")) H text n ((assoc Scheme (Literal (codes ":")) H text).1 h)

-- a scheme is a run of characters of a first segment
scheme_in_run : (s : Syntax) (x : List ℕ) → Scheme x → Repeat (Encoded (is_nc_char (alphabet s))) x
scheme_in_run s x h =
    let class = is_nc_char (alphabet s) in
    subst (Repeat (Encoded class)) h.joined
    (Repeat-cons (Encoded class) h.front h.back (inl (OneOf-weaker is_ascii_alphabetic class (letter_in_nc s) h.front h.first))
    (Repeat-weaker (OneOf is_scheme_char) (Encoded class) (λ y o. inl (OneOf-weaker is_scheme_char class (scheme_in_nc s) y o)) h.back h.second))

-- what begins with a scheme and its colon is no relative reference
pub not_relative : (s : Syntax) (text rest : List ℕ) → StartsWith (Scheme ⨾ Literal (codes ":")) text rest → RelativeRef (alphabet s) text → ⊥
not_relative s text rest f h =
    let K = alphabet s in
    let class = is_nc_char K in
    let off : NotFirst 47 text = λ after e. no_start_first Scheme (Literal (codes ":")) text
    (no_start_first Alpha SchemeChars text (one_stops is_ascii_alphabetic 47 text after e refl)) rest f in
    let g = (assoc Scheme (Literal (codes ":")) (λ x. x ≡ rest) text).0
    (record { front = f.front; back = rest; first = f.is; second = refl; joined = f.joined }) in
    let d = g.second in
    let at : 58 ∷ rest ≡ g.back = ap (λ y. 58 ∷ y) (sym d.second) ∙ ap (λ y. y ++ d.back) (sym d.first) ∙ d.joined in
    let run : RunThen (Encoded class) text (58 ∷ rest) = record {
      run = record { front = g.front; is = scheme_in_run s g.front g.first; joined = ap (λ y. g.front ++ y) at ∙ g.joined };
      stops = stops_at class 58 (no_colon_in_nc s) refl rest;
    } in
    let i = hier_none (Authority K ⨾ PathAbempty K) (QueryAndFragment K) class (is_pchar K) (no_slash_in_nc s) (no_slash_in_segment s) (tail_no_slash K) text
    off in
    let p = (run_then (Encoded class) (PathAndTail K) text (58 ∷ rest) (encoded_free class (no_percent s SegmentNcChar)) (path_stops_nc s) run).0 (i.0 h) in
    path_no_colon K (58 ∷ rest) p rest refl
