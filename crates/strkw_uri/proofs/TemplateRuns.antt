-- The characters of a query are literals of a template, so it goes on behind a run of them.
use Rattle.std.proofs.Common.{◌≡◌, ◌↔◌, ℕ, true, not, ◌||◌, IsTrue, List, [], ◌∷◌, ◌++◌, refl, sym, ap, subst, ◌∙◌, append_assoc}
use Rattle.std.specs.List.{concat, AllByRecursion}
use Rattle.std.proofs.lemmas.Bool.{agree_below_at}
use Rattle.strkw_text.specs.Abnf.{Repeat}
use Rattle.strkw_text.specs.Fronts.{StartsWith}
use Rattle.strkw_text.proofs.Equivalences.{iff_trans}
use Rattle.strkw_uri.specs.Scan.{is_part_char}
use Rattle.strkw_uri.specs.Template.{is_literal_char, IsUriTemplate}
use Rattle.strkw_uri.specs.Uri.{Encoded}
use Rattle.strkw_uri.specs.declared.part.Syntax.TheVariants.{Rfc3986}
use Rattle.strkw_uri.specs.declared.part.Part.TheVariants.{QueryChar}
use Rattle.strkw_uri.proofs.AsciiRuns.{implied, part_small}
use Rattle.strkw_uri.proofs.Encodings.{Encoded-weaker}
use Rattle.strkw_uri.proofs.Expressions.{literal_front, template_step}

-- a character of a query by RFC 3986 is a literal character of a template
query_is_literal : (c : ℕ) → IsTrue (is_part_char Rfc3986 QueryChar c) → IsTrue (is_literal_char c)
query_is_literal c h =
    let all = agree_below_at (λ d. not (is_part_char Rfc3986 QueryChar d) || is_literal_char d) (λ _. true) 128 c refl (part_small QueryChar c h) in
    implied (is_part_char Rfc3986 QueryChar c) (is_literal_char c) all h

-- a template is one exactly where what follows such a run is
pub template_run : (text rest : List ℕ) → StartsWith (Repeat (Encoded (is_part_char Rfc3986 QueryChar))) text rest → IsUriTemplate text ↔ IsUriTemplate rest
template_run text rest run = go run.is.parts run.is.each text (ap (λ s. s ++ rest) run.is.joined ∙ run.joined)
  where
    go : (ps : List (List ℕ)) → AllByRecursion (Encoded (is_part_char Rfc3986 QueryChar)) ps → (whole : List ℕ) → concat ps ++ rest ≡ whole
        → IsUriTemplate whole ↔ IsUriTemplate rest
    go [] each whole e = (λ t. subst IsUriTemplate (sym e) t, λ t. subst IsUriTemplate e t)
    go (p ∷ ps) each whole e =
        let first = Encoded-weaker (is_part_char Rfc3986 QueryChar) is_literal_char query_is_literal p each.0 in
        let front = literal_front whole (concat ps ++ rest) (record { front = p; is = first; joined = sym (append_assoc p (concat ps) rest) ∙ e }) in
        iff_trans (template_step whole (concat ps ++ rest) front) (go ps each.1 (concat ps ++ rest) refl)
