-- What looks for parts, one after the other.
use Rattle.std.proofs.Common.{◌≡◌, ℕ, Bool, true, false, ◌&&◌, List, [], ◌∷◌, ◌++◌, refl, sym, ap, ◌∙◌}
use Rattle.strkw_charset.specs.Membership.{differ}
use Rattle.strkw_regex_core.specs.machine.Mirror.{along}
use Rattle.strkw_ecma.specs.machine.Engine.{is_found_by, are_found_by}
use Rattle.strkw_regex_search.specs.machine.Passes.{Pass, pass_of, are_passes_found}
use Rattle.strkw_regex_search.specs.machine.Search.{found_in}
use Rattle.strkw_regex_core.specs.machine.Shape.{outline_pattern}
use Rattle.strkw_ecma.specs.declared.finder.PartFinder.{PartFinder}
use Rattle.strkw_regex_search.specs.declared.passes.Pass.{Pass as CodePass}

-- three answers hold together in either grouping
and_grouped : (a b c : Bool) → ((a && b) && c) ≡ (a && (b && c))
and_grouped true b c = refl
and_grouped false b c = refl

-- what one finder more finds stands before what the others are to find
pub one_found : (fs : List PartFinder) (f : PartFinder) (x : CodePass) (rest : List Pass) (text : List ℕ) → f.negated ≡ x.negated
    → is_found_by f.search text ≡ found_in (outline_pattern x.pattern) (along x.is_backward text)
    → (are_found_by (fs ++ (f ∷ [])) text && are_passes_found rest text) ≡ (are_found_by fs text && are_passes_found (pass_of x ∷ rest) text)
one_found [] f x rest text e g =
    and_grouped (differ f.negated (is_found_by f.search text)) true (are_passes_found rest text)
    ∙ ap (λ (n : Bool). differ n (is_found_by f.search text) && are_passes_found rest text) e
    ∙ ap (λ (b : Bool). differ x.negated b && are_passes_found rest text) g
one_found (h ∷ fs) f x rest text e g =
    let here = differ h.negated (is_found_by h.search text) in
    and_grouped here (are_found_by (fs ++ (f ∷ [])) text) (are_passes_found rest text)
    ∙ ap (λ (b : Bool). here && b) (one_found fs f x rest text e g)
    ∙ sym (and_grouped here (are_found_by fs text) (are_passes_found (pass_of x ∷ rest) text))
