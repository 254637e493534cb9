-- The passes that look for the parts of a pattern.
use Rattle.std.proofs.Common.{◌≡◌, ◌+◌, ℕ, List, ◌∷◌, length, ap, arith, Bool, true, false, not, [], ◌++◌, refl, sym, subst, ◌∙◌}
use Rattle.strkw_regex_core.specs.machine.MarkedPattern.{MarkedPattern}
use Rattle.strkw_regex_core.specs.machine.OneCharLookahead.{are_told}
use Rattle.strkw_regex_core.specs.machine.ProgramSteps.{search_steps}
use Rattle.strkw_regex_core.specs.machine.Mirror.{mirror, mirror_if, is_backward}
use Rattle.strkw_regex_core.specs.machine.LeadingLookahead.{Part}
use Rattle.strkw_regex_core.specs.machine.EquivalentPatterns.{EquivalentPatterns}
use Rattle.strkw_regex_search.specs.machine.Passes.{Pass, IsPass, ArePasses, pass_of, passes_of}
use Rattle.strkw_regex_search.specs.declared.passes.Pass.{Pass as CodePass}
use Rattle.strkw_regex_core.proofs.PatternEquivalences.{alike_refl}
use Rattle.strkw_regex_core.proofs.Sizes.{told_steps}
use Rattle.strkw_charset.proofs.Booleans.{and_right}

-- where one is taken of what is left, the count of the others is their number
pub one_taken : {A : Type 0} {items others : List A} {x : A} {n m : ℕ} → items ≡ x ∷ others → m + 1 ≡ n → n ≡ length items → m ≡ length others
one_taken taken fewer count = let longer = ap length taken in omega (arith, longer, fewer, count)

-- a pattern that is no better told from the end of a text on is looked for along it
pub forth_pass : (n : Bool) (p : MarkedPattern) → is_backward p ≡ false
    → IsPass record { negated = n; backward = false; pattern = p } record { negated = n; pattern = p }
forth_pass n p along_it = record {
  negated = refl;
  backward = sym along_it;
  alike = subst (λ (b : Bool). EquivalentPatterns p (mirror_if b p)) (sym along_it) (alike_refl p);
  steps = subst (λ (b : Bool). search_steps p ≡ search_steps (mirror_if b p)) (sym along_it) refl;
}

-- and any other from its end on
pub back_pass : (n : Bool) (p q : MarkedPattern) → is_backward p ≡ true → EquivalentPatterns q (mirror p)
    → IsPass record { negated = n; backward = true; pattern = q } record { negated = n; pattern = p }
back_pass n p q turned u =
    let told : are_told (mirror p) ≡ true = and_right (not (are_told p)) _ turned in
    record {
      negated = refl;
      backward = sym turned;
      alike = subst (λ (b : Bool). EquivalentPatterns q (mirror_if b p)) (sym turned) u;
      steps = subst (λ (b : Bool). search_steps q ≡ search_steps (mirror_if b p)) (sym turned)
          (told_steps q (u.told ∙ told) ∙ u.steps told ∙ sym (told_steps (mirror p) told));
    }

-- passes one behind another
pub passes_append : (ps qs : List CodePass) → passes_of (ps ++ qs) ≡ passes_of ps ++ passes_of qs
passes_append [] qs = refl
passes_append (p ∷ ps) qs = ap (λ (l : List Pass). pass_of p ∷ l) (passes_append ps qs)

-- are those of the parts of both
pub are_passes_append : (xs ys : List Pass) (us bs : List Part) → ArePasses xs us → ArePasses ys bs → ArePasses (xs ++ ys) (us ++ bs)
are_passes_append [] ys [] bs u w = w
are_passes_append [] ys (a ∷ us) bs u w = absurd u
are_passes_append (x ∷ xs) ys [] bs u w = absurd u
are_passes_append (x ∷ xs) ys (a ∷ us) bs u w = (u.0, are_passes_append xs ys us bs u.1 w)
