-- What holds by whether a pattern is a class, or something that may be missing.
use Rattle.std.proofs.Common.{◌≡◌, Bool, List, refl}
use Rattle.strkw_charset.specs.declared.tree.CharSet.{CharSet}
use Rattle.strkw_regex_core.specs.machine.MarkedPattern.{MarkedPattern, empty, class, look, cat, alt, star, plus, lookbehind, lookahead}
use Rattle.strkw_regex_core.specs.machine.Program.{if_class, if_option}

-- a proof for a class and one for all patterns, of what is chosen by the first
pub by_class : {A : Type 0} (P : A → Type 0) (p : MarkedPattern) (f : Bool → List CharSet → A) (x : A)
    → ((m n : Bool) (rs : List CharSet) → p ≡ class m n rs → P (f n rs)) → P x → P (if_class p f x)
by_class P (class m n rs) f x g h = g m n rs refl
by_class P empty f x g h = h
by_class P (look l) f x g h = h
by_class P (cat p q) f x g h = h
by_class P (alt p q) f x g h = h
by_class P (star p) f x g h = h
by_class P (plus p) f x g h = h
by_class P (lookbehind n p) f x g h = h
by_class P (lookahead n p) f x g h = h

-- the same of what is chosen by whether the first of two is nothing and the second a class
pub by_option : {A : Type 0} (P : A → Type 0) (p q : MarkedPattern) (f : Bool → List CharSet → A) (x : A)
    → ((m n : Bool) (rs : List CharSet) → p ≡ empty → q ≡ class m n rs → P (f n rs)) → P x → P (if_option p q f x)
by_option P empty q f x g h = by_class P q f x (λ m n rs e. g m n rs refl e) h
by_option P (class m n rs) q f x g h = h
by_option P (look l) q f x g h = h
by_option P (cat p r) q f x g h = h
by_option P (alt p r) q f x g h = h
by_option P (star p) q f x g h = h
by_option P (plus p) q f x g h = h
by_option P (lookbehind n p) q f x g h = h
by_option P (lookahead n p) q f x g h = h
