-- What is appended, errors or annotations.
use Rattle.std.proofs.Common.{List, [], ◌++◌, map, sym, ap, ◌∙◌, subst, append_assoc, append-nil}
use Rattle.std.proofs.lemmas.List.{map-append}
use Rattle.neldrafi_schema.specs.machine.Found.{Grows}

pub nothing_appended : {V A : Type 0} {seen : V → A} (P : List A → Type 0) (old : List V) → P [] → Grows seen P old old
nothing_appended P old p = record { more = []; longer = sym (append-nil old); said = p }

pub appended_alike : {V A : Type 0} {seen : V → A} (P Q : List A → Type 0) (old new : List V) → ((es : List A) → P es → Q es) → Grows seen P old new → Grows seen Q old new
appended_alike {seen = seen} P Q old new same a = record { more = a.more; longer = a.longer; said = same (map seen a.more) a.said }

pub both_appended : {V A : Type 0} {seen : V → A} (P Q R : List A → Type 0) (old mid new : List V) → ((es fs : List A) → P es → Q fs → R (es ++ fs))
    → Grows seen P old mid → Grows seen Q mid new → Grows seen R old new
both_appended {seen = seen} P Q R old mid new join a b = record {
  more = a.more ++ b.more;
  longer = b.longer ∙ ap (λ l. l ++ b.more) a.longer ∙ append_assoc old a.more b.more;
  said = subst R (sym (map-append seen a.more b.more)) (join (map seen a.more) (map seen b.more) a.said b.said);
}
