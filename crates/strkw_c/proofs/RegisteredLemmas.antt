-- The rows of the companions, of which the first are registered.
use Rattle.std.proofs.Common.{◌≡◌, ℕ, Bool, true, false, List, [], ◌∷◌, length, take, map, ap, ap₂, ◌∙◌}
use Rattle.strkw_report.specs.declared.draft.Draft.{Draft}
use Rattle.strkw_report.specs.declared.draft.Draft.TheVariants.{Draft4, Draft6, Draft7, Draft201909, Draft202012}
use Rattle.strkw_keywords.specs.Meanings.{Row, no_lists}
use Rattle.strkw_companions.specs.declared.companion.Companion.{Companion}
use Rattle.strkw_companions.specs.declared.companion.Companion.TheVariants.{Email, IdnEmail, IdnHostname, Regex}
use Rattle.strkw_companions.specs.Companions.{name_of, admits}
use Rattle.strkw_c.specs.Settings.{companion_row, lists_for, registered_companions}

-- two rows that are others, one by one: so is the list of them
both : {a b x y : Row} → a ≡ x → b ≡ y → a ∷ b ∷ [] ≡ x ∷ y ∷ []
both p q = ap₂ (λ x y. x ∷ y ∷ []) p q

-- four rows: the same
all_four : {a b c d x y z w : Row} → a ≡ x → b ≡ y → c ≡ z → d ≡ w → a ∷ b ∷ c ∷ d ∷ [] ≡ x ∷ y ∷ z ∷ w ∷ []
all_four p q s t = ap₂ (λ x rest. x ∷ rest) p (ap₂ (λ y rest. y ∷ rest) q (both s t))

-- four rows that read as the companions do: so many of them as are registered read as those
pub rows_registered : {N : Type 0} (read : N → Row) (r s t u : N) (draft : Draft) (companions : Bool) (count : ℕ)
    → count ≡ length (registered_companions draft companions)
    → read r ≡ companion_row Email → read s ≡ companion_row Regex → read t ≡ companion_row IdnEmail → read u ≡ companion_row IdnHostname
    → map read (take count (r ∷ s ∷ t ∷ u ∷ [])) ≡ map companion_row (registered_companions draft companions)
rows_registered read r s t u draft false count e p q v w = ap (λ n. map read (take n (r ∷ s ∷ t ∷ u ∷ []))) e
rows_registered read r s t u Draft4 true count e p q v w = ap (λ n. map read (take n (r ∷ s ∷ t ∷ u ∷ []))) e ∙ both p q
rows_registered read r s t u Draft6 true count e p q v w = ap (λ n. map read (take n (r ∷ s ∷ t ∷ u ∷ []))) e ∙ both p q
rows_registered read r s t u Draft7 true count e p q v w = ap (λ n. map read (take n (r ∷ s ∷ t ∷ u ∷ []))) e ∙ all_four p q v w
rows_registered read r s t u Draft201909 true count e p q v w = ap (λ n. map read (take n (r ∷ s ∷ t ∷ u ∷ []))) e ∙ all_four p q v w
rows_registered read r s t u Draft202012 true count e p q v w = ap (λ n. map read (take n (r ∷ s ∷ t ∷ u ∷ []))) e ∙ all_four p q v w

-- so the lists with these rows are those of the settings
pub lists_registered : {N : Type 0} (read : N → Row) (r s t u : N) (draft : Draft) (companions : Bool) (count : ℕ) (items : List N)
    → items ≡ r ∷ s ∷ t ∷ u ∷ [] → count ≡ length (registered_companions draft companions)
    → read r ≡ companion_row Email → read s ≡ companion_row Regex → read t ≡ companion_row IdnEmail → read u ≡ companion_row IdnHostname
    → record no_lists { formats = map read (take count items) } ≡ lists_for draft companions
lists_registered read r s t u draft companions count items are e p q v w =
    ap (λ l. record no_lists { formats = map read (take count l) }) are
    ∙ ap (λ l. record no_lists { formats = l }) (rows_registered read r s t u draft companions count e p q v w)

-- a row that has a companion's name and admits what the companion admits is the row of that companion
pub row_of_companion : (r : Row) (companion : Companion) → r.name ≡ name_of companion → ((text : List ℕ) → r.admits text ≡ admits companion text)
    → r ≡ companion_row companion
row_of_companion r companion named alike = λ i. record { name = named i; admits = λ text. alike text i }
