-- Each text is a U-label, or it is not, and each keeps the Bidi rule, or it does not.
use Rattle.std.proofs.Common.{◌≡◌, ◌≢◌, ◌≤◌, ◌<◌, ◌+◌, ◌-◌, ◌⊎◌, ℕ, zero, suc, Bool, true, false}
use Rattle.std.proofs.Common.{List, [], ◌∷◌, length, refl, sym, ◌∙◌, All, inl, inr, arith, subst}
use Rattle.std.specs.Prelude.{IsTrue, slice_index, ◌==◌, ◌||◌}
use Rattle.std.specs.Char.{IsScalar}
use Rattle.std.specs.Int.{is_in_range}
use Rattle.std.specs.List.{AllByRecursion, AllPass, list_any}
use Rattle.std.specs.Str.{byte}
use Rattle.std.proofs.lemmas.Bool.{false≢true}
use Rattle.std.proofs.lemmas.List.Elements.{All-from_recursion, recursion_from_All}
use Rattle.unicode_normalization.specs.Forms.{Nfc, nfc}
use Rattle.ucd_bidi.specs.BidiClass.{bidi_class}
use Rattle.ucd_bidi.specs.declared.BidiClass.{BidiClass}
use Rattle.ucd_bidi.specs.declared.BidiClass.TheVariants.{NonspacingMark}
use Rattle.ucd_bidi.specs.JoiningType.{joining_type}
use Rattle.ucd_bidi.specs.declared.JoiningType.{JoiningType}
use Rattle.ucd_bidi.specs.declared.JoiningType.TheVariants.{Transparent}
use Rattle.ucd_category.specs.GeneralCategory.{general_category}
use Rattle.ucd_normal.specs.CanonicalCombiningClass.{canonical_combining_class}
use Rattle.ucd_script.specs.Script.{script}
use Rattle.ucd_script.specs.declared.Script.{Script}
use Rattle.ucd_script.specs.declared.Script.TheVariants.{Greek, Hebrew}
use Rattle.strkw_net.specs.HostName.{IsLabel, is_letter_digit_hyphen}
use Rattle.strkw_label.specs.BidiRule.{EndsIn, KeepsRightToLeft, KeepsLeftToRight, KeepsBidiRule}
use Rattle.strkw_label.specs.BidiRule.{is_left_to_right, begins_right_to_left, is_right_to_left}
use Rattle.strkw_label.specs.BidiRule.{is_european_number, is_arabic_number, is_of_both_directions}
use Rattle.strkw_label.specs.ContextRules.{FollowsVirama, JoinsBefore, JoinsFrom, is_virama_class}
use Rattle.strkw_label.specs.ContextRules.{joins_to_the_left, joins_to_the_right, NonJoinerFits}
use Rattle.strkw_label.specs.ContextRules.{JoinerFits, KeraiaFits, GereshFits, FitsNeighbours}
use Rattle.strkw_label.specs.ContextRules.{FitsContext, is_japanese}
use Rattle.strkw_label.specs.DerivedProperty.{derived_property, is_permitted}
use Rattle.strkw_label.specs.LabelRules.{MiddleDotStands, is_mark}
use Rattle.strkw_label.specs.IdnHostName.{HasReservedHyphens, IsUnicodeLabel, IsPlainLabel}
use Rattle.strkw_label.specs.IdnHostName.{is_all_ascii}
use Rattle.strkw_companions.specs.Decisions.{Decision, by_other, decide_both, decide_either}
use Rattle.strkw_companions.specs.Decisions.{decide_negation, decide_implication}
use Rattle.strkw_companions.specs.Decisions.{is_so, is_not_so, same_number, same_text, at_most}
use Rattle.strkw_companions.specs.Decisions.{some_below, each_below}

-- ---- of lists and numbers

decide_each : (P : ℕ → Type 0) → ((c : ℕ) → Decision (P c)) → (text : List ℕ)
    → Decision (AllByRecursion P text)
decide_each P one [] = inl tt
decide_each P one (c ∷ text) = decide_both (one c) (decide_each P one text)

pub all_of : (P : ℕ → Type 0) → ((c : ℕ) → Decision (P c)) → (text : List ℕ)
    → Decision (All P text)
all_of P one text =
    by_other (All-from_recursion P text, recursion_from_All P text) (decide_each P one text)

all_pass : (p : ℕ → Bool) → (text : List ℕ) → Decision (AllPass p text)
all_pass p text = all_of (λ c. IsTrue (p c)) (λ c. is_so (p c)) text

-- every number from one on, below another
each_between : (P : ℕ → Type 0) → ((k : ℕ) → Decision (P k)) → (low high : ℕ)
    → Decision ((m : ℕ) → low < m → m < high → P m)
each_between P one low high = by_other (
  (λ f m above below. f m below above),
  (λ f m below above. f m above below),
) (each_below (λ m. low < m → P m) (λ m. decide_implication (at_most (suc low) m) (one m)) high)

-- ---- of classes of characters

is_nonspacing : BidiClass → Bool
is_nonspacing NonspacingMark = true
is_nonspacing _ = false

decide_nonspacing : (class : BidiClass) → Decision (class ≡ NonspacingMark)
unfolding is_nonspacing
decide_nonspacing NonspacingMark = inl refl
decide_nonspacing _ = inr (λ e. false≢true (subst (λ c. is_nonspacing c ≡ true) (sym e) refl))

is_transparent : JoiningType → Bool
is_transparent Transparent = true
is_transparent _ = false

decide_transparent : (type : JoiningType) → Decision (type ≡ Transparent)
unfolding is_transparent
decide_transparent Transparent = inl refl
decide_transparent _ = inr (λ e. false≢true (subst (λ t. is_transparent t ≡ true) (sym e) refl))

is_greek : Script → Bool
is_greek Greek = true
is_greek _ = false

decide_greek : (s : Script) → Decision (s ≡ Greek)
unfolding is_greek
decide_greek Greek = inl refl
decide_greek _ = inr (λ e. false≢true (subst (λ s. is_greek s ≡ true) (sym e) refl))

is_hebrew : Script → Bool
is_hebrew Hebrew = true
is_hebrew _ = false

decide_hebrew : (s : Script) → Decision (s ≡ Hebrew)
unfolding is_hebrew
decide_hebrew Hebrew = inl refl
decide_hebrew _ = inr (λ e. false≢true (subst (λ s. is_hebrew s ≡ true) (sym e) refl))

-- ---- the contextual rules

after_start : (k : ℕ) → Decision (0 < k)
after_start k = at_most 1 k

follows_virama : (label : List ℕ) (k : ℕ) → Decision (FollowsVirama label k)
follows_virama label k = decide_both (after_start k)
    (is_so (is_virama_class (canonical_combining_class (slice_index label (k - 1)))))

joins_before : (label : List ℕ) (k : ℕ) → Decision (JoinsBefore label k)
joins_before label k = by_other (
  (λ h. record { at = h.0; before = h.1; joining = h.2.0; between = h.2.1 }),
  (λ j. (j.at, j.before, (j.joining, j.between))),
) (
    some_below (λ at. IsTrue (joins_to_the_left (joining_type (slice_index label at)))
    × ((m : ℕ) → at < m → m < k → joining_type (slice_index label m) ≡ Transparent)) (λ at.
    decide_both (is_so (joins_to_the_left (joining_type (slice_index label at))))
    (each_between (λ m. joining_type (slice_index label m) ≡ Transparent)
    (λ m. decide_transparent (joining_type (slice_index label m))) at k)) k)

joins_from : (label : List ℕ) (k : ℕ) → Decision (JoinsFrom label k)
joins_from label k = by_other (
  (λ h. record {
    at = h.0;
    after = h.2.0;
    within = h.1;
    joining = h.2.1.0;
    between = λ m low high. h.2.1.1 m high low;
  }),
  (λ j. (j.at, j.within, (j.after, (j.joining, (λ m high low. j.between m low high))))),
) (
    some_below (λ at. (k < at + 1)
    × (IsTrue (joins_to_the_right (joining_type (slice_index label at)))
    × ((m : ℕ) → m < at → k < m + 1 → joining_type (slice_index label m) ≡ Transparent))) (λ at.
    decide_both (at_most (suc k) (at + 1)) (
    decide_both (is_so (joins_to_the_right (joining_type (slice_index label at)))) (
    each_below (λ m. k < m + 1 → joining_type (slice_index label m) ≡ Transparent) (λ m.
    decide_implication (at_most (suc k) (m + 1))
    (decide_transparent (joining_type (slice_index label m)))) at)))
    (length label))

non_joiner : (label : List ℕ) (k : ℕ) → Decision (NonJoinerFits label k)
non_joiner label k = decide_implication (same_number (slice_index label k) 0x200C)
    (decide_either (follows_virama label k) (decide_both (joins_before label k)
    (joins_from label (k + 1))))

joiner : (label : List ℕ) (k : ℕ) → Decision (JoinerFits label k)
joiner label k = decide_implication (same_number (slice_index label k) 0x200D)
    (follows_virama label k)

middle_dot : (label : List ℕ) (k : ℕ) → Decision (MiddleDotStands label k)
middle_dot label k = decide_implication (same_number (slice_index label k) 0xB7) (by_other (
  (λ h. (h.0, h.1.0, h.1.1.0, h.1.1.1)),
  (λ h. (h.0, (h.1, (h.2, h.3)))),
) (
    decide_both (after_start k) (decide_both (same_number (slice_index label (k - 1)) (byte "l"))
    (decide_both (at_most (suc (k + 1)) (length label))
    (same_number (slice_index label (k + 1)) (byte "l"))))))

keraia : (label : List ℕ) (k : ℕ) → Decision (KeraiaFits label k)
keraia label k = decide_implication (same_number (slice_index label k) 0x375)
    (decide_both (at_most (suc (k + 1)) (length label))
    (decide_greek (script (slice_index label (k + 1)))))

geresh : (label : List ℕ) (k : ℕ) → Decision (GereshFits label k)
geresh label k = decide_implication (is_so (is_in_range 0x5F3 0x5F4 (slice_index label k)))
    (decide_both (after_start k) (decide_hebrew (script (slice_index label (k - 1)))))

neighbours : (label : List ℕ) (k : ℕ) → Decision (FitsNeighbours label k)
neighbours label k = by_other (
  (λ h. record {
    non_joiner = h.0;
    joiner = h.1.0;
    middle_dot = h.1.1.0;
    keraia = h.1.1.1.0;
    geresh = h.1.1.1.1;
  }),
  (λ f. (f.non_joiner, (f.joiner, (f.middle_dot, (f.keraia, f.geresh))))),
) (
    decide_both (non_joiner label k) (decide_both (joiner label k) (decide_both (middle_dot label k)
    (decide_both (keraia label k) (geresh label k)))))

some_pass : (p : ℕ → Bool) (text : List ℕ) → Decision (IsTrue (list_any p text))
some_pass p text = is_so (list_any p text)

context : (label : List ℕ) → Decision (FitsContext label)
context label = by_other (
  (λ h. record { neighbours = h.0; katakana_dot = h.1.0; one_digit_set = h.1.1 }),
  (λ f. (f.neighbours, (f.katakana_dot, f.one_digit_set))),
) (
    decide_both (each_below (FitsNeighbours label) (neighbours label) (length label)) (
    decide_both (decide_implication (some_pass (λ c. c == 0x30FB) label)
    (some_pass (λ c. is_japanese (script c)) label))
    (decide_implication (some_pass (λ c. is_in_range 0x660 0x669 c) label)
    (decide_negation (some_pass (λ c. is_in_range 0x6F0 0x6F9 c) label)))))

-- ---- labels

reserved_hyphens : (label : List ℕ) → Decision (HasReservedHyphens label)
reserved_hyphens label = decide_both (same_number (slice_index label 2) (byte "-"))
    (same_number (slice_index label 3) (byte "-"))

pub unicode_label : (label : List ℕ) → Decision (IsUnicodeLabel label)
unicode_label label = by_other (
  (λ h. record {
    beyond_ascii = h.0;
    normal = h.1.0;
    permitted = h.1.1.0;
    first = h.1.1.1.0;
    last = h.1.1.1.1.0;
    reserved = h.1.1.1.1.1.0;
    no_leading_mark = h.1.1.1.1.1.1.0;
    context = h.1.1.1.1.1.1.1;
  }),
  (λ u. (
    u.beyond_ascii,
    (
      u.normal,
      (
        u.permitted,
        (
          u.first,
          (
            u.last,
            (
              u.reserved,
              (u.no_leading_mark, u.context),
            ),
          ),
        ),
      ),
    ),
  )),
) (
    decide_both (is_not_so (is_all_ascii label)) (decide_both (same_text (nfc label) label)
    (decide_both (all_of (λ c. IsTrue (is_permitted (derived_property c)))
    (λ c. is_so (is_permitted (derived_property c))) label)
    (decide_both (decide_negation (same_number (slice_index label 0) (byte "-")))
    (decide_both (decide_negation (same_number (slice_index label (length label - 1)) (byte "-")))
    (decide_both (decide_negation (reserved_hyphens label))
    (decide_both (is_not_so (is_mark (general_category (slice_index label 0))))
    (context label))))))))

pub plain_label : (label : List ℕ) → Decision (IsPlainLabel label)
plain_label label = by_other (
  (λ h. record {
    ascii = record { size = h.0.0; letters = h.0.1.0; first = h.0.1.1.0; last = h.0.1.1.1 };
    reserved = h.1;
  }),
  (λ p. ((p.ascii.size, (p.ascii.letters, (p.ascii.first, p.ascii.last))), p.reserved)),
) (
    decide_both (decide_both (decide_both (at_most 1 (length label)) (at_most (length label) 63))
    (decide_both (all_pass is_letter_digit_hyphen label)
    (decide_both (decide_negation (same_number (slice_index label 0) (byte "-")))
    (decide_negation (same_number (slice_index label (length label - 1)) (byte "-"))))))
    (decide_negation (reserved_hyphens label)))

-- ---- the Bidi rule

ends_in : (ends : BidiClass → Bool) (label : List ℕ) → Decision (EndsIn ends label)
ends_in ends label = by_other (
  (λ h. record { at = h.0; within = h.1; end = h.2.0; marks = h.2.1 }),
  (λ e. (e.at, e.within, (e.end, e.marks))),
) (
    some_below (λ at. IsTrue (ends (bidi_class (slice_index label at)))
    × ((m : ℕ) → at < m → m < length label
    → bidi_class (slice_index label m) ≡ NonspacingMark)) (λ at.
    decide_both (is_so (ends (bidi_class (slice_index label at))))
    (each_between (λ m. bidi_class (slice_index label m) ≡ NonspacingMark)
    (λ m. decide_nonspacing (bidi_class (slice_index label m))) at (length label))) (length label))

right_to_left : (label : List ℕ) → Decision (KeepsRightToLeft label)
right_to_left label = by_other (
  (λ h. record { classes = h.0; end = h.1.0; one_kind_of_number = h.1.1 }),
  (λ k. (k.classes, (k.end, k.one_kind_of_number))),
) (
    decide_both (all_pass
    (λ c. is_right_to_left (bidi_class c) || is_of_both_directions (bidi_class c)) label) (
    decide_both (ends_in (λ class. is_right_to_left class || is_european_number class) label)
    (decide_implication (some_pass (λ c. is_european_number (bidi_class c)) label)
    (decide_negation (some_pass (λ c. is_arabic_number (bidi_class c)) label)))))

left_to_right : (label : List ℕ) → Decision (KeepsLeftToRight label)
left_to_right label = by_other (
  (λ h. record { classes = h.0; end = h.1 }),
  (λ k. (k.classes, k.end)),
) (
    decide_both (all_pass
    (λ c. is_left_to_right (bidi_class c) || is_of_both_directions (bidi_class c)) label)
    (ends_in (λ class. is_left_to_right class || is_european_number class) label))

pub bidi_rule : (label : List ℕ) → Decision (KeepsBidiRule label)
bidi_rule label =
    decide_either
    (decide_both (is_so (is_left_to_right (bidi_class (slice_index label 0))))
    (left_to_right label))
    (decide_both (is_so (begins_right_to_left (bidi_class (slice_index label 0))))
    (right_to_left label))
