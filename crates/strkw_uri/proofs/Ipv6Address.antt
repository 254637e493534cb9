-- The nine alternatives of RFC 3986 derive what the definition that counts groups derives.
use Rattle.std.proofs.Common.{◌≡◌, ℕ, suc, ◌+◌, ◌≤◌, List, [], ◌∷◌, ◌++◌, length, map, inl, inr, refl, sym, ap, subst, ◌∙◌, append_assoc, append-nil, arith}
use Rattle.std.proofs.Common.{codes}
use Rattle.std.specs.List.{AllByRecursion, concat, join_with_byte}
use Rattle.std.proofs.lemmas.Bool.{cases_eq}
use Rattle.std.proofs.lemmas.List.{length-map, length-append}
use Rattle.strkw_text.specs.Abnf.{Form, ◌⨾◌, Literal, Empty, Optional, Times, Exactly}
use Rattle.strkw_text.proofs.Laws.{then, each_push}
use Rattle.strkw_text.proofs.Weaker.{Then-weaker}
use Rattle.strkw_net.specs.Addresses.{H16, Groups, LastGroups, IsCompressed, IsIpv6}
use Rattle.strkw_uri.specs.Ipv6Address.{GroupAndColon, Ls32, Ipv6Address}

-- a group with a colon behind it
abbrev ended : List ℕ → List ℕ
ended group = group ++ 58 ∷ []

-- groups with a colon between each two
abbrev between : List (List ℕ) → List ℕ
between groups = join_with_byte 58 groups

-- groups with a colon after each, and then further groups
-- of two groups or more, with colons between them, the first stands before a colon and the others
joined_step : (group : List ℕ) (groups : List (List ℕ)) (next : List ℕ) (more : List (List ℕ))
    → between (group ∷ (groups ++ next ∷ more)) ≡ group ++ (58 ∷ between (groups ++ next ∷ more))
joined_step group [] next more = refl
joined_step group (other ∷ groups) next more = refl

-- groups before others, with colons between, are each with its colon, and then the others
joined_more : (groups : List (List ℕ)) (next : List ℕ) (more : List (List ℕ))
    → between (groups ++ next ∷ more) ≡ concat (map ended groups) ++ between (next ∷ more)
joined_more [] next more = refl
joined_more (group ∷ groups) next more =
    joined_step group groups next more
    ∙ ap (λ (x : List ℕ). group ++ (58 ∷ x)) (joined_more groups next more)
    ∙ sym (append_assoc group (58 ∷ []) (concat (map ended groups) ++ between (next ∷ more)))
    ∙ sym (append_assoc (ended group) (concat (map ended groups)) (between (next ∷ more)))

-- the groups of a run of groups with colons
record Unended (parts : List (List ℕ)) : Type 0 where
  groups : List (List ℕ)
  each : AllByRecursion H16 groups
  size : length groups ≡ length parts
  are : concat parts ≡ concat (map ended groups)

-- each run of groups with colons has its groups
unended : (parts : List (List ℕ)) → AllByRecursion GroupAndColon parts → Unended parts
unended [] a = record { groups = []; each = tt; size = refl; are = refl }
unended (part ∷ parts) a =
    let more = unended parts a.1 in
    let head : part ≡ ended a.0.front = sym a.0.joined ∙ ap (λ (x : List ℕ). a.0.front ++ x) a.0.second in
    record {
      groups = a.0.front ∷ more.groups;
      each = (a.0.first, more.each);
      size = ap suc more.size;
      are = ap (λ (x : List ℕ). x ++ concat parts) head ∙ ap (λ (x : List ℕ). ended a.0.front ++ x) more.are;
    }

-- groups with a colon behind each are each a group and a colon
with_colons : (groups : List (List ℕ)) → AllByRecursion H16 groups → AllByRecursion GroupAndColon (map ended groups)
with_colons [] a = tt
with_colons (group ∷ groups) a = (then group (58 ∷ []) (ended group) a.0 refl refl, with_colons groups a.1)

-- and in a row they are so many times a group and a colon
run_of : (low high : ℕ) (groups : List (List ℕ)) → AllByRecursion H16 groups → low ≤ length groups → length groups ≤ high
    → Times low high GroupAndColon (concat (map ended groups))
run_of low high groups a l h = record {
  parts = map ended groups;
  each = with_colons groups a;
  joined = refl;
  at_least = omega (arith, length-map groups ended);
  at_most = omega (arith, length-map groups ended);
}

-- the last group, and those before it
record Pushed (groups : List (List ℕ)) : Type 0 where
  front : List (List ℕ)
  last : List ℕ
  are : groups ≡ front ++ last ∷ []
  each : AllByRecursion H16 front
  last_is : H16 last
  size : length groups ≡ length front + 1

-- one group or more have a last one and those before it
pushed : (group : List ℕ) (groups : List (List ℕ)) → AllByRecursion H16 (group ∷ groups) → Pushed (group ∷ groups)
pushed group [] a = record { front = []; last = group; are = refl; each = tt; last_is = a.0; size = refl }
pushed group (next ∷ groups) a =
    let p = pushed next groups a.1 in
    record {
      front = group ∷ p.front;
      last = p.last;
      are = ap (λ (x : List (List ℕ)). group ∷ x) p.are;
      each = (a.0, p.each);
      last_is = p.last_is;
      size = omega (arith, p.size);
    }

-- and so have n + 1 groups
pushed_some : (groups : List (List ℕ)) (n : ℕ) → length groups ≡ n + 1 → AllByRecursion H16 groups → Pushed groups
pushed_some [] n e a = absurd (omega (arith, e))
pushed_some (group ∷ groups) n e a = pushed group groups a

-- before "::": so many groups at most
record AtMostGroups (n : ℕ) (text : List ℕ) : Type 0 where
  count : ℕ
  few : count ≤ n
  are : Groups count text

-- an empty text is a text of no groups
no_groups : (text : List ℕ) → text ≡ [] → Groups 0 text
no_groups text e = record { groups = []; each = tt; counted = refl; spelled = e }

-- a text that is a group is one group
one_group : (text : List ℕ) → H16 text → Groups 1 text
one_group text h = record { groups = text ∷ []; each = (h, tt); counted = refl; spelled = refl }

-- at most n groups with colons and a group, or nothing, are at most n + 1 groups
before_to : (n : ℕ) (text : List ℕ) → Optional (Times 0 n GroupAndColon ⨾ H16) text → AtMostGroups (n + 1) text
before_to n text (inl e) = record { count = 0; few = omega arith; are = no_groups text e }
before_to n text (inr t) =
    let u = unended t.first.parts t.first.each in
    record {
      count = length u.groups + 1;
      few = omega (arith, u.size, t.first.at_most);
      are = record {
        groups = u.groups ++ t.back ∷ [];
        each = each_push H16 u.groups t.back u.each t.second;
        counted = sym (length-append u.groups (t.back ∷ []));
        spelled = sym t.joined ∙ ap (λ (x : List ℕ). x ++ t.back) (sym t.first.joined ∙ u.are) ∙ sym (joined_more u.groups t.back []);
      };
    }

-- and back
before_from : (n count : ℕ) (text : List ℕ) → count ≤ n + 1 → Groups count text → Optional (Times 0 n GroupAndColon ⨾ H16) text
before_from n count text few g = by_groups g.groups g.each g.counted g.spelled
  where
    by_groups : (groups : List (List ℕ)) → AllByRecursion H16 groups → count ≡ length groups → text ≡ between groups
        → Optional (Times 0 n GroupAndColon ⨾ H16) text
    by_groups [] a c s = inl s
    by_groups (group ∷ groups) a c s =
        let p = pushed group groups a in
        inr (then (concat (map ended p.front)) p.last text (run_of 0 n p.front p.each (omega arith) (omega (arith, p.size, c, few))) p.last_is
        (sym (s ∙ ap between p.are ∙ joined_more p.front p.last [])))

-- behind "::", and where there is none: so many groups, the last two of which may be an IPv4 address
ls32_to : (n count : ℕ) (text : List ℕ) → count ≡ n + 2 → (Exactly n GroupAndColon ⨾ Ls32) text → LastGroups count text
ls32_to n count text is t = by_last t.second
  where
    u : Unended t.first.parts
    u = unended t.first.parts t.first.each

    size : length u.groups ≡ n
    size = omega (arith, u.size, t.first.at_least, t.first.at_most)

    split : text ≡ concat (map ended u.groups) ++ t.back
    split = sym t.joined ∙ ap (λ (x : List ℕ). x ++ t.back) (sym t.first.joined ∙ u.are)

    by_last : Ls32 t.back → LastGroups count text
    by_last (inl two) =
        let x = two.first.front in
        let y = two.back in
        let last : t.back ≡ between (x ∷ y ∷ []) = sym two.joined
        ∙ ap (λ (z : List ℕ). z ++ y) (sym two.first.joined ∙ ap (λ (z : List ℕ). x ++ z) two.first.second) ∙ append_assoc x (58 ∷ []) y in
        inl (record {
          groups = (u.groups ++ x ∷ []) ++ y ∷ [];
          each = each_push H16 (u.groups ++ x ∷ []) y (each_push H16 u.groups x u.each two.first.first) two.second;
          counted = omega (arith, is, size, length-append (u.groups ++ x ∷ []) (y ∷ []), length-append u.groups (x ∷ []));
          spelled = split ∙ ap (λ (z : List ℕ). concat (map ended u.groups) ++ z) last ∙ sym (joined_more u.groups x (y ∷ []))
              ∙ ap between (sym (append_assoc u.groups (x ∷ []) (y ∷ [])));
        })
    by_last (inr address) = inr (record {
      groups = u.groups;
      each = u.each;
      address = t.back;
      address_is = address;
      counted = omega (arith, is, size);
      spelled = split ∙ sym (joined_more u.groups t.back []);
    })

-- and back
ls32_from : (n count : ℕ) (text : List ℕ) → count ≡ n + 2 → LastGroups count text → (Exactly n GroupAndColon ⨾ Ls32) text
ls32_from n count text is (inl g) =
    let p = pushed_some g.groups (n + 1) (omega (arith, is, g.counted)) g.each in
    let q = pushed_some p.front n (omega (arith, is, g.counted, p.size)) p.each in
    let two : Ls32 (between (q.last ∷ p.last ∷ [])) = inl (then (ended q.last) p.last (between (q.last ∷ p.last ∷ []))
    (then q.last (58 ∷ []) (ended q.last) q.last_is refl refl) p.last_is (append_assoc q.last (58 ∷ []) p.last)) in
    let groups : g.groups ≡ q.front ++ q.last ∷ p.last ∷ [] = p.are ∙ ap (λ (x : List (List ℕ)). x ++ p.last ∷ []) q.are
    ∙ append_assoc q.front (q.last ∷ []) (p.last ∷ []) in
    then (concat (map ended q.front)) (between (q.last ∷ p.last ∷ [])) text
    (run_of n n q.front q.each (omega (arith, is, g.counted, p.size, q.size)) (omega (arith, is, g.counted, p.size, q.size))) two
    (sym (g.spelled ∙ ap between groups ∙ joined_more q.front q.last (p.last ∷ [])))
ls32_from n count text is (inr g) =
    then (concat (map ended g.groups)) g.address text (run_of n n g.groups g.each (omega (arith, is, g.counted)) (omega (arith, is, g.counted)))
    (inr g.address_is)
    (sym (g.spelled ∙ joined_more g.groups g.address []))

-- no run, and a run of one
-- a run of no groups before a B leaves the B
after_none : (B : Form) (text : List ℕ) → (Exactly 0 GroupAndColon ⨾ B) text → B text
after_none B text t = by_parts t.first.parts t.first.at_most t.first.joined
  where
    by_parts : (parts : List (List ℕ)) → length parts ≤ 0 → concat parts ≡ t.front → B text
    by_parts [] l e = subst B (ap (λ (x : List ℕ). x ++ t.back) e ∙ t.joined) t.second
    by_parts (part ∷ parts) l e = absurd (omega (arith, l))

-- and back
before_none : (B : Form) (text : List ℕ) → B text → (Exactly 0 GroupAndColon ⨾ B) text
before_none B text b = then [] text text (run_of 0 0 [] tt (omega arith) (omega arith)) b refl

-- a group with its colon before a B is a run of one group
one_to : (B : Form) (text : List ℕ) → (GroupAndColon ⨾ B) text → (Exactly 1 GroupAndColon ⨾ B) text
one_to B text t = then t.front t.back text (record {
  parts = t.front ∷ [];
  each = (t.first, tt);
  joined = append-nil t.front;
  at_least = omega arith;
  at_most = omega arith;
}) t.second t.joined

-- and back
one_from : (B : Form) (text : List ℕ) → (Exactly 1 GroupAndColon ⨾ B) text → (GroupAndColon ⨾ B) text
one_from B text t = by_parts t.first.parts t.first.each t.first.at_least t.first.at_most t.first.joined
  where
    by_parts : (parts : List (List ℕ)) → AllByRecursion GroupAndColon parts → 1 ≤ length parts → length parts ≤ 1 → concat parts ≡ t.front
        → (GroupAndColon ⨾ B) text
    by_parts [] a l h e = absurd (omega (arith, l))
    by_parts (part ∷ []) a l h e = then part t.back text a.0 t.second (ap (λ (x : List ℕ). x ++ t.back) (sym (append-nil part) ∙ e) ∙ t.joined)
    by_parts (part ∷ next ∷ parts) a l h e = absurd (omega (arith, h))

-- one group, and none
-- what counts one at the end of an address is a group
group_from : (count : ℕ) (text : List ℕ) → count ≡ 1 → LastGroups count text → H16 text
group_from count text is (inl g) = by_groups g.groups g.each g.counted g.spelled
  where
    by_groups : (groups : List (List ℕ)) → AllByRecursion H16 groups → count ≡ length groups → text ≡ between groups → H16 text
    by_groups [] a c s = absurd (omega (arith, is, c))
    by_groups (group ∷ []) a c s = subst H16 (sym s) a.0
    by_groups (group ∷ next ∷ groups) a c s = absurd (omega (arith, is, c))
group_from count text is (inr g) = absurd (omega (arith, is, g.counted))

-- what counts none there is empty
none_from : (count : ℕ) (text : List ℕ) → count ≡ 0 → LastGroups count text → text ≡ []
none_from count text is (inl g) = by_groups g.groups g.counted g.spelled
  where
    by_groups : (groups : List (List ℕ)) → count ≡ length groups → text ≡ between groups → text ≡ []
    by_groups [] c s = s
    by_groups (group ∷ groups) c s = absurd (omega (arith, is, c))
none_from count text is (inr g) = absurd (omega (arith, is, g.counted))

-- an alternative with "::", to the definition and from it
compressed : (n after : ℕ) (B F : Form) → n + after ≤ 7 → ((x : List ℕ) → B x → AtMostGroups n x) → ((x : List ℕ) → F x → LastGroups after x)
    → (text : List ℕ) → (B ⨾ Literal (codes "::") ⨾ F) text → IsIpv6 text
compressed n after B F room before behind text t =
    let b = before t.front t.first in
    inr (record {
      before = b.count;
      after = after;
      at_most_seven = omega (arith, b.few, room);
      spelled = then t.front t.back text b.are (then t.second.front t.second.back t.back t.second.first (behind t.second.back t.second.second) t.second.joined)
          t.joined;
    })

-- and back, for forms that derive what stands before "::" and behind it
from_compressed : (B F : Form) (text : List ℕ) (w : IsCompressed text) → ((x : List ℕ) → Groups w.before x → B x) → ((x : List ℕ) → LastGroups w.after x → F x)
    → (B ⨾ Literal (codes "::") ⨾ F) text
from_compressed B F text w before behind =
    Then-weaker (Groups w.before) B (Literal (codes "::") ⨾ LastGroups w.after) (Literal (codes "::") ⨾ F) before
    (Then-weaker (Literal (codes "::")) (Literal (codes "::")) (LastGroups w.after) F (λ x e. e) behind) text w.spelled

-- an empty text is at most no groups
none_to : (x : List ℕ) → Empty x → AtMostGroups 0 x
none_to x e = record { count = 0; few = omega arith; are = no_groups x e }

-- a group or nothing is at most one group
optional_to : (x : List ℕ) → Optional H16 x → AtMostGroups 1 x
optional_to x (inl e) = record { count = 0; few = omega arith; are = no_groups x e }
optional_to x (inr h) = record { count = 1; few = omega arith; are = one_group x h }

-- at most no groups are an empty text
none_before : (count : ℕ) (x : List ℕ) → count ≤ 0 → Groups count x → Empty x
none_before count x few g = none_from count x (omega (arith, few)) (inl g)

-- at most one group is a group or nothing
optional_from : (count : ℕ) (x : List ℕ) → count ≤ 1 → Groups count x → Optional H16 x
optional_from count x few g = elim (cases_eq count 0) [
  | inl e ↦ inl (none_from count x e (inl g))
  | inr n ↦ inr (group_from count x (omega (arith, few, n)) (inl g))
]

-- nothing and then an F is an F
without_front : (F : Form) (text : List ℕ) → (Empty ⨾ F) text → F text
without_front F text t = subst F (ap (λ (x : List ℕ). x ++ t.back) (sym t.first) ∙ t.joined) t.second

-- what the nine alternatives derive is an IPv6 address
pub nine_to : (text : List ℕ) → Ipv6Address text → IsIpv6 text
nine_to text (inl t) = inl (ls32_to 6 8 text refl t)
nine_to text (inr (inl t)) = compressed 0 7 Empty (Exactly 5 GroupAndColon ⨾ Ls32) (omega arith) none_to (λ x. ls32_to 5 7 x refl) text
    (then [] text text refl t refl)
nine_to text (inr (inr (inl t))) = compressed 1 6 (Optional H16) (Exactly 4 GroupAndColon ⨾ Ls32) (omega arith) optional_to (λ x. ls32_to 4 6 x refl) text t
nine_to text (inr (inr (inr (inl t)))) = compressed 2 5 (Optional (Times 0 1 GroupAndColon ⨾ H16)) (Exactly 3 GroupAndColon ⨾ Ls32) (omega arith) (before_to 1)
    (λ x. ls32_to 3 5 x refl) text t
nine_to text (inr (inr (inr (inr (inl t))))) = compressed 3 4 (Optional (Times 0 2 GroupAndColon ⨾ H16)) (Exactly 2 GroupAndColon ⨾ Ls32) (omega arith)
    (before_to 2) (λ x. ls32_to 2 4 x refl) text t
nine_to text (inr (inr (inr (inr (inr (inl t)))))) = compressed 4 3 (Optional (Times 0 3 GroupAndColon ⨾ H16)) (GroupAndColon ⨾ Ls32) (omega arith)
    (before_to 3) (λ x h. ls32_to 1 3 x refl (one_to Ls32 x h)) text t
nine_to text (inr (inr (inr (inr (inr (inr (inl t))))))) =
    compressed 5 2 (Optional (Times 0 4 GroupAndColon ⨾ H16)) Ls32 (omega arith) (before_to 4) (λ x h. ls32_to 0 2 x refl (before_none Ls32 x h)) text t
nine_to text (inr (inr (inr (inr (inr (inr (inr (inl t)))))))) =
    compressed 6 1 (Optional (Times 0 5 GroupAndColon ⨾ H16)) H16 (omega arith) (before_to 5) (λ x h. inl (one_group x h)) text t
nine_to text (inr (inr (inr (inr (inr (inr (inr (inr t)))))))) =
    compressed 7 0 (Optional (Times 0 6 GroupAndColon ⨾ H16)) Empty (omega arith) (before_to 6) (λ x e. inl (no_groups x e)) text
    (then t.front t.back text t.first (then t.back [] t.back t.second refl (append-nil t.back)) t.joined)

-- each count of groups behind "::" has its alternative
nine_from_compressed : (text : List ℕ) → IsCompressed text → Ipv6Address text
nine_from_compressed text w = elim (cases_eq w.after 7) [
  | inl e ↦ inr (inl (without_front (Literal (codes "::") ⨾ Exactly 5 GroupAndColon ⨾ Ls32) text
      (from_compressed Empty (Exactly 5 GroupAndColon ⨾ Ls32) text w (λ x. none_before w.before x (omega (arith, w.at_most_seven, e)))
      (λ x. ls32_from 5 w.after x e))))
  | inr not_seven ↦ let at_most_six : w.after ≤ 6 = omega (arith, w.at_most_seven, not_seven) in elim (cases_eq w.after 6) [
    | inl e ↦ inr (inr (inl (from_compressed (Optional H16) (Exactly 4 GroupAndColon ⨾ Ls32) text w
        (λ x. optional_from w.before x (omega (arith, w.at_most_seven, e))) (λ x. ls32_from 4 w.after x e))))
    | inr not_six ↦ let at_most_five : w.after ≤ 5 = omega (arith, at_most_six, not_six) in elim (cases_eq w.after 5) [
      | inl e ↦ inr (inr (inr (inl (from_compressed (Optional (Times 0 1 GroupAndColon ⨾ H16)) (Exactly 3 GroupAndColon ⨾ Ls32) text w
          (λ x. before_from 1 w.before x (omega (arith, w.at_most_seven, e))) (λ x. ls32_from 3 w.after x e)))))
      | inr not_five ↦ let at_most_four : w.after ≤ 4 = omega (arith, at_most_five, not_five) in elim (cases_eq w.after 4) [
        | inl e ↦ inr (inr (inr (inr (inl (from_compressed (Optional (Times 0 2 GroupAndColon ⨾ H16)) (Exactly 2 GroupAndColon ⨾ Ls32) text w
            (λ x. before_from 2 w.before x (omega (arith, w.at_most_seven, e))) (λ x. ls32_from 2 w.after x e))))))
        | inr not_four ↦ let at_most_three : w.after ≤ 3 = omega (arith, at_most_four, not_four) in elim (cases_eq w.after 3) [
          | inl e ↦ inr (inr (inr (inr (inr (inl (from_compressed (Optional (Times 0 3 GroupAndColon ⨾ H16)) (GroupAndColon ⨾ Ls32) text w
              (λ x. before_from 3 w.before x (omega (arith, w.at_most_seven, e))) (λ x l. one_from Ls32 x (ls32_from 1 w.after x e l))))))))
          | inr not_three ↦ let at_most_two : w.after ≤ 2 = omega (arith, at_most_three, not_three) in elim (cases_eq w.after 2) [
            | inl e ↦ inr (inr (inr (inr (inr (inr (inl (from_compressed (Optional (Times 0 4 GroupAndColon ⨾ H16)) Ls32 text w
                (λ x. before_from 4 w.before x (omega (arith, w.at_most_seven, e))) (λ x l. after_none Ls32 x (ls32_from 0 w.after x e l)))))))))
            | inr not_two ↦ let at_most_one : w.after ≤ 1 = omega (arith, at_most_two, not_two) in elim (cases_eq w.after 1) [
              | inl e ↦ inr (inr (inr (inr (inr (inr (inr (inl (from_compressed (Optional (Times 0 5 GroupAndColon ⨾ H16)) H16 text w
                  (λ x. before_from 5 w.before x (omega (arith, w.at_most_seven, e))) (λ x. group_from w.after x e)))))))))
              | inr not_one ↦
                  let e : w.after ≡ 0 = omega (arith, at_most_one, not_one) in
                  let t = from_compressed (Optional (Times 0 6 GroupAndColon ⨾ H16)) Empty text w
                  (λ x. before_from 6 w.before x (omega (arith, w.at_most_seven, e))) (λ x. none_from w.after x e) in
                  let tail : t.back ≡ codes "::" = sym t.second.joined ∙ ap (λ (x : List ℕ). t.second.front ++ x) t.second.second ∙ append-nil t.second.front
                  ∙ t.second.first in
                  inr (inr (inr (inr (inr (inr (inr (inr (then t.front t.back text t.first tail t.joined))))))))
            ]
          ]
        ]
      ]
    ]
  ]
]

-- each IPv6 address is derived by one of the nine alternatives
pub nine_from : (text : List ℕ) → IsIpv6 text → Ipv6Address text
nine_from text (inl g) = inl (ls32_from 6 8 text refl g)
nine_from text (inr w) = nine_from_compressed text w
