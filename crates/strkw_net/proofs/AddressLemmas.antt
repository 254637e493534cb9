-- The addresses that std reads are those of the grammar.
use Rattle.std.proofs.Common.{◌≡◌, ℕ, ◌+◌, ◌-◌, ◌*◌, ◌<◌, ◌≤◌, ◌⊎◌, ◌↔◌, Bool, true, false, List, [], ◌∷◌, ◌++◌, length, map, arith, refl, ap, sym, subst, ◌∙◌}
use Rattle.std.proofs.Common.{inl, inr, append_assoc, Result, Ok, Err, IsTrue}
use Rattle.std.specs.Prelude.{codes, decimal, is_ok, replicate}
use Rattle.std.specs.List.{join_with_byte, AllByRecursion}
use Rattle.std.specs.Str.{IsAscii, byte}
use Rattle.std.specs.Str.Parse.{AllDigits, digits_value}
use Rattle.std.proofs.lemmas.Bool.{false≢true}
use Rattle.std.specs.Net.Addr.{segments_of}
use Rattle.std.specs.Net.Text.{dotted_text}
use Rattle.std.specs.Net.Grammar.{IsDotted, IsGroupsAfter, IsGroups, IsColonHex, Parses, IsIpv4Text, IsIpv6Text}
use Rattle.std.specs.declared.net.ipv4_addr.Ipv4Addr.{Ipv4Addr}
use Rattle.std.specs.declared.net.ipv6_addr.Ipv6Addr.{Ipv6Addr}
use Rattle.std.proofs.lemmas.List.{append-nil, length-map, length-append}
use Rattle.std.proofs.lemmas.Fmt.{IsAscii-decimal}
use Rattle.strkw_text.proofs.AsciiForms.{DerivesAscii, IsAscii-joined, IsAscii-from_each, Literal-ascii, Then-ascii, Times-ascii, HexDigit-ascii}
use Rattle.strkw_text.proofs.Laws.{then, each_push}
use Rattle.strkw_text.proofs.Classes.{hexdigits_between}
use Rattle.strkw_text.specs.Abnf.{◌⨾◌, Literal}
use Rattle.strkw_text.specs.Characters.{HexDigit}
use Rattle.strkw_net.specs.Addresses.{IsIpv4, H16, Groups, LastGroups, IsCompressed, IsIpv6}

-- four numbers in std's dotted text are their decimals with dots between them
dotted_is : (a b c d : ℕ) → dotted_text a b c d ≡ join_with_byte (byte ".") (decimal a ∷ decimal b ∷ decimal c ∷ decimal d ∷ [])
dotted_is a b c d = simp append_assoc

-- what std calls a dotted text is an IPv4 address
pub IsIpv4-from_dotted : (text octets : List ℕ) → IsDotted text octets → IsIpv4 text
IsIpv4-from_dotted text octets w = record { a = w.a; b = w.b; c = w.c; d = w.d; fit = w.fit; spelled = w.spelled ∙ dotted_is w.a w.b w.c w.d }

-- and back, with the four numbers of the address as octets
pub dotted-from_IsIpv4 : (text : List ℕ) → (w : IsIpv4 text) → IsDotted text (w.a ∷ w.b ∷ w.c ∷ w.d ∷ [])
dotted-from_IsIpv4 text w = record { a = w.a; b = w.b; c = w.c; d = w.d; fit = w.fit; value = refl; spelled = w.spelled ∙ sym (dotted_is w.a w.b w.c w.d) }

-- std's parsing of IPv4 addresses gives Ok exactly where the text is one
ok_is : {E : Type 0} (text : List ℕ) (r : Result Ipv4Addr E) → Parses IsIpv4Text text r → (IsTrue (is_ok r)) ↔ IsIpv4 text
ok_is text (Ok a) p = (λ t. IsIpv4-from_dotted text a.octets p, λ w. refl)
ok_is text (Err e) p = (λ t. absurd cc, λ w. absurd (p (record { octets = w.a ∷ w.b ∷ w.c ∷ w.d ∷ [] }) (dotted-from_IsIpv4 text w)))

-- the same, for the proofs of other files
pub ipv4_parsed : {E : Type 0} (text : List ℕ) (r : Result Ipv4Addr E) → Parses IsIpv4Text text r → (IsTrue (is_ok r)) ↔ IsIpv4 text
ipv4_parsed text r p = ok_is text r p

-- each unit after what leads it, the first after `lead` and each other after a colon
abbrev led : List ℕ → List (List ℕ) → List ℕ
led lead [] = []
led lead (unit ∷ units) = lead ++ (unit ++ led (codes ":") units)

-- a unit, and further units each after a colon, are these units with colons between them
led_is : (unit : List ℕ) (units : List (List ℕ)) → unit ++ led (codes ":") units ≡ join_with_byte (byte ":") (unit ∷ units)
led_is unit [] = append-nil unit
led_is unit (next ∷ units) = ap (λ (x : List ℕ). unit ++ (58 ∷ x)) (led_is next units)

-- units led by nothing at first are these units with colons between them
led_joined : (units : List (List ℕ)) → led [] units ≡ join_with_byte (byte ":") units
led_joined [] = refl
led_joined (unit ∷ units) = led_is unit units

-- a group, in std's words
abbrev pub IsGroupOfDigits : List ℕ → Type 0
IsGroupOfDigits text = AllDigits 16 text × (1 ≤ length text) × (length text ≤ 4)

-- groups of the grammar are groups in std's words
pub group_digits : (groups : List (List ℕ)) → AllByRecursion H16 groups → AllByRecursion IsGroupOfDigits groups
group_digits [] a = tt
group_digits (group ∷ groups) a = ((hexdigits_between 1 4 group).0 a.0, group_digits groups a.1)

-- what std reads as segments: groups, and where the flag allows it an IPv4 address behind them
record Led (flag : Bool) (lead text : List ℕ) (count : ℕ) : Type 0 where
  groups : List (List ℕ)
  each : AllByRecursion H16 groups
  ending : ((text ≡ led lead groups) × (count ≡ length groups))
      ⊎ ((address : List ℕ) × IsTrue flag × IsIpv4 address × (text ≡ led lead (groups ++ address ∷ [])) × (count ≡ length groups + 2))

-- the segments of a dotted text's octets are two
segments-of_dotted : (last octets : List ℕ) (s : ℕ) (segments : List ℕ) → IsDotted last octets → s ∷ segments ≡ segments_of octets → length (s ∷ segments) ≡ 2
segments-of_dotted last octets s segments w e = ap (λ (x : List ℕ). length x) e ∙ ap (λ (x : List ℕ). length (segments_of x)) w.value

-- what std reads as segments behind `lead` is `Led`, and counts as many as there are segments
groups_read : (flag : Bool) (lead text segments : List ℕ) → IsGroupsAfter flag lead text segments → Led flag lead text (length segments)
groups_read flag lead text [] e = record { groups = []; each = tt; ending = inl (e, refl) }
groups_read flag lead text (s ∷ segments) (inl w) =
    let u = groups_read flag (codes ":") w.1 segments w.4 in
    let h : H16 w.0 = (hexdigits_between 1 4 w.0).1 (w.3.0.0.1, w.3.0.0.0, w.3.1) in
    let before : text ≡ lead ++ (w.0 ++ w.1) = w.2 ∙ append_assoc lead w.0 w.1 in
    record {
      groups = w.0 ∷ u.groups;
      each = (h, u.each);
      ending = elim u.ending [
        | inl e ↦ inl (before ∙ ap (λ (x : List ℕ). lead ++ (w.0 ++ x)) e.0, omega arith)
        | inr e ↦ inr (e.0, e.1, e.2, before ∙ ap (λ (x : List ℕ). lead ++ (w.0 ++ x)) e.3, omega arith)
      ];
    }
groups_read flag lead text (s ∷ segments) (inr w) =
    record {
      groups = [];
      each = tt;
      ending = inr (
        w.0,
        w.2,
        IsIpv4-from_dotted w.0 w.1 w.4,
        w.3
            ∙ ap (λ (x : List ℕ). lead ++ x) (sym (append-nil w.0)),
        segments-of_dotted w.0 w.1 s segments w.4 w.5,
      );
    }

-- without the flag and a lead, `Led` is groups with colons between them
first_groups : (text : List ℕ) (count : ℕ) → Led false [] text count → Groups count text
first_groups text count l = elim l.ending [
  | inl e ↦ record { groups = l.groups; each = l.each; counted = e.1; spelled = e.0 ∙ led_joined l.groups }
  | inr e ↦ absurd (false≢true e.1)
]

-- with the flag and no lead, it is what may stand at the end of an address
last_groups : (text : List ℕ) (count : ℕ) → Led true [] text count → LastGroups count text
last_groups text count l = elim l.ending [
  | inl e ↦ inl (record { groups = l.groups; each = l.each; counted = e.1; spelled = e.0 ∙ led_joined l.groups })
  | inr e ↦ inr (record { groups = l.groups; each = l.each; address = e.0; address_is = e.2; counted = e.4; spelled = e.3 ∙ led_joined (l.groups ++ e.0 ∷ []) })
]

-- and groups are read as segments
groups_after : (flag : Bool) (lead : List ℕ) (groups : List (List ℕ)) → AllByRecursion IsGroupOfDigits groups
    → IsGroupsAfter flag lead (led lead groups) (map (digits_value 16) groups)
groups_after flag lead [] a = refl
groups_after flag lead (group ∷ groups) a =
    inl (
      group,
      led (codes ":") groups,
      sym (append_assoc lead group (led (codes ":") groups)),
      (((a.0.1, a.0.0), refl), a.0.2),
      groups_after flag (codes ":")
          groups a.1,
    )

-- and so are groups before an IPv4 address, of which the last two segments are
groups_then_ipv4 : (lead : List ℕ) (groups : List (List ℕ)) (last : List ℕ) (w : IsIpv4 last) → AllByRecursion IsGroupOfDigits groups
    → IsGroupsAfter true lead (led lead (groups ++ last ∷ [])) (map (digits_value 16) groups ++ ((w.a * 256 + w.b) ∷ (w.c * 256 + w.d) ∷ []))
groups_then_ipv4 lead [] last w a =
    inr (last, w.a ∷ w.b ∷ w.c ∷ w.d ∷ [], refl, ap (λ (x : List ℕ). lead ++ x) (append-nil last), dotted-from_IsIpv4 last w, refl)
groups_then_ipv4 lead (group ∷ groups) last w a =
    inl (
      group,
      led (codes ":") (groups ++ last ∷ []),
      sym (append_assoc lead group (led (codes ":") (groups ++ last ∷ []))),
      (((a.0.1, a.0.0), refl), a.0.2),
      groups_then_ipv4 (codes ":") groups last w a.1,
    )

-- so many segments that std reads of the text
record Segments (flag : Bool) (text : List ℕ) (count : ℕ) : Type 0 where
  segments : List ℕ
  size : length segments ≡ count
  are : IsGroups flag text segments

-- of a text of so many groups std reads so many segments
group_segments : (flag : Bool) (text : List ℕ) (count : ℕ) → Groups count text → Segments flag text count
group_segments flag text count g = record {
  segments = map (digits_value 16) g.groups;
  size = omega (arith, length-map g.groups (digits_value 16), g.counted);
  are = subst (λ (x : List ℕ). IsGroups flag x (map (digits_value 16) g.groups)) (led_joined g.groups ∙ sym g.spelled)
      (groups_after flag [] g.groups (group_digits g.groups g.each));
}

-- the same of what may stand at the end of an address
last_segments : (text : List ℕ) (count : ℕ) → LastGroups count text → Segments true text count
last_segments text count (inl g) = group_segments true text count g
last_segments text count (inr g) =
    let w = g.address_is in
    let two = (w.a * 256 + w.b) ∷ (w.c * 256 + w.d) ∷ [] in
    record {
      segments = map (digits_value 16) g.groups ++ two;
      size = omega (arith, length-map g.groups (digits_value 16), length-append (map (digits_value 16) g.groups) two, g.counted);
      are = subst (λ (x : List ℕ). IsGroups true x (map (digits_value 16) g.groups ++ two)) (led_joined (g.groups ++ g.address ∷ []) ∙ sym g.spelled)
          (groups_then_ipv4 [] g.groups g.address w (group_digits g.groups g.each));
    }

-- the two kinds of IPv6 address
-- what std calls segments in hexadecimal with colons is an IPv6 address
IsIpv6-from_colon_hex : (text segments : List ℕ) → IsColonHex text segments → IsIpv6 text
IsIpv6-from_colon_hex text segments (inl w) = inl (subst (λ (n : ℕ). LastGroups n text) w.1
    (last_groups text (length segments) (groups_read true [] text segments w.0)))
IsIpv6-from_colon_hex text segments (inr w) =
    inr (record {
      before = length w.head;
      after = length w.tail;
      at_most_seven = omega (arith, w.room);
      spelled = then w.head_text (codes "::" ++ w.tail_text) text
          (first_groups w.head_text (length w.head) (groups_read false [] w.head_text w.head w.head_groups))
          (then (codes "::") w.tail_text (codes "::" ++ w.tail_text) refl
          (last_groups w.tail_text (length w.tail) (groups_read true [] w.tail_text w.tail w.tail_groups)) refl)
          (sym (w.spelled ∙ append_assoc w.head_text (codes "::") w.tail_text));
    })

-- segments that the text writes, in std's words, with or without "::"
record ColonHex (text : List ℕ) : Type 0 where
  segments : List ℕ
  are : IsColonHex text segments

-- the text around "::"
pub compressed_text : (text : List ℕ) → (w : IsCompressed text) → text ≡ w.spelled.front ++ (codes "::" ++ w.spelled.second.back)
compressed_text text w =
    let s = w.spelled in
    sym s.joined ∙ ap (λ (x : List ℕ). s.front ++ x) (sym s.second.joined ∙ ap (λ (x : List ℕ). x ++ s.second.back) s.second.first)

-- each IPv6 address writes some segments
colon_hex-from_IsIpv6 : (text : List ℕ) → IsIpv6 text → ColonHex text
colon_hex-from_IsIpv6 text (inl g) = let s = last_segments text 8 g in record { segments = s.segments; are = inl (s.are, s.size) }
colon_hex-from_IsIpv6 text (inr w) =
    let l = group_segments false w.spelled.front w.before w.spelled.first in
    let r = last_segments w.spelled.second.back w.after w.spelled.second.second in
    record {
      segments = l.segments ++ replicate (8 - length l.segments - length r.segments) 0 ++ r.segments;
      are = inr (record {
        head_text = w.spelled.front;
        tail_text = w.spelled.second.back;
        head = l.segments;
        tail = r.segments;
        spelled = compressed_text text w ∙ sym (append_assoc w.spelled.front (codes "::") w.spelled.second.back);
        head_groups = l.are;
        tail_groups = r.are;
        room = omega (arith, l.size, r.size, w.at_most_seven);
        value = refl;
      });
    }

-- std's parsing of IPv6 addresses gives Ok exactly where the text is one
pub ipv6_parsed : {E : Type 0} (text : List ℕ) (r : Result Ipv6Addr E) → Parses IsIpv6Text text r → (IsTrue (is_ok r)) ↔ IsIpv6 text
ipv6_parsed text (Ok a) p = (λ t. IsIpv6-from_colon_hex text a.segments p, λ w. refl)
ipv6_parsed text (Err e) p = (λ t. absurd cc, λ w. let h = colon_hex-from_IsIpv6 text w in absurd (p (record { segments = h.segments }) h.are))

-- the addresses are ASCII
-- a number below 256 in decimal is of ASCII characters
IsAscii-octet : (n : ℕ) → n < 256 → IsAscii (decimal n)
IsAscii-octet n h = IsAscii-decimal n (omega arith)

-- an IPv4 address is of ASCII characters
pub IsIpv4-ascii : DerivesAscii IsIpv4
IsIpv4-ascii text w = subst IsAscii (sym w.spelled) (IsAscii-joined 46 (decimal w.a ∷ decimal w.b ∷ decimal w.c ∷ decimal w.d ∷ []) (omega arith)
    (IsAscii-octet w.a w.fit.0, (IsAscii-octet w.b w.fit.1, (IsAscii-octet w.c w.fit.2, (IsAscii-octet w.d w.fit.3, tt)))))

-- a group is of ASCII characters
H16-ascii : DerivesAscii H16
H16-ascii = Times-ascii 1 4 HexDigit HexDigit-ascii

-- each of several groups is of ASCII characters
h16s_ascii : (groups : List (List ℕ)) → AllByRecursion H16 groups → AllByRecursion IsAscii groups
h16s_ascii [] a = tt
h16s_ascii (group ∷ groups) a = (H16-ascii group a.0, h16s_ascii groups a.1)

-- groups with colons between them are of ASCII characters
groups_ascii : (count : ℕ) → DerivesAscii (Groups count)
groups_ascii count text g = subst IsAscii (sym g.spelled) (IsAscii-joined 58 g.groups (omega arith) (h16s_ascii g.groups g.each))

-- what may stand at the end of an address is of ASCII characters
last_ascii : (count : ℕ) → DerivesAscii (LastGroups count)
last_ascii count text (inl g) = groups_ascii count text g
last_ascii count text (inr g) = subst IsAscii (sym g.spelled)
    (IsAscii-joined 58 (g.groups ++ g.address ∷ []) (omega arith)
    (each_push IsAscii g.groups g.address (h16s_ascii g.groups g.each) (IsIpv4-ascii g.address g.address_is)))

-- an IPv6 address is of ASCII characters
pub IsIpv6-ascii : DerivesAscii IsIpv6
IsIpv6-ascii text (inl g) = last_ascii 8 text g
IsIpv6-ascii text (inr w) =
    Then-ascii (Groups w.before) (Literal (codes "::") ⨾ LastGroups w.after) (groups_ascii w.before)
    (Then-ascii (Literal (codes "::")) (LastGroups w.after) (Literal-ascii (codes "::") (IsAscii-from_each (codes "::") (omega arith, (omega arith, tt))))
    (last_ascii w.after))
    text w.spelled
