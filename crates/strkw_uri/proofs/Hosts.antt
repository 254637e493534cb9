-- A host and what follows it.
use Rattle.std.proofs.Common.{◌≡◌, ◌↔◌, ◌<◌, ℕ, ◌==◌, Bool, true, false, IsTrue, List, [], ◌∷◌, ◌++◌, inl, inr, refl, sym, ap, subst, ◌∙◌, append_assoc, arith}
use Rattle.std.specs.Prelude.{decimal}
use Rattle.std.specs.Char.{is_ascii_digit}
use Rattle.std.proofs.lemmas.Fmt.{decimal_is_IsNumeral}
use Rattle.strkw_text.specs.Abnf.{Form, ◌⨾◌, ◌∣◌, Literal, Optional, Repeat, OneOf}
use Rattle.strkw_text.specs.Characters.{Digit}
use Rattle.strkw_text.specs.Fronts.{StartsWithNo, RunThen, NotFirst}
use Rattle.strkw_text.proofs.Equivalences.{iff_trans}
use Rattle.strkw_text.proofs.Laws.{one_of, assoc, either_then, optional_then, front_cong, literal_at, literal_not, not_first, Repeat-weaker, Repeat-append}
use Rattle.strkw_text.proofs.Laws.{Repeat-cons}
use Rattle.strkw_text.proofs.Classes.{digits_all}
use Rattle.strkw_text.proofs.Separated.{repeat-from_joined}
use Rattle.strkw_text.proofs.Runs.{run_start, run_then, differ}
use Rattle.strkw_net.specs.Addresses.{IsIpv4}
use Rattle.strkw_uri.specs.Characters.{Alphabet, is_userinfo_char, is_reg_name_char}
use Rattle.strkw_uri.specs.Uri.{Encoded, Port, BracketedAddress, RegName}
use Rattle.strkw_uri.specs.Scan.{alphabet, PathAndTail, HostAndTail}
use Rattle.strkw_uri.specs.declared.part.Syntax.{Syntax}
use Rattle.strkw_uri.proofs.Authorities.{HostRun}
use Rattle.strkw_uri.proofs.Delimiters.{path_stops_userinfo, path_no_at}
use Rattle.strkw_uri.proofs.Encodings.{encoded_free, other_stops, Encoded-weaker}
use Rattle.strkw_uri.proofs.Parts.{digit_in_name, dot_in_name, digit_in_userinfo, no_bracket_in_userinfo}
use Rattle.std.proofs.lemmas.Bool.{or_left, or_right}

-- an IPv4 address is a registered name
-- a number below 256 in decimal is a run of a class that holds the digits
decimal_in : (p : ℕ → Bool) → ((c : ℕ) → IsTrue (is_ascii_digit c) → IsTrue (p c)) → (n : ℕ) → n < 256 → Repeat (Encoded p) (decimal n)
decimal_in p digit n h =
    Repeat-weaker Digit (Encoded p) (λ x o. inl (record { character = o.character; member = digit o.character o.member; is = o.is })) (decimal n)
    ((digits_all (decimal n)).1 (decimal_is_IsNumeral n (omega arith)).0.1)

-- each IPv4 address is a registered name
pub ipv4_is_name : (s : Syntax) (x : List ℕ) → IsIpv4 x → RegName (alphabet s) x
ipv4_is_name s x w =
    let p = is_reg_name_char (alphabet s) in
    let part = decimal_in p (digit_in_name s) in
    subst (Repeat (Encoded p)) (sym w.spelled)
    (repeat-from_joined 46 (Encoded p) (inl (one_of p 46 (dot_in_name s))) (decimal w.a ∷ decimal w.b ∷ decimal w.c ∷ decimal w.d ∷ [])
    (part w.a w.fit.0, (part w.b w.fit.1, (part w.c w.fit.2, (part w.d w.fit.3, tt)))))

-- a host, which is L between brackets, a V or a run, and B
module _ (L V B : Form) (p : ℕ → Bool) (pc : p 37 ≡ false) (bracket : p 91 ≡ false) (name : (x : List ℕ) → V x → Repeat (Encoded p) x)
    (other : (x : List ℕ) → B x → NotFirst 91 x) (stops : (x : List ℕ) → B x → StartsWithNo (Encoded p) x) where
  -- an L between "[" and "]"
  abbrev Bracketed : Form
  Bracketed = Literal (91 ∷ []) ⨾ L ⨾ Literal (93 ∷ [])

  -- such a host, and B behind it
  abbrev HostThen : Form
  HostThen = (Bracketed ∣ V ∣ Repeat (Encoded p)) ⨾ B

  -- it is an L between brackets or a run, and B behind it
  two_cases : (text : List ℕ) → HostThen text ↔ ((Bracketed ⨾ B) ∣ (Repeat (Encoded p) ⨾ B)) text
  two_cases text =
      iff_trans (front_cong (Bracketed ∣ V ∣ Repeat (Encoded p)) (Bracketed ∣ Repeat (Encoded p)) B text
      (λ x. (elim [ inl b ↦ inl b | inr h ↦ elim h [ inl v ↦ inr (name x v) | inr r ↦ inr r ] ], elim [ inl b ↦ inl b | inr r ↦ inr (inr r) ])))
      (either_then Bracketed (Repeat (Encoded p)) B text)

  -- a text that begins with "[" is it exactly where an L, "]" and B follow
  pub host_at : (text after : List ℕ) → text ≡ 91 ∷ after → HostThen text ↔ (L ⨾ Literal (93 ∷ []) ⨾ B) after
  host_at text after e =
      let M = L ⨾ Literal (93 ∷ []) in
      let i = two_cases text in
      let j = iff_trans (assoc (Literal (91 ∷ [])) M B text) (iff_trans (literal_at (M ⨾ B) 91 text after e) (assoc L (Literal (93 ∷ [])) B after)) in
      let here : RunThen (Encoded p) text text = record { run = run_start (Encoded p) text; stops = other_stops p 91 text after e bracket (differ 91 37 refl) }
      in (
        λ h. elim (i.0 h) [ inl q ↦ j.0 q | inr r ↦ absurd (other text ((run_then (Encoded p) B text text (encoded_free p pc) stops here).0 r) after e) ],
        λ h. i.1 (inl (j.1 h)),
      )

  -- a text that does not is it exactly where B stands behind the run
  pub host_off : (text rest : List ℕ) → NotFirst 91 text → RunThen (Encoded p) text rest → HostThen text ↔ B rest
  host_off text rest n r =
      let M = L ⨾ Literal (93 ∷ []) in
      let i = two_cases text in
      let j = run_then (Encoded p) B text rest (encoded_free p pc) stops r in (
        λ h. elim (i.0 h) [ inl q ↦ absurd (literal_not (M ⨾ B) 91 text n ((assoc (Literal (91 ∷ [])) M B text).0 q)) | inr r ↦ j.0 r ],
        λ h. i.1 (inr (j.1 h)),
      )

-- where the run of the userinfo's class ends at the front of a host, a port and T
module _ (L V T : Form) (p U : ℕ → Bool) (name : (x : List ℕ) → V x → Repeat (Encoded p) x) (wider : (c : ℕ) → IsTrue (p c) → IsTrue (U c))
    (colon : IsTrue (U 58)) (digit : (c : ℕ) → IsTrue (is_ascii_digit c) → IsTrue (U c))
    (bracket : U 91 ≡ false) (stops : (x : List ℕ) → T x → StartsWithNo (Encoded U) x) (no_at : (x : List ℕ) → T x → NotFirst 64 x) where
  -- a colon and a port, or neither, and then a T
  abbrev PortThen : Form
  PortThen = Optional (Literal (58 ∷ []) ⨾ Port) ⨾ T

  -- of a run of p, a port and a T, U's run does not end at "@"
  name_run : (x front back : List ℕ) → Repeat (Encoded p) front → PortThen back → front ++ back ≡ x → HostRun U x
  name_run x front back n h e =
      let host : Repeat (Encoded U) front = Repeat-weaker (Encoded p) (Encoded U) (Encoded-weaker p U wider) front n in
      elim ((optional_then (Literal (58 ∷ []) ⨾ Port) T back).0 h) [
        | inl q ↦
            let f = q.first in
            let digits : Repeat (Encoded U) f.back = Repeat-weaker (OneOf is_ascii_digit) (Encoded U)
            (λ y o. inl (record { character = o.character; member = digit o.character o.member; is = o.is })) f.back f.second in
            let at : 58 ∷ f.back ≡ q.front = ap (λ s. s ++ f.back) (sym f.first) ∙ f.joined in
            record {
              rest = q.back;
              run = record {
                run = record {
                  front = front ++ 58 ∷ f.back;
                  is = Repeat-append (Encoded U) front (58 ∷ f.back) host (Repeat-cons (Encoded U) (58 ∷ []) f.back (inl (one_of U 58 colon)) digits);
                  joined = append_assoc front (58 ∷ f.back) q.back ∙ ap (λ s. front ++ s) (ap (λ s. s ++ q.back) at ∙ q.joined) ∙ e;
                };
                stops = stops q.back q.second;
              };
              no_at = no_at q.back q.second;
            }
        | inr t ↦ record {
          rest = back;
          run = record { run = record { front = front; is = host; joined = e }; stops = stops back t };
          no_at = no_at back t;
        }
      ]

  -- the same of each host, a port and a T
  host_then_run : (x : List ℕ) → ((Literal (91 ∷ []) ⨾ L ⨾ Literal (93 ∷ []) ∣ V ∣ Repeat (Encoded p)) ⨾ PortThen) x → HostRun U x
  host_then_run x h = elim h.first [
    | inl b ↦
        let e : x ≡ 91 ∷ (b.back ++ h.back) = sym (ap (λ s. s ++ h.back) (ap (λ s. s ++ b.back) (sym b.first) ∙ b.joined) ∙ h.joined) in
        record {
          rest = x;
          run = record { run = run_start (Encoded U) x; stops = other_stops U 91 x (b.back ++ h.back) e bracket (differ 91 37 refl) };
          no_at = not_first 91 64 x (b.back ++ h.back) e (differ 91 64 refl);
        }
    | inr k ↦ elim k [ inl v ↦ name_run x h.front h.back (name h.front v) h.second h.joined | inr n ↦ name_run x h.front h.back n h.second h.joined ]
  ]

-- what a name holds, a userinfo may hold
name_char_in_userinfo : (K : Alphabet) (c : ℕ) → IsTrue (is_reg_name_char K c) → IsTrue (is_userinfo_char K c)
name_char_in_userinfo K c h = or_left (is_reg_name_char K c) (c == 58) h

-- the same of a character or a percent-encoding
pub name_in_userinfo : (K : Alphabet) (x : List ℕ) → Encoded (is_reg_name_char K) x → Encoded (is_userinfo_char K) x
name_in_userinfo K = Encoded-weaker (is_reg_name_char K) (is_userinfo_char K) (name_char_in_userinfo K)

-- the userinfo's run at the front of a host and what follows it does not end at "@"
pub host_run : (s : Syntax) (x : List ℕ) → HostAndTail (alphabet s) x → HostRun (is_userinfo_char (alphabet s)) x
host_run s =
    let K = alphabet s in
    host_then_run BracketedAddress IsIpv4 (PathAndTail K) (is_reg_name_char K) (is_userinfo_char K) (ipv4_is_name s)
    (name_char_in_userinfo K) (or_right (is_reg_name_char K 58) true refl) (digit_in_userinfo s) (no_bracket_in_userinfo s)
    (path_stops_userinfo s) (path_no_at K)
