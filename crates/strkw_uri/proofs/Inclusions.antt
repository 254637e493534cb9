-- What is derived over the characters of RFC 3986 is derived over those of RFC 3987.
use Rattle.std.proofs.Common.{◌≡◌, ℕ, Bool, true, false, ◌||◌, IsTrue, List, inl, inr, refl, codes}
use Rattle.strkw_text.specs.Abnf.{Form, Literal, Repeat, Repeat1}
use Rattle.strkw_text.proofs.Laws.{Repeat-weaker}
use Rattle.strkw_text.proofs.Weaker.{Then-weaker, Optional-weaker}
use Rattle.strkw_uri.specs.Characters.{Alphabet, uri, iri, is_unreserved, is_ucschar, is_reg_name_char, is_userinfo_char, is_pchar, is_nc_char}
use Rattle.strkw_uri.specs.Characters.{is_fragment_char, is_query_char}
use Rattle.strkw_uri.specs.Uri.{Encoded, IsUri, IsUriReference, IsIri, IsIriReference, Host, Authority, PathAbempty, PathAbsolute, PathRootless, PathNoscheme}
use Rattle.strkw_uri.specs.Uri.{HierPart, RelativePart, QueryAndFragment, Uri, UriReference}
use Rattle.strkw_uri.proofs.Encodings.{Encoded-weaker}
use Rattle.std.proofs.lemmas.Bool.{or_left}

-- where a or b holds, and a' if a does, a' or b holds
or_more : (a a' b : Bool) → (IsTrue a → IsTrue a') → IsTrue (a || b) → IsTrue (a' || b)
or_more true a' b f h = or_left a' b (f refl)
or_more false true b f h = refl
or_more false false b f h = h

-- the same where b' holds if b does
or_both : (a a' b b' : Bool) → (IsTrue a → IsTrue a') → (IsTrue b → IsTrue b') → IsTrue (a || b) → IsTrue (a' || b')
or_both true a' b b' f g h = or_left a' b' (f refl)
or_both false true b b' f g h = refl
or_both false false b b' f g h = g h

-- a text that a form derives is derived by it
same : (A : Form) (x : List ℕ) → A x → A x
same A x a = a

-- a run of a class and percent-encodings is one of a wider class
runs : (p q : ℕ → Bool) → ((c : ℕ) → IsTrue (p c) → IsTrue (q c)) → (x : List ℕ) → Repeat (Encoded p) x → Repeat (Encoded q) x
runs p q f = Repeat-weaker (Encoded p) (Encoded q) (Encoded-weaker p q f)

module _ (K L : Alphabet) (wider : (c : ℕ) → IsTrue (K.unreserved c) → IsTrue (L.unreserved c))
    (private : (c : ℕ) → IsTrue (K.private c) → IsTrue (L.private c)) where
  -- a character of a name over K is one over L
  reg_name : (c : ℕ) → IsTrue (is_reg_name_char K c) → IsTrue (is_reg_name_char L c)
  reg_name c = or_more (K.unreserved c) (L.unreserved c) _ (wider c)

  -- a character of a segment over K is one over L
  pchar : (c : ℕ) → IsTrue (is_pchar K c) → IsTrue (is_pchar L c)
  pchar c = or_more (is_reg_name_char K c) (is_reg_name_char L c) _ (reg_name c)

  -- a character of a segment without colons over K is one over L
  nc : (c : ℕ) → IsTrue (is_nc_char K c) → IsTrue (is_nc_char L c)
  nc c = or_more (is_reg_name_char K c) (is_reg_name_char L c) _ (reg_name c)

  -- a character of a userinfo over K is one over L
  userinfo : (c : ℕ) → IsTrue (is_userinfo_char K c) → IsTrue (is_userinfo_char L c)
  userinfo c = or_more (is_reg_name_char K c) (is_reg_name_char L c) _ (reg_name c)

  -- a character of a fragment over K is one over L
  fragment : (c : ℕ) → IsTrue (is_fragment_char K c) → IsTrue (is_fragment_char L c)
  fragment c = or_more (is_pchar K c) (is_pchar L c) _ (pchar c)

  -- a character of a query over K is one over L
  query : (c : ℕ) → IsTrue (is_query_char K c) → IsTrue (is_query_char L c)
  query c = or_both (is_fragment_char K c) (is_fragment_char L c) (K.private c) (L.private c) (fragment c) (private c)

  -- a host over K is one over L
  host : (x : List ℕ) → Host K x → Host L x
  host x (inl b) = inl b
  host x (inr (inl v)) = inr (inl v)
  host x (inr (inr n)) = inr (inr (runs (is_reg_name_char K) (is_reg_name_char L) reg_name x n))

  -- an authority over K is one over L
  authority : (x : List ℕ) → Authority K x → Authority L x
  authority = Then-weaker _ _ _ _ (Optional-weaker _ _ (Then-weaker _ _ _ _ (runs (is_userinfo_char K) (is_userinfo_char L) userinfo)
      (same (Literal (codes "@"))))) (Then-weaker _ _ _ _ host (same _))

  -- a path-abempty over K is one over L
  abempty : (x : List ℕ) → PathAbempty K x → PathAbempty L x
  abempty = Repeat-weaker _ _ (Then-weaker _ _ _ _ (same (Literal (codes "/"))) (runs (is_pchar K) (is_pchar L) pchar))

  -- a run of one or more of a class and percent-encodings is one of a wider class
  some : (p q : ℕ → Bool) → ((c : ℕ) → IsTrue (p c) → IsTrue (q c)) → (x : List ℕ) → Repeat1 (Encoded p) x → Repeat1 (Encoded q) x
  some p q f = Then-weaker _ _ _ _ (Encoded-weaker p q f) (runs p q f)

  -- a path-rootless over K is one over L
  rootless : (x : List ℕ) → PathRootless K x → PathRootless L x
  rootless = Then-weaker _ _ _ _ (some (is_pchar K) (is_pchar L) pchar) abempty

  -- a path-absolute over K is one over L
  absolute : (x : List ℕ) → PathAbsolute K x → PathAbsolute L x
  absolute = Then-weaker _ _ _ _ (same (Literal (codes "/"))) (Optional-weaker _ _ rootless)

  -- a path-noscheme over K is one over L
  noscheme : (x : List ℕ) → PathNoscheme K x → PathNoscheme L x
  noscheme = Then-weaker _ _ _ _ (some (is_nc_char K) (is_nc_char L) nc) abempty

  -- a hier-part over K is one over L
  hier_part : (x : List ℕ) → HierPart K x → HierPart L x
  hier_part x (inl a) = inl (Then-weaker _ _ _ _ (same (Literal (codes "//"))) (Then-weaker _ _ _ _ authority abempty) x a)
  hier_part x (inr (inl a)) = inr (inl (absolute x a))
  hier_part x (inr (inr (inl r))) = inr (inr (inl (rootless x r)))
  hier_part x (inr (inr (inr e))) = inr (inr (inr e))

  -- a relative-part over K is one over L
  relative_part : (x : List ℕ) → RelativePart K x → RelativePart L x
  relative_part x (inl a) = inl (Then-weaker _ _ _ _ (same (Literal (codes "//"))) (Then-weaker _ _ _ _ authority abempty) x a)
  relative_part x (inr (inl a)) = inr (inl (absolute x a))
  relative_part x (inr (inr (inl r))) = inr (inr (inl (noscheme x r)))
  relative_part x (inr (inr (inr e))) = inr (inr (inr e))

  -- a query and a fragment over K are such over L
  query_and_fragment : (x : List ℕ) → QueryAndFragment K x → QueryAndFragment L x
  query_and_fragment = Then-weaker _ _ _ _
      (Optional-weaker _ _ (Then-weaker _ _ _ _ (same (Literal (codes "?"))) (runs (is_query_char K) (is_query_char L) query)))
      (Optional-weaker _ _ (Then-weaker _ _ _ _ (same (Literal (codes "#"))) (runs (is_fragment_char K) (is_fragment_char L) fragment)))

  -- a URI over K is one over L
  absolute_uri : (x : List ℕ) → Uri K x → Uri L x
  absolute_uri = Then-weaker _ _ _ _ (same _) (Then-weaker _ _ _ _ (same (Literal (codes ":"))) (Then-weaker _ _ _ _ hier_part query_and_fragment))

  -- a URI reference over K is one over L
  reference : (x : List ℕ) → UriReference K x → UriReference L x
  reference x (inl u) = inl (absolute_uri x u)
  reference x (inr r) = inr (Then-weaker _ _ _ _ relative_part query_and_fragment x r)

-- an unreserved character of RFC 3986 is one of RFC 3987
wider : (c : ℕ) → IsTrue (uri.unreserved c) → IsTrue (iri.unreserved c)
wider c h = or_left (is_unreserved c) (is_ucschar c) h

-- and so is a private one, of which RFC 3986 has none
none_private : (c : ℕ) → IsTrue (uri.private c) → IsTrue (iri.private c)
none_private c h = let e : false ≡ true = h in cc

-- each text that is a URI is an IRI
pub uri_is_iri : (x : List ℕ) → IsUri x → IsIri x
uri_is_iri = absolute_uri uri iri wider none_private

-- each text that is a URI reference is an IRI reference
pub uri_reference_is_iri_reference : (x : List ℕ) → IsUriReference x → IsIriReference x
uri_reference_is_iri_reference = reference uri iri wider none_private
