-- Each part of a URI ends at the first of its delimiters.
use Rattle.std.proofs.Common.{◌≡◌, ℕ, false, eqb, List, [], ◌∷◌, refl}
use Rattle.std.specs.Char.{is_ascii_digit}
use Rattle.strkw_text.specs.Abnf.{Form, OneOf}
use Rattle.strkw_text.specs.Fronts.{StartsWithNo, NotFirst}
use Rattle.strkw_text.proofs.Laws.{not_first, not_first_nil}
use Rattle.strkw_text.proofs.Optionals.{optional_last_ind, optional_ind}
use Rattle.strkw_text.proofs.Runs.{differ, one_stops, one_stops_nil}
use Rattle.strkw_uri.specs.Characters.{Alphabet, is_pchar, is_nc_char, is_reg_name_char, is_userinfo_char}
use Rattle.strkw_uri.specs.Uri.{Encoded, Port, Query, Fragment, QueryAndFragment}
use Rattle.strkw_uri.specs.Scan.{or_slash, alphabet, PathAndTail, PortAndTail}
use Rattle.strkw_uri.specs.declared.part.Syntax.{Syntax}
use Rattle.strkw_uri.proofs.Encodings.{stops_at, nothing_stops}
use Rattle.strkw_uri.proofs.Paths.{slashes_ind}
use Rattle.strkw_uri.proofs.Parts.{no_question_in_path, no_hash_in_path, no_slash_in_nc, no_question_in_nc, no_hash_in_nc, no_slash_in_userinfo}
use Rattle.strkw_uri.proofs.Parts.{no_question_in_userinfo, no_hash_in_userinfo, no_colon_in_name, no_slash_in_name, no_question_in_name, no_hash_in_name}

-- What holds of nothing, of what begins with "?" and of what begins with "#" holds of ["?" query] ["#" fragment].
tail_ind : (P : Form) (K : Alphabet) → P [] → ((rest : List ℕ) → P (63 ∷ rest)) → ((rest : List ℕ) → P (35 ∷ rest)) → (x : List ℕ) → QueryAndFragment K x → P x
tail_ind P K n q h = optional_ind P 63 (Query K) _ q (optional_last_ind P 35 (Fragment K) n h)

-- and, with "/", of a path and what follows it
path_ind : (P : Form) (K : Alphabet) → P [] → ((rest : List ℕ) → P (47 ∷ rest)) → ((rest : List ℕ) → P (63 ∷ rest)) → ((rest : List ℕ) → P (35 ∷ rest))
    → (x : List ℕ) → PathAndTail K x → P x
path_ind P K n s q h = slashes_ind (is_pchar K) P (QueryAndFragment K) s (tail_ind P K n q h)

-- and, with ":", of a port, a path and what follows
port_ind : (P : Form) (K : Alphabet) → P [] → ((rest : List ℕ) → P (58 ∷ rest)) → ((rest : List ℕ) → P (47 ∷ rest)) → ((rest : List ℕ) → P (63 ∷ rest))
    → ((rest : List ℕ) → P (35 ∷ rest)) → (x : List ℕ) → PortAndTail K x → P x
port_ind P K n c s q h = optional_ind P 58 Port (PathAndTail K) c (path_ind P K n s q h)

-- a text that begins with one character does not begin with another
other : (c d : ℕ) → eqb c d ≡ false → (rest : List ℕ) → NotFirst d (c ∷ rest)
other c d n rest = not_first c d (c ∷ rest) rest refl (differ c d n)

-- an empty text begins with no character
none : (d : ℕ) → NotFirst d []
none d = not_first_nil d [] refl

-- a text that begins with a character that is no digit begins with no digit
no_digit : (c : ℕ) → is_ascii_digit c ≡ false → (rest : List ℕ) → StartsWithNo (OneOf is_ascii_digit) (c ∷ rest)
no_digit c n rest = one_stops is_ascii_digit c (c ∷ rest) rest refl n

-- ["?" query] ["#" fragment] begins with no character of a path and no percent-encoding
pub tail_stops_path : (s : Syntax) (x : List ℕ) → QueryAndFragment (alphabet s) x → StartsWithNo (Encoded (or_slash (is_pchar (alphabet s)))) x
tail_stops_path s =
    let class = or_slash (is_pchar (alphabet s)) in
    tail_ind (StartsWithNo (Encoded class)) (alphabet s) (nothing_stops class [] refl) (stops_at class 63 (no_question_in_path s) refl)
    (stops_at class 35 (no_hash_in_path s) refl)

-- ["?" query] ["#" fragment] does not begin with a slash
pub tail_no_slash : (K : Alphabet) (x : List ℕ) → QueryAndFragment K x → NotFirst 47 x
tail_no_slash K = tail_ind (NotFirst 47) K (none 47) (other 63 47 refl) (other 35 47 refl)

-- a path and what follows it begin with no character of a segment without colons, or percent-encoding
pub path_stops_nc : (s : Syntax) (x : List ℕ) → PathAndTail (alphabet s) x → StartsWithNo (Encoded (is_nc_char (alphabet s))) x
path_stops_nc s =
    let class = is_nc_char (alphabet s) in
    path_ind (StartsWithNo (Encoded class)) (alphabet s) (nothing_stops class [] refl) (stops_at class 47 (no_slash_in_nc s) refl)
    (stops_at class 63 (no_question_in_nc s) refl) (stops_at class 35 (no_hash_in_nc s) refl)

-- nor with a character of a userinfo, or percent-encoding
pub path_stops_userinfo : (s : Syntax) (x : List ℕ) → PathAndTail (alphabet s) x → StartsWithNo (Encoded (is_userinfo_char (alphabet s))) x
path_stops_userinfo s =
    let class = is_userinfo_char (alphabet s) in
    path_ind (StartsWithNo (Encoded class)) (alphabet s) (nothing_stops class [] refl) (stops_at class 47 (no_slash_in_userinfo s) refl)
    (stops_at class 63 (no_question_in_userinfo s) refl) (stops_at class 35 (no_hash_in_userinfo s) refl)

-- a path and what follows it do not begin with "@"
pub path_no_at : (K : Alphabet) (x : List ℕ) → PathAndTail K x → NotFirst 64 x
path_no_at K = path_ind (NotFirst 64) K (none 64) (other 47 64 refl) (other 63 64 refl) (other 35 64 refl)

-- nor do they begin with a colon
pub path_no_colon : (K : Alphabet) (x : List ℕ) → PathAndTail K x → NotFirst 58 x
path_no_colon K = path_ind (NotFirst 58) K (none 58) (other 47 58 refl) (other 63 58 refl) (other 35 58 refl)

-- nor do they begin with a digit
pub path_no_digit : (K : Alphabet) (x : List ℕ) → PathAndTail K x → StartsWithNo (OneOf is_ascii_digit) x
path_no_digit K = path_ind (StartsWithNo (OneOf is_ascii_digit)) K (one_stops_nil is_ascii_digit [] refl) (no_digit 47 refl) (no_digit 63 refl)
    (no_digit 35 refl)

-- a port, a path and what follows do not begin with "["
pub port_no_bracket : (K : Alphabet) (x : List ℕ) → PortAndTail K x → NotFirst 91 x
port_no_bracket K = port_ind (NotFirst 91) K (none 91) (other 58 91 refl) (other 47 91 refl) (other 63 91 refl) (other 35 91 refl)

-- nor with a character of a name, or percent-encoding
pub port_stops_name : (s : Syntax) (x : List ℕ) → PortAndTail (alphabet s) x → StartsWithNo (Encoded (is_reg_name_char (alphabet s))) x
port_stops_name s =
    let class = is_reg_name_char (alphabet s) in
    port_ind (StartsWithNo (Encoded class)) (alphabet s) (nothing_stops class [] refl) (stops_at class 58 (no_colon_in_name s) refl)
    (stops_at class 47 (no_slash_in_name s) refl)
    (stops_at class 63 (no_question_in_name s) refl) (stops_at class 35 (no_hash_in_name s) refl)
