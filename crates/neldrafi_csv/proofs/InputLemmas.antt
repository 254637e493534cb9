-- What an input has left, by its buffer and its source.
use Rattle.std.proofs.Common.{◌≡◌, ◌≢◌, ◌≤◌, ◌<◌, ◌+◌, ℕ, zero, suc, List, [], ◌∷◌, ◌++◌, take, drop, length, Bool, true, false, refl, sym, ap, subst, arith, ◌∙◌}
use Rattle.std.proofs.Common.{append_assoc, get_or, inl, inr, Option, Some, None}
use Rattle.std.specs.Prelude.{◌⊎◌, ◌==◌, ◌^◌, Err, IfErr, IfNone, IfSome, Ok, OnErr, OnOk, Result, option_map, if◌then◌else◌, slice_get}
use Rattle.std.specs.Option.{ok_or}
use Rattle.std.specs.Io.KnownBytes.{IsAtEnd, prepend_known}
use Rattle.std.specs.Str.{bytes_eq}
use Rattle.std.proofs.lemmas.List.{append-nil, drop-append-le, length-append, length-drop, length-take, take-append-drop, take-append-le, take_all}
use Rattle.std.proofs.lemmas.Option.{slice_get-get_or}
use Rattle.neldrafi_csv.specs.declared.faults.ReadFault.{ReadFault}
use Rattle.neldrafi_csv.specs.declared.faults.ReadFault.TheVariants as fault
use Rattle.neldrafi_csv.specs.declared.input.Input.{Input}
use Rattle.neldrafi_csv.specs.declared.place.Place.{Place}
use Rattle.neldrafi_csv.specs.Grammar.{is_line_byte}
use Rattle.neldrafi_csv.specs.Lines.{AreLineBytes, place_after}
use Rattle.neldrafi_csv.specs.Marks.{without_mark}
use Rattle.neldrafi_csv.specs.Records.{IsTooLong}
use Rattle.neldrafi_csv.specs.machine.Faults.{Fails}
use Rattle.neldrafi_csv.specs.machine.Inputs.{Passes, rest_of, unread_in}
use Rattle.neldrafi_csv.proofs.LineLemmas.{are_line_bytes-append, place_after-append, place_after-nil, take-length}

-- a text begins with each front of the buffer, and what is left of both is left behind that
pub buffer-front : (buffer : List ℕ) (k : Option (List ℕ)) (text : List ℕ) (count : ℕ) → prepend_known buffer k ≡ Some text → count ≤ length buffer
    → (text ≡ take count buffer ++ drop count text) × (prepend_known (drop count buffer) k ≡ Some (drop count text))
buffer-front buffer None text count e h = cc e
buffer-front buffer (Some ys) text count e h =
    let all : buffer ++ ys ≡ text = cc in
    let left : drop count text ≡ drop count buffer ++ ys = rw (← all) (drop-append-le count buffer ys h) in
    let parts : take count buffer ++ (drop count buffer ++ ys) ≡ text = sym (append_assoc (take count buffer) (drop count buffer) ys)
    ∙ ap (λ (l : List ℕ). l ++ ys) (take-append-drop count buffer) ∙ all in
    (rw left (sym parts), rw left refl)

pub passes-front : {R : Type 0} (rem : R → Option (List ℕ)) (a b : Input R) (text : List ℕ) (count : ℕ) → rest_of rem a ≡ Some text
    → count ≤ length a.buffer → b.buffer ≡ drop count a.buffer → b.source ≡ a.source → b.has_begun ≡ a.has_begun
    → b.place ≡ place_after a.place (take count a.buffer) → Passes rem a b text (take count a.buffer) (drop count text)
passes-front rem a b text count e h p s begun at =
    let parts = buffer-front a.buffer (rem a.source) text count e h in record {
      left = rw (p, s) parts.1;
      splits = parts.0;
      place = at;
      begun = begun;
    }

pub passes-none : {R : Type 0} (rem : R → Option (List ℕ)) (a b : Input R) (text : List ℕ) → rest_of rem b ≡ Some text → b.place ≡ a.place
    → b.has_begun ≡ a.has_begun → Passes rem a b text [] text
passes-none rem a b text e p begun = record { left = e; splits = refl; place = p ∙ sym (place_after-nil a.place); begun = begun }

pub passes-trans : {R : Type 0} (rem : R → Option (List ℕ)) (a b c : Input R) (text x rest y others : List ℕ) → Passes rem a b text x rest
    → Passes rem b c rest y others → Passes rem a c text (x ++ y) others
passes-trans rem a b c text x rest y others h k = record {
  left = k.left;
  splits = h.splits ∙ ap (λ (l : List ℕ). x ++ l) k.splits ∙ sym (append_assoc x y others);
  place = k.place ∙ ap (λ (p : Place). place_after p y) h.place ∙ sym (place_after-append a.place x y);
  begun = k.begun ∙ h.begun;
}

-- and the same input, whose buffer was filled
pub passes-filled : {R : Type 0} (rem : R → Option (List ℕ)) (a b c : Input R) (text x rest : List ℕ) → Passes rem a b text x rest
    → (rest_of rem b ≡ Some rest → rest_of rem c ≡ Some rest) → c.place ≡ b.place → c.has_begun ≡ b.has_begun → Passes rem a c text x rest
passes-filled rem a b c text x rest h kept place begun =
    record { left = kept h.left; splits = h.splits; place = place ∙ h.place; begun = begun ∙ h.begun }

-- ---- a text that is not read on behind some of its bytes

too_long-later : (p : Place) (text x rest : List ℕ) → text ≡ x ++ rest → IsTooLong (place_after p x) rest → IsTooLong p text
too_long-later p text x rest e h = record {
  before = x ++ h.before;
  rest = h.rest;
  splits = e ∙ ap (λ (l : List ℕ). x ++ l) h.splits ∙ sym (append_assoc x h.before h.rest);
  past = elim h.past [
    | inl lines ↦ inl (subst (λ q. 2 ^ 64 ≤ q.line) (sym (place_after-append p x h.before)) lines)
    | inr bytes ↦ let long = length-append x h.before in inr (omega (arith, long, bytes))
  ];
}

pub fails-later : (p q : Place) (text x rest : List ℕ) (e : ReadFault) → text ≡ x ++ rest → q ≡ place_after p x → Fails q rest e → Fails p text e
fails-later p q text x rest (fault.Read e) s at h = tt
fails-later p q text x rest (fault.OpenQuote line) s at h = h
fails-later p q text x rest fault.Memory s at h = tt
fails-later p q text x rest fault.TooLong s at h = too_long-later p text x rest s (rw at at h)

-- the line behind a front of the buffer is past a `u64`
pub too_long-front : (p : Place) (text bytes rest : List ℕ) → text ≡ bytes ++ rest → 2 ^ 64 ≤ (place_after p bytes).line → IsTooLong p text
too_long-front p text bytes rest e past = record { before = bytes; rest = rest; splits = e; past = inl past }

-- the place behind a front is none
pub refused-place : (p : Place) (text bytes rest held : List ℕ) (o : Option Place) (r : Result Place ReadFault) → text ≡ bytes ++ rest → held ≡ bytes
    → IfNone o (2 ^ 64 ≤ (place_after p held).line) → r ≡ ok_or o fault.TooLong → IfErr r (Fails p text)
refused-place p text bytes rest held (Some q) r e same none is = subst (λ s. IfErr s (Fails p text)) (sym is) tt
refused-place p text bytes rest held None r e same none is =
    subst (λ s. IfErr s (Fails p text)) (sym is) (too_long-front p text bytes rest e (subst (λ l. 2 ^ 64 ≤ (place_after p l).line) same none))

-- the start of a text was gone past, or was not
pub begun-text : {R : Type 0} (rem : R → Option (List ℕ)) (a b : Input R) (text : List ℕ) (r : Result Unit ReadFault) → a.has_begun ≡ false
    → unread_in rem a ≡ Some text → ((raw : List ℕ) → rest_of rem a ≡ Some raw → OnOk r (rest_of rem b ≡ Some (without_mark raw)))
    → ((raw : List ℕ) → rest_of rem a ≡ Some raw → OnErr r (rest_of rem b ≡ Some raw)) → OnOk r (b.has_begun ≡ true) → OnErr r (b.has_begun ≡ false)
    → unread_in rem b ≡ Some text
begun-text rem a b text r not e ok err begun kept = by (rest_of rem a) refl (subst (λ t. (if t then rest_of rem a else option_map without_mark (rest_of rem a)) ≡ Some text) not e) r ok err begun kept
  where
    by : (o : Option (List ℕ)) → rest_of rem a ≡ o → option_map without_mark (rest_of rem a) ≡ Some text → (r : Result Unit ReadFault)
        → ((raw : List ℕ) → rest_of rem a ≡ Some raw → OnOk r (rest_of rem b ≡ Some (without_mark raw)))
        → ((raw : List ℕ) → rest_of rem a ≡ Some raw → OnErr r (rest_of rem b ≡ Some raw)) → OnOk r (b.has_begun ≡ true) → OnErr r (b.has_begun ≡ false)
        → unread_in rem b ≡ Some text
    by None is e r ok err begun kept = let none = sym (ap (option_map without_mark) is) ∙ e in cc none
    by (Some raw) is e (Ok u) ok err begun kept =
        let same : Some (without_mark raw) ≡ Some text = sym (ap (option_map without_mark) is) ∙ e in rw begun (ok raw is ∙ same)
    by (Some raw) is e (Err w) ok err begun kept =
        let same : Some (without_mark raw) ≡ Some text = sym (ap (option_map without_mark) is) ∙ e in
        rw kept (ap (option_map without_mark) (err raw is) ∙ same)
