-- The members of an object, one after another.
use Rattle.std.proofs.Common.{◌≡◌, ◌∙◌, ℕ, suc, ◌+◌, ◌-◌, List, [], ◌∷◌, Bool, true, false, Option, Some, None, length, take, drop, refl, sym, ap, arith}
use Rattle.std.proofs.lemmas.List.{length-append}
use Rattle.std.proofs.Math.Seq.{take-append_seam}
use Rattle.std.proofs.lemmas.Map.Text.{is_eq-slice_cmp}
use Rattle.std.proofs.lemmas.Slice.Eq.{bytes_eq-Decides}
use Rattle.std.specs.BTreeMap.{BTreeMap, insert_entry, is_at}
use Rattle.std.specs.Bool.{then_some}
use Rattle.std.specs.Cmp.Lexicographic.{slice_cmp}
use Rattle.std.specs.Map.{lookup}
use Rattle.std.specs.Option.{option_or}
use Rattle.std.specs.Ordering.{is_eq, match_ordering, nat_cmp}
use Rattle.std.specs.Prelude.{IfSome, Vec, if◌then◌else◌, option_map}
use Rattle.std.specs.Str.{IsCharBoundary, bytes_eq}
use Rattle.std.specs.declared.cmp.Ordering.{Ordering}
use Rattle.std.specs.declared.cmp.Ordering.TheVariants.{Less, Equal, Greater}
use Rattle.std.specs.declared.alloc.Global.{Global}
use Rattle.neldrafi_position.specs.Parts.{behind_separators, behind_space, parts}
use Rattle.neldrafi_position.specs.Places.{key_text, last_named, names}
use Rattle.neldrafi_position.specs.machine.Kept.{AreMembers, IsStart, start_named}
use Rattle.neldrafi_position.specs.machine.Walks.{Cut}

cut_key : (text key value : List ℕ) → Cut text key value → key_text text value ≡ key
cut_key text key value c =
    let long : length text ≡ length key + suc (length value) = ap length c.joined ∙ length-append key (c.mark ∷ value) in
    let short : length text - length value - 1 ≡ length key = omega arith in
    ap (λ n. take n text) short ∙ ap (take (length key)) c.joined ∙ take-append_seam key (c.mark ∷ value)

or_again : {A : Type 0} (a b c : Option A) → option_or (option_or a b) c ≡ option_or a (option_or b c)
or_again (Some x) b c = refl
or_again None b c = refl

or_none : {A : Type 0} (a : Option A) → option_or a None ≡ a
or_none (Some x) = refl
or_none None = refl

map_or : {A B : Type 0} (f : A → B) (a b : Option A) → option_map f (option_or a b) ≡ option_or (option_map f a) (option_map f b)
map_or f (Some x) b = refl
map_or f None b = refl

abbrev Starts : Type 0
Starts = BTreeMap (Vec ℕ Global) ℕ

abbrev pub by_bytes : Vec ℕ Global → Vec ℕ Global → Ordering
by_bytes a b = slice_cmp nat_cmp a.items b.items

-- ---- what is put into the starts

absorbed : {A : Type 0} (b : Bool) (x y z : A) → (if b then x else z) ≡ (if b then x else (if b then y else z))
absorbed true x y z = refl
absorbed false x y z = refl

exchanged : {A : Type 0} (a b : Bool) (x y z : A) → (a ≡ true → b ≡ true → ⊥) → (if a then x else (if b then y else z)) ≡ (if b then y else (if a then x else z))
exchanged true true x y z not_both = absurd (not_both refl refl)
exchanged true false x y z not_both = refl
exchanged false b x y z not_both = refl

module _ (key : Vec ℕ Global) (start : ℕ) (name : List ℕ) where
  abbrev is_named : Vec ℕ Global → Bool
  is_named other = is_eq (slice_cmp nat_cmp name other.items)

  same_name : (other : Vec ℕ Global) → is_named other ≡ true → name ≡ other.items
  same_name other e = (bytes_eq-Decides name other.items).0 (sym (is_eq-slice_cmp name other.items) ∙ e)

  same_key : (other : Vec ℕ Global) → by_bytes key other ≡ Equal → is_named other ≡ is_named key
  same_key other e =
      let same : key.items ≡ other.items = (bytes_eq-Decides key.items other.items).0 (sym (is_eq-slice_cmp key.items other.items) ∙ ap is_eq e) in
      ap (λ bytes. is_eq (slice_cmp nat_cmp name bytes)) (sym same)

  other_key : (other : Vec ℕ Global) → by_bytes key other ≡ Greater → is_named other ≡ true → is_named key ≡ true → ⊥
  other_key other e a b =
      let same : bytes_eq key.items other.items ≡ true = (bytes_eq-Decides key.items other.items).1 (sym (same_name key b) ∙ same_name other a) in
      let none : is_eq Greater ≡ true = sym (ap is_eq e) ∙ is_eq-slice_cmp key.items other.items ∙ same in
      cc

  put_by : (o : Ordering) (e : Vec ℕ Global × ℕ) (es more : List (Vec ℕ Global × ℕ)) → by_bytes key e.0 ≡ o
      → lookup is_named more ≡ (if is_named key then Some start else lookup is_named es)
      → lookup is_named (match_ordering o ((key, start) ∷ e ∷ es) ((e.0, start) ∷ es) (e ∷ more)) ≡ (if is_named key then Some start else lookup is_named (e ∷ es))
  put_by Less e es more is behind = refl
  put_by Equal e es more is behind = rw (same_key e.0 is) (absorbed (is_named key) (Some start) (Some e.1) (lookup is_named es))
  put_by Greater e es more is behind =
      rw behind (exchanged (is_named e.0) (is_named key) (Some e.1) (Some start) (lookup is_named es) (other_key e.0 is))

  put_in : (es : List (Vec ℕ Global × ℕ)) → lookup is_named (insert_entry by_bytes es key start) ≡ (if is_named key then Some start else lookup is_named es)
  put_in [] = refl
  put_in (e ∷ es) = put_by (by_bytes key e.0) e es (insert_entry by_bytes es key start) refl (put_in es)

  pub put_named : (old new : Starts) → new.entries ≡ insert_entry by_bytes old.entries key start
      → start_named new name ≡ (if bytes_eq name key.items then Some start else start_named old name)
  put_named old new put =
      ap (lookup is_named) put ∙ put_in old.entries ∙ ap (λ b. if b then Some start else lookup is_named old.entries) (is_eq-slice_cmp name key.items)

-- ---- members one after another

-- the value of a name begins where the starts say, unless the parts that are left have one of that name
pub record AreMade (text : List ℕ) (left all : List (List ℕ)) (starts : BTreeMap (Vec ℕ Global) ℕ) : Type 0 where
  pub cut : (name : List ℕ) → IfSome (start_named starts name) (IsCharBoundary text)
  pub same : (name : List ℕ) → option_or (option_map behind_space (last_named name left)) (option_map (λ start. drop start text) (start_named starts name))
      ≡ option_map behind_space (last_named name all)

none_named : (starts : Starts) → starts.entries ≡ [] → (name : List ℕ) → start_named starts name ≡ None
none_named starts e name = ap (lookup (is_at (λ key. slice_cmp nat_cmp name key.items))) e

pub none_made : (text : List ℕ) (all : List (List ℕ)) (starts : Starts) → starts.entries ≡ [] → AreMade text all all starts
none_made text all starts none = record {
  cut = λ name. rw (none_named starts none name) tt;
  same = λ name. rw (none_named starts none name) (or_none (option_map behind_space (last_named name all)));
}

pub all_made : (text : List ℕ) (left : List (List ℕ)) (inside : ℕ) (starts : Starts) → ((name : List ℕ) → last_named name left ≡ None)
    → AreMade text left (parts (drop inside text)) starts → AreMembers text inside starts
all_made text left inside starts none made = record {
  named = λ name. record { cut = made.cut name; same = rw (none name) at (made.same name) };
}

-- a member more
module _ (text rest : List ℕ) (all : List (List ℕ)) (key value : List ℕ) (old new : Starts) (start : ℕ) (cut : Cut rest key value) (begins : IsStart text value start)
    (put : (name : List ℕ) → start_named new name ≡ (if names key name then Some start else start_named old name)) (made : AreMade text (parts rest) all old) where
  abbrev texts : Option ℕ → Option (List ℕ)
  texts o = option_map (λ n. drop n text) o

  abbrev values : Option (List ℕ) → Option (List ℕ)
  values o = option_map behind_space o

  start_by : (b : Bool) (o : Option ℕ) → texts (if b then Some start else o) ≡ option_or (values (then_some b value)) (texts o)
  start_by true o = ap Some begins.same
  start_by false o = refl

  put_is : (name : List ℕ) → texts (start_named new name) ≡ option_or (values (then_some (names key name) value)) (texts (start_named old name))
  put_is name = ap texts (put name) ∙ start_by (names key name) (start_named old name)

  cut_by : (b : Bool) (o : Option ℕ) → IfSome o (IsCharBoundary text) → IfSome (if b then Some start else o) (IsCharBoundary text)
  cut_by true o h = begins.cut
  cut_by false o h = h

  pub one_made : (left : List (List ℕ)) → behind_separators 0 value ≡ left → AreMade text left all new
  one_made left next = record {
    cut = λ name. rw (put name) (cut_by (names key name) (start_named old name) (made.cut name));
    same = λ name.
        let others = last_named name left in
        let own = then_some (names key name) value in
        let first : last_named name (parts rest) ≡ option_or others own = rw (cut.others, next, cut_key rest key value cut) refl in
        ap (option_or (values others)) (put_is name) ∙ sym (or_again (values others) (values own) (texts (start_named old name)))
        ∙ ap (λ o. option_or o (texts (start_named old name))) (sym (map_or behind_space others own) ∙ ap values (sym first)) ∙ made.same name;
  }
