-- Fields that are put into an object, one after the other.
use Rattle.std.proofs.Common.{Bor, refl, arith, zero, suc, ◌≡◌, ◌∙◌, ℕ, ◌+◌, ◌<◌, ◌≤◌, List, [], ◌∷◌, ◌++◌, Option, Some, None, length, drop, get_or, take, sym, ap, string_bytes}
use Rattle.std.proofs.lemmas.List.{drop_all, drop_more, length-map, map-append, take_all, take_more}
use Rattle.std.specs.Option.{unwrap_or}
use Rattle.std.specs.Prelude.{IsUtf8, option_and_then, option_map, slice_get}
use Rattle.csv.specs.Records.{AllText, field_at}
use Rattle.csv.proofs.RecordFacts.{field-get, field-there}
use Rattle.serde_json.specs.Data.{Data, Members}
use Rattle.neldrafi_table.specs.declared.columns.Column.{Column}
use Rattle.neldrafi_table.specs.declared.forms.EmptyField.{EmptyField}
use Rattle.neldrafi_table.specs.Columns.{column_types, columns_by, columns_seen}
use Rattle.neldrafi_table.specs.Fields.{field_value}
use Rattle.neldrafi_csv.specs.Records.{texts_of}
use Rattle.neldrafi_table.specs.Objects.{IsFirstNotUtf8, with_field, with_fields}

-- a field that is read is there, and is the one that is got
pub read_field : (fields : List (List ℕ)) (i : ℕ) (found : Option (Bor (List ℕ))) (field otherwise : Bor (List ℕ)) → i < length fields
    → option_map (λ s. s.now) found ≡ field_at fields i → field ≡ unwrap_or found otherwise → field.now ≡ get_or fields i []
read_field fields i None field otherwise less is got = absurd (field-there fields i less (sym is))
read_field fields i (Some s) field otherwise less is got = ap (λ f. f.now) got ∙ sym (field-get fields i s.now (sym is))

-- the text of a field that a reader has
pub read_text : (values : List (Option (List ℕ))) (i : ℕ) (found : Option (Bor (List ℕ))) (bytes otherwise : Bor (List ℕ))
    → option_map (λ s. s.now) found ≡ option_and_then (λ value. value) (slice_get values i) → bytes ≡ unwrap_or found otherwise → otherwise.now ≡ []
    → bytes.now ≡ get_or (texts_of values) i []
read_text values i found bytes otherwise is got none =
    ap (λ s. s.now) got ∙ chosen found otherwise ∙ ap (unwrap_or (option_map (λ s. s.now) found)) none ∙ ap (λ o. unwrap_or o []) is ∙ text_at values i
  where
    chosen : (found : Option (Bor (List ℕ))) (otherwise : Bor (List ℕ)) → (unwrap_or found otherwise).now ≡ unwrap_or (option_map (λ s. s.now) found) otherwise.now
    chosen None otherwise = refl
    chosen (Some s) otherwise = refl

    text_at : (values : List (Option (List ℕ))) (i : ℕ) → unwrap_or (option_and_then (λ value. value) (slice_get values i)) [] ≡ get_or (texts_of values) i []
    text_at [] i = refl
    text_at (v ∷ values) zero = refl
    text_at (v ∷ values) (suc i) = text_at values i

there : (fields : List (List ℕ)) (i : ℕ) → i < length fields → field_at fields i ≡ Some (get_or fields i [])
unfolding field_at
there [] i h = absurd (omega (arith, h))
there (f ∷ fields) zero h = refl
there (f ∷ fields) (suc i) h = there fields i (omega (arith, h))

-- a field that is not UTF-8, behind those that are
pub first_not : (fields : List (List ℕ)) (i : ℕ) (bytes : List ℕ) → i < length fields → bytes ≡ get_or fields i [] → ¬ (IsUtf8 bytes)
    → AllText (take i fields) → IsFirstNotUtf8 fields (i + 1)
first_not fields i bytes within is broken before = record {
  at = i;
  field = bytes;
  counts = refl;
  found = there fields i within ∙ ap (λ f. Some f) (sym is);
  broken = broken;
  before = before;
}

-- one name more
pub more_names : (fields old new : List (List ℕ)) (i : ℕ) (name : List ℕ) → i < length fields → name ≡ get_or fields i [] → old ≡ take i fields
    → new ≡ old ++ name ∷ [] → new ≡ take (i + 1) fields
more_names fields old new i name within is before more =
    more ∙ ap (λ l. l ++ name ∷ []) before ∙ ap (λ n. take i fields ++ n ∷ []) is ∙ sym (take_more fields i [] within)

pub texts_length : (values : List (Option (List ℕ))) → length (texts_of values) ≡ length values
texts_length values = length-map values (λ value. unwrap_or value [])

-- the columns from one on
from_column : (columns : List Column) (i : ℕ) (c : Column) → i < length columns → c ≡ get_or columns i c
    → columns_seen (drop i columns) ≡ (string_bytes c.name, c.types) ∷ columns_seen (drop (i + 1) columns)
from_column columns i c less is =
    ap columns_seen (drop_more columns i c less) ∙ ap (λ d. (string_bytes d.name, d.types) ∷ columns_seen (drop (i + 1) columns)) (sym is)

module _ (empty : EmptyField) (columns : List Column) (fields : List (List ℕ)) (i : ℕ) where
  -- with the next field put in, the rest makes of the object what it made with that field
  pub put_next : (c : Column) (field : List ℕ) (value : Option Data) (old new : Members) → i < length columns → i < length fields
      → c ≡ get_or columns i c → field ≡ get_or fields i [] → value ≡ field_value empty c.types field → new ≡ with_field (string_bytes c.name) value old
      → with_fields empty (columns_seen (drop (i + 1) columns)) (drop (i + 1) fields) new
      ≡ with_fields empty (columns_seen (drop i columns)) (drop i fields) old
  put_next c field value old new less within is_column is_field is_value is_new =
      ap (with_fields empty (columns_seen (drop (i + 1) columns)) (drop (i + 1) fields))
      (is_new ∙ ap (λ v. with_field (string_bytes c.name) v old) is_value)
      ∙ sym (ap (λ cs. with_fields empty cs (drop i fields) old) (from_column columns i c less is_column)
      ∙ ap (λ fs. with_fields empty ((string_bytes c.name, c.types) ∷ columns_seen (drop (i + 1) columns)) fs old)
      (drop_more fields i [] within ∙ ap (λ f. f ∷ drop (i + 1) fields) (sym is_field)))

  -- with no column left, the object stays as it is
  pub none_left : (old : Members) → length columns ≤ i → with_fields empty (columns_seen (drop i columns)) (drop i fields) old ≡ old
  none_left old past = ap (λ cs. with_fields empty (columns_seen cs) (drop i fields) old) (drop_all i columns past)

-- one column more
pub more_columns : (document : Data) (names : List (List ℕ)) (i : ℕ) (name : List ℕ) (c : Column) (old new : List Column) → i < length names
    → name ≡ get_or names i [] → string_bytes c.name ≡ name → c.types ≡ column_types document name → new ≡ old ++ c ∷ []
    → columns_seen old ≡ columns_by document (take i names) → columns_seen new ≡ columns_by document (take (i + 1) names)
more_columns document names i name c old new less is_name is_bytes is_types is_new before =
    ap columns_seen is_new ∙ map-append (λ d. (string_bytes d.name, d.types)) old (c ∷ [])
    ∙ ap (λ cs. cs ++ (string_bytes c.name, c.types) ∷ []) before
    ∙ ap (λ n. columns_by document (take i names) ++ (n, c.types) ∷ []) is_bytes
    ∙ ap (λ t. columns_by document (take i names) ++ (name, t) ∷ []) is_types
    ∙ ap (λ n. columns_by document (take i names) ++ (n, column_types document n) ∷ []) is_name
    ∙ sym (map-append (λ n. (n, column_types document n)) (take i names) (get_or names i [] ∷ []))
    ∙ sym (ap (columns_by document) (take_more names i [] less))

-- all columns
pub all_columns : (document : Data) (names : List (List ℕ)) (i : ℕ) (columns : List Column) → length names ≤ i
    → columns_seen columns ≡ columns_by document (take i names) → columns_seen columns ≡ columns_by document names
all_columns document names i columns past so_far = so_far ∙ ap (columns_by document) (take_all i names past)
