-- The built-in formats: the grammars of their texts, and a row of what else is told of each. Names
-- and texts are ASCII.
use Rattle.std.specs.Prelude.{ℕ, ◌-◌, ◌^◌, List, [], ◌∷◌, ◌++◌, Bool, ◌&&◌, nat_le, Option, Some}
use Rattle.std.specs.Prelude.{None, unwrap_or, find, codes}
use Rattle.std.specs.Str.{bytes_eq}
use Rattle.strkw_report.specs.declared.draft.Draft.{Draft}
use Rattle.strkw_report.specs.declared.draft.Draft.TheVariants.{Draft4, Draft6, Draft7, Draft201909}
use Rattle.strkw_report.specs.declared.draft.Draft.TheVariants.{Draft202012}
use Rattle.strkw_report.specs.Drafts.{number_of}
use Rattle.strkw_time.specs.Time.{IsFullDate, IsFullTime, IsDateTime}
use Rattle.strkw_time.specs.Duration.{IsDuration}
use Rattle.strkw_net.specs.Addresses.{IsIpv4, IsIpv6}
use Rattle.strkw_net.specs.HostName.{IsAsciiHostName}
use Rattle.strkw_net.specs.Uuid.{IsUuid}
use Rattle.strkw_label.specs.HostName.{IsHostName}
use Rattle.strkw_uri.specs.Pointer.{IsJsonPointer, IsRelativeJsonPointer}
use Rattle.strkw_uri.specs.Template.{IsUriTemplate}
use Rattle.strkw_uri.specs.Uri.{IsUri, IsUriReference, IsIri, IsIriReference}
use Rattle.strkw_formats.specs.declared.builtin.BuiltinFormat.{BuiltinFormat}
use Rattle.strkw_formats.specs.declared.builtin.BuiltinFormat.TheVariants.{Date, DateTime, Duration}
use Rattle.strkw_formats.specs.declared.builtin.BuiltinFormat.TheVariants.{Hostname, HostnameDraft4}
use Rattle.strkw_formats.specs.declared.builtin.BuiltinFormat.TheVariants.{Ipv4, Ipv6, Iri}
use Rattle.strkw_formats.specs.declared.builtin.BuiltinFormat.TheVariants.{IriReference}
use Rattle.strkw_formats.specs.declared.builtin.BuiltinFormat.TheVariants.{JsonPointer}
use Rattle.strkw_formats.specs.declared.builtin.BuiltinFormat.TheVariants.{RelativeJsonPointer}
use Rattle.strkw_formats.specs.declared.builtin.BuiltinFormat.TheVariants.{Time, Uri, UriReference}
use Rattle.strkw_formats.specs.declared.builtin.BuiltinFormat.TheVariants.{UriTemplate, Uuid}

-- each format once, in order
abbrev pub formats : List BuiltinFormat
formats = Date ∷ DateTime ∷ Duration ∷ Hostname ∷ HostnameDraft4 ∷ Ipv4 ∷ Ipv6 ∷ Iri ∷ IriReference
    ∷ JsonPointer ∷ RelativeJsonPointer ∷ Time
    ∷ Uri ∷ UriReference ∷ UriTemplate ∷ Uuid ∷ []

-- how many formats stand before it
abbrev pub format_place : BuiltinFormat → ℕ
format_place Date = 0
format_place DateTime = 1
format_place Duration = 2
format_place Hostname = 3
format_place HostnameDraft4 = 4
format_place Ipv4 = 5
format_place Ipv6 = 6
format_place Iri = 7
format_place IriReference = 8
format_place JsonPointer = 9
format_place RelativeJsonPointer = 10
format_place Time = 11
format_place Uri = 12
format_place UriReference = 13
format_place UriTemplate = 14
format_place Uuid = 15

-- the grammar of a format derives the text
abbrev pub IsOfBuiltin : BuiltinFormat → List ℕ → Type 0
IsOfBuiltin Date text = IsFullDate text
IsOfBuiltin DateTime text = IsDateTime text
IsOfBuiltin Duration text = IsDuration text
IsOfBuiltin Hostname text = IsHostName text
IsOfBuiltin HostnameDraft4 text = IsAsciiHostName text
IsOfBuiltin Ipv4 text = IsIpv4 text
IsOfBuiltin Ipv6 text = IsIpv6 text
IsOfBuiltin Iri text = IsIri text
IsOfBuiltin IriReference text = IsIriReference text
IsOfBuiltin JsonPointer text = IsJsonPointer text
IsOfBuiltin RelativeJsonPointer text = IsRelativeJsonPointer text
IsOfBuiltin Time text = IsFullTime text
IsOfBuiltin Uri text = IsUri text
IsOfBuiltin UriReference text = IsUriReference text
IsOfBuiltin UriTemplate text = IsUriTemplate text
IsOfBuiltin Uuid text = IsUuid text

-- how many characters a text has: at least so many, and at most, where that end is closed
pub record Window : Type 0 where
  pub least : ℕ
  pub greatest : Option ℕ

abbrev pub closed_window : ℕ → ℕ → Option Window
closed_window least greatest = Some (record { least = least; greatest = Some greatest })

abbrev pub open_above : ℕ → Option Window
open_above least = Some (record { least = least; greatest = None })

-- both ends as numbers, the greatest u64 for an open one
abbrev pub bounds : Window → ℕ × ℕ
bounds w = (w.least, unwrap_or w.greatest (2 ^ 64 - 1))

abbrev pub label_of_63 : List ℕ
label_of_63 = codes "aaaaaaaaaaaaaaaaaaaaaaaaaaaaaaaaaaaaaaaaaaaaaaaaaaaaaaaaaaaaaaa"

-- labels of 63, 63, 63 and 61 letters
abbrev pub longest_host_name : List ℕ
longest_host_name =
    (label_of_63 ++ codes ".") ++ (label_of_63 ++ codes ".") ++ (label_of_63 ++ codes ".")
    ++ codes "aaaaaaaaaaaaaaaaaaaaaaaaaaaaaaaaaaaaaaaaaaaaaaaaaaaaaaaaaaaaa"

-- What is told of a format beside its grammar: its name in a schema, the first draft that has it
-- and the last, a text of it, and, for the formats that tell them, how long its texts are, with a
-- text of least length, and one of greatest where that end is closed.
pub record FormatRow : Type 0 where
  pub name : List ℕ
  pub first : Draft
  pub last : Draft
  pub example : List ℕ
  pub window : Option Window
  pub window_texts : Option (List ℕ × Option (List ℕ))

abbrev pub format_row : BuiltinFormat → FormatRow
format_row Date = record {
  name = codes "date";
  first = Draft4;
  last = Draft202012;
  example = codes "2020-01-01";
  window = closed_window 10 10;
  window_texts = Some (codes "2020-01-01", Some (codes "2020-01-01"));
}
format_row DateTime = record {
  name = codes "date-time";
  first = Draft4;
  last = Draft202012;
  example = codes "2020-01-01T00:00:00Z";
  window = open_above 20;
  window_texts = Some (codes "2020-01-01T00:00:00Z", None);
}
format_row Duration = record {
  name = codes "duration";
  first = Draft201909;
  last = Draft202012;
  example = codes "P1D";
  window = open_above 3;
  window_texts = Some (codes "P1D", None);
}
format_row Hostname = record {
  name = codes "hostname";
  first = Draft7;
  last = Draft202012;
  example = codes "example.com";
  window = closed_window 1 253;
  window_texts = Some (codes "a", Some longest_host_name);
}
format_row HostnameDraft4 = record {
  name = codes "hostname";
  first = Draft4;
  last = Draft6;
  example = codes "example.com";
  window = closed_window 1 253;
  window_texts = Some (codes "a", Some longest_host_name);
}
format_row Ipv4 = record {
  name = codes "ipv4";
  first = Draft4;
  last = Draft202012;
  example = codes "127.0.0.1";
  window = closed_window 7 15;
  window_texts = Some (codes "0.0.0.0", Some (codes "255.255.255.255"));
}
format_row Ipv6 = record {
  name = codes "ipv6";
  first = Draft4;
  last = Draft202012;
  example = codes "::1";
  window = closed_window 2 45;
  window_texts = Some (codes "::", Some (codes "0000:0000:0000:0000:0000:0000:255.255.255.255"));
}
format_row Iri = record {
  name = codes "iri";
  first = Draft7;
  last = Draft202012;
  example = codes "http://example.com";
  window = None;
  window_texts = None;
}
format_row IriReference = record {
  name = codes "iri-reference";
  first = Draft7;
  last = Draft202012;
  example = codes "http://example.com";
  window = None;
  window_texts = None;
}
format_row JsonPointer = record {
  name = codes "json-pointer";
  first = Draft6;
  last = Draft202012;
  example = codes "/a";
  window = None;
  window_texts = None;
}
format_row RelativeJsonPointer = record {
  name = codes "relative-json-pointer";
  first = Draft7;
  last = Draft202012;
  example = codes "0";
  window = None;
  window_texts = None;
}
format_row Time = record {
  name = codes "time";
  first = Draft4;
  last = Draft202012;
  example = codes "00:00:00Z";
  window = open_above 9;
  window_texts = Some (codes "00:00:00Z", None);
}
format_row Uri = record {
  name = codes "uri";
  first = Draft4;
  last = Draft202012;
  example = codes "http://example.com";
  window = None;
  window_texts = None;
}
format_row UriReference = record {
  name = codes "uri-reference";
  first = Draft6;
  last = Draft202012;
  example = codes "http://example.com";
  window = None;
  window_texts = None;
}
format_row UriTemplate = record {
  name = codes "uri-template";
  first = Draft6;
  last = Draft202012;
  example = codes "http://example.com/{id}";
  window = None;
  window_texts = None;
}
format_row Uuid = record {
  name = codes "uuid";
  first = Draft201909;
  last = Draft202012;
  example = codes "00000000-0000-4000-8000-000000000000";
  window = closed_window 36 36;
  window_texts = Some (
    codes "00000000-0000-4000-8000-000000000000",
    Some
        (codes "00000000-0000-4000-8000-000000000000"),
  );
}

-- by columns
abbrev pub format_name : BuiltinFormat → List ℕ
format_name f = (format_row f).name

abbrev pub window_of : BuiltinFormat → Option Window
window_of f = (format_row f).window

abbrev pub example_of : BuiltinFormat → List ℕ
example_of f = (format_row f).example

abbrev pub window_texts_of : BuiltinFormat → Option (List ℕ × Option (List ℕ))
window_texts_of f = (format_row f).window_texts

-- the first draft is the second, or stands before it
abbrev pub is_from : Draft → Draft → Bool
is_from first draft = nat_le (number_of first) (number_of draft)

-- the draft has the format
abbrev pub is_known : BuiltinFormat → Draft → Bool
is_known f draft = is_from (format_row f).first draft && is_from draft (format_row f).last

-- the first format in the list that has the name and that the draft has
unfoldable pub builtin_named : Draft → List ℕ → Option BuiltinFormat
builtin_named draft name = find (λ f. bytes_eq (format_name f) name && is_known f draft) formats
