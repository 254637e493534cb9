use Rattle.std.proofs.Common.{◌≡◌, ℕ, ◌≤◌, List, length, IfSome, Some, None, arith}
use Rattle.strkw_formats.specs.declared.builtin.BuiltinFormat.TheVariants.{Date, DateTime, Duration, Hostname, HostnameDraft4, Ipv4, Ipv6, Iri, IriReference}
use Rattle.strkw_formats.specs.declared.builtin.BuiltinFormat.TheVariants.{JsonPointer, RelativeJsonPointer, Time, Uri, UriReference, UriTemplate, Uuid}
use Rattle.strkw_formats.specs.Formats.{IsOfBuiltin, window_of}
use Rattle.strkw_formats.specs.FormatLaws.{IsInside}
use Rattle.strkw_formats.proofs.laws.texts_are_inside_their_windows.Goals as goal

-- a length between both ends of a window is inside it
inside : (least greatest n : ℕ) → least ≤ n → n ≤ greatest → IsInside (record { least = least; greatest = Some greatest }) n
inside least greatest n l g = record { long_enough = l; short_enough = g }

-- a length from the least on is inside a window that is open above
above : (least n : ℕ) → least ≤ n → IsInside (record { least = least; greatest = None }) n
above least n l = record { long_enough = l; short_enough = tt }

-- the only length of a window is inside it
exactly : (length n : ℕ) → n ≡ length → IsInside (record { least = length; greatest = Some length }) n
exactly length n e = inside length length n (omega arith) (omega arith)

pub returns : goal.returns
returns c = λ f. elim f as (λ f. (text : List ℕ) → IsOfBuiltin f text → IfSome (window_of f) (λ w. IsInside w (length text))) [
  | Date ↦ λ text d. exactly 10 (length text) (c.date_length.ensures text d)
  | DateTime ↦ λ text d. above 20 (length text) (c.datetime_length.ensures text d)
  | Duration ↦ λ text d. above 3 (length text) (c.duration_length.ensures text d)
  | Hostname ↦ λ text d. inside 1 253 (length text) (c.host_name_length.ensures text d).0 (c.host_name_length.ensures text d).1
  | HostnameDraft4 ↦ λ text d. inside 1 253 (length text) (c.hostname_length.ensures.at_least text d) (c.hostname_length.ensures.at_most text d)
  | Ipv4 ↦ λ text d. inside 7 15 (length text) (c.ipv4_length.ensures.at_least text d) (c.ipv4_length.ensures.at_most text d)
  | Ipv6 ↦ λ text d. inside 2 45 (length text) (c.ipv6_length.ensures.at_least text d) (c.ipv6_length.ensures.at_most text d)
  | Iri ↦ λ text d. tt
  | IriReference ↦ λ text d. tt
  | JsonPointer ↦ λ text d. tt
  | RelativeJsonPointer ↦ λ text d. tt
  | Time ↦ λ text d. above 9 (length text) (c.time_length.ensures text d)
  | Uri ↦ λ text d. tt
  | UriReference ↦ λ text d. tt
  | UriTemplate ↦ λ text d. tt
  | Uuid ↦ λ text d. exactly 36 (length text) (c.uuid_length.ensures text d)
]
