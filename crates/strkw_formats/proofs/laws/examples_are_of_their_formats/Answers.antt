use Rattle.std.specs.Str.{chars}
use Rattle.strkw_formats.specs.declared.builtin.BuiltinFormat.TheVariants.{Date, DateTime, Duration, Hostname, HostnameDraft4, Ipv4, Ipv6, Iri, IriReference}
use Rattle.strkw_formats.specs.declared.builtin.BuiltinFormat.TheVariants.{JsonPointer, RelativeJsonPointer, Time, Uri, UriReference, UriTemplate, Uuid}
use Rattle.strkw_formats.specs.Formats.{IsOfBuiltin, example_of}
use Rattle.strkw_formats.proofs.laws.examples_are_of_their_formats.Goals as goal

pub returns : goal.returns
unfolding chars
returns c = λ f. elim f as (λ f. IsOfBuiltin f (chars (example_of f))) [
  | Date ↦ c.date_example.ensures
  | DateTime ↦ c.datetime_example.ensures
  | Duration ↦ c.duration_example.ensures
  | Hostname ↦ c.example_is_a_host_name.ensures
  | HostnameDraft4 ↦ c.hostname_texts.ensures.example
  | Ipv4 ↦ c.ipv4_texts.ensures.example
  | Ipv6 ↦ c.ipv6_texts.ensures.example
  | Iri ↦ c.example_uri.ensures.iri
  | IriReference ↦ c.example_uri.ensures.iri_reference
  | JsonPointer ↦ c.example_json_pointer.ensures
  | RelativeJsonPointer ↦ c.example_relative_json_pointer.ensures
  | Time ↦ c.time_example.ensures
  | Uri ↦ c.example_uri.ensures.uri
  | UriReference ↦ c.example_uri.ensures.uri_reference
  | UriTemplate ↦ c.example_uri_template.ensures
  | Uuid ↦ c.uuid_example.ensures
]
