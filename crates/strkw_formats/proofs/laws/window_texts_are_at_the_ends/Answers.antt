use Rattle.std.specs.Str.{chars}
use Rattle.std.proofs.Common.{refl}
use Rattle.strkw_formats.specs.declared.builtin.BuiltinFormat.TheVariants.{Date, DateTime, Duration, Hostname, HostnameDraft4, Ipv4, Ipv6, Iri, IriReference}
use Rattle.strkw_formats.specs.declared.builtin.BuiltinFormat.TheVariants.{JsonPointer, RelativeJsonPointer, Time, Uri, UriReference, UriTemplate, Uuid}
use Rattle.strkw_formats.specs.Formats.{window_of, window_texts_of}
use Rattle.strkw_formats.specs.FormatLaws.{AreBoth, AreTextsAtEnds}
use Rattle.strkw_formats.proofs.laws.window_texts_are_at_the_ends.Goals as goal

pub returns : goal.returns
unfolding chars
returns c = λ f. elim f as (λ f. AreBoth (AreTextsAtEnds f) (window_of f) (window_texts_of f)) [
  | Date ↦ (
    record { derived = c.examples_are_of_their_formats.ensures Date; size = refl },
    record { derived = c.examples_are_of_their_formats.ensures Date; size = refl },
  )
  | DateTime ↦ (record { derived = c.examples_are_of_their_formats.ensures DateTime; size = refl }, tt)
  | Duration ↦ (record { derived = c.examples_are_of_their_formats.ensures Duration; size = refl }, tt)
  | Hostname ↦ (
    record { derived = c.ends_of_the_length_window_are_host_names.ensures.shortest; size = refl },
    record { derived = c.ends_of_the_length_window_are_host_names.ensures.longest; size = refl },
  )
  | HostnameDraft4 ↦ (record { derived = c.hostname_texts.ensures.shortest; size = refl }, record { derived = c.hostname_texts.ensures.longest; size = refl })
  | Ipv4 ↦ (record { derived = c.ipv4_texts.ensures.shortest; size = refl }, record { derived = c.ipv4_texts.ensures.longest; size = refl })
  | Ipv6 ↦ (record { derived = c.ipv6_texts.ensures.shortest; size = refl }, record { derived = c.ipv6_texts.ensures.longest; size = refl })
  | Iri ↦ tt
  | IriReference ↦ tt
  | JsonPointer ↦ tt
  | RelativeJsonPointer ↦ tt
  | Time ↦ (record { derived = c.examples_are_of_their_formats.ensures Time; size = refl }, tt)
  | Uri ↦ tt
  | UriReference ↦ tt
  | UriTemplate ↦ tt
  | Uuid ↦ (
    record { derived = c.examples_are_of_their_formats.ensures Uuid; size = refl },
    record { derived = c.examples_are_of_their_formats.ensures Uuid; size = refl },
  )
]
