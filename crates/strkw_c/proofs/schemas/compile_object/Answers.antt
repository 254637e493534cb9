use Rattle.std.proofs.Common.{rules, ◌≡◌, ◌≢◌, ◌⊎◌, Some}
use Rattle.serde_json.specs.View.{members_view}
use Rattle.strkw_report.specs.Refusals.{reason_of, refusal_of, out_of_memory}
use Rattle.strkw_keywords.specs.Compiled.{out_of_memory_refusal}
use Rattle.strkw_keywords.specs.Object.{FirstRefusal}
use Rattle.strkw_keywords.specs.Handed.{lists_of}
use Rattle.strkw_c.specs.Settings.{settings_by}
use Rattle.strkw_c.proofs.VerdictLemmas.{first_refusal}
use Rattle.strkw_c.proofs.schemas.compile_object.Goals as goal

pub returns : goal.returns
returns g c =
    let e = c.in-Err.refusal in
    let lists =
    lists_of (λ b. (goal.Format-dyn g b).admits b.1) (λ b. (goal.MediaTypeCheck-dyn g b).accepts b.1)
    (λ b. (goal.ContentCodec-dyn g b).is_encoding b.1) (λ b. (goal.ContentCodec-dyn g b).decoding b.1) c.args.checks.now in
    let s = settings_by c.args.draft c.args.options lists in
    let object = members_view c.args.object.now.entries in
    let had : reason_of e.kind ≢ out_of_memory = search rules in
    let new = c.new-ctx.ensures in
    let refused : (refusal_of e ≡ out_of_memory_refusal) ⊎ FirstRefusal s object (Some (refusal_of e)) =
    rw (new.draft, new.location, new.absolute, new.builder) at c.in-Err.ensures.refused in
    record { compiled = tt; in_use = tt; failed = (first_refusal s object e refused had, c.in-Err.ensures.printable) }
