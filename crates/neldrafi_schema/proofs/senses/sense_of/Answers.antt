use Rattle.std.proofs.Common.{◌≡◌, inl, inr}
use Rattle.neldrafi_schema.specs.declared.known.Known.TheVariants as known
use Rattle.neldrafi_schema.specs.machine.Compiled.{path_of}
use Rattle.neldrafi_schema.proofs.Cases.{assertion_left}
use Rattle.neldrafi_schema.proofs.senses.sense_of.Goals as goal

pub returns-in-Dialect-clause-leads : goal.returns-in-Dialect-clause-leads
returns-in-Dialect-clause-leads g c = λ documents there. c.dialect_sense.ensures.leads documents

pub returns-in-Draft4Identifier-clause-sense : goal.returns-in-Draft4Identifier-clause-sense
returns-in-Draft4Identifier-clause-sense g c = λ outcome. elim c.in-Draft4Identifier.is [
  | inl is ↦ rw is (c.identifier_sense.ensures.sense outcome)
  | inr is ↦ rw is (c.identifier_sense.ensures.sense outcome)
]

pub returns-in-Draft4Identifier-clause-leads : goal.returns-in-Draft4Identifier-clause-leads
returns-in-Draft4Identifier-clause-leads g c = λ documents there. c.identifier_sense.ensures.leads documents

pub returns-in-Anchor-clause-sense : goal.returns-in-Anchor-clause-sense
returns-in-Anchor-clause-sense g c = λ outcome. elim c.in-Anchor.is [
  | inl is ↦ rw is (c.anchor_sense.ensures.sense outcome)
  | inr is ↦ rw is (c.anchor_sense.ensures.sense outcome)
]

pub returns-in-Anchor-clause-leads : goal.returns-in-Anchor-clause-leads
returns-in-Anchor-clause-leads g c = λ documents there. c.anchor_sense.ensures.leads documents

pub returns-in-RecursiveAnchor-clause-leads : goal.returns-in-RecursiveAnchor-clause-leads
returns-in-RecursiveAnchor-clause-leads g c = λ documents there. c.flag_sense.ensures.leads documents

pub returns-in-AnyOf-clause-sense : goal.returns-in-AnyOf-clause-sense
returns-in-AnyOf-clause-sense g c = λ outcome.
    let is : c.args.known ≡ known.AnyOf = c.in-AnyOf.is in
    rw is (c.list_sense-in-AnyOf.ensures.sense outcome)

pub returns-in-OneOf-clause-sense : goal.returns-in-OneOf-clause-sense
returns-in-OneOf-clause-sense g c = λ outcome.
    let is : c.args.known ≡ known.OneOf = c.in-OneOf.is in
    rw is (c.list_sense-in-OneOf.ensures.sense outcome)

pub returns-in-Definitions-clause-sense : goal.returns-in-Definitions-clause-sense
returns-in-Definitions-clause-sense g c = λ outcome. elim c.in-Definitions.is [
  | inl is ↦ rw is (c.map_sense-in-Definitions.ensures.sense outcome)
  | inr is ↦ rw is (c.map_sense-in-Definitions.ensures.sense outcome)
]

pub returns-in-DependentSchemas-clause-sense : goal.returns-in-DependentSchemas-clause-sense
returns-in-DependentSchemas-clause-sense g c = λ outcome.
    let is : c.args.known ≡ known.DependentSchemas = c.in-DependentSchemas.is in
    rw is (rw c.new.ensures.items at (c.map_sense-in-DependentSchemas.ensures.sense outcome))

pub returns-in-PrefixItems-clause-sense : goal.returns-in-PrefixItems-clause-sense
returns-in-PrefixItems-clause-sense g c = λ outcome.
    let is : c.args.known ≡ known.PrefixItems = c.in-PrefixItems.is in
    rw is (c.list_sense-in-PrefixItems.ensures.sense outcome)

pub returns-in-Contains-clause-sense : goal.returns-in-Contains-clause-sense
returns-in-Contains-clause-sense g c = λ outcome.
    let is : c.args.known ≡ known.Contains = c.in-Contains.is in
    rw is (rw (c.contains_rule.ensures outcome) at (c.one_sense-in-Contains.ensures.sense outcome))

pub returns-in-If-clause-sense : goal.returns-in-If-clause-sense
returns-in-If-clause-sense g c = λ outcome.
    let is : c.args.known ≡ known.If = c.in-If.is in
    rw is (c.one_sense-in-If.ensures.sense outcome)

pub returns-in-Unevaluated-clause-sense : goal.returns-in-Unevaluated-clause-sense
returns-in-Unevaluated-clause-sense g c = λ outcome.
    let is : c.args.known ≡ known.Unevaluated c.in-Unevaluated.part = c.in-Unevaluated.is in
    rw is (c.others_sense.ensures.sense outcome)

pub returns-in-AdditionalProperties-clause-sense : goal.returns-in-AdditionalProperties-clause-sense
returns-in-AdditionalProperties-clause-sense g c = λ outcome.
    let is : c.args.known ≡ known.AdditionalProperties = c.in-AdditionalProperties.is in
    rw is (c.others_sense-in-AdditionalProperties.ensures.sense outcome)

pub returns-in-Items-clause-sense : goal.returns-in-Items-clause-sense
returns-in-Items-clause-sense g c = λ outcome.
    let is : c.args.known ≡ known.Items = c.in-Items.is in
    rw is (c.items_sense.ensures.sense outcome)

pub returns-in-AdditionalItems-clause-sense : goal.returns-in-AdditionalItems-clause-sense
returns-in-AdditionalItems-clause-sense g c = λ outcome.
    let is : c.args.known ≡ known.AdditionalItems = c.in-AdditionalItems.is in
    rw is (c.additional_sense.ensures.sense outcome)

pub returns-in_default-clause-sense : goal.returns-in_default-clause-sense
returns-in_default-clause-sense g c = λ outcome.
    c.assertion_sense.ensures.sense outcome (path_of c.args.member.now.path.now) (path_of c.args.member.now.at.now)
    (assertion_left c.args.known c.in_default.not-Dialect c.in_default.not-Draft4Identifier c.in_default.not-Identifier c.in_default.not-Anchor c.in_default.not-DynamicAnchor c.in_default.not-RecursiveAnchor c.in_default.not-DynamicReference c.in_default.not-RecursiveReference c.in_default.not-AllOf c.in_default.not-AnyOf c.in_default.not-OneOf c.in_default.not-Properties c.in_default.not-Definitions c.in_default.not-Defs c.in_default.not-Dependencies c.in_default.not-PropertyNames c.in_default.not-ContentSchema c.in_default.not-Contains c.in_default.not-DependentSchemas c.in_default.not-PrefixItems c.in_default.not-Unevaluated c.in_default.not-If c.in_default.not-Not c.in_default.not-Then c.in_default.not-Else c.in_default.not-AdditionalProperties c.in_default.not-Items c.in_default.not-AdditionalItems c.in_default.not-PatternProperties c.in_default.not-Reference c.in_default.not-Text c.in_default.not-Unknown)

pub returns-in_default-clause-leads : goal.returns-in_default-clause-leads
returns-in_default-clause-leads g c = λ documents there. c.assertion_sense.ensures.leads documents
