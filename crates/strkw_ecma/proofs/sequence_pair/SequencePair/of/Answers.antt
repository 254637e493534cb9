use Rattle.std.proofs.Common.{◌+◌, take, drop, length, refl, inr, sym, ap, ap₂, subst, subst₂, ◌∙◌}
use Rattle.std.proofs.lemmas.Option.{same_Some}
use Rattle.strkw_ecma.specs.machine.Chains.{IsChainIn, AreBranchesOf}
use Rattle.strkw_regex_search.specs.machine.Instructions.{are_within}
use Rattle.strkw_ecma.proofs.Chains.{without_within, with_within}
use Rattle.strkw_ecma.proofs.sequence_pair.SequencePair.of.Goals as goal

pub of-requires : goal.of-requires
of-requires c = record {
  within =
      ap₂ are_within (ap length c.as_slice-classes.ensures.value) c.as_slice-instructions.ensures.value ∙ c.requires.within;
}

pub of-requires-2 : goal.of-requires-2
of-requires-2 c = record {
  within =
      ap₂ are_within (ap length c.as_slice-classes.ensures.value) (c.deref.ensures.value ∙ c.in_ok-left.ensures)
      ∙ without_within (length c.args.code.now.classes.items) c.in-Some-first_option.number c.as_slice-instructions.result.now _ _
      c.in-Some-first_option.ensures.option
      (ap (are_within (length c.args.code.now.classes.items)) c.as_slice-instructions.ensures.value ∙ c.requires.within);
}

pub of-requires-3 : goal.of-requires-3
of-requires-3 c = record {
  within =
      ap₂ are_within (ap length c.as_slice-classes.ensures.value) (c.deref-2.ensures.value ∙ c.in_ok-all.ensures)
      ∙ with_within (length c.args.code.now.classes.items) c.in-Some-first_option.number c.as_slice-instructions.result.now _ _
      c.in-Some-first_option.ensures.option
      (ap (are_within (length c.args.code.now.classes.items)) c.as_slice-instructions.ensures.value ∙ c.requires.within);
}

pub returns : goal.returns
returns c b is =
    let all = c.as_slice-instructions.result.now in
    let place = c.in-Some-first_option.place in
    subst (λ k. AreBranchesOf k c.args.code.now) (same_Some _ b is)
    (inr record {
      before = take place all;
      behind = drop (place + 1) all;
      number = c.in-Some-first_option.number;
      other = c.in-Some-3.other;
      written_is = sym c.as_slice-instructions.ensures.value ∙ c.in-Some-first_option.ensures.option;
      is_there = refl;
      without_it =
          subst₂ (IsChainIn c.in-Some-2.one) c.as_slice-classes.ensures.value (c.deref.ensures.value ∙ c.in_ok-left.ensures)
          (c.in_ok-one-2.ensures c.in-Some-2.one c.in-Some-2.is);
      with_it =
          subst₂ (IsChainIn c.in-Some-3.other) c.as_slice-classes.ensures.value (c.deref-2.ensures.value ∙ c.in_ok-all.ensures)
          (c.in_ok-other.ensures c.in-Some-3.other c.in-Some-3.is);
    })
