-- A draft is of a number, and a flag of a truth value: neither is of a text, an array or an object.
use Rattle.std.specs.Prelude.{◌≡◌, Option, Some, option_and_then}
use Rattle.std.proofs.Common.{refl, sym, ap, ◌∙◌}
use Rattle.serde_json.specs.Data.{Data, null, boolean, number, string, array, object}
use Rattle.strkw_json.specs.Passing.{scalar_in}
use Rattle.strkw_report.specs.Drafts.{draft_in}
use Rattle.strkw_cli.specs.Request.{flag_in}

-- a value is the draft that it is as a scalar, and otherwise none
by_scalar_of_draft : (d : Data) → option_and_then draft_in (scalar_in d) ≡ draft_in d
by_scalar_of_draft null = refl
by_scalar_of_draft (boolean b) = refl
by_scalar_of_draft (number n) = refl
by_scalar_of_draft (string s) = refl
by_scalar_of_draft (array ds) = refl
by_scalar_of_draft (object ms) = refl

-- and so it is with a flag
by_scalar_of_flag : (d : Data) → option_and_then (λ e. flag_in (Some e)) (scalar_in d) ≡ flag_in (Some d)
by_scalar_of_flag null = refl
by_scalar_of_flag (boolean b) = refl
by_scalar_of_flag (number n) = refl
by_scalar_of_flag (string s) = refl
by_scalar_of_flag (array ds) = refl
by_scalar_of_flag (object ms) = refl

-- the draft of what a value is as a scalar is that of the value
pub draft_of_scalar : (d : Data) (o : Option Data) → scalar_in d ≡ o → option_and_then draft_in o ≡ draft_in d
draft_of_scalar d o is = ap (option_and_then draft_in) (sym is) ∙ by_scalar_of_draft d

-- and so is the flag
pub flag_of_scalar : (d : Data) (o : Option Data) → scalar_in d ≡ o → option_and_then (λ e. flag_in (Some e)) o ≡ flag_in (Some d)
flag_of_scalar d o is = ap (option_and_then (λ e. flag_in (Some e))) (sym is) ∙ by_scalar_of_flag d
