-- What a schema object is compiled under: a draft and options, each given by a number.
use Rattle.std.specs.Prelude.{ℕ, ◌-◌, ◌==◌, nat_le, List, [], map, Bool, true, false, Option}
use Rattle.std.specs.Prelude.{Some, None, option_and_then, option_map, if◌then◌else◌}
use Rattle.strkw_report.specs.declared.draft.Draft.{Draft}
use Rattle.strkw_keywords.specs.declared.options.Options.{Options}
use Rattle.strkw_keywords.specs.Meanings.{Lists, Row, no_lists}
use Rattle.strkw_keywords.specs.Object.{Settings, default_options}
use Rattle.strkw_report.specs.Drafts.{draft_numbered}
use Rattle.strkw_ecma.specs.machine.Lenient.{takes_leniently, lenient_outcome}
use Rattle.strkw_companions.specs.declared.companion.Companion.{Companion}
use Rattle.strkw_companions.specs.Companions.{name_of, admits, companions_of}
use Rattle.strkw_c.specs.declared.settings.Choices.{Choices}

-- whether formats are checked (None: the draft decides), and whether an unknown one adds nothing
abbrev pub options_with : Option Bool → Bool → Options
options_with validate ignore =
    record default_options { validate_formats = validate; ignore_unknown_formats = ignore }

-- The options that two bits of a number set. Bit 1: the draft decides whether formats are checked,
-- and else they are. Bit 2: an unknown format adds nothing, and else it is refused.
abbrev pub options_of : ℕ → Option Options
options_of bits =
    if bits == 0 then Some (options_with (Some true) false)
    else (if bits == 1 then Some (options_with None false)
    else (if bits == 2 then Some (options_with (Some true) true)
    else (if bits == 3 then Some (options_with None true) else None)))

-- Bit 4: the companions are formats that are checked, and else they are unknown. There is no other
-- bit.
abbrev pub choices_of : ℕ → Option Choices
choices_of bits =
    option_map (λ o. record { options = o; companions = nat_le 4 bits })
    (options_of (if nat_le 4 bits then bits - 4 else bits))

-- a companion as a check that is registered
abbrev pub companion_row : Companion → Row
companion_row c = record { name = name_of c; admits = admits c }

-- those that are registered: the companions of the draft, or none
abbrev pub registered_companions : Draft → Bool → List Companion
registered_companions draft companions = if companions then companions_of draft else []

abbrev pub lists_for : Draft → Bool → Lists
lists_for draft companions =
    record no_lists { formats = map companion_row (registered_companions draft companions) }

-- the object stands at the root, and the patterns are those whose strict form `strkw_ecma` takes:
-- `IsExact` of its laws says which, and what they match
abbrev pub settings_by : Draft → Options → Lists → Settings
settings_by draft options lists = record {
  draft = draft;
  place = record { schema = []; prefix = None };
  options = options;
  lists = lists;
  takes = takes_leniently;
  outcome = lenient_outcome;
}

abbrev pub settings_for : Draft → Choices → Settings
settings_for draft choices =
    settings_by draft choices.options (lists_for draft choices.companions)

-- the settings of two numbers, or that one of them is no draft or sets nothing
abbrev pub settings_of : ℕ → ℕ → Option Settings
settings_of draft bits =
    option_and_then (λ d. option_map (settings_for d) (choices_of bits)) (draft_numbered draft)
