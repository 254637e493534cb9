-- The companions: formats of other standards, which a caller registers. What is told of each, and
-- which texts it admits.
use Rattle.std.specs.Prelude.{ℕ, List, [], ◌∷◌, Bool, nat_le, codes, filter, IsTrue, ◌↔◌}
use Rattle.strkw_report.specs.declared.draft.Draft.{Draft}
use Rattle.strkw_report.specs.declared.draft.Draft.TheVariants.{Draft4, Draft7}
use Rattle.strkw_report.specs.Drafts.{number_of}
use Rattle.strkw_regex_grammar.specs.Regex.{IsRegex}
use Rattle.strkw_label.specs.IdnHostName.{IsIdnHostName}
use Rattle.strkw_mail.specs.IdnMailbox.{IsIdnMailbox}
use Rattle.strkw_mail.specs.Mailbox.{IsMailbox}
use Rattle.strkw_companions.specs.declared.companion.Companion.{Companion}
use Rattle.strkw_companions.specs.declared.companion.Companion.TheVariants.{Email, IdnEmail}
use Rattle.strkw_companions.specs.declared.companion.Companion.TheVariants.{IdnHostname, Regex}
use Rattle.strkw_companions.specs.Decisions.{Decision, holds}
use Rattle.strkw_companions.specs.MailboxDecision.{mailbox}
use Rattle.strkw_companions.specs.IdnHostNameDecision.{idn_host_name}
use Rattle.strkw_companions.specs.IdnMailboxDecision.{idn_mailbox}
use Rattle.strkw_companions.specs.RegexDecision.{regex}

-- each companion once, in order
abbrev pub companions : List Companion
companions = Email ∷ Regex ∷ IdnEmail ∷ IdnHostname ∷ []

-- by which name a schema object has it
abbrev pub name_of : Companion → List ℕ
name_of Email = codes "email"
name_of Regex = codes "regex"
name_of IdnEmail = codes "idn-email"
name_of IdnHostname = codes "idn-hostname"

-- the first draft that has the name: section 7.3 of the validation vocabulary of draft 4, the
-- meta-schema of draft 4 (at `pattern`) for `regex`, and section 7.3 of draft 7
abbrev pub first_draft : Companion → Draft
first_draft Email = Draft4
first_draft Regex = Draft4
first_draft IdnEmail = Draft7
first_draft IdnHostname = Draft7

-- the companions of a draft
abbrev pub companions_of : Draft → List Companion
companions_of draft = filter (λ c. nat_le (number_of (first_draft c)) (number_of draft)) companions

-- the grammar of a companion derives the text
abbrev pub IsOfCompanion : Companion → List ℕ → Type 0
IsOfCompanion Email text = IsMailbox text
IsOfCompanion Regex text = IsRegex text
IsOfCompanion IdnEmail text = IsIdnMailbox text
IsOfCompanion IdnHostname text = IsIdnHostName text

-- it does, or it does not
pub decision : (c : Companion) (text : List ℕ) → Decision (IsOfCompanion c text)
decision Email text = mailbox text
decision Regex text = regex text
decision IdnEmail text = idn_mailbox text
decision IdnHostname text = idn_host_name text

-- so this test is true exactly where it does
abbrev pub admits : Companion → List ℕ → Bool
admits c text = holds (decision c text)
