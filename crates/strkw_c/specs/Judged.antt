-- What a check of many texts by one schema object comes to, by its status.
use Rattle.std.specs.Prelude.{◌≡◌, ◌≢◌, ◌↔◌, ◌≤◌, ℕ, List, Some, None, IsSome, length}
use Rattle.serde_json.specs.Data.{Members}
use Rattle.strkw_report.specs.Drafts.{draft_numbered}
use Rattle.strkw_report.specs.Refusals.{Refusal}
use Rattle.strkw_keywords.specs.Object.{Settings, FirstRefusal}
use Rattle.strkw_c.specs.Settings.{choices_of, settings_of}
use Rattle.strkw_c.specs.Texts.{AreTextsBetween, HaveRoomBetween}
use Rattle.strkw_c.specs.Verdicts.{IsSchema, HasFirstRefusal, IsValid, AreVerdicts}
use Rattle.strkw_c.specs.declared.statuses.TheConstants.{DONE, NO_DRAFT, NO_OPTION, NO_SCHEMA}
use Rattle.strkw_c.specs.declared.statuses.TheConstants.{NO_TEXTS, REFUSED}

-- A draft, options and the bytes of a schema object were given, and texts: whether there are texts
-- and as many verdicts, and which they are. The verdicts were these before, and are these now.
pub record IsJudged (draft options : ℕ) (schema : List ℕ) (HaveRoom : Type 0)
    (AreTexts : List (List ℕ) → Type 0) (before after : List ℕ) (status : ℕ) : Type 0 where
  pub known : status ≤ NO_OPTION
  pub kept : status ≢ DONE → after ≡ before
  pub no_texts : (status ≡ NO_TEXTS) ↔ (HaveRoom → ⊥)
  pub no_draft : (status ≡ NO_DRAFT) ↔ (HaveRoom × (draft_numbered draft ≡ None))
  pub no_option : (status ≡ NO_OPTION)
      ↔ (HaveRoom × IsSome (draft_numbered draft) × (choices_of options ≡ None))
  pub no_schema : status ≡ NO_SCHEMA → IsSchema schema None
  pub refused : status ≡ REFUSED → (s : Settings) × (why : Refusal)
      × (settings_of draft options ≡ Some s) × HasFirstRefusal s schema (Some why)
  pub done : status ≡ DONE → (s : Settings) × (object : Members) × (list : List (List ℕ))
      × (settings_of draft options ≡ Some s)
      × IsSchema schema (Some object) × FirstRefusal s object None
      × AreTexts list × AreVerdicts (IsValid s object) list after

-- the same of texts between these offsets
abbrev pub IsJudgedBetween : ℕ → ℕ → List ℕ → List ℕ → List ℕ → List ℕ → List ℕ → ℕ → Type 0
IsJudgedBetween draft options schema bytes offsets before after status =
    IsJudged draft options schema (HaveRoomBetween bytes offsets (length before))
    (AreTextsBetween bytes offsets) before after status
