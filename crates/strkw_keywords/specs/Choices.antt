-- The names that are reported.
use Rattle.std.specs.Prelude.{ℕ, List, string_bytes}
use Rattle.strkw_coding.specs.declared.codec.Codec.{Codec}
use Rattle.strkw_coding.specs.declared.media_type.BuiltinMediaType.{BuiltinMediaType}
use Rattle.strkw_coding.specs.Names.{codec_name, media_type_name}
use Rattle.strkw_formats.specs.declared.builtin.BuiltinFormat.{BuiltinFormat}
use Rattle.strkw_keywords.specs.declared.checks.Choice.{Choice as KeptChoice}
use Rattle.strkw_keywords.specs.declared.checks.Choice.TheVariants as kept
use Rattle.strkw_formats.specs.Formats.{format_name}
use Rattle.strkw_keywords.specs.Meanings.{Choice, builtin, row}

-- a choice as the code keeps it
abbrev pub choice_of : {A : Type 0} → KeptChoice A → Choice A
choice_of (kept.Builtin a) = builtin a
choice_of (kept.Row at name) = row at (string_bytes name)

-- the name of a built-in, or that of the row
abbrev pub chosen_name : {A : Type 0} → (A → List ℕ) → Choice A → List ℕ
chosen_name name_of (builtin a) = name_of a
chosen_name name_of (row at name) = name

abbrev pub chosen_format_name : Choice BuiltinFormat → List ℕ
chosen_format_name f = chosen_name format_name f

abbrev pub chosen_media_type_name : Choice BuiltinMediaType → List ℕ
chosen_media_type_name m = chosen_name media_type_name m

abbrev pub chosen_codec_name : Choice Codec → List ℕ
chosen_codec_name c = chosen_name codec_name c
