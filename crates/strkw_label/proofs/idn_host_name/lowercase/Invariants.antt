use Rattle.std.proofs.Common.{◌≡◌, map, take}
use Rattle.std.specs.Prelude.{string_bytes}
use Rattle.std.specs.Char.{to_ascii_lowercase}
use Rattle.strkw_label.proofs.idn_host_name.lowercase.Given as goal

-- the text so far in small letters
abbrev pub invariant-loop-c : goal.invariant-loop-c
invariant-loop-c l = string_bytes l.small ≡ map to_ascii_lowercase (take l.c-index l.text)
