use Rattle.std.proofs.Common.{◌≡◌, ◌++◌, drop, map, string_bytes}
use Rattle.neldrafi_schema.specs.Errors.{listed}
use Rattle.neldrafi_schema.proofs.error.listed.Given as goal

-- the texts so far, and those that are left
abbrev pub invariant-loop-place : goal.invariant-loop-place
invariant-loop-place l = string_bytes l.list ++ listed l.last (map string_bytes (drop l.place l.texts)) ≡ listed l.last (map string_bytes l.texts)
