use Rattle.std.proofs.Common.{◌≡◌, ◌-◌, ◌≤◌, length, take}
use Rattle.std.specs.Io.KnownBytes.{Appends}
use Rattle.strkw_devices.proofs.devices.Sink.write_all.Given as goal

-- no write of these has failed, and the sink has taken the bytes up to `at`
abbrev pub invariant-loop-at : goal.invariant-loop-at
invariant-loop-at g l = record {
  within : l.at ≤ length l.bytes;
  works : g.Self.Sink.has_failed l.self ≡ g.Self.Sink.has_failed l.initial.self;
  took : Appends (g.Self.Sink.bytes_taken l.initial.self) (g.Self.Sink.bytes_taken l.self) (take l.at l.bytes);
}

abbrev pub decreases-loop-at : goal.decreases-loop-at
decreases-loop-at g l = length l.bytes - l.at
