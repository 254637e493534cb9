-- What a device of the host was made of, and what a failed write may have left.
use Rattle.std.specs.Prelude.{ℕ, ◌≤◌, List, Option, length, take}
use Rattle.std.specs.Io.KnownBytes.{Appends}
use Rattle.strkw_devices.specs.declared.host_devices.HostSource.{HostSource}
use Rattle.strkw_devices.specs.declared.host_devices.HostSink.{HostSink}

abbrev pub reader_of : {R : Type 0} → HostSource R → R
reader_of source = source.reader

abbrev pub writer_of : {W : Type 0} → HostSink W → W
writer_of sink = sink.writer

-- A beginning of the bytes was appended, where the held bytes are known.
abbrev pub AppendsSome : Option (List ℕ) → Option (List ℕ) → List ℕ → Type 0
AppendsSome old new bytes = (count : ℕ) × (count ≤ length bytes)
    × Appends old new (take count bytes)
