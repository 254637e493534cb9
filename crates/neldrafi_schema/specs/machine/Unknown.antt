-- Unknown keywords, as the code has them.
use Rattle.std.specs.Prelude.{option_map, string_bytes}
use Rattle.neldrafi_schema.specs.declared.unknown.UnknownKeyword.{UnknownKeyword as FoundKeyword}
use Rattle.neldrafi_schema.specs.Unknown.{UnknownKeyword}

abbrev pub unknown_of : FoundKeyword → UnknownKeyword
unknown_of u = record {
  location = u.location;
  name = string_bytes u.name;
  nearest = option_map (λ name. name.now) u.nearest;
}
