-- The targets that the code has.
use Rattle.neldrafi_uri.specs.declared.target.Target.{Target}
use Rattle.neldrafi_uri.specs.Components.{Components}
use Rattle.neldrafi_uri.specs.machine.Paths.{path_in}
use Rattle.neldrafi_uri.specs.machine.Texts.{text_in}

abbrev pub target_in : Target → Components
target_in t = record {
  scheme = text_in t.scheme;
  authority = text_in t.authority;
  path = path_in t.path;
  query = text_in t.query;
}
