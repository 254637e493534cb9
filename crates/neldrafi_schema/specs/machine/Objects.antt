-- The schema objects of a document, as the code has them.
use Rattle.std.specs.Prelude.{List, map}
use Rattle.serde_json.specs.Data.{Members}
use Rattle.serde_json.specs.View.{members_view}
use Rattle.neldrafi_schema.specs.declared.objects.SchemaObject.{SchemaObject}
use Rattle.neldrafi_schema.specs.Paths.{Path}
use Rattle.neldrafi_schema.specs.machine.Compiled.{path_of}

abbrev pub object_of : SchemaObject → Path × Members
object_of o = (path_of o.path.items, members_view o.object.now.entries)

abbrev pub objects_of : List SchemaObject → List (Path × Members)
objects_of os = map object_of os
