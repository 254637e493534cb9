-- Why a value was not read. No public clause speaks of it.
use Rattle.strkw_json.specs.declared.error.JsonError.{JsonError}
use Rattle.strkw_json.specs.declared.error.JsonError.TheVariants as json
use Rattle.strkw_cli.specs.declared.unread.Unread.{Unread}
use Rattle.strkw_cli.specs.declared.unread.Unread.TheVariants.{NotJson, Memory}

abbrev pub unread_by : JsonError → Unread
unread_by json.NotJson = NotJson
unread_by json.Memory = Memory
