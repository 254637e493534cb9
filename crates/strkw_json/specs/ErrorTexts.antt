-- What is said where no JSON value was read.
use Rattle.std.specs.Prelude.{ℕ, List, codes}
use Rattle.strkw_json.specs.declared.error.JsonError.{JsonError}
use Rattle.strkw_json.specs.declared.error.JsonError.TheVariants.{NotJson, Memory}

abbrev pub error_text : JsonError → List ℕ
error_text NotJson = codes "the text is not JSON"
error_text Memory = codes "out of memory"
