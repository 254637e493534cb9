-- The tokens that owned tokens are.
use Rattle.std.specs.Prelude.{List, map, string_bytes}
use Rattle.json.specs.Token as spec
use Rattle.strkw_cache.specs.declared.tokens.OwnedToken.{OwnedToken}
use Rattle.strkw_cache.specs.declared.tokens.OwnedToken.TheVariants.{BeginObject, EndObject}
use Rattle.strkw_cache.specs.declared.tokens.OwnedToken.TheVariants.{BeginArray, EndArray, Key}
use Rattle.strkw_cache.specs.declared.tokens.OwnedToken.TheVariants.{String, Number, Bool}
use Rattle.strkw_cache.specs.declared.tokens.OwnedToken.TheVariants.{Null, Bad}

abbrev pub token_owned : OwnedToken → spec.Token
token_owned BeginObject = spec.begin_object
token_owned EndObject = spec.end_object
token_owned BeginArray = spec.begin_array
token_owned EndArray = spec.end_array
token_owned (Key s) = spec.key (string_bytes s)
token_owned (String s) = spec.string (string_bytes s)
token_owned (Number s) = spec.number (string_bytes s)
token_owned (Bool b) = spec.boolean b
token_owned Null = spec.null
token_owned Bad = spec.bad

abbrev pub tokens_owned : List OwnedToken → List spec.Token
tokens_owned owned = map token_owned owned
