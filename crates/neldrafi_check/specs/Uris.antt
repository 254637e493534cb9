-- The path of a file as a URI reference (RFC 3986, section 4.2).
use Rattle.std.specs.Prelude.{ℕ, ◌==◌, ◌||◌, Bool, List, [], ◌∷◌, if◌then◌else◌}
use Rattle.std.specs.Char.{is_ascii_alphanumeric}
use Rattle.std.specs.List.{flat_map}
use Rattle.percent_encoding.specs.Percent.{percent_encode_byte}

-- `unreserved` (section 2.3), and the slash between segments
abbrev pub is_path_byte : ℕ → Bool
is_path_byte b = is_ascii_alphanumeric b || b == 45 || b == 46 || b == 95 || b == 126 || b == 47

-- any other byte is percent-encoded (section 2.1)
abbrev pub uri_byte : ℕ → List ℕ
uri_byte b = if is_path_byte b then b ∷ [] else percent_encode_byte b

abbrev pub uri_of : List ℕ → List ℕ
uri_of file = flat_map uri_byte file
