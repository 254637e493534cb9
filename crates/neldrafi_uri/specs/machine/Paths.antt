-- The paths that the code has.
use Rattle.std.specs.Prelude.{◌≡◌, ℕ, List, ◌∷◌, Bool}
use Rattle.neldrafi_uri.specs.declared.paths.Path.{Path}
use Rattle.neldrafi_uri.specs.Resolution.{is_empty, path_text, without_dots}
use Rattle.neldrafi_uri.specs.machine.Texts.{texts}

abbrev pub path_in : Path → List ℕ
path_in p = path_text p.first.now (texts p.others.items)

-- what becomes of a path with these segments to come
abbrev pub path_then : Path → List (List ℕ) → List ℕ
path_then p segments = without_dots p.first.now (texts p.others.items) segments

-- a path with a segment more, which may be the last
abbrev pub AddsSegment : Path → List ℕ → Bool → Path → Type 0
AddsSegment old segment is_last new =
    (others : List (List ℕ)) → is_empty others ≡ is_last → path_then new others ≡ path_then old (segment ∷ others)
