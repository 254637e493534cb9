-- Positions that the code keeps.
use Rattle.std.specs.Prelude.{◌≡◌, ◌+◌, ◌*◌, ◌<◌, ◌≤◌, ℕ, List, length, slice_index_or, take}
use Rattle.neldrafi_position.specs.Positions.{column_behind, line_behind}
use Rattle.neldrafi_position.specs.declared.position.Position.{Position}

-- the position of what follows a text
pub record IsBehind (text : List ℕ) (p : Position) : Type 0 where
  pub line : p.line ≡ line_behind text
  pub column : p.column ≡ column_behind text

-- the positions behind each 1,024 bytes of a text, as many as there are
pub record AreMarks (text : List ℕ) (marks : List Position) : Type 0 where
  pub behind : (index : ℕ) (none : Position) → index < length marks
      → ((index + 1) * 1024 ≤ length text)
      × IsBehind (take ((index + 1) * 1024) text) (slice_index_or marks index none)
