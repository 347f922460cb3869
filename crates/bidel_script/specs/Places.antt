-- Lines and columns of bytes.
use Rattle.std.specs.Prelude.{◌+◌, ◌==◌, ℕ, List, [], ◌∷◌, take, if◌then◌else◌}

-- a line, and a column in bytes, each counted from 1
pub record Place : Type 0 where
  pub line : ℕ
  pub column : ℕ

-- the first place
abbrev pub start : Place
start = record { line = 1; column = 1 }

-- the place behind a byte; a line ends after its line feed
abbrev pub behind : Place → ℕ → Place
behind place byte = if byte == 10 then record { line = place.line + 1; column = 1 } else record { line = place.line; column = place.column + 1 }

-- the place behind some bytes
unfoldable pub behind_all : Place → List ℕ → Place
behind_all place [] = place
behind_all place (byte ∷ bytes) = behind_all (behind place byte) bytes

-- the place of a byte
abbrev pub place_of : List ℕ → ℕ → Place
place_of bytes at = behind_all start (take at bytes)
