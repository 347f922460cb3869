-- What contracts see of sources, sinks and files in memory.
use Rattle.std.specs.Prelude.{ℕ, List, [], ◌∷◌, Option, None, if◌then◌else◌}
use Rattle.std.specs.Str.{bytes_eq}

-- the bytes that a source has left, how many a call gives at most, and its count of faults
pub record SourceState : Type 0 where
  pub left : List ℕ
  pub most : ℕ
  pub faults : ℕ

-- the bytes that a sink holds, how many it has room for, how many a call takes at most, and its count of faults
pub record SinkState : Type 0 where
  pub held : List ℕ
  pub room : ℕ
  pub most : ℕ
  pub faults : ℕ

-- a file in memory, or the room for one: its bytes are `None` where they aren't told
pub record FileState : Type 0 where
  pub name : List ℕ
  pub bytes : Option (List ℕ)

-- the bytes of the first file of this name
unfoldable pub bytes_in : List FileState → List ℕ → Option (List ℕ)
bytes_in [] name = None
bytes_in (file ∷ files) name = if bytes_eq file.name name then file.bytes else bytes_in files name

-- the files, how many bytes a read gives at most, the count of faults, and the count of those at a name that wasn't there
pub record FilesState : Type 0 where
  pub files : List FileState
  pub most : ℕ
  pub faults : ℕ
  pub missing : ℕ
