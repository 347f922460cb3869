-- What is told of a file: nothing, that it isn't there, or its bytes.
use Rattle.std.specs.Prelude.{◌≡◌, ◌≤◌, ℕ, List, [], Option, Some, None, take, drop, length, ⊤}

-- the bytes stand in the file from the place on, and there are none only at or past the end
abbrev pub ReadsFile : Option (Option (List ℕ)) → ℕ → List ℕ → Type 0
ReadsFile None at bytes = ⊤
ReadsFile (Some None) at bytes = ⊥
ReadsFile (Some (Some file)) at bytes = (bytes ≡ take (length bytes) (drop at file)) × (bytes ≡ [] → length file ≤ at)

-- where the file is told, it holds exactly the bytes
abbrev pub ToldAs : Option (Option (List ℕ)) → List ℕ → Type 0
ToldAs None bytes = ⊤
ToldAs (Some None) bytes = ⊥
ToldAs (Some (Some file)) bytes = file ≡ bytes

-- it isn't told that the file is there
abbrev pub IsMissing : Option (Option (List ℕ)) → Type 0
IsMissing None = ⊤
IsMissing (Some None) = ⊤
IsMissing (Some (Some file)) = ⊥
