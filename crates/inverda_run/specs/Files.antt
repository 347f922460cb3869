-- What is read of a file.
use Rattle.std.specs.Prelude.{◌≡◌, ◌⊎◌, ◌≤◌, ◌<◌, ℕ, List, length, Option, Some, None, ⊤}
use Rattle.outside.specs.Causes.{Rose}
use Rattle.outside.specs.FileTold.{IsMissing, ToldAs}
use Rattle.inverda_run.specs.declared.file.FileRead.{FileRead}
use Rattle.inverda_run.specs.declared.file.FileRead.TheVariants.{Whole, TooLong, Fault}

-- where the file is told, it has more bytes than the limit
abbrev pub IsLonger : ℕ → Option (Option (List ℕ)) → Type 0
IsLonger limit None = ⊤
IsLonger limit (Some None) = ⊥
IsLonger limit (Some (Some file)) = limit < length file

-- by what is told of the file, and by the count of faults before and now: the bytes are all of it, they pass the limit, or a call
-- failed, and only then the count rose
abbrev pub ReadsWhole : ℕ → Option (Option (List ℕ)) → ℕ → ℕ → FileRead → Type 0
ReadsWhole limit told was is (Whole bytes) = ToldAs told bytes.items × (length bytes.items ≤ limit) × (is ≡ was)
ReadsWhole limit told was is TooLong = IsLonger limit told × (is ≡ was)
ReadsWhole limit told was is Fault = Rose was is

-- the count of missing names stays, or it is one more and it isn't told that the file is there
abbrev pub MissesOnly : Option (Option (List ℕ)) → ℕ → ℕ → Type 0
MissesOnly told was is = (is ≡ was) ⊎ (IsMissing told × Rose was is)
