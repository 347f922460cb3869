-- What reading a source to its end gives.
use Rattle.std.specs.Prelude.{◌≡◌, ◌<◌, ◌≤◌, ℕ, List, length, Option}
use Rattle.std.specs.Io.KnownBytes.{Consumes, IsAtEnd}
use Rattle.outside.specs.declared.all.ReadAll.{ReadAll}
use Rattle.outside.specs.declared.all.ReadAll.TheVariants.{Whole, TooLong, Fault}
use Rattle.outside.specs.Causes.{Rose}

-- by what the source had left and has left, and by its count of faults before and now: the bytes
-- are those that were taken; they are all, they pass the limit, or a call failed,
-- and only then the count rose
abbrev pub ReadsAll : ℕ → Option (List ℕ) → Option (List ℕ) → ℕ → ℕ → ReadAll → Type 0
ReadsAll limit before now was is (Whole bytes) = Consumes before now bytes.items × IsAtEnd now × (length bytes.items ≤ limit) × (is ≡ was)
ReadsAll limit before now was is (TooLong bytes) = Consumes before now bytes.items × (limit < length bytes.items) × (is ≡ was)
ReadsAll limit before now was is (Fault bytes) = Consumes before now bytes.items × (length bytes.items ≤ limit) × Rose was is
