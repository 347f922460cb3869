-- What a run begins from.
use Rattle.std.specs.Prelude.{Some, Result, Ok, Err}
use Rattle.std.proofs.Common.{ℕ, List, refl, inl, inr}
use Rattle.generated_run.specs.Transactions.{Kept as Transactions}
use Rattle.run_words.specs.Words.{Asked, Says}
use Rattle.inverda_run.specs.Starts.{Told}
use Rattle.inverda_run.specs.Statuses.{Misses}
use Rattle.inverda_run.specs.Calls.{Begins, BeginsLoaded, MissesLoad}
use Rattle.inverda_run.specs.declared.begin.NotBegun.{NotBegun}
use Rattle.inverda_run.specs.declared.begin.NotBegun.TheVariants as begins

-- a file was named
pub begins_named : (told : Told) (name : List ℕ) (max_id was is : ℕ) (r : Result Transactions NotBegun) → BeginsLoaded (told name) max_id was is r → Begins told (Some name) max_id was is r
begins_named told name max_id was is (Ok transactions) b = b
begins_named told name max_id was is (Err begins.Memory) b = b
begins_named told name max_id was is (Err begins.Refused) b = (name, refl, b.0, b.1)
begins_named told name max_id was is (Err begins.TooLong) b = (name, refl, b.0, b.1)
begins_named told name max_id was is (Err begins.Fault) b = (name, refl, b)

-- ---- the words

-- a name that is missing is one that the words load
pub misses_loaded : (words : List (List ℕ)) (told : Told) (asked : Asked) (was is : ℕ) → Says words asked → MissesLoad told asked.load was is → Misses words told was is
misses_loaded words told asked was is says (inl same) = inl same
misses_loaded words told asked was is says (inr m) = inr (m.0, record { asked = asked; says = says; load = m.1 }, m.2, m.3)
