-- Places among entries that rise.
use Rattle.std.specs.Prelude.{◌≡◌, ℕ, ◌+◌, ◌^◌, ◌<◌, ◌≤◌, List, [], ◌++◌, length, take, drop, slice_index_or}
use Rattle.ordered_pages.specs.Orders.{Order}
use Rattle.ordered_pages.specs.Entries.{AreBefore, AreBehind}
use Rattle.ordered_pages.specs.inner.Pages.{all_entries}

-- the entry of the key stands at this place
abbrev pub StandsAt : {E K : Type 0} → Order E K → List E → K → ℕ → Type 0
StandsAt {E = E} o es k at = (at < length es) × ((d : E) → o.key (slice_index_or es at d) ≡ k)

-- the entry of the key would stand at this place: those before it come before the key, and the others behind it
abbrev pub IsGap : {E K : Type 0} → Order E K → List E → K → ℕ → Type 0
IsGap o es k at = (at ≤ length es) × AreBefore o (take at es) k × AreBehind o k (drop at es)

-- there is an entry at this place of this page
abbrev pub IsPlace : {E : Type 0} → List (List E) → ℕ → ℕ → Type 0
IsPlace ps i j = (i < length ps) × (j < length (slice_index_or ps i []))

-- the entries before this place of this page
abbrev pub entries_before : {E : Type 0} → List (List E) → ℕ → ℕ → List E
entries_before ps i j = all_entries (take i ps) ++ take j (slice_index_or ps i [])

-- a search over so many places takes as many steps as it can be halved
abbrev pub Halves : ℕ → ℕ → ℕ → Type 0
Halves n before after = (k : ℕ) → n ≤ 2 ^ k → after ≤ before + k
