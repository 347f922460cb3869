-- Entries kept in pages.
use Rattle.std.specs.Prelude.{◌≡◌, ℕ, suc, ◌+◌, ◌<◌, ◌≤◌, nat_lt, List, [], ◌∷◌, ◌++◌, length, take, drop, slice_index_or, slice_set, if◌then◌else◌}
use Rattle.ordered_pages.specs.Orders.{Order}
use Rattle.ordered_pages.specs.Entries.{AreBefore, AreBehind}

-- the entries of all pages, in order
abbrev pub all_entries : {E : Type 0} → List (List E) → List E
all_entries [] = []
all_entries (p ∷ ps) = p ++ all_entries ps

-- each page has at least so many entries, and at most 64
abbrev pub Hold : {E : Type 0} → ℕ → List (List E) → Type 0
Hold least [] = Unit {0}
Hold least (p ∷ ps) = (least ≤ length p) × (length p ≤ 64) × Hold least ps

-- the fewest entries of a page, among so many pages
abbrev pub least_among : ℕ → ℕ
least_among n = if nat_lt 1 n then 32 else 1

-- no page is empty, none has more than 64 entries, and one that isn't the only one has at least 32
abbrev pub AreSized : {E : Type 0} → List (List E) → Type 0
AreSized ps = Hold (least_among (length ps)) ps

-- only this page can hold the key: the entries of those before come before it, those of the pages behind come behind it
abbrev pub IsPageOf : {E K : Type 0} → Order E K → List (List E) → K → ℕ → Type 0
IsPageOf o ps k i = (i < length ps) × AreBefore o (all_entries (take i ps)) k × AreBehind o k (all_entries (drop (suc i) ps))

-- all pages but this one have at least 32 entries, and at most 64
abbrev pub AreSizedBut : {E : Type 0} → List (List E) → ℕ → Type 0
AreSizedBut ps i = (i < length ps) × Hold 32 (take i ps) × Hold 32 (drop (suc i) ps)

-- the page at the place is this one
abbrev pub IsPage : {E : Type 0} → List (List E) → ℕ → List E → Type 0
IsPage {E = E} ps i p = (i < length ps) × ((d : List E) → slice_index_or ps i d ≡ p)

-- the page has so many entries
abbrev pub HasEntries : {E : Type 0} → List (List E) → ℕ → ℕ → ℕ → Type 0
HasEntries {E = E} ps i least most = (i < length ps) × ((d : List E) → (least ≤ length (slice_index_or ps i d)) × (length (slice_index_or ps i d) ≤ most))

-- all pages but this one and the next have at least 32 entries, and at most 64
abbrev pub ArePair : {E : Type 0} → List (List E) → ℕ → Type 0
ArePair ps i = (suc i < length ps) × Hold 32 (take i ps) × Hold 32 (drop (suc (suc i)) ps)

-- the page has one entry more, as many, or one less, and the other pages stay
abbrev pub EditsPage : {E : Type 0} → List (List E) → ℕ → List (List E) → Type 0
EditsPage {E = E} ps i qs = (p : List E) × (q : List E) × IsPage ps i p × (qs ≡ slice_set ps i q) × (length q ≤ length p + 1) × (length p ≤ length q + 1)
