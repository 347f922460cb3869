-- Entries by ascending keys.
use Rattle.std.specs.Prelude.{◌≡◌, ℕ, List, [], ◌∷◌, if◌then◌else◌, Option, Some, None}
use Rattle.std.specs.declared.cmp.Ordering.TheVariants.{Less}
use Rattle.std.specs.Ordering.{is_eq, is_lt}
use Rattle.ordered_pages.specs.Orders.{Order}

-- each entry comes before this key
abbrev pub AreBefore : {E K : Type 0} → Order E K → List E → K → Type 0
AreBefore o [] k = Unit {0}
AreBefore o (e ∷ es) k = (o.cmp (o.key e) k ≡ Less) × AreBefore o es k

-- each entry comes behind this key
abbrev pub AreBehind : {E K : Type 0} → Order E K → K → List E → Type 0
AreBehind o k [] = Unit {0}
AreBehind o k (e ∷ es) = (o.cmp k (o.key e) ≡ Less) × AreBehind o k es

-- the keys rise strictly: each entry comes before all those behind it
abbrev pub Rise : {E K : Type 0} → Order E K → List E → Type 0
Rise o [] = Unit {0}
Rise o (e ∷ es) = AreBehind o (o.key e) es × Rise o es

-- the entry of a key
abbrev pub entry_of : {E K : Type 0} → Order E K → List E → K → Option E
entry_of o [] k = None
entry_of o (e ∷ es) k = if is_eq (o.cmp (o.key e) k) then Some e else entry_of o es k

-- the entries that don't come before this key, where the keys rise
abbrev pub entries_from : {E K : Type 0} → Order E K → List E → K → List E
entries_from o [] k = []
entries_from o (e ∷ es) k = if is_lt (o.cmp (o.key e) k) then entries_from o es k else e ∷ es

-- the entries with this one at its key, or with none there
abbrev pub PutsAt : {E K : Type 0} → Order E K → K → Option E → List E → List E → Type 0
PutsAt {K = K} o k slot before now = (q : K) → entry_of o now q ≡ (if is_eq (o.cmp k q) then slot else entry_of o before q)

-- 1 for an entry, 0 for none
abbrev pub count_of : {E : Type 0} → Option E → ℕ
count_of None = 0
count_of (Some e) = 1
