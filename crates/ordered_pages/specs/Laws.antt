-- Laws of entries by ascending keys.
use Rattle.std.specs.Prelude.{◌≡◌, List}
use Rattle.ordered_pages.specs.Orders.{Order}
use Rattle.ordered_pages.specs.Entries.{Rise, entry_of}

-- two lists whose keys rise and that have the same entry at each key are equal
abbrev pub OneListHasThem : {E K : Type 0} → Order E K → Type 0
OneListHasThem {E = E} {K = K} o = (first second : List E) → Rise o first → Rise o second → ((k : K) → entry_of o first k ≡ entry_of o second k) → first ≡ second
