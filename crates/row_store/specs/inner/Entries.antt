-- Rows as entries of pages, by their identifiers.
use Rattle.std.specs.Prelude.{◌≡◌, ℕ, List}
use Rattle.std.specs.declared.cmp.Ordering.TheVariants.{Equal}
use Rattle.std.specs.Ordering.{nat_cmp}
use Rattle.std.proofs.Common.{sym}
use Rattle.std.proofs.lemmas.Cmp.{nat_cmp_total, ranked}
use Rattle.par_base.specs.declared.value.Value.{Value}
use Rattle.ordered_pages.specs.Orders.{Order, IsTotal}

-- what contracts see of an entry: an identifier with its row
abbrev pub EntryState : Type 0
EntryState = ℕ × List Value

-- the key of a row is its identifier
abbrev pub id_order : Order EntryState ℕ
id_order = record { key = λ row. row.0; cmp = nat_cmp }

id_same : (a b : ℕ) → nat_cmp a b ≡ Equal → a ≡ b
id_same a b h = ranked a b Equal (sym h)

pub id_total : IsTotal id_order
id_total = record { total = nat_cmp_total; same = id_same }
