-- The entries of a memory by identifier, and by pair, both ways round.
use Rattle.std.specs.Prelude.{◌≡◌, Bool, List, count_by}
use Rattle.ordered_pages.specs.Entries.{Rise}
use Rattle.id_memory.specs.Pairs.{Pairs}
use Rattle.id_memory.specs.inner.Orders.{Triple, id_order, pair_order}

-- an entry (p, s, t) as (s, t, p)
abbrev pub by_pair : Triple → Triple
by_pair e = (e.1, e.2, e.0)

-- an entry (p, s, t) as (t, s, p)
abbrev pub by_turned_pair : Triple → Triple
by_turned_pair e = (e.2, e.1, e.0)

-- the list has the entries, each turned so, in some order: every test passes as many of either
abbrev pub Lists : (Triple → Triple) → Pairs → List Triple → Type 0
Lists turn entries items = (test : Triple → Bool) → count_by test items ≡ count_by (λ e. test (turn e)) entries

-- the entries ascend, and both lists have them, by ascending pairs
pub record IsIndexed (entries : Pairs) (first second : List Triple) : Type 0 where
  pub rises : Rise id_order entries
  pub first_rises : Rise pair_order first
  pub first_lists : Lists by_pair entries first
  pub second_rises : Rise pair_order second
  pub second_lists : Lists by_turned_pair entries second
