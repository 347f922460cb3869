-- What calls on entries in pages ask for and ensure.
use Rattle.std.specs.Prelude.{◌≡◌, ℕ, ◌+◌, ◌<◌, Bool, List, length, count_by, if◌then◌else◌, Some, None}
use Rattle.ordered_pages.specs.Orders.{Order}
use Rattle.ordered_pages.specs.Entries.{Rise, entry_of}
use Rattle.ordered_pages.specs.States.{PagesState}
use Rattle.id_memory.specs.inner.Orders.{Triple, pair_order}

-- every test passes as many as before, and the entry besides
abbrev pub CountsMore : Triple → List Triple → List Triple → Type 0
CountsMore x before now = (test : Triple → Bool) → count_by test now ≡ count_by test before + (if test x then 1 else 0)

-- the second pages have the entry besides, and as much room in all
pub record HasMore {K : Type 0} (order : Order Triple K) (x : Triple) (less more : PagesState Triple) : Type 0 where
  pub less_rises : Rise order less.entries
  pub more_rises : Rise order more.entries
  pub counts : CountsMore x less.entries more.entries
  pub capacity : more.capacity ≡ less.capacity

-- the pages don't have the pair, and have room for it
pub record HasNone (pair : ℕ × ℕ) (pages : PagesState Triple) : Type 0 where
  pub rises : Rise pair_order pages.entries
  pub absent : entry_of pair_order pages.entries pair ≡ None
  pub room : length pages.entries < pages.capacity

-- the pages have the pair with its identifier
pub record HasPair (x : Triple) (pages : PagesState Triple) : Type 0 where
  pub rises : Rise pair_order pages.entries
  pub there : entry_of pair_order pages.entries (x.0, x.1) ≡ Some x
