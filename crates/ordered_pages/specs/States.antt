-- What contracts see of pages.
use Rattle.std.specs.Prelude.{ℕ, List}

-- the entries in order, and how many of them fit without memory, however they are parted
pub record PagesState (E : Type 0) : Type 0 where
  pub entries : List E
  pub capacity : ℕ
