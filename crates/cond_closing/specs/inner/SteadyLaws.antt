-- What an identifier brings is among more identifiers, where it is among some.
use Rattle.std.specs.Prelude.{ℕ, List}
use Rattle.pair_rows.specs.declared.half.Half.{Half}
use Rattle.pair_rows.specs.declared.half.Half.TheVariants.{First, Second}
use Rattle.id_closing.specs.Found.{AreAmong}
use Rattle.id_closing.specs.Closing.{IsAmongMore}
use Rattle.cond_closing.specs.Steady.{BringsStill, ChangingMemory, IsBrought}

pub still_more : (half : Half) (it : ChangingMemory) (some all : List ℕ) (q : ℕ) → AreAmong some all → BringsStill half it some q → BringsStill half it all q
still_more half it some all q among brings e is has still =
    let f = brings e is has still in
    record { id = f.id; still = f.still; among = among f.id f.among }

pub brought_more : (it : ChangingMemory) → IsAmongMore (IsBrought it)
brought_more it q some all among b = record {
  rows = λ a c at. let both = b.rows a c at in (among a both.0, among c both.1);
  first = still_more First it some all q among b.first;
  second = still_more Second it some all q among b.second;
}
