-- What an identifier brings is among more identifiers, where it is among some.
use Rattle.std.specs.Prelude.{ℕ, Bool, true, false, List}
use Rattle.id_closing.specs.Found.{AreAmong}
use Rattle.id_closing.specs.Closing.{IsAmongMore}
use Rattle.fk_closing.specs.Brought.{Rule, IsBrought, WitnessBrought}

witness_more : (rule : Rule) (q : ℕ) (b : Bool) (some all : List ℕ) → AreAmong some all → WitnessBrought rule b q some → WitnessBrought rule b q all
witness_more rule q false some all among h = tt
witness_more rule q true some all among h = λ w v still at goal. let f = h w v still at goal in record { id = f.id; refers = f.refers; stays = f.stays; among = among f.id f.among }

pub brought_more : (rule : Rule) → IsAmongMore (IsBrought rule)
brought_more rule q some all among h = record {
  goal = λ v at g goal. among g (h.goal v at g goal);
  witness = witness_more rule q rule.witness some all among h.witness;
}
