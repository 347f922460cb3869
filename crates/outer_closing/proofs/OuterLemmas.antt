-- Identifiers that are closed for JOIN and hold 0 are closed for OUTER JOIN.
use Rattle.std.proofs.Common.{◌≡◌, ℕ, List, Bool, true}
use Rattle.id_memory.specs.Pairs.{Pairs}
use Rattle.op_law.specs.Identifiers.{has_id}
use Rattle.op_law.specs.Meaning.{PairState}
use Rattle.op_rows.specs.inner.Tabulated.{all_rise}
use Rattle.row_changes.specs.Changed.{TableChanges}
use Rattle.operator_changes.specs.Calls.{MayChange}
use Rattle.pair_rows.specs.Shown.{Joining}
use Rattle.outer_law.specs.OuterOn.{outer_on}
use Rattle.cond_parts.specs.Closed.{IsClosedIn}
use Rattle.outer_parts.specs.Closed.{IsClosedForward, IsOuterClosed}
use Rattle.cond_closing.specs.Calls.{IsShown, MayShow}

pub outer_closed : (P : ℕ → Bool) (m : Pairs) → P 0 ≡ true → IsClosedIn P m → IsOuterClosed P m
outer_closed P m absent closed = record {
  absent = absent;
  rows = closed.rows;
  first = λ q low pass stand. closed.first q pass stand;
  second = λ q low pass stand. closed.second q pass stand;
}

pub outer_shown : (j : Joining) (near : TableChanges) (p : PairState) (n : ℕ) (ids : List ℕ) → has_id ids 0 ≡ true → IsShown j near p n ids → IsClosedForward j near p n ids
outer_shown j near p n ids absent shown = record {
  rise = shown.closed.rise;
  touches = shown.closed.touches;
  absent = absent;
  brings = shown.closed.brings;
  first = λ q low pass out. shown.first q pass out;
  second = λ q low pass out. shown.second q pass out;
}

-- where the operator may map the changes
pub may_show : (j : Joining) (near : TableChanges) (p : PairState) (n : ℕ) → MayChange (outer_on j) near p n → MayShow near p n
may_show j near p n may = record {
  rise = all_rise may.hs p.source may.may.sound.pair.source_of;
  fit = may.fit;
  entries = may.may.sound.pair.related.joined.rises;
  sound = may.may.sound.memory;
}
