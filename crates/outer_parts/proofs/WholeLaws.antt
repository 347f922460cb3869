-- All identifiers together are closed.
use Rattle.std.proofs.Common.{◌==◌, ap, ◌∙◌}
use Rattle.id_memory.specs.Pairs.{Pairs}
use Rattle.operator_changes.specs.Footprint.{passes}
use Rattle.pair_rows.specs.Given.{kept_in}
use Rattle.pair_rows.specs.Halves.{first_of, second_of}
use Rattle.pair_rows.specs.Sides.{table_at}
use Rattle.pair_rows.specs.Stays.{stands}
use Rattle.outer_law.specs.Entries.{with_half}
use Rattle.outer_law.specs.Placed.{full}
use Rattle.row_changes.specs.Changed.{changed_tables}
use Rattle.cond_parts.proofs.WholeLaws.{all_pass, memory_all, none_out}
use Rattle.outer_parts.specs.Whole.{AllAreClosed}

-- THE WHOLE IS CLOSED
pub all_are_closed : AllAreClosed
all_are_closed j near p n ids are zero =
    let all = all_pass near n ids are in
    let m = p.memory in
    let kept = kept_in (table_at 0 p.source) m (table_at 0 (changed_tables p.source near)) in
    let same = memory_all (passes ids n) m all in
    let kept_same = memory_all (passes ids n) kept all in
    record {
      pair = record {
        absent = all 0;
        rows = λ id a b at pass. (all a, all b);
        first = λ q low pass e. ap (λ (es : Pairs). stands first_of es q) same ∙ e;
        second = λ q low pass e. ap (λ (es : Pairs). stands second_of es q) same ∙ e;
      };
      forward = record {
        rise = are.rise;
        touches = are.touches;
        absent = zero;
        brings = record { rows = λ id a b at pass. (all a, all b); entries = λ id a b at pass. all id; first = λ a b u match. all b; second = λ a b u match. all a };
        first = λ q low pass e. absurd (none_out (passes ids n) first_of m q all e);
        second = λ q low pass e. absurd (none_out (passes ids n) second_of m q all e);
      };
      backward = record {
        rise = are.rise;
        touches = are.touches;
        absent = zero;
        brings = record {
          rows = λ id a b at pass. (all a, all b);
          first_still = λ q low pass e. absurd (none_out (passes ids n) first_of m q all e);
          second_still = λ q low pass e. absurd (none_out (passes ids n) second_of m q all e);
          first_shared = λ q low pass e. ap (λ (es : Pairs). stands first_of (full es) q) kept_same ∙ e;
          second_shared = λ q low pass e. ap (λ (es : Pairs). stands second_of (full es) q) kept_same ∙ e;
          first = λ id row a changed is. all a;
          second = λ id row b changed is. all b;
          pairs = λ id row a b entry changed one two is. all entry;
          first_lone = λ id row a changed is. ap (λ (es : Pairs). with_half first_of a es == 1) same;
          second_lone = λ id row b changed is. ap (λ (es : Pairs). with_half second_of b es == 1) same;
        };
      };
    }
