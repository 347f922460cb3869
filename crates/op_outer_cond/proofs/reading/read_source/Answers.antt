use Rattle.std.proofs.Common.{[], ◌∷◌, ap, ◌∙◌}
use Rattle.row_store.specs.Rows.{Rows}
use Rattle.id_memory.specs.Pairs.{Pairs}
use Rattle.pair_rows.specs.Halves.{first_of, second_of}
use Rattle.pair_rows.specs.Kept.{side_read}
use Rattle.pair_rows.specs.Shown.{Joining}
use Rattle.pair_rows.specs.Sides.{table_at}
use Rattle.outer_law.specs.OuterOn.{with_it}
use Rattle.op_outer_cond.specs.Outerings.{joining}
use Rattle.op_outer_cond.proofs.reading.read_source.Goals as goal

pub returns : goal.returns
returns c =
    let e = c.outer_of-join.ensures in
    let j = joining c.args.outer.now in
    let r = c.table_in-r.result.now.rows in
    let all = c.as_slice-all.result.now in
    let m = c.args.memory.now.entries in
    let target = table_at 0 c.args.target.now in
    let entries = c.as_slice-all.ensures ∙ c.in_ok-entries.ensures.all in
    let s = c.in_ok-s.ensures
    ∙ ap (λ (k : Joining). side_read first_of k.first r (with_it first_of all) []) e
    ∙ ap (λ (rows : Rows). side_read first_of j.first rows (with_it first_of all) []) c.table_in-r.ensures
    ∙ ap (λ (es : Pairs). side_read first_of j.first target (with_it first_of es) []) entries in
    let t = c.in_ok-t.ensures
    ∙ ap (λ (k : Joining). side_read second_of k.second r (with_it second_of all) []) e
    ∙ ap (λ (rows : Rows). side_read second_of j.second rows (with_it second_of all) []) c.table_in-r.ensures
    ∙ ap (λ (es : Pairs). side_read second_of j.second target (with_it second_of es) []) entries in
    c.in_ok-two.ensures
    ∙ ap (λ (rows : Rows). rows ∷ c.in_ok-t.t.rows ∷ []) s
    ∙ ap (λ (rows : Rows). side_read first_of j.first target (with_it first_of m) [] ∷ rows ∷ []) t
