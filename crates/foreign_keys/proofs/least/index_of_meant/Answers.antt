use Rattle.std.proofs.Common.{◌++◌, ◌∷◌, [], cond, Bool, ap, sym, ◌∙◌}
use Rattle.row_store.specs.Rows.{Rows}
use Rattle.foreign_keys.specs.Least.{meant_rows}
use Rattle.foreign_keys.proofs.MeantLemmas.{meant_below, meant_more}
use Rattle.foreign_keys.proofs.least.index_of_meant.Goals as goal

pub push_meant-requires : goal.push_meant-requires
push_meant-requires g c = λ is.
    let meant = g.C.Chooses.meant c.args.each.now in
    let row = c.in-Some.row.now in
    let all = ap (λ (rest : Rows). c.loop-row.index.rows ++ meant_rows meant rest) (sym c.in-Some.ensures.steps) ∙ c.loop-row.invariant in
    meant_below meant c.loop-row.index.rows c.next.new.self c.args.table.now.rows row c.iter-row-items.ensures.rise all (sym c.chooses-is_meant.ensures ∙ is)

pub loop-row-preserved : goal.loop-row-preserved
loop-row-preserved g c =
    let meant = g.C.Chooses.meant c.args.each.now in
    let row = c.in-Some.row.now in
    let all = ap (λ (rest : Rows). c.loop-row.index.rows ++ meant_rows meant rest) (sym c.in-Some.ensures.steps) ∙ c.loop-row.invariant in
    let now = c.in_ok-push_meant.ensures ∙ ap (λ (b : Bool). c.loop-row.index.rows ++ cond b (row ∷ []) []) c.chooses-is_meant.ensures in
    meant_more meant c.loop-row.index.rows c.push_meant.new.index.rows c.next.new.self row now ∙ all
