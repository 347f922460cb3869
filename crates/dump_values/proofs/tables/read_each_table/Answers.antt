use Rattle.std.specs.Prelude.{option_map}
use Rattle.std.proofs.Common.{List, [], ◌∷◌, map, length, sym, ap, ◌∙◌, arith}
use Rattle.std.proofs.lemmas.List.{map-append}
use Rattle.std.proofs.lemmas.Iterator.Adapters.{YieldsList-from_vec}
use Rattle.std.proofs.lemmas.Iterator.Consumers.{YieldsList-end, YieldsList-turn}
use Rattle.row_store.specs.States.{TableState}
use Rattle.dump_values.specs.Tables.{table_of}
use Rattle.json_members.proofs.ListLemmas.{list_ends, list_stops, list_taken}
use Rattle.dump_values.proofs.tables.read_each_table.Goals as goal

pub returns-in_default : goal.returns-in_default
returns-in_default c =
    let l = c.loop-item in
    let turn = YieldsList-turn (YieldsList-from_vec {s = c.into_iter-item-iterator.result} c.args.items.items c.into_iter-item-iterator.ensures.into_iter_gives.0 (c.into_iter-item-iterator.ensures.into_iter_gives.1 ∙ c.args.items.ok.0)) c.loop-item.yielded c.loop-item.item-iterator c.loop-item.yielded_by c.next.result c.next.new.self c.in-Some.item c.in-Some.is c.next.ensures.steps in
    let found = sym c.in_ok-table.ensures ∙ ap (option_map (λ (t : TableState). t.rows)) c.in_default.is in
    list_stops table_of _ (map (λ (t : TableState). t.rows) l.tables) c.args.items.items (length l.yielded) c.in-Some.item turn.0 turn.1 found l.invariant

pub loop-item-preserved : goal.loop-item-preserved
loop-item-preserved c =
    let l = c.loop-item in
    let table = c.in-Some-2.table in
    let turn = YieldsList-turn (YieldsList-from_vec {s = c.into_iter-item-iterator.result} c.args.items.items c.into_iter-item-iterator.ensures.into_iter_gives.0 (c.into_iter-item-iterator.ensures.into_iter_gives.1 ∙ c.args.items.ok.0)) c.loop-item.yielded c.loop-item.item-iterator c.loop-item.yielded_by c.next.result c.next.new.self c.in-Some.item c.in-Some.is c.next.ensures.steps in
    let found = sym c.in_ok-table.ensures ∙ ap (option_map (λ (t : TableState). t.rows)) c.in-Some-2.is in
    let made = ap (λ (ts : List TableState). map (λ (t : TableState). t.rows) ts) c.in_ok-push.ensures.ok ∙ map-append (λ (t : TableState). t.rows) l.tables (table ∷ []) in
    list_taken table_of _ (map (λ (t : TableState). t.rows) l.tables) c.args.items.items l.yielded c.in-Some.item _ _ turn.0 turn.1 found made l.invariant

pub returns : goal.returns
returns c =
    let l = c.loop-item in
    let end = YieldsList-end (YieldsList-from_vec {s = c.into_iter-item-iterator.result} c.args.items.items c.into_iter-item-iterator.ensures.into_iter_gives.0 (c.into_iter-item-iterator.ensures.into_iter_gives.1 ∙ c.args.items.ok.0)) c.loop-item.yielded c.loop-item.item-iterator c.loop-item.yielded_by c.next.result c.next.new.self c.in-None.is c.next.ensures.steps in
    list_ends table_of _ (map (λ (t : TableState). t.rows) l.tables) c.args.items.items (length l.yielded) (let all = end.1 in omega (arith, all)) l.invariant
