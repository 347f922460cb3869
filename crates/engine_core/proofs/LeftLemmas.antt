-- What statements leave of operators' texts and of the greatest identifier, and that they keep operators built.
use Rattle.std.proofs.Common.{◌≡◌, ℕ, ◌≤◌, false, List, ◌++◌, Option, Result, Ok, Err, refl, sym, ap, subst, ◌∙◌, arith}
use Rattle.std.specs.Prelude.{OnErr}
use Rattle.par_base.specs.declared.fault.Fault.{Fault}
use Rattle.par_base.specs.declared.fault.Fault.TheVariants.{Memory, Refused}
use Rattle.par_base.specs.declared.limits.Target.{Target}
use Rattle.par_base.specs.declared.refusal.IdsSpent.{IdsSpent}
use Rattle.par_base.specs.declared.refusal.Refusal.{Refusal}
use Rattle.row_store.specs.Rows.{Rows}
use Rattle.statements.specs.Views.{Tree, OpView, StatementView, CreateVersion, DropVersion, Insert, Import, Update, Delete, Select, Materialize, Step, ShowLayout, Use, Session, Advise, Watch, Unwatch, Begin, Commit, Rollback}
use Rattle.statements.specs.declared.statement.TableName.{TableName}
use Rattle.version_graph.specs.Sets.{In}
use Rattle.version_graph.specs.Edges.{AreEdges, Drawn}
use Rattle.version_graph.proofs.SetLaws.{each_at, each_of, in_left, in_right}
use Rattle.layout_rules.specs.Closed.{closing}
use Rattle.par_base.specs.Checked.{◌then◌}
use Rattle.op_any.specs.Operators.{AnyView, any_laws, any_meaning}
use Rattle.op_any.specs.BuiltOn.{AreBuiltOn}
use Rattle.version_model.specs.Sound.{IsSound}
use Rattle.version_model.specs.Writes.{MayWrite, write}
use Rattle.version_model.specs.Databases.{Writes, empty_database}
use Rattle.version_model.proofs.WriteLaws.{write_is_ordinary}
use Rattle.db_state.specs.Fields.{database_for, state_for}
use Rattle.db_state.specs.declared.parts.Parts.{Parts}
use Rattle.engine_state.specs.AnyDatabase.{AnyDatabase}
use Rattle.engine_state.specs.SharedChecks.{enough_ids}
use Rattle.engine_state.specs.declared.reply.Reply.{Reply}
use Rattle.engine_state.specs.declared.reply.Reply.TheVariants.{Done, Layout, Moved}
use Rattle.engine_statements.specs.Found.{condition_list, found, known_condition, known_references}
use Rattle.engine_statements.specs.Statements.{acted_select, columns_of, listed_places, state_with, wrote}
use Rattle.engine_versions.specs.Evolve.{created, dropped_version}
use Rattle.engine_versions.specs.KeptTexts.{texts_of}
use Rattle.engine_versions.proofs.BuiltOnLaws.{built_above}
use Rattle.engine_versions.proofs.ChainLaws.{both_give, ok_is}
use Rattle.engine_versions.proofs.KeptTextLaws.{created_limit, created_texts, dropped_is, dropped_texts}
use Rattle.engine_layouts.specs.Laid.{Laid, materialized, moved_count}
use Rattle.engine_layouts.specs.Shown.{shown_operators, shown_tables}
use Rattle.engine_core.specs.Act.{acted, acted_data, planned_write, tells_layout, with_data}
use Rattle.engine_core.specs.Kept.{Answers}
use Rattle.engine_core.specs.Spoken.{TextsCome, operators_in}
use Rattle.engine_core.proofs.LaidLaws.{acted_beside}

-- ---- operators stay built

-- each live operator is what its own text builds
abbrev AreTold : AnyDatabase → Type 0
AreTold d = AreBuiltOn d.state.next d.graph.edges

-- without versions
pub built_empty : (k : Parts AnyView) (limit : ℕ) → database_for any_meaning k ≡ empty_database limit → AreBuiltOn k.ids.next k.graph.edges
built_empty k limit empty = subst AreTold (sym empty) tt

-- after a write, which takes identifiers and leaves the graph, or an error
pub built_written : (k n : Parts AnyView) (w t : ℕ) (rows : Rows) (next : ℕ) (r : Result (Unit {0}) (Fault IdsSpent)) → AreEdges k.graph.edges → IsSound any_meaning k.graph.edges (state_for any_meaning k)
    → MayWrite k.graph.edges (state_for any_meaning k) w t rows next → Writes any_meaning (database_for any_meaning k) w t rows next r (database_for any_meaning n)
    → AreBuiltOn k.ids.next k.graph.edges → AreBuiltOn n.ids.next n.graph.edges
built_written k n w t rows next (Ok done) edges sound may writes are =
    let s = state_for any_meaning k in
    let end = write any_meaning k.graph.edges s w t rows next in
    let ordinary = write_is_ordinary any_meaning k.graph.edges s sound w t rows next may any_laws edges in
    let up : k.ids.next ≤ end.next = omega (arith, may.more, ordinary.rises) in
    subst AreTold (sym writes.1) (built_above k.ids.next end.next up k.graph.edges are)
built_written k n w t rows next (Err (Refused spent)) edges sound may writes are = subst AreTold (sym writes.1) are
built_written k n w t rows next (Err (Memory memory)) edges sound may writes are = subst AreTold (sym writes) are

-- a move that is answered leaves the data
moved_data : (s : Laid) (named : List Target) (answer : ℕ × Laid) → materialized s named ≡ Ok answer → answer.1.database ≡ s.database
moved_data s named answer h =
    let a = both_give (closing s.database.graph s.layout named) (λ new. Ok (moved_count s new, record s { layout = new })) answer h in
    ap (λ (x : ℕ × Laid). x.1.database) (sym (ok_is (moved_count s a.0, record s { layout = a.0 }) answer a.2))

-- ---- what a statement leaves

-- each operator's text was kept before or told, and the greatest identifier is the same
pub record Leaves (s : AnyDatabase) (x : StatementView) (n : AnyDatabase) : Type 0 where
  pub texts : TextsCome x s.graph.edges n.graph.edges
  pub limit : n.limit ≡ s.limit

-- the graph and the greatest identifier
pub leaves_same : (s : AnyDatabase) (x : StatementView) (n : AnyDatabase) → n.graph ≡ s.graph → n.limit ≡ s.limit → Leaves s x n
leaves_same s x n graph limit = record {
  texts = λ t i. in_right t (operators_in x) (texts_of s.graph.edges) (subst (λ (g : Drawn AnyView). In t (texts_of g.edges)) graph i);
  limit = limit;
}

leaves_all : (s : AnyDatabase) (x : StatementView) (n : AnyDatabase) → n ≡ s → Leaves s x n
leaves_all s x n same = leaves_same s x n (ap (λ (d : AnyDatabase). d.graph) same) (ap (λ (d : AnyDatabase). d.limit) same)

leaves_created : (s : AnyDatabase) (name : List ℕ) (from : Option (List ℕ)) (operators : List OpView) (n : AnyDatabase) → created s name from operators ≡ Ok n → Leaves s (CreateVersion name from operators) n
leaves_created s name from operators n h =
    let P : OpView → Type 0 = λ t. In t (operators ++ texts_of s.graph.edges) in
    let told = each_of P operators (λ t i. in_left t operators (texts_of s.graph.edges) i) in
    let kept = each_of P (texts_of s.graph.edges) (λ t i. in_right t operators (texts_of s.graph.edges) i) in
    record {
      texts = λ t i. each_at P (texts_of n.graph.edges) t i (created_texts P s name from operators n h told kept);
      limit = created_limit s name from operators n h;
    }

leaves_dropped : (s : AnyDatabase) (name : List ℕ) (n : AnyDatabase) → dropped_version s name ≡ Ok n → Leaves s (DropVersion name) n
leaves_dropped s name n h =
    let P : OpView → Type 0 = λ t. In t (texts_of s.graph.edges) in
    record {
      texts = λ t i. each_at P (texts_of n.graph.edges) t i (dropped_texts P s name n h (each_of P (texts_of s.graph.edges) (λ u j. j)));
      limit = ap (λ (d : AnyDatabase). d.limit) (dropped_is s name n h);
    }

-- the database of an answer
abbrev second : Reply × AnyDatabase → AnyDatabase
second answer = answer.1

leaves_selected : (s : AnyDatabase) (t : TableName) (items : Option (List (List ℕ))) (filter : Option Tree) (x : StatementView) (answer : Reply × AnyDatabase) → acted_select s t items filter ≡ Ok answer → Leaves s x (second answer)
leaves_selected s t items filter x answer h =
    let a = both_give (found s t) _ answer h in
    let b = both_give (listed_places (columns_of a.0) items) _ answer a.2 in
    let c = both_give (known_condition (columns_of a.0) filter) _ answer b.2 in
    let e = both_give (known_references s.state.next (condition_list filter)) _ answer c.2 in
    leaves_all s x (second answer) (ap second (sym (ok_is _ answer e.2)))

leaves_written : (s : AnyDatabase) (x : StatementView) (answer : Reply × AnyDatabase) → (planned_write s x then λ p. wrote s p) ≡ Ok answer → Leaves s x (second answer)
leaves_written s x answer h =
    let a = both_give (planned_write s x) (λ p. wrote s p) answer h in
    let b = both_give (enough_ids s (state_with s a.0).state.next) (λ _. Ok (a.0.reply, state_with s a.0)) answer a.2 in
    let same = ap second (sym (ok_is (a.0.reply, state_with s a.0) answer b.2)) in
    leaves_same s x (second answer) (ap (λ (d : AnyDatabase). d.graph) same) (ap (λ (d : AnyDatabase). d.limit) same)

leaves_data : (s : AnyDatabase) (x : StatementView) (answer : Reply × AnyDatabase) → acted_data s x ≡ Ok answer → Leaves s x (second answer)
leaves_data s (CreateVersion name from operators) answer h =
    let a = both_give (created s name from operators) (λ next. Ok (Done, next)) answer h in
    let same : a.0 ≡ second answer = ap second (ok_is (Done, a.0) answer a.2) in
    leaves_created s name from operators (second answer) (a.1 ∙ ap (λ (d : AnyDatabase). Ok d) same)
leaves_data s (DropVersion name) answer h =
    let a = both_give (dropped_version s name) (λ next. Ok (Done, next)) answer h in
    let same : a.0 ≡ second answer = ap second (ok_is (Done, a.0) answer a.2) in
    leaves_dropped s name (second answer) (a.1 ∙ ap (λ (d : AnyDatabase). Ok d) same)
leaves_data s (Select t items filter csv) answer h = leaves_selected s t items filter (Select t items filter csv) answer h
leaves_data s (Insert t rows) answer h = leaves_written s (Insert t rows) answer h
leaves_data s (Import t bytes) answer h = leaves_written s (Import t bytes) answer h
leaves_data s (Update t assignments filter) answer h = leaves_written s (Update t assignments filter) answer h
leaves_data s (Delete t filter) answer h = leaves_written s (Delete t filter) answer h
leaves_data s (Materialize named in_steps) answer h = leaves_written s (Materialize named in_steps) answer h
leaves_data s Step answer h = leaves_written s Step answer h
leaves_data s ShowLayout answer h = leaves_written s ShowLayout answer h
leaves_data s (Use name) answer h = leaves_written s (Use name) answer h
leaves_data s (Session number) answer h = leaves_written s (Session number) answer h
leaves_data s (Advise name) answer h = leaves_written s (Advise name) answer h
leaves_data s (Watch name) answer h = leaves_written s (Watch name) answer h
leaves_data s (Unwatch number) answer h = leaves_written s (Unwatch number) answer h
leaves_data s Begin answer h = leaves_written s Begin answer h
leaves_data s Commit answer h = leaves_written s Commit answer h
leaves_data s Rollback answer h = leaves_written s Rollback answer h

-- with the layout beside it
abbrev data_in : Reply × Laid → AnyDatabase
data_in answer = answer.1.database

leaves_beside : (s : Laid) (x : StatementView) → tells_layout x ≡ false → (answer : Reply × Laid) → acted s x ≡ Ok answer → Leaves s.database x (data_in answer)
leaves_beside s x off answer h =
    let a = both_give (acted_data s.database x) (λ made. Ok (with_data s made)) answer (sym (acted_beside s x off) ∙ h) in
    subst (λ (d : AnyDatabase). Leaves s.database x d) (ap data_in (ok_is (with_data s a.0) answer a.2)) (leaves_data s.database x a.0 a.1)

leaves_laid : (s : Laid) (x : StatementView) (answer : Reply × Laid) → acted s x ≡ Ok answer → Leaves s.database x (data_in answer)
leaves_laid s (Materialize named in_steps) answer h =
    let a = both_give (materialized s named) (λ m. Ok (Moved m.0, m.1)) answer h in
    leaves_all s.database (Materialize named in_steps) (data_in answer) (ap data_in (sym (ok_is (Moved a.0.0, a.0.1) answer a.2)) ∙ moved_data s named a.0 a.1)
leaves_laid s ShowLayout answer h =
    leaves_all s.database ShowLayout (data_in answer) (ap data_in (sym (ok_is (Layout (shown_tables s) (shown_operators s), s) answer h)))
leaves_laid s (CreateVersion name from operators) answer h = leaves_beside s (CreateVersion name from operators) refl answer h
leaves_laid s (DropVersion name) answer h = leaves_beside s (DropVersion name) refl answer h
leaves_laid s (Insert t rows) answer h = leaves_beside s (Insert t rows) refl answer h
leaves_laid s (Import t bytes) answer h = leaves_beside s (Import t bytes) refl answer h
leaves_laid s (Update t assignments filter) answer h = leaves_beside s (Update t assignments filter) refl answer h
leaves_laid s (Delete t filter) answer h = leaves_beside s (Delete t filter) refl answer h
leaves_laid s (Select t items filter csv) answer h = leaves_beside s (Select t items filter csv) refl answer h
leaves_laid s Step answer h = leaves_beside s Step refl answer h
leaves_laid s (Use name) answer h = leaves_beside s (Use name) refl answer h
leaves_laid s (Session number) answer h = leaves_beside s (Session number) refl answer h
leaves_laid s (Advise name) answer h = leaves_beside s (Advise name) refl answer h
leaves_laid s (Watch name) answer h = leaves_beside s (Watch name) refl answer h
leaves_laid s (Unwatch number) answer h = leaves_beside s (Unwatch number) refl answer h
leaves_laid s Begin answer h = leaves_beside s Begin refl answer h
leaves_laid s Commit answer h = leaves_beside s Commit refl answer h
leaves_laid s Rollback answer h = leaves_beside s Rollback refl answer h

-- whatever the call answers
pub call_leaves : (s n : Laid) (x : StatementView) (r : Result Reply (Fault Refusal)) → Answers (acted s x) r n → OnErr r (n ≡ s) → Leaves s.database x n.database
call_leaves s n x (Ok reply) answers same = leaves_laid s x (reply, n) answers
call_leaves s n x (Err fault) answers same = leaves_all s.database x n.database (ap (λ (l : Laid). l.database) same)
