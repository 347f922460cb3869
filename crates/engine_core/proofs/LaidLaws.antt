-- A statement on the data, with the layout beside it.
use Rattle.std.specs.Prelude.{Result, Ok, Err, OnErr}
use Rattle.std.proofs.Common.{◌≡◌, ℕ, Bool, false, List, refl, sym, ap, ◌∙◌}
use Rattle.par_base.specs.declared.fault.Fault.{Fault}
use Rattle.par_base.specs.declared.fault.Fault.TheVariants.{Refused, Memory}
use Rattle.par_base.specs.declared.limits.Target.{Target}
use Rattle.par_base.specs.declared.refusal.Refusal.{Refusal}
use Rattle.version_graph.specs.Edges.{Drawn}
use Rattle.par_base.specs.Checked.{Checked, ◌then◌}
use Rattle.op_any.specs.Operators.{AnyView, any_meaning}
use Rattle.layout_rules.specs.Changes.{layout_after}
use Rattle.layout_rules.proofs.AfterLaws.{same_layout}
use Rattle.db_state.specs.Fields.{IsDatabase}
use Rattle.db_state.specs.declared.parts.Parts.{Parts}
use Rattle.engine_state.specs.AnyDatabase.{AnyDatabase}
use Rattle.engine_state.specs.declared.reply.Reply.{Reply}
use Rattle.engine_state.specs.declared.reply.Reply.TheVariants.{Moved}
use Rattle.engine_layouts.specs.Laid.{Laid, Materializes, materialized}
use Rattle.statements.specs.declared.statement.Statement.{Statement}
use Rattle.statements.specs.declared.statement.Statement.TheVariants as statement
use Rattle.statements.specs.Views.{statement_view, StatementView, CreateVersion, DropVersion, Insert, Import, Update, Delete, Select, Materialize, Step, ShowLayout, Use, Session, Advise, Watch, Unwatch, Begin, Commit, Rollback}
use Rattle.engine_core.specs.Act.{acted, acted_data, tells_layout, with_data}
use Rattle.engine_core.specs.Kept.{Answers, Follows, data_of, state_of}

-- ---- statements on the data

-- the layout is the one that follows the graph
laid_is : (old new : Parts AnyView) → Follows old new → record { database = data_of new; layout = layout_after old.layout.operators old.graph new.graph } ≡ state_of new
laid_is old new follows = ap (λ (l : List ℕ). record { database = data_of new; layout = l }) (sym follows)

pub answers_beside : (old new : Parts AnyView) (m : Checked (Reply × AnyDatabase)) (r : Result Reply (Fault Refusal)) → Answers m r (data_of new) → Follows old new
    → Answers (m then λ answer. Ok (with_data (state_of old) answer)) r (state_of new)
answers_beside old new m (Ok reply) answers follows =
    ap (λ (x : Checked (Reply × AnyDatabase)). x then λ answer. Ok (with_data (state_of old) answer)) answers ∙ ap (λ (s : Laid). Ok (reply, s)) (laid_is old new follows)
answers_beside old new m (Err (Refused r)) answers follows = ap (λ (x : Checked (Reply × AnyDatabase)). x then λ answer. Ok (with_data (state_of old) answer)) answers
answers_beside old new m (Err (Memory memory)) answers follows = tt

-- ---- moves

abbrev pub replied : Checked (ℕ × Laid) → Checked (Reply × Laid)
replied m = m then λ a. Ok (Moved a.0, a.1)

pub move_refused : (old new : Laid) (named : List Target) (fault : Fault Refusal) → Materializes old named (Err fault) new → Answers (replied (materialized old named)) (Err fault) new × (new ≡ old)
move_refused old new named (Refused r) moves = (ap replied moves.0, moves.1)
move_refused old new named (Memory memory) moves = (tt, moves)

-- ---- which statements are on the data

pub acted_beside : (s : Laid) (x : StatementView) → tells_layout x ≡ false → acted s x ≡ (acted_data s.database x then λ answer. Ok (with_data s answer))
acted_beside s (CreateVersion name from operators) off = refl
acted_beside s (DropVersion name) off = refl
acted_beside s (Insert table rows) off = refl
acted_beside s (Import table bytes) off = refl
acted_beside s (Update table assignments filter) off = refl
acted_beside s (Delete table filter) off = refl
acted_beside s (Select table items filter csv) off = refl
acted_beside s (Materialize named in_steps) off = absurd (let no : ⊥ = cc in no)
acted_beside s Step off = refl
acted_beside s ShowLayout off = absurd (let no : ⊥ = cc in no)
acted_beside s (Use name) off = refl
acted_beside s (Session number) off = refl
acted_beside s (Advise name) off = refl
acted_beside s (Watch name) off = refl
acted_beside s (Unwatch number) off = refl
acted_beside s Begin off = refl
acted_beside s Commit off = refl
acted_beside s Rollback off = refl

pub on_data : (st : Statement) → ((named : List Target) (in_steps : Bool) → st ≡ statement.Materialize named in_steps → ⊥) → (st ≡ statement.ShowLayout → ⊥) → tells_layout (statement_view st) ≡ false
on_data (statement.CreateVersion name origin operators) a b = refl
on_data (statement.DropVersion name) a b = refl
on_data (statement.Insert table rows) a b = refl
on_data (statement.Import table text) a b = refl
on_data (statement.Update table assignments filter) a b = refl
on_data (statement.Delete table filter) a b = refl
on_data (statement.Select table items filter csv) a b = refl
on_data (statement.Materialize named in_steps) a b = absurd (a named in_steps refl)
on_data statement.Step a b = refl
on_data statement.ShowLayout a b = absurd (b refl)
on_data (statement.Use name) a b = refl
on_data (statement.Session number) a b = refl
on_data (statement.Advise name) a b = refl
on_data (statement.Watch name) a b = refl
on_data (statement.Unwatch number) a b = refl
on_data statement.Begin a b = refl
on_data statement.Commit a b = refl
on_data statement.Rollback a b = refl

-- after an error the layout is as it was too
pub same_laid : (old new : Parts AnyView) (r : Result Reply (Fault Refusal)) → IsDatabase any_meaning old → OnErr r (data_of new ≡ data_of old) → Follows old new → OnErr r (state_of new ≡ state_of old)
same_laid old new (Ok reply) is same follows = tt
same_laid old new (Err fault) is same follows =
    let graph = ap (λ (d : AnyDatabase). d.graph) same in
    let layout : new.layout.operators ≡ old.layout.operators =
    follows ∙ ap (λ (g : Drawn AnyView). layout_after old.layout.operators old.graph g) graph ∙ same_layout old.graph is.graph old.layout.operators is.valid in
    ap (λ (d : AnyDatabase). record { database = d; layout = new.layout.operators }) same ∙ ap (λ (l : List ℕ). record { database = data_of old; layout = l }) layout
