-- What is pending leads to a valid layout behind every statement.
use Rattle.std.specs.Prelude.{Option, Ok, Err, if◌then◌else◌}
use Rattle.std.proofs.Common.{◌≡◌, ℕ, Bool, true, false, List, refl, sym, ap, ◌∙◌, subst}
use Rattle.par_base.specs.declared.refusal.Refusal.TheVariants.{NotBuilt}
use Rattle.par_base.specs.Checked.{Checked, ◌then◌}
use Rattle.statements.specs.Views.{Tree, OpView, StatementView, CreateVersion, DropVersion, Insert, Import, Update, Delete, Select, Materialize, Step, ShowLayout, Use, Session, Advise, Watch, Unwatch, Begin, Commit, Rollback}
use Rattle.statements.specs.declared.statement.TableName.{TableName}
use Rattle.version_graph.specs.Edges.{Drawn, IsGraph}
use Rattle.version_graph.specs.Evolve.{evolved}
use Rattle.version_graph.specs.Forest.{forest}
use Rattle.layout_rules.specs.Changes.{layout_after}
use Rattle.layout_rules.specs.Layouts.{IsValid}
use Rattle.layout_rules.proofs.AfterLaws.{layout_dropped, layout_evolved, same_layout}
use Rattle.layout_rules.proofs.ChangeLaws.{dropped_valid, evolved_valid}
use Rattle.version_graph.specs.Dropped.{dropped}
use Rattle.op_any.specs.Operators.{AnyView}
use Rattle.migration.specs.Pending.{IsPending, goal_of, pending_in}
use Rattle.migration.proofs.PendingLaws.{pending_after}
use Rattle.engine_state.specs.AnyDatabase.{AnyDatabase}
use Rattle.engine_state.specs.SharedChecks.{enough_ids}
use Rattle.engine_state.specs.declared.reply.Reply.{Reply}
use Rattle.engine_state.specs.declared.reply.Reply.TheVariants.{Done}
use Rattle.engine_core.specs.Found.{condition_list, found, known_condition, known_references}
use Rattle.engine_core.specs.Statements.{acted_select, columns_of, listed_places, state_with, wrote}
use Rattle.engine_core.specs.Evolve.{created, dropped_version}
use Rattle.engine_core.proofs.ChainLaws.{both_give, ok_is}
use Rattle.engine_core.proofs.KeptTextLaws.{dropped_is, made_of}
use Rattle.engine_core.specs.Act.{act, acted, acted_data, is_built, planned_write, tells_layout, with_data}
use Rattle.engine_core.specs.Laid.{Laid}
use Rattle.engine_core.proofs.LaidLaws.{acted_beside}
use Rattle.engine_moves.specs.Act.{is_materialize}

-- ---- layouts, from one graph to the next

-- each valid layout leads to a valid one
abbrev LeadsOn : Drawn AnyView → Drawn AnyView → Type 0
LeadsOn old new = (goal : List ℕ) → IsValid (forest old.edges) goal → IsValid (forest new.edges) (layout_after goal old new)

leads_same : (g n : Drawn AnyView) → IsGraph g → n ≡ g → LeadsOn g n
leads_same g n graph same =
    subst (λ (x : Drawn AnyView). LeadsOn g x) (sym same)
    (λ goal valid. subst (λ (l : List ℕ). IsValid (forest g.edges) l) (sym (same_layout g graph goal valid)) valid)

leads_created : (s n : AnyDatabase) (name : List ℕ) (from : Option (List ℕ)) (texts : List OpView) → IsGraph s.graph → IsGraph n.graph → created s name from texts ≡ Ok n → LeadsOn s.graph n.graph
leads_created s n name from texts graph new h =
    let m = made_of s name from texts n h in
    let is : n.graph ≡ evolved s.graph name m.set m.edges = ap (λ (d : AnyDatabase). d.graph) m.is in
    let right = subst (λ (g : Drawn AnyView). IsGraph g) is new in
    subst (λ (g : Drawn AnyView). LeadsOn s.graph g) (sym is)
    (λ goal valid.
    subst (λ (l : List ℕ). IsValid (forest (evolved s.graph name m.set m.edges).edges) l) (sym (layout_evolved s.graph graph goal name m.set m.edges valid))
    (evolved_valid s.graph name m.set m.edges right goal valid))

leads_dropped : (s n : AnyDatabase) (name : List ℕ) → IsGraph s.graph → dropped_version s name ≡ Ok n → LeadsOn s.graph n.graph
leads_dropped s n name graph h =
    let is : n.graph ≡ dropped s.graph name = ap (λ (d : AnyDatabase). d.graph) (dropped_is s name n h) in
    subst (λ (g : Drawn AnyView). LeadsOn s.graph g) (sym is)
    (λ goal valid.
    subst (λ (l : List ℕ). IsValid (forest (dropped s.graph name).edges) l) (sym (layout_dropped s.graph graph goal name))
    (dropped_valid s.graph name graph goal valid))

-- ---- statements on the data

abbrev graph_in : Reply × AnyDatabase → Drawn AnyView
graph_in answer = answer.1.graph

select_stays : (s : AnyDatabase) (t : TableName) (items : Option (List (List ℕ))) (filter : Option Tree) (answer : Reply × AnyDatabase) → acted_select s t items filter ≡ Ok answer → graph_in answer ≡ s.graph
select_stays s t items filter answer h =
    let a = both_give (found s t) _ answer h in
    let b = both_give (listed_places (columns_of a.0) items) _ answer a.2 in
    let c = both_give (known_condition (columns_of a.0) filter) _ answer b.2 in
    let e = both_give (known_references s.state.next (condition_list filter)) _ answer c.2 in
    ap graph_in (sym (ok_is _ answer e.2))

write_stays : (s : AnyDatabase) (x : StatementView) (answer : Reply × AnyDatabase) → (planned_write s x then λ p. wrote s p) ≡ Ok answer → graph_in answer ≡ s.graph
write_stays s x answer h =
    let a = both_give (planned_write s x) (λ p. wrote s p) answer h in
    let b = both_give (enough_ids s (state_with s a.0).state.next) (λ _. Ok (a.0.reply, state_with s a.0)) answer a.2 in
    ap graph_in (sym (ok_is (a.0.reply, state_with s a.0) answer b.2))

module _ (s : AnyDatabase) (answer : Reply × AnyDatabase) (graph : IsGraph s.graph) (new : IsGraph (graph_in answer)) where
  leads_write : (x : StatementView) → (planned_write s x then λ p. wrote s p) ≡ Ok answer → LeadsOn s.graph (graph_in answer)
  leads_write x h = leads_same s.graph (graph_in answer) graph (write_stays s x answer h)

  leads_data : (x : StatementView) → acted_data s x ≡ Ok answer → LeadsOn s.graph (graph_in answer)
  leads_data (CreateVersion name from operators) h =
      let a = both_give (created s name from operators) (λ next. Ok (Done, next)) answer h in
      let same : a.0 ≡ answer.1 = ap (λ (x : Reply × AnyDatabase). x.1) (ok_is (Done, a.0) answer a.2) in
      leads_created s answer.1 name from operators graph new (a.1 ∙ ap (λ (d : AnyDatabase). Ok d) same)
  leads_data (DropVersion name) h =
      let a = both_give (dropped_version s name) (λ next. Ok (Done, next)) answer h in
      let same : a.0 ≡ answer.1 = ap (λ (x : Reply × AnyDatabase). x.1) (ok_is (Done, a.0) answer a.2) in
      leads_dropped s answer.1 name graph (a.1 ∙ ap (λ (d : AnyDatabase). Ok d) same)
  leads_data (Select t items filter csv) h = leads_same s.graph (graph_in answer) graph (select_stays s t items filter answer h)
  leads_data (Insert t rows) h = leads_write (Insert t rows) h
  leads_data (Import t bytes) h = leads_write (Import t bytes) h
  leads_data (Update t assignments filter) h = leads_write (Update t assignments filter) h
  leads_data (Delete t filter) h = leads_write (Delete t filter) h
  leads_data (Materialize named in_steps) h = leads_write (Materialize named in_steps) h
  leads_data Step h = leads_write Step h
  leads_data ShowLayout h = leads_write ShowLayout h
  leads_data (Use name) h = leads_write (Use name) h
  leads_data (Session number) h = leads_write (Session number) h
  leads_data (Advise name) h = leads_write (Advise name) h
  leads_data (Watch name) h = leads_write (Watch name) h
  leads_data (Unwatch number) h = leads_write (Unwatch number) h
  leads_data Begin h = leads_write Begin h
  leads_data Commit h = leads_write Commit h
  leads_data Rollback h = leads_write Rollback h

-- ---- with the layout beside it

-- what is pending beside a state
abbrev pub Leads : Laid → List ℕ → Type 0
Leads s pending = IsPending s.database.graph.edges s.layout pending

-- what lives of it, where a state follows another one
module _ (s : Laid) (graph : IsGraph s.database.graph) (valid : IsValid (forest s.database.graph.edges) s.layout) (pending : List ℕ) (p : Leads s pending) where
  follows : (n : Laid) → IsGraph n.database.graph → LeadsOn s.database.graph n.database.graph → n.layout ≡ layout_after s.layout s.database.graph n.database.graph → Leads n (pending_in n.database.graph.edges pending)
  follows n new leads layout =
      subst (λ (l : List ℕ). IsPending n.database.graph.edges l (pending_in n.database.graph.edges pending)) (sym layout)
      (pending_after s.database.graph n.database.graph graph new.edges s.layout pending valid p (leads (goal_of s.database.graph.edges s.layout pending) p.goal))

  -- the state itself
  stays : Leads s (pending_in s.database.graph.edges pending)
  stays = follows s graph (leads_same s.database.graph s.database.graph graph refl) (sym (same_layout s.database.graph graph s.layout valid))

  beside : (x : StatementView) (reply : Reply) (n : Laid) → IsGraph n.database.graph → tells_layout x ≡ false → acted s x ≡ Ok (reply, n) → Leads n (pending_in n.database.graph.edges pending)
  beside x reply n new off h =
      let a = both_give (acted_data s.database x) (λ made. Ok (with_data s made)) (reply, n) (sym (acted_beside s x off) ∙ h) in
      let is : (with_data s a.0).1 ≡ n = ap (λ (r : Reply × Laid). r.1) (ok_is (with_data s a.0) (reply, n) a.2) in
      let right = subst (λ (l : Laid). IsGraph l.database.graph) (sym is) new in
      subst (λ (l : Laid). Leads l (pending_in l.database.graph.edges pending)) is
      (follows (with_data s a.0).1 right (leads_data s.database a.0 graph right x a.1) refl)

  shown : (reply : Reply) (n : Laid) → acted s ShowLayout ≡ Ok (reply, n) → Leads n (pending_in n.database.graph.edges pending)
  shown reply n h =
      subst (λ (l : Laid). Leads l (pending_in l.database.graph.edges pending)) (ap (λ (r : Reply × Laid). r.1) (ok_is (_, s) (reply, n) h)) stays

  -- behind every statement but a MATERIALIZE
  leads_acted : (x : StatementView) (reply : Reply) (n : Laid) → IsGraph n.database.graph → acted s x ≡ Ok (reply, n) → is_materialize x ≡ false → Leads n (pending_in n.database.graph.edges pending)
  leads_acted (Materialize named in_steps) reply n new h off = absurd (let no : ⊥ = cc in no)
  leads_acted ShowLayout reply n new h off = shown reply n h
  leads_acted (CreateVersion name from operators) reply n new h off = beside (CreateVersion name from operators) reply n new refl h
  leads_acted (DropVersion name) reply n new h off = beside (DropVersion name) reply n new refl h
  leads_acted (Insert t rows) reply n new h off = beside (Insert t rows) reply n new refl h
  leads_acted (Import t bytes) reply n new h off = beside (Import t bytes) reply n new refl h
  leads_acted (Update t assignments filter) reply n new h off = beside (Update t assignments filter) reply n new refl h
  leads_acted (Delete t filter) reply n new h off = beside (Delete t filter) reply n new refl h
  leads_acted (Select t items filter csv) reply n new h off = beside (Select t items filter csv) reply n new refl h
  leads_acted Step reply n new h off = beside Step reply n new refl h
  leads_acted (Use name) reply n new h off = beside (Use name) reply n new refl h
  leads_acted (Session number) reply n new h off = beside (Session number) reply n new refl h
  leads_acted (Advise name) reply n new h off = beside (Advise name) reply n new refl h
  leads_acted (Watch name) reply n new h off = beside (Watch name) reply n new refl h
  leads_acted (Unwatch number) reply n new h off = beside (Unwatch number) reply n new refl h
  leads_acted Begin reply n new h off = beside Begin reply n new refl h
  leads_acted Commit reply n new h off = beside Commit reply n new refl h
  leads_acted Rollback reply n new h off = beside Rollback reply n new refl h

  built : (b : Bool) (m : Checked (Reply × Laid)) (r : Reply × Laid) → (if b then m else Err NotBuilt) ≡ Ok r → m ≡ Ok r
  built true m r h = h
  built false m r h = absurd (let no : ⊥ = cc in no)

  pub leads_behind : (x : StatementView) (reply : Reply) (n : Laid) → IsGraph n.database.graph → act s x ≡ Ok (reply, n) → is_materialize x ≡ false → Leads n (pending_in n.database.graph.edges pending)
  leads_behind x reply n new h off = leads_acted x reply n new (built (is_built x) (acted s x) (reply, n) h) off
