-- What a planned write says, and that a write in full is carried out by itself as in a transaction.
use Rattle.std.specs.Prelude.{Option, None, Some, Ok, IsSome, is_some}
use Rattle.std.proofs.Common.{◌≡◌, ◌≤◌, ◌+◌, ℕ, true, false, List, [], ◌++◌, length, refl, sym, ap, ◌∙◌, subst, arith}
use Rattle.par_base.specs.Checked.{Checked, ◌then◌}
use Rattle.par_base.specs.declared.value.Value.{Value}
use Rattle.statements.specs.Views.{AssignmentView, Tree, StatementView, CreateVersion, DropVersion, Insert, Import, Update, Delete, Select, Materialize, Step, ShowLayout, Use, Session, Advise, Watch, Unwatch, Begin, Commit, Rollback}
use Rattle.statements.specs.declared.statement.TableName.{TableName}
use Rattle.version_graph.specs.Edges.{Drawn, maker_of}
use Rattle.op_any.specs.Operators.{AnyView}
use Rattle.op_checks.specs.NameChecks.{known_id, repeated, unrepeated}
use Rattle.engine_state.specs.AnyDatabase.{AnyDatabase}
use Rattle.engine_state.specs.SharedChecks.{enough_ids}
use Rattle.engine_state.specs.declared.reply.Reply.{Reply}
use Rattle.engine_state.specs.declared.reply.WriteReply.{WriteReply}
use Rattle.engine_state.specs.declared.reply.WriteReply.TheVariants as write
use Rattle.engine_transactions.specs.Found.{condition_list, found, known_condition, known_references, unknown_in_rows}
use Rattle.engine_transactions.specs.Statements.{Planned, columns_of, known_sets, planned_delete, planned_insert, planned_update, right_counts, set_columns, set_values, state_with, wrote}
use Rattle.engine_transactions.proofs.ChainLaws.{both_give, ok_is}
use Rattle.engine_transactions.specs.EngineCoreAct.{planned_write, with_data}
use Rattle.engine_transactions.specs.Laid.{Laid}
use Rattle.engine_transactions.specs.EngineCoreUndo.{acted_write}
use Rattle.engine_transactions.specs.EngineMovesAct.{pending_behind}
use Rattle.engine_transactions.specs.Moving.{Moving}
use Rattle.engine_transactions.specs.Accesses.{accessed, table_found}
use Rattle.engine_transactions.specs.EngineSessionsAct.{act as act_beside, answer_of, behind, counted}
use Rattle.engine_transactions.specs.InFull.{name_in_full, version_of}
use Rattle.engine_transactions.specs.EngineSessionsStanding.{Standing as SessionsStanding, used_by}
use Rattle.engine_transactions.specs.Answer.{Answer}
use Rattle.engine_transactions.specs.Meaning.{write_reply}
use Rattle.transaction_laws.specs.Laws.{IsFullWrite}
use Rattle.transaction_laws.proofs.FoundLemmas.{found_made, has_maker, named_by}
use Rattle.transaction_laws.proofs.RiseLemmas.{write_rises}

-- ---- names in full

full_is : (used : Option (List ℕ)) (name : TableName) (version : List ℕ) → name.version ≡ Some version → name_in_full used name ≡ name
full_is used name version is = ap (λ (v : Option (List ℕ)). record { version = v; table = name.table }) (ap (λ (v : Option (List ℕ)). version_of used v) is ∙ sym is)

-- a name stands for the same in each database over the same graph
found_in : (d other : AnyDatabase) (name : TableName) → other.graph ≡ d.graph → found other name ≡ found d name
found_in d other name e = ap (λ (g : Drawn AnyView). found (record d { graph = g }) name) e

-- ---- what is carried out

-- what a write of the data, which accesses this table, is in a session
abbrev pub in_session : SessionsStanding → Option ℕ → Checked (Reply × AnyDatabase) → Checked (Answer × SessionsStanding)
in_session s table m =
    ((m then λ a. Ok (with_data s.laid a)) then λ (a : Reply × Laid). Ok (a.0, record { laid = a.1; pending = pending_behind false a.1 s.pending })) then λ (a : Reply × Moving). Ok (answer_of false a.0, behind s false table a.1)

-- ---- what is planned

pub record IsPlanned (d : AnyDatabase) (x : StatementView) (p : Planned) : Type 0 where
  pub next : d.state.next ≤ p.next
  -- it accesses the table that it was planned for, which lives
  pub accesses : (other : AnyDatabase) → other.graph ≡ d.graph → accessed other x ≡ Some p.found.table.number
  pub lives : is_some (maker_of d.graph.edges p.found.table.number) ≡ true
  -- it is answered as writes are
  pub done : WriteReply
  pub replies : write_reply p.reply ≡ Ok done
  -- in each session, outside a transaction
  pub outside : (s : SessionsStanding) → act_beside s x ≡ in_session s (accessed s.laid.database x) (acted_write s.laid.database x)

module _ (d : AnyDatabase) (name : TableName) where
  abbrev IsOf : Planned → Type 0
  IsOf p = (found d name ≡ Ok p.found) × (d.state.next ≤ p.next) × ((done : WriteReply) × (write_reply p.reply ≡ Ok done))

  inserted_of : (rows : List (List Value)) (p : Planned) → planned_insert d name rows ≡ Ok p → IsOf p
  inserted_of rows p h =
      let a = both_give (found d name) _ p h in
      let b = both_give (right_counts (length (columns_of a.0)) rows) _ p a.2 in
      let c = both_give (known_id d.state.next (unknown_in_rows d.state.next rows)) _ p b.2 in
      let same = ok_is _ p c.2 in
      let next : d.state.next + length rows ≡ p.next = ap (λ (q : Planned). q.next) same in
      (a.1 ∙ ap (λ (q : Planned). Ok q.found) same, omega (arith, next), (write.Inserted _, ap (λ (q : Planned). write_reply q.reply) (sym same)))

  updated_of : (assignments : List AssignmentView) (filter : Option Tree) (p : Planned) → planned_update d name assignments filter ≡ Ok p → IsOf p
  updated_of assignments filter p h =
      let a = both_give (found d name) _ p h in
      let b = both_give (known_sets (columns_of a.0) assignments) _ p a.2 in
      let c = both_give (known_condition (columns_of a.0) filter) _ p b.2 in
      let e = both_give (unrepeated (repeated [] (set_columns assignments))) _ p c.2 in
      let f = both_give (known_references d.state.next (set_values assignments ++ condition_list filter)) _ p e.2 in
      let same = ok_is _ p f.2 in
      let next : d.state.next ≡ p.next = ap (λ (q : Planned). q.next) same in
      (a.1 ∙ ap (λ (q : Planned). Ok q.found) same, omega (arith, next), (write.Updated _, ap (λ (q : Planned). write_reply q.reply) (sym same)))

  deleted_of : (filter : Option Tree) (p : Planned) → planned_delete d name filter ≡ Ok p → IsOf p
  deleted_of filter p h =
      let a = both_give (found d name) _ p h in
      let b = both_give (known_condition (columns_of a.0) filter) _ p a.2 in
      let c = both_give (known_references d.state.next (condition_list filter)) _ p b.2 in
      let same = ok_is _ p c.2 in
      let next : d.state.next ≡ p.next = ap (λ (q : Planned). q.next) same in
      (a.1 ∙ ap (λ (q : Planned). Ok q.found) same, omega (arith, next), (write.Deleted _, ap (λ (q : Planned). write_reply q.reply) (sym same)))

  -- what holds of a write of this table
  planned_of : (x : StatementView) (p : Planned) → IsOf p → ((other : AnyDatabase) → accessed other x ≡ table_found (found other name))
      → ((s : SessionsStanding) → name_in_full (used_by s.uses s.session) name ≡ name → act_beside s x ≡ in_session s (accessed s.laid.database x) (acted_write s.laid.database x)) → IsPlanned d x p
  planned_of x p is reads outside =
      let n = named_by d name p.found is.0 in
      record {
        next = is.1;
        accesses = λ other e. reads other ∙ ap table_found (found_in d other name e ∙ is.0);
        done = is.2.0;
        replies = is.2.1;
        lives = has_maker d.graph.edges p.found.table (found_made d n.version p.found n.found);
        outside = λ s. outside s (full_is (used_by s.uses s.session) name n.version n.is);
      }

pub is_planned : (d : AnyDatabase) (x : StatementView) (p : Planned) → planned_write d x ≡ Ok p → IsPlanned d x p
is_planned d (Insert name rows) p h = planned_of d name (Insert name rows) p (inserted_of d name rows p h) (λ other. refl) (λ s same. ap (λ (n : TableName). counted s false (Insert n rows)) same)
is_planned d (Update name assignments filter) p h = planned_of d name (Update name assignments filter) p (updated_of d name assignments filter p h) (λ other. refl) (λ s same. ap (λ (n : TableName). counted s false (Update n assignments filter)) same)
is_planned d (Delete name filter) p h = planned_of d name (Delete name filter) p (deleted_of d name filter p h) (λ other. refl) (λ s same. ap (λ (n : TableName). counted s false (Delete n filter)) same)
is_planned d (CreateVersion name from operators) p h = absurd (let no : ⊥ = cc in no)
is_planned d (DropVersion name) p h = absurd (let no : ⊥ = cc in no)
is_planned d (Import name text) p h = absurd (let no : ⊥ = cc in no)
is_planned d (Select name items filter csv) p h = absurd (let no : ⊥ = cc in no)
is_planned d (Materialize named in_steps) p h = absurd (let no : ⊥ = cc in no)
is_planned d Step p h = absurd (let no : ⊥ = cc in no)
is_planned d ShowLayout p h = absurd (let no : ⊥ = cc in no)
is_planned d (Use name) p h = absurd (let no : ⊥ = cc in no)
is_planned d (Session number) p h = absurd (let no : ⊥ = cc in no)
is_planned d (Advise name) p h = absurd (let no : ⊥ = cc in no)
is_planned d (Watch name) p h = absurd (let no : ⊥ = cc in no)
is_planned d (Unwatch number) p h = absurd (let no : ⊥ = cc in no)
is_planned d Begin p h = absurd (let no : ⊥ = cc in no)
is_planned d Commit p h = absurd (let no : ⊥ = cc in no)
is_planned d Rollback p h = absurd (let no : ⊥ = cc in no)

-- a write in full, be it refused or not
some_version : (used : Option (List ℕ)) (name : TableName) (o : Option (List ℕ)) → name.version ≡ o → IsSome o → name_in_full used name ≡ name
some_version used name (Some version) is some = full_is used name version is
some_version used name None is some = absurd (let no : ⊥ = cc in no)

pub write_outside : (s : SessionsStanding) (x : StatementView) → IsFullWrite x → act_beside s x ≡ in_session s (accessed s.laid.database x) (acted_write s.laid.database x)
write_outside s (Insert name rows) is = ap (λ (n : TableName). counted s false (Insert n rows)) (some_version (used_by s.uses s.session) name name.version refl is)
write_outside s (Update name assignments filter) is = ap (λ (n : TableName). counted s false (Update n assignments filter)) (some_version (used_by s.uses s.session) name name.version refl is)
write_outside s (Delete name filter) is = ap (λ (n : TableName). counted s false (Delete n filter)) (some_version (used_by s.uses s.session) name name.version refl is)
write_outside s (CreateVersion name from operators) is = absurd is
write_outside s (DropVersion name) is = absurd is
write_outside s (Import name text) is = absurd is
write_outside s (Select name items filter csv) is = absurd is
write_outside s (Materialize named in_steps) is = absurd is
write_outside s Step is = absurd is
write_outside s ShowLayout is = absurd is
write_outside s (Use name) is = absurd is
write_outside s (Session number) is = absurd is
write_outside s (Advise name) is = absurd is
write_outside s (Watch name) is = absurd is
write_outside s (Unwatch number) is = absurd is
write_outside s Begin is = absurd is
write_outside s Commit is = absurd is
write_outside s Rollback is = absurd is

-- ---- what is written

-- the plan of a write that was carried out, and what it leaves
pub record IsWritten (d : AnyDatabase) (x : StatementView) (reply : Reply) (later : AnyDatabase) : Type 0 where
  pub plan : Planned
  pub planned : IsPlanned d x plan
  pub graph : later.graph ≡ d.graph
  pub next : d.state.next ≤ later.state.next
  pub replies : write_reply reply ≡ Ok planned.done

pub wrote_is : (d : AnyDatabase) (x : StatementView) (p : Planned) (answer : Reply × AnyDatabase) → IsPlanned d x p → wrote d p ≡ Ok answer → IsWritten d x answer.0 answer.1
wrote_is d x p answer planned h =
    let a = both_give (enough_ids d (state_with d p).state.next) _ answer h in
    let same : state_with d p ≡ answer.1 = ap (λ (r : Reply × AnyDatabase). r.1) (ok_is (p.reply, state_with d p) answer a.2) in
    let first = planned.next in
    let then_on = write_rises d.graph.edges d.state p.found.set p.found.table.number p.rows p.next in
    let up : d.state.next ≤ (state_with d p).state.next = omega (arith, first, then_on) in
    record {
      plan = p;
      planned = planned;
      graph = ap (λ (n : AnyDatabase). n.graph) (sym same);
      next = subst (λ (n : AnyDatabase). d.state.next ≤ n.state.next) same up;
      replies = ap (λ (r : Reply × AnyDatabase). write_reply r.0) (sym (ok_is (p.reply, state_with d p) answer a.2)) ∙ planned.replies;
    }

pub written_is : (d : AnyDatabase) (x : StatementView) (answer : Reply × AnyDatabase) → acted_write d x ≡ Ok answer → IsWritten d x answer.0 answer.1
written_is d x answer h =
    let a = both_give (planned_write d x) (λ p. wrote d p) answer h in
    wrote_is d x a.0 answer (is_planned d x a.0 a.1) a.2
