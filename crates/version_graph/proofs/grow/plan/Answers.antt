use Rattle.std.proofs.Common.{◌≡◌, ℕ, ◌≤◌, List, length, refl, sym, ap, ◌∙◌, subst}
use Rattle.std.specs.Prelude.{Result, Ok, Err, Option, Some, None, IfErr}
use Rattle.std.specs.Result.{IsErrAnd}
use Rattle.par_base.specs.declared.fault.Fault.{Fault}
use Rattle.par_base.specs.declared.fault.Fault.TheVariants.{Refused, Memory}
use Rattle.par_base.specs.declared.refusal.Refusal.{Refusal}
use Rattle.version_graph.specs.Calls.{FindsRoom, FindsStart, IsUnused}
use Rattle.version_graph.specs.Edges.{Drawn, operator_limit, set_named}
use Rattle.version_graph.specs.Evolve.{EvolvesGraph, limit_passed, refused_limit, refused_name, refused_start, start_of}
use Rattle.version_graph.specs.Kept.{drawn, edges_of}
use Rattle.version_graph.specs.declared.node.Last.{Last}
use Rattle.version_graph.specs.declared.node.Node.{Node}
use Rattle.version_graph.specs.declared.parts.Edge.{Edge}
use Rattle.version_graph.proofs.grow.plan.Goals as goal

-- what holds of an error holds of the one that is passed on
passed : {T F : Type 0} (r : Result T F) (f : F) (Q : F → Type 0) → IsErrAnd r (λ e. e ≡ f) → Q f → IfErr r Q
passed (Ok x) f Q is holds = absurd is
passed (Err e) f Q is holds = subst Q (sym is) holds

module _ {O : Type 0} (g : Drawn O) (name : List ℕ) where
  -- FROM is no live version
  no_start : (from : Option (List ℕ)) (edges : List (Edge O)) (fault : Fault Refusal) → FindsStart g.versions from (Err fault) → EvolvesGraph g name from edges (Err fault) g
  no_start None edges (Refused r) found = let none : start_of g.versions None ≡ None = found.0 in absurd cc
  no_start (Some start) edges (Refused r) found =
      let more = refused_name name (set_named g.versions name) (refused_limit (limit_passed (length g.edges) g.last_operator g.last_table edges)) in
      (ap (λ (o : Option ℕ). refused_start (Some start) o more) found.0 ∙ found.1, refl)
  no_start from edges (Memory memory) found = refl

  -- the name is a live version
  no_name : (from : Option (List ℕ)) (edges : List (Edge O)) (w : ℕ) (fault : Fault Refusal) → start_of g.versions from ≡ Some w → IsUnused g.versions name (Err fault) → EvolvesGraph g name from edges (Err fault) g
  no_name from edges w (Refused r) start found =
      let limit = refused_limit (limit_passed (length g.edges) g.last_operator g.last_table edges) in (
        ap (λ (o : Option ℕ). refused_start from o (refused_name name (set_named g.versions name) limit)) start
            ∙ ap (λ (o : Option ℕ). refused_name name o limit) found.1 ∙ ap (λ (x : Refusal). Some x) (sym found.2),
        refl,
      )
  no_name from edges w (Memory memory) start found = absurd found

  -- an edge passes a limit
  no_room : (from : Option (List ℕ)) (edges : List (Edge O)) (w : ℕ) (last : Last) (fault : Fault Refusal) → start_of g.versions from ≡ Some w → set_named g.versions name ≡ None → last.operator ≡ g.last_operator → last.table ≡ g.last_table
      → FindsRoom (length g.edges) last edges (Err fault) → EvolvesGraph g name from edges (Err fault) g
  no_room from edges w last (Refused r) start none operator table found =
      let limit = refused_limit (limit_passed (length g.edges) g.last_operator g.last_table edges) in (
        ap (λ (o : Option ℕ). refused_start from o (refused_name name (set_named g.versions name) limit)) start
            ∙ ap (λ (o : Option ℕ). refused_name name o limit) none
            ∙ sym (ap (λ (n : ℕ). refused_limit (limit_passed (length g.edges) n g.last_table edges)) operator)
            ∙ sym (ap (λ (n : ℕ). refused_limit (limit_passed (length g.edges) last.operator n edges)) table)
            ∙ found,
        refl,
      )
  no_room from edges w last (Memory memory) start none operator table found = absurd found

pub returns-in_err-set-clause-refused : goal.returns-in_err-set-clause-refused
returns-in_err-set-clause-refused g c =
    let p = drawn c.args.parts.now in
    let fault = c.in_err-set.field-0.0 in
    passed c.from_residual.result fault _ c.from_residual.ensures.1 (no_start p c.args.name _ c.args.edges.now fault c.in_err-set.ensures)

pub returns-in_err-name-clause-refused : goal.returns-in_err-name-clause-refused
returns-in_err-name-clause-refused g c =
    let p = drawn c.args.parts.now in
    let fault = c.in_err-name.field-0.0 in
    passed c.from_residual-in_err-name.result fault _ c.from_residual-in_err-name.ensures.1 (no_name p c.args.name _ c.args.edges.now c.in_ok-set.set fault c.in_ok-set.ensures c.in_err-name.ensures)

pub room_for-requires : goal.room_for-requires
room_for-requires g c =
    subst (λ (n : ℕ). n ≤ operator_limit) (sym (c.count.ensures ∙ ap (λ (l : List (Node _)). length (edges_of l)) c.as_slice.ensures.value)) c.requires.few

pub returns-in_err-after-clause-refused : goal.returns-in_err-after-clause-refused
returns-in_err-after-clause-refused g c =
    let p = c.args.parts.now in
    let fault = c.in_err-after.field-0.0 in
    let counted = c.count.ensures ∙ ap (λ (l : List (Node _)). length (edges_of l)) c.as_slice.ensures.value in
    let found = subst (λ (n : ℕ). FindsRoom n p.last c.args.edges.now (Err fault)) counted c.in_err-after.ensures in
    passed c.from_residual-in_err-after.result fault _ c.from_residual-in_err-after.ensures.1
    (no_room (drawn p) c.args.name _ c.args.edges.now c.in_ok-set.set p.last fault c.in_ok-set.ensures c.in_ok-name.ensures.1 refl refl found)

pub returns-clause-start : goal.returns-clause-start
returns-clause-start g c = c.in_ok-set.ensures

pub returns-clause-name : goal.returns-clause-name
returns-clause-name g c = c.in_ok-name.ensures.0

pub returns-clause-unused : goal.returns-clause-unused
returns-clause-unused g c = c.in_ok-name.ensures.1

pub returns-clause-room : goal.returns-clause-room
returns-clause-room g c =
    let counted = c.count.ensures ∙ ap (λ (l : List (Node _)). length (edges_of l)) c.as_slice.ensures.value in
    subst (λ (n : ℕ). FindsRoom n c.args.parts.now.last c.args.edges.now (Ok c.in_ok-after.after)) counted c.in_ok-after.ensures
