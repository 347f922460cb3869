-- Answers of closing, through what is the same.
use Rattle.std.specs.Prelude.{Result, Ok, Err}
use Rattle.std.proofs.Common.{◌≡◌, ℕ, List, sym, ap, ◌∙◌, subst}
use Rattle.par_base.specs.declared.fault.Fault.{Fault}
use Rattle.par_base.specs.declared.fault.Fault.TheVariants.{Refused, Memory}
use Rattle.par_base.specs.declared.limits.Target.{Target}
use Rattle.par_base.specs.declared.refusal.Refusal.{Refusal}
use Rattle.par_base.specs.Checked.{Gives, ◌then◌}
use Rattle.version_graph.specs.Edges.{AreEdges, Drawn}
use Rattle.version_graph.specs.Forest.{forest}
use Rattle.version_graph.proofs.WalkLaws.{is_forest}
use Rattle.op_law.specs.Meaning.{Meaning}
use Rattle.layout_rules.specs.Closed.{GivesLayout, closing}
use Rattle.layout_rules.specs.Closing.{Closes, named_tables, named_trees}
use Rattle.layout_rules.specs.Layouts.{IsValid}
use Rattle.layout_rules.proofs.NeededLaws.{closed_valid}
use Rattle.layout_rules.specs.declared.layout.Layout.{Layout}
use Rattle.db_state.specs.declared.parts.Parts.{Parts}
use Rattle.migration.specs.MoveAnswers.{ComputesMove, PreparesMove}
use Rattle.migration.specs.Pending.{IsPending, pending_for}
use Rattle.migration.specs.Sides.{changing}
use Rattle.migration.proofs.PendingLaws.{start_pending}

pub closes_there : {O : Type 0} (g h : Drawn O) (l k : Layout) (named : List Target) (r : Result Layout (Fault Refusal)) → g ≡ h → l ≡ k → Closes g l.operators named r → Closes h k.operators named r
closes_there {O} g h l k named r same sides closes = subst (λ (x : Layout). Closes h x.operators named r) sides (subst (λ (d : Drawn O). Closes d l.operators named r) same closes)

pub closes_into : {O : Type 0} (g : Drawn O) (layout : List ℕ) (named : List Target) (l k : Layout) → l ≡ k → Closes g layout named (Ok l) → Closes g layout named (Ok k)
closes_into g layout named l k same closes = subst (λ (x : Layout). Closes g layout named (Ok x)) same closes

-- a refused closing refuses the move
pub move_refused : {O : Type 0} (meaning : O → Meaning) (old : Parts O) (named : List Target) (fault : Fault Refusal) → Closes old.graph old.layout.operators named (Err fault) → PreparesMove meaning old named (Err fault)
move_refused meaning old named (Refused r) closes = closes
move_refused meaning old named (Memory memory) closes = tt

pub gives_there : {O : Type 0} (g h : Drawn O) (l k : Layout) (named : List Target) (r : Result Layout (Fault Refusal)) → g ≡ h → l ≡ k → GivesLayout (closing g l.operators named) r → GivesLayout (closing h k.operators named) r
gives_there {O} g h l k named r same sides gives = subst (λ (x : Layout). GivesLayout (closing h x.operators named) r) sides (subst (λ (d : Drawn O). GivesLayout (closing d l.operators named) r) same gives)

pub computed_refused : {O : Type 0} (old : Parts O) (named : List Target) (fault : Fault Refusal) → GivesLayout (closing old.graph old.layout.operators named) (Err fault) → ComputesMove old named (Err fault)
computed_refused old named (Refused r) gives = gives
computed_refused old named (Memory memory) gives = tt

-- ---- the start of a move in steps

module _ {O : Type 0} (g h : Drawn O) (l k : Layout) (named : List Target) (same : g ≡ h) (sides : l ≡ k) where
  -- a refused closing refuses it
  pub start_refused : (fault : Fault Refusal) → GivesLayout (closing g l.operators named) (Err fault) → Gives (λ (made : List ℕ). made) (Err fault) (pending_for h k.operators named)
  start_refused (Refused r) gives =
      subst (λ (x : Layout). pending_for h x.operators named ≡ Err r) sides
      (subst (λ (d : Drawn O). pending_for d l.operators named ≡ Err r) same (ap (λ c. c then λ goal. Ok (changing g.edges l.operators goal)) gives))
  start_refused (Memory memory) gives = tt

  -- else it gives the operators that change sides
  pub start_made : (goal : Layout) (made : List ℕ) → GivesLayout (closing g l.operators named) (Ok goal) → made ≡ changing g.edges l.operators goal.operators → pending_for h k.operators named ≡ Ok made
  start_made goal made gives is =
      subst (λ (x : Layout). pending_for h x.operators named ≡ Ok made) sides
      (subst (λ (d : Drawn O). pending_for d l.operators named ≡ Ok made) same (ap (λ c. c then λ goal. Ok (changing g.edges l.operators goal)) gives ∙ ap (λ (made : List ℕ). Ok made) (sym is)))

  -- which are pending
  pub start_kept : (goal : Layout) (made : List ℕ) → AreEdges h.edges → IsValid (forest h.edges) k.operators → Closes g l.operators named (Ok goal) → made ≡ changing g.edges l.operators goal.operators → IsPending h.edges k.operators made
  start_kept goal made edges valid closes is =
      let there = closes_there g h l k named (Ok goal) same sides closes in
      let right = closed_valid (forest h.edges) (is_forest h.edges edges) (named_trees h named) (named_tables h named) k.operators goal.operators valid there.2 there.1 in
      let mine : made ≡ changing h.edges k.operators goal.operators = is ∙ (λ i. changing (same i).edges (sides i).operators goal.operators) in
      subst (λ (p : List ℕ). IsPending h.edges k.operators p) (sym mine) (start_pending h.edges edges k.operators goal.operators there.2.ascending right)
