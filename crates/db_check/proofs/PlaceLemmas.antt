-- The operator at a place, where a pass crosses it.
use Rattle.std.specs.Prelude.{slice_get, Result, Ok, Err}
use Rattle.std.proofs.lemmas.Bool.{false≢true}
use mathlib.Core.Bool.{beq}
use Rattle.std.proofs.Common.{◌≡◌, ℕ, List, Bool, true, false, not, Some, inl, refl, sym, ap, ◌∙◌, subst}
use mathlib.Core.List.{reverse}
use Rattle.par_base.specs.declared.fault.Fault.{Fault}
use Rattle.par_base.specs.declared.fault.Fault.TheVariants.{Refused, Memory}
use Rattle.row_store.specs.Rows.{Rows}
use Rattle.row_store.specs.States.{TableState}
use Rattle.version_graph.specs.Sets.{In}
use Rattle.version_graph.specs.Edges.{AreEdges, is_in}
use Rattle.version_graph.specs.Forest.{Link, crossing, forest, step_told}
use Rattle.version_graph.specs.declared.parts.Placed.{Placed}
use Rattle.op_law.specs.Meaning.{Meaning}
use Rattle.layout_rules.proofs.DownLaws.{link_listed}
use Rattle.version_model.specs.Making.{ascending}
use Rattle.version_model.specs.declared.numbered.Numbered.{Numbered}
use Rattle.version_model.proofs.AscendingLaws.{edge_there}
use Rattle.version_model.proofs.ToldLaws.{some_is}
use Rattle.storage_law.specs.Storage.{stored_way}
use Rattle.storage_law.proofs.OrderLaws.{link_at}
use Rattle.db_state.specs.declared.parts.Parts.{Parts}
use Rattle.db_state.proofs.FoundLaws.{crosses}
use Rattle.db_check.specs.declared.checking.NotValid.{NotValid}
use Rattle.db_check.specs.inner.Calls.{Admits, Goes, IsNone, IsOver, MayAdmit}

module _ {O : Type 0} (meaning : O → Meaning) (p : Parts O) (edges : AreEdges p.graph.edges) (i : ℕ) (e : Placed O) (found : Some e ≡ slice_get (reverse p.graph.edges) i) where
  -- the link at the place has the edge's number
  pub same_number : (f : Link O) → slice_get (ascending p.graph.edges) i ≡ Some f → e.number ≡ f.number
  same_number f here =
      let there = edge_there p.graph.edges i f (Some e) here found in
      let same : e ≡ there.0 = some_is e there.0 there.1 in
      ap (λ (x : Placed O). x.number) same ∙ there.2

  lives : (f : Link O) → slice_get (ascending p.graph.edges) i ≡ Some f → In f (forest p.graph.edges)
  lives f here = link_listed p.graph.edges i f (sym here)

  module _ (back : Bool) where
    -- the pass goes by
    pub passed_by : (is_in e.number p.layout.operators ≡ back → ⊥) → (f : Link O) → slice_get (ascending p.graph.edges) i ≡ Some f → is_in f.number p.layout.operators ≡ back → ⊥
    passed_by off f here on = off (subst (λ (n : ℕ). is_in n p.layout.operators ≡ back) (sym (same_number f here)) on)

    module _ (on : is_in e.number p.layout.operators ≡ back) where
      here_on : (f : Link O) → slice_get (ascending p.graph.edges) i ≡ Some f → is_in f.number p.layout.operators ≡ back
      here_on f here = subst (λ (n : ℕ). is_in n p.layout.operators ≡ back) (same_number f here) on

      tells : (f : Link O) → slice_get (ascending p.graph.edges) i ≡ Some f → step_told (stored_way p.layout.operators f) ≡ record { operator = e.number; backward = back }
      tells f here = ap (λ (b : Bool). record { operator = f.number; backward = b }) (here_on f here) ∙ ap (λ (n : ℕ). record { operator = n; backward = back }) (sym (same_number f here))

      -- it may be crossed
      pub may_admit : (made : List (Numbered TableState)) → MayAdmit meaning p made (record { operator = e.number; backward = back })
      may_admit made =
          let l = link_at p.graph.edges i e found in
          let at = lives l.0 l.1 in
          record { over = l.0; lives = at; crosses = crosses p.graph.edges edges l.0 at (is_in l.0.number p.layout.operators); tells = tells l.0 l.1 }

      -- what was answered at the step is answered at the place
      pub goes : (rows new : ℕ → Rows) (r : Result (Unit {0}) (Fault NotValid)) → Admits meaning p (record { operator = e.number; backward = back }) rows new r → Goes meaning p back i rows new r
      goes rows new (Ok done) got = λ f here. inl (here_on f here, subst (λ (b : Bool). IsOver meaning p rows new (crossing b f)) (here_on f here) (got f (lives f here) (tells f here)))
      goes rows new (Err (Refused r)) got =
          let l = link_at p.graph.edges i e found in
          let f = l.0 in
          let here = l.1 in
          (f, here, here_on f here, subst (λ (b : Bool). IsNone meaning p rows (crossing b f)) (here_on f here) (got f (lives f here) (tells f here)))
      goes rows new (Err (Memory memory)) got = tt

-- truth values that were compared
pub are_same : (a b : Bool) → not (beq a b) ≡ false → a ≡ b
are_same true true h = refl
are_same false false h = refl
are_same true false h = absurd (false≢true (sym h))
are_same false true h = absurd (false≢true (sym h))

pub differ : (a b : Bool) → not (beq a b) ≡ true → a ≡ b → ⊥
differ true true h same = false≢true h
differ false false h same = false≢true h
differ true false h same = false≢true (sym same)
differ false true h same = false≢true same
