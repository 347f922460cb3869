-- What a step tells of, and what a counter refuses first.
use Rattle.std.proofs.Common.{◌≡◌, ℕ, ◌≤◌, Bool, true, false, cond, List, Some, refl, sym, ap, ◌∙◌, arith}
use Rattle.id_memory.specs.States.{CounterState}
use Rattle.op_law.specs.Calls.{first_refused}
use Rattle.version_graph.specs.Edges.{edge_of, sources_at}
use Rattle.version_graph.specs.Forest.{Crossing, step_told}
use Rattle.version_graph.specs.declared.parts.Placed.{Placed}
use Rattle.version_graph.specs.declared.parts.Step.{Step}
use Rattle.version_model.specs.Calls.{IsCrossing, IsTold}

pub some_is : {A : Type 0} (x y : A) → Some x ≡ Some y → x ≡ y
some_is x y h = cc

module _ {O : Type 0} where
  -- the near and the far tables of a crossing, by its direction
  abbrev over : Bool → Placed O → List ℕ → O → ℕ → Crossing O
  over back e sources operator number = record { operator = operator; backward = back; number = number; near = cond back e.tables sources; far = cond back sources e.tables }

  abbrev parts : O → ℕ → Bool → List ℕ → List ℕ → Crossing O
  parts operator number back near far = record { operator = operator; backward = back; number = number; near = near; far = far }

  parts_are : (p : Crossing O) (b : Bool) (near far : List ℕ) → p.backward ≡ b → near ≡ p.near → far ≡ p.far → parts p.operator p.number b near far ≡ p
  parts_are p b near far back n f =
      ap (λ (x : Bool). parts p.operator p.number x near far) (sym back)
      ∙ ap (λ (x : List ℕ). parts p.operator p.number p.backward x far) n
      ∙ ap (λ (x : List ℕ). parts p.operator p.number p.backward p.near x) f

  sides_if : (p : Crossing O) (e : Placed O) (sources : List ℕ) (b : Bool) → p.backward ≡ b → sources ≡ cond b p.far p.near → e.tables ≡ cond b p.near p.far → over b e sources p.operator p.number ≡ p
  sides_if p e sources true is s t = parts_are p true e.tables sources is t s
  sides_if p e sources false is s t = parts_are p false sources e.tables is s t

  sides_of : (p : Crossing O) (e : Placed O) (sources : List ℕ) → sources ≡ cond p.backward p.far p.near → e.tables ≡ cond p.backward p.near p.far → over p.backward e sources p.operator p.number ≡ p
  sides_of p e sources s t = sides_if p e sources p.backward refl s t

  -- what a step tells of is the crossing that it was told from
  pub told_is : (es : List (Placed O)) (step : Step) (p q : Crossing O) → IsCrossing es p → step_told p ≡ step → IsTold es step (Some q) → q ≡ p
  told_is es step p q c tells t =
      let number : p.number ≡ step.operator = ap (λ (s : Step). s.operator) tells in
      let back : p.backward ≡ step.backward = ap (λ (s : Step). s.backward) tells in
      let edge : t.0 ≡ c.edge = some_is t.0 c.edge (sym t.2 ∙ ap (λ (n : ℕ). edge_of es n) (sym number) ∙ c.live) in
      let sources : t.1 ≡ cond p.backward p.far p.near = some_is t.1 (cond p.backward p.far p.near) (sym t.3 ∙ ap (λ (n : ℕ). sources_at es n) (sym number) ∙ c.sources) in
      let tables : t.0.tables ≡ cond p.backward p.near p.far = ap (λ (e : Placed O). e.tables) edge ∙ c.targets in
      let operator : t.0.edge.operator ≡ p.operator = ap (λ (e : Placed O). e.edge.operator) edge ∙ sym c.operator in
      t.4 ∙ ap (λ (b : Bool). over b t.0 t.1 t.0.edge.operator step.operator) (sym back)
      ∙ ap (λ (o : O). over p.backward t.0 t.1 o step.operator) operator
      ∙ ap (λ (n : ℕ). over p.backward t.0 t.1 p.operator n) (sym number)
      ∙ sides_of p t.0 t.1 sources tables

-- a counter that has drawn only what it gives refuses first what it refused first before
pub same_refused : (old now : CounterState) → old.next ≤ now.next → now.next ≤ first_refused old → now.limit ≡ old.limit → first_refused now ≡ first_refused old
same_refused old now more within limit = omega (arith, more, within, limit)
