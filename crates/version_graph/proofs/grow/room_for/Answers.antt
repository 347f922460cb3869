use Rattle.std.proofs.Common.{◌≡◌, ℕ, suc, ◌+◌, ◌<◌, List, [], ◌∷◌, length, drop, get_or, arith, sym, ap, ◌∙◌}
use Rattle.std.specs.Prelude.{Option, None}
use Rattle.std.proofs.Math.Seq.{drop-cons}
use Rattle.std.proofs.lemmas.List.{drop_all}
use Rattle.version_graph.specs.Evolve.{later, limit_at, limit_passed, targets_in}
use Rattle.version_graph.specs.declared.parts.Edge.{Edge}
use Rattle.version_graph.proofs.grow.room_for.Goals as goal

-- the edges from this place on begin with the one there
begins : {O : Type 0} (es : List (Edge O)) (i : ℕ) (e : Edge O) → i < length es → e ≡ get_or es i e → drop i es ≡ e ∷ drop (i + 1) es
begins {O} es i e within is =
    let more : suc i ≡ i + 1 = omega arith in
    drop-cons es i e within ∙ ap (λ (k : ℕ). get_or es i e ∷ drop k es) more ∙ ap (λ (f : Edge O). f ∷ drop (i + 1) es) (sym is)

-- the limit that the rest passes, where the first edge passes none
passes : {O : Type 0} (n o t k p u : ℕ) (e : Edge O) (es rest : List (Edge O)) (all : Option ℕ) → es ≡ e ∷ rest → k ≡ length e.targets → p ≡ o + 1 → u ≡ t + k → limit_at n o t k ≡ None → limit_passed n o t es ≡ all → limit_passed (n + 1) p u rest ≡ all
passes {O} n o t k p u e es rest all is count next top none so_far =
    ap (λ (m : ℕ). limit_passed (n + 1) m u rest) next
    ∙ ap (λ (m : ℕ). limit_passed (n + 1) (o + 1) m rest) (top ∙ ap (λ (m : ℕ). t + m) count)
    ∙ sym (ap (λ (x : Option ℕ). later x (limit_passed (n + 1) (o + 1) (t + length e.targets) rest)) (sym (ap (λ (m : ℕ). limit_at n o t m) count) ∙ none))
    ∙ sym (ap (λ (l : List (Edge O)). limit_passed n o t l) is)
    ∙ so_far

pub loop-edge-preserved : goal.loop-edge-preserved
loop-edge-preserved g c =
    let l = c.loop-edge in
    let es = c.args.edges.now in
    let i = l.edge-index in
    let e = c.edge-item.result in
    let after = c.in_ok-after.after in
    let found = c.in_ok-after.ensures in
    let first = begins es i e c.loop-edge-test.true c.edge-item.is in
    let sum : targets_in (drop i es) ≡ length e.targets + targets_in (drop (i + 1) es) = ap (λ (xs : List (Edge _)). targets_in xs) first in
    let few : l.count < 1024 = found.3 in
    record {
      count = omega (arith, l.invariant.count);
      few = omega (arith, few);
      operator = omega (arith, l.invariant.operator, found.1);
      table = omega (arith, l.invariant.table, found.2, c.len.ensures, sum);
      fits = (found.4, found.5);
      limit = passes l.count l.after.operator l.after.table c.len.result after.operator after.table e (drop i es) (drop (i + 1) es) _ first c.len.ensures found.1 found.2 found.0 l.invariant.limit;
    }

pub returns : goal.returns
returns g c =
    let l = c.loop-edge in
    let es = c.args.edges.now in
    let i = l.edge-index in
    let none : drop i es ≡ [] = drop_all i es c.loop-edge-test.false in
    let sum : targets_in (drop i es) ≡ 0 = ap (λ (xs : List (Edge _)). targets_in xs) none in
    let here : i ≡ length es = omega (arith, c.loop-edge-test.false, l.auto.edge-index-end) in (
      sym l.invariant.limit ∙ ap (λ (xs : List (Edge _)). limit_passed l.count l.after.operator l.after.table xs) none,
      l.invariant.operator ∙ ap (λ (k : ℕ). c.args.last.operator + k) here,
      omega (arith, l.invariant.table, sum),
      omega (arith, l.invariant.count, l.invariant.few, here),
      l.invariant.fits.0,
      l.invariant.fits.1,
    )
