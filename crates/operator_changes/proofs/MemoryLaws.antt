-- The difference of the parts of two memories that are the same elsewhere is that of the whole memories.
use Rattle.std.proofs.Common.{◌≡◌, ℕ, ◌+◌, ◌≤◌, ◌==◌, List, [], ◌∷◌, Bool, true, false, not, Option, None, refl, ap, sym, ◌∙◌, arith}
use Rattle.std.proofs.lemmas.Bool.{eqb-true, eq-eqb, false≢true}
use Rattle.std.proofs.lemmas.Bool.Decides.{nat_tests}
use Rattle.id_memory.specs.Pairs.{Pairs, pair_of}
use Rattle.op_law.proofs.OnlyLaws.{by_test}
use Rattle.pair_changes.specs.declared.change.PairChange.{PairChange}
use Rattle.pair_changes.specs.MemoryChanges.{ArePairChanges, IsMemoryDifference, pair_after}
use Rattle.pair_parts.specs.Parts.{memory_only}
use Rattle.pair_parts.proofs.MemoryLaws.{memory_in, memory_out}

-- each change is of an identifier that passes
abbrev Pass : (ℕ → Bool) → List PairChange → Type 0
Pass P [] = Unit {0}
Pass P (c ∷ cs) = (P c.id ≡ true) × Pass P cs

module _ (P : ℕ → Bool) (before now : Pairs) where
  -- what an identifier above the first change has after the others
  behind : (n : ℕ) (c : PairChange) (cs : List PairChange) → n ≤ c.id → ((id : ℕ) → n ≤ id → pair_of (memory_only P now) id ≡ pair_after (c ∷ cs) id (pair_of (memory_only P before) id))
      → (id : ℕ) → c.id + 1 ≤ id → pair_of (memory_only P now) id ≡ pair_after cs id (pair_of (memory_only P before) id)
  behind n c cs low new id h =
      let other : (c.id == id) ≡ false = grind (arith, nat_tests) in
      let at : pair_of (memory_only P now) id ≡ pair_after (c ∷ cs) id (pair_of (memory_only P before) id) = new id (omega (arith, low, h)) in
      rw other at at

  -- what the parts differ in passes
  all_pass : (n : ℕ) (cs : List PairChange) → ArePairChanges n (memory_only P before) cs → ((id : ℕ) → n ≤ id → pair_of (memory_only P now) id ≡ pair_after cs id (pair_of (memory_only P before) id)) → Pass P cs
  all_pass n [] fit new = tt
  all_pass n (c ∷ cs) fit new =
      let own = eq-eqb c.id c.id refl in
      let at : pair_of (memory_only P now) c.id ≡ pair_after (c ∷ cs) c.id (pair_of (memory_only P before) c.id) = new c.id fit.0 in
      let is : pair_of (memory_only P now) c.id ≡ c.new = rw own at at in
      let here : P c.id ≡ true =
      by_test (P c.id) (λ e. e)
      (λ e. let none : c.new ≡ None = sym is ∙ memory_out P now c.id e in let was : c.old ≡ None = fit.1 ∙ memory_out P before c.id e in absurd (fit.2 (was ∙ sym none))) in
      (here, all_pass (c.id + 1) cs fit.3 (λ id h. behind n c cs fit.0 new id h))

  -- so the old pairs are those of the whole
  whole_fit : (n : ℕ) (cs : List PairChange) → Pass P cs → ArePairChanges n (memory_only P before) cs → ArePairChanges n before cs
  whole_fit n [] pass fit = tt
  whole_fit n (c ∷ cs) pass fit = (fit.0, fit.1 ∙ memory_in P before c.id pass.0, fit.2, whole_fit (c.id + 1) cs pass.1 fit.3)

  -- an identifier that doesn't pass isn't changed
  not_changed : (cs : List PairChange) → Pass P cs → (id : ℕ) (pair : Option (ℕ × ℕ)) → P id ≡ false → pair_after cs id pair ≡ pair
  not_changed [] pass id pair out = refl
  not_changed (c ∷ cs) pass id pair out =
      let other : (c.id == id) ≡ false = by_test (c.id == id) (λ e. absurd (false≢true (sym out ∙ sym (ap P (eqb-true c.id id e)) ∙ pass.0))) (λ e. e) in
      rw other (not_changed cs pass.1 id pair out)

  -- THE DIFFERENCE OF THE WHOLE MEMORIES
  pub whole_difference : (cs : List PairChange) → memory_only (λ q. not (P q)) now ≡ memory_only (λ q. not (P q)) before → IsMemoryDifference (memory_only P before) (memory_only P now) cs → IsMemoryDifference before now cs
  whole_difference cs rest is =
      let Q : ℕ → Bool = λ q. not (P q) in
      let pass = all_pass 0 cs is.fit (λ id h. is.new id) in
      record {
        fit = whole_fit 0 cs pass is.fit;
        new = λ id. by_test (P id)
            (λ e. sym (memory_in P now id e) ∙ is.new id ∙ ap (pair_after cs id) (memory_in P before id e))
            (λ e.
            sym (memory_in Q now id (ap not e)) ∙ ap (λ (es : Pairs). pair_of es id) rest ∙ memory_in Q before id (ap not e)
            ∙ sym (not_changed cs pass id (pair_of before id) e));
      }
