-- The new operators of an evolution.
use Rattle.std.proofs.Common.{◌≡◌, ℕ, ◌+◌, ◌≤◌, false, List, [], ◌∷◌, ◌++◌, Option, Some, None, length, drop, refl, sym, ap, ◌∙◌, arith}
use Rattle.std.specs.Prelude.{option_to_list, unwrap_or}
use Rattle.std.proofs.lemmas.List.{append-nil, append_assoc}
use Rattle.std.proofs.Math.Seq.{drop-append_seam}
use Rattle.par_base.specs.declared.refusal.Refusal.{Refusal}
use Rattle.version_graph.specs.Sets.{Each}
use Rattle.version_graph.specs.Tables.{TableVersion, table_named, table_numbers, taken}
use Rattle.version_graph.specs.Edges.{working}
use Rattle.version_graph.specs.Evolve.{grown, placed_next, refused_start, start_of}
use Rattle.version_graph.specs.Forest.{Link, crossing, forest, link}
use Rattle.version_graph.specs.declared.parts.Edge.{Edge}
use Rattle.version_graph.specs.declared.parts.Placed.{Placed}
use Rattle.version_graph.proofs.GrowLaws.{length_after}
use Rattle.op_law.specs.Meaning.{Meaning}
use Rattle.op_law.specs.Laws.{Laws}
use Rattle.version_model.specs.States.{State, empty_at, headings}
use Rattle.version_model.specs.Evolving.{HasFewTables, with_link}
use Rattle.version_model.specs.Kept.{HasSides}
use Rattle.version_model.specs.Making.{ascending, newer, MayMake}
use Rattle.version_model.proofs.AscendingLaws.{length_ascending, reverse_first}
use Rattle.version_model.proofs.EvolveLaws.{MayGrow, first_may_cross, first_rises, rest_may}
use Rattle.version_model.proofs.GrownLaws.{grown_links}
use Rattle.version_model.proofs.RunLaws.{may_call}

-- ---- the new operators stand last

module _ {O : Type 0} where
  ascends_on : (es : List (Placed O)) (parent operator table : ℕ) (edges : List (Edge O)) → ascending (grown es parent operator table edges) ≡ ascending es ++ grown_links es parent operator table edges
  ascends_on es parent operator table [] = sym (append-nil (ascending es))
  ascends_on es parent operator table (e ∷ edges) =
      let new = placed_next parent operator table e in
      let rest = grown_links (new ∷ es) (operator + 1) (operator + 1) (table + length e.targets) edges in
      ascends_on (new ∷ es) (operator + 1) (operator + 1) (table + length e.targets) edges
      ∙ ap (λ (l : List (Link O)). l ++ rest) (reverse_first (link es new) (forest es)) ∙ append_assoc (ascending es) (link es new ∷ []) rest

  pub newer_links : (es : List (Placed O)) (parent operator table : ℕ) (edges : List (Edge O)) → newer (grown es parent operator table edges) (length es) ≡ grown_links es parent operator table edges
  newer_links es parent operator table edges =
      ap (λ (l : List (Link O)). drop (length es) l) (ascends_on es parent operator table edges)
      ∙ ap (λ (n : ℕ). drop n (ascending es ++ grown_links es parent operator table edges)) (sym (length_ascending es))
      ∙ drop-append_seam (ascending es) (grown_links es parent operator table edges)

-- ---- they may be made

few_named : (o : Option TableVersion) (rest : List TableVersion) (n : ℕ) → length (table_numbers rest) ≤ n → length (table_numbers (option_to_list o ++ rest)) ≤ n + 1
few_named None rest n few = omega (arith, few)
few_named (Some t) rest n few = omega (arith, few)

few_taken : (set : List TableVersion) (names : List (List ℕ)) → length (table_numbers (taken set names)) ≤ length names
few_taken set [] = omega arith
few_taken set (name ∷ names) =
    let one = few_named (table_named set name) (taken set names) (length names) (few_taken set names) in
    omega (arith, one)

module _ {O : Type 0} where
  has_sides : (es : List (Placed O)) (parent operator table : ℕ) (e : Edge O) → HasFewTables e → HasSides (link es (placed_next parent operator table e))
  has_sides es parent operator table e few =
      let sources = few_taken (working es parent) e.sources in
      let targets = length_after table e.targets in
      let most = few.0 in
      let many = few.1 in
      (omega (arith, sources, most), omega (arith, targets, many))

  pub links_may_make : (meaning : O → Meaning) (laws : (o : O) → Laws (meaning o)) (es : List (Placed O)) (parent operator table : ℕ) (edges : List (Edge O)) (s : State) (n : ℕ) → MayGrow meaning es parent operator table edges s n → Each HasFewTables edges → MayMake meaning s (grown_links es parent operator table edges)
  links_may_make meaning laws es parent operator table [] s n may few = tt
  links_may_make meaning laws es parent operator table (e ∷ edges) s n may few =
      let new = placed_next parent operator table e in (
        has_sides es parent operator table e few.0,
        may_call meaning (headings (new ∷ es)) (empty_at s.next) s (crossing false (link es new)) (first_may_cross meaning laws es parent operator table e edges s n may),
        first_rises meaning laws es parent operator table e edges s n may,
        links_may_make meaning laws (new ∷ es) (operator + 1) (operator + 1) (table + length e.targets) edges (with_link meaning s (link es new)) n (rest_may meaning laws es parent operator table e edges s n may) few.1,
      )

  -- what may be made has few tables on either side
  pub few_made : (meaning : O → Meaning) (s : State) (fs : List (Link O)) → MayMake meaning s fs → Each HasSides fs
  few_made meaning s [] may = tt
  few_made meaning s (f ∷ fs) may = (may.0, few_made meaning (with_link meaning s f) fs may.3)

-- ---- what is true of the older and of the new ones is true of all

pub sides_more : {O : Type 0} (es : List (Placed O)) (parent operator table : ℕ) (edges : List (Edge O)) → Each HasSides (forest es) → Each HasSides (grown_links es parent operator table edges) → Each HasSides (forest (grown es parent operator table edges))
sides_more es parent operator table [] old new = old
sides_more es parent operator table (e ∷ edges) old new =
    sides_more (placed_next parent operator table e ∷ es) (operator + 1) (operator + 1) (table + length e.targets) edges (new.0, old) new.1

-- ---- an evolution that the graph didn't refuse

start_found : (name : List ℕ) (o : Option ℕ) (more : Option Refusal) → refused_start (Some name) o more ≡ None → o ≡ Some (unwrap_or o 0)
start_found name None more h = absurd (cc)
start_found name (Some w) more h = refl

pub start_known : (versions : List (List ℕ × ℕ)) (from : Option (List ℕ)) (more : Option Refusal) → refused_start from (start_of versions from) more ≡ None → start_of versions from ≡ Some (unwrap_or (start_of versions from) 0)
start_known versions None more h = refl
start_known versions (Some name) more h = start_found name (start_of versions (Some name)) more h
