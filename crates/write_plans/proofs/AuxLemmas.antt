-- The auxiliary tables of one operator may be changed, and what that takes.
use Rattle.std.proofs.Common.{◌≡◌, ℕ, List, [], ◌∷◌, Bool, true, false, Some, inl, inr, map, sym, subst, arith}
use Rattle.version_graph.specs.Sets.{In}
use Rattle.layout_rules.specs.declared.layout.Layout.{Layout}
use Rattle.version_graph.specs.Edges.{Drawn, is_in}
use Rattle.version_graph.specs.Forest.{Crossing, Link, forest}
use Rattle.version_graph.specs.declared.parts.Placed.{Placed}
use Rattle.op_law.specs.Local.{only}
use Rattle.op_law.specs.Meaning.{Meaning}
use Rattle.op_law.specs.Premises.{IsPair}
use Rattle.op_law.specs.Tables.{Tables}
use Rattle.row_changes.specs.Changed.{TableChanges}
use Rattle.row_changes.specs.Differences.{AreDifferences}
use Rattle.changes_walk.specs.Auxiliary.{AuxTakes, MayChangeAux, aux_beside}
use Rattle.version_model.specs.Kept.{auxes_at}
use Rattle.version_model.specs.States.{State, headings}
use Rattle.version_model.specs.Steps.{directed, pair_in}
use Rattle.version_model.proofs.ToldLaws.{some_is}
use Rattle.storage_law.specs.Storage.{stored_way}
use Rattle.storage_law.proofs.CanonicalLaws.{either_way}
use Rattle.db_state.specs.Calls.{IsRelatedAt}
use Rattle.op_law.specs.Identifiers.{has_id}
use Rattle.db_state.specs.Parts.{Ascends, MaySee, SeenWithin, SplitsOver, passes}
use Rattle.db_state.specs.declared.parts.Parts.{Parts}
use Rattle.db_state.specs.declared.sight.Sight.{Sight}
use Rattle.db_state.specs.declared.sight.Sight.TheVariants.{All, Of, Part}
use Rattle.db_state.proofs.AuxLaws.{far_few, near_few}
use Rattle.write_plans.specs.Making.{MayChangeAuxAt, MayShow, auxes_over, copied_state, made_over, names_of}
use Rattle.write_plans.specs.declared.making.Making.{Making}

-- what is seen over some operators is seen over one of them
pub sees_one : {O : Type 0} (meaning : O → Meaning) (es : List (Placed O)) (s : State) (ns : List ℕ) (n : ℕ) (sight : Sight) → In n ns → MaySee meaning es s ns sight → MaySee meaning es s (n ∷ []) sight
sees_one meaning es s ns n All i sees = tt
sees_one meaning es s ns n (Of ids) i sees = (sees.0, λ e j own. elim own as (λ _. (meaning e.operator).is_local ≡ true) [ inl same ↦ sees.1 e j (subst (λ (k : ℕ). In k ns) (sym same) i) | inr none ↦ absurd none ])
sees_one meaning es s ns n (Part ids) i sees = (sees.0, λ e j own. elim own as (λ _. SplitsOver meaning (headings es) s (has_id ids.now) e) [ inl same ↦ sees.1 e j (subst (λ (k : ℕ). In k ns) (sym same) i) | inr none ↦ absurd none ])

-- what may be shown may be read, of whatever state
pub sees_read : {O : Type 0} (meaning : O → Meaning) (es : List (Placed O)) (s : State) (ns : List ℕ) (sight : Sight) → MayShow meaning es ns sight → MaySee meaning es s ns sight
sees_read meaning es s ns All sees = tt
sees_read meaning es s ns (Of ids) sees = sees
sees_read meaning es s ns (Part ids) sees = absurd sees

-- what may be read ascends
pub sees_rise : {O : Type 0} (meaning : O → Meaning) (es : List (Placed O)) (s : State) (ns : List ℕ) (sight : Sight) → MaySee meaning es s ns sight → Ascends sight
sees_rise meaning es s ns All sees = tt
sees_rise meaning es s ns (Of ids) sees = sees.0
sees_rise meaning es s ns (Part ids) sees = sees.0

-- what the graph and the layout of a database tell of the way from the stored side
pub told_way : {O : Type 0} (d : Parts O) (n : ℕ) (over : Crossing O) (graph : Drawn O) (layout : Layout) → graph ≡ d.graph → layout ≡ d.layout → ((e : Link O) → In e (forest graph.edges) → e.number ≡ n → Some over ≡ Some (stored_way layout.operators e))
    → (e : Link O) → In e (forest d.graph.edges) → e.number ≡ n → Some over ≡ Some (stored_way d.layout.operators e)
told_way {O} d n over graph layout same_graph same_layout is =
    subst (λ (l : Layout). (e : Link O) → In e (forest d.graph.edges) → e.number ≡ n → Some over ≡ Some (stored_way l.operators e)) same_layout
    (subst (λ (x : Drawn O). (e : Link O) → In e (forest x.edges) → e.number ≡ n → Some over ≡ Some (stored_way layout.operators e)) same_graph is)

module _ {O : Type 0} (meaning : O → Meaning) (d : Parts O) (making : Making) (n : ℕ) (over : Crossing O) (is : (e : Link O) → In e (forest d.graph.edges) → e.number ≡ n → Some over ≡ Some (stored_way d.layout.operators e)) where
  abbrev es : List (Placed O)
  es = d.graph.edges

  abbrev old : State
  old = copied_state making.copies d.ids.next

  way_of : (e : Link O) → In e (forest es) → e.number ≡ n → over ≡ stored_way d.layout.operators e
  way_of e i number = some_is over (stored_way d.layout.operators e) (is e i number)

  -- the operator relates both sides of its way
  related_over : (s : State) → IsRelatedAt meaning es s n → IsPair (directed over.backward (meaning over.operator)) (map (headings es) over.near) (map (headings es) over.far) (pair_in s over)
  related_over s known =
      subst (λ (p : Crossing O). IsPair (directed p.backward (meaning p.operator)) (map (headings es) p.near) (map (headings es) p.far) (pair_in s p)) (sym (way_of known.over known.lives known.number))
      (either_way meaning (headings es) s false (is_in known.over.number d.layout.operators) known.over known.related)

  module _ (test names : ℕ → Bool) (may : MayChangeAuxAt meaning d test names making n) where
    -- ITS AUXILIARY TABLES MAY BE CHANGED
    pub may_change : MayChangeAux meaning old making.made over
    may_change = record {
      near = near_few meaning es d.layout.operators old n over may.old is;
      far = far_few meaning es d.layout.operators old n over may.old is;
      fit = may.fits;
      hs = map (headings es) over.near;
      ht = map (headings es) over.far;
      before = related_over old may.old;
      after = related_over (made_over making) may.new;
    }

    -- and their changes are those from the ones to the others
    pub change_is : (aux : Tables) (changes : TableChanges) → aux ≡ only test (auxes_at d.aux n) → AreDifferences aux (aux_beside meaning (made_over making) over) changes → (e : Link O) → In e (forest es) → e.number ≡ n → AreDifferences (only test (auxes_at d.aux n)) (auxes_over meaning d (made_over making) e) changes
    change_is aux changes same differs e i number =
        subst (λ (p : Crossing O). AreDifferences (only test (auxes_at d.aux n)) (aux_beside meaning (made_over making) p) changes) (way_of e i number)
        (subst (λ (x : Tables). AreDifferences x (aux_beside meaning (made_over making) over) changes) same differs)

  -- what it takes
  pub change_takes : (sight : Sight) → MayChangeAuxAt meaning d (passes sight) (names_of sight) making n → (x : State) → MaySee meaning es x (n ∷ []) sight → (s t : ℕ) → AuxTakes meaning over making.made s t → SeenWithin 8 sight 1 s t
  change_takes All may x sees s t takes = tt
  change_takes (Of ids) may x sees s t takes =
      let known = may.old in
      let local : (meaning over.operator).is_local ≡ true = subst (λ (p : Crossing O). (meaning p.operator).is_local ≡ true) (sym (way_of known.over known.lives known.number)) (sees.1 known.over known.lives (inl known.number)) in
      let own = takes ids.now sees.0 local may.pass in
      omega (arith, own)
  change_takes (Part ids) may x sees s t takes = tt
