-- The operators on the way to storage cover the table, and themselves.
use Rattle.std.specs.Prelude.{◌↔◌, ◌≤◌}
use Rattle.std.proofs.Common.{◌≡◌, ℕ, ◌+◌, ◌*◌, zero, suc, List, [], ◌∷◌, inl, inr, refl, sym, subst}
use Rattle.std.proofs.lemmas.Bool.{cond-false, cond-true}
use Rattle.version_graph.specs.Sets.{In}
use Rattle.version_graph.specs.Edges.{is_in}
use Rattle.version_graph.specs.Forest.{Link, forest}
use Rattle.version_graph.specs.declared.parts.Placed.{Placed}
use Rattle.version_graph.proofs.SetLaws.{is_in_true}
use Rattle.version_graph.proofs.WalkLaws.{IsForest}
use Rattle.layout_rules.specs.Layouts.{IsValid}
use Rattle.layout_rules.specs.Ways.{IsOnWay, ReadsFrom, ReadsOver}
use Rattle.layout_rules.proofs.LinkLaws.{same_link}
use Rattle.layout_rules.proofs.WayLaws.{reads_on}
use Rattle.storage_law.specs.Storage.{stored_way}
use Rattle.storage_law.proofs.LinkLaws.{not_in_false, same_test}
use Rattle.op_law.specs.Meaning.{Meaning}
use Rattle.db_state.specs.Covered.{Covers, CoversItself}
use Rattle.db_state.specs.Parts.{AreLocalAt, IsWay, SeenWithin, WayWithin, listed_in}
use Rattle.db_state.specs.declared.sight.Sight.{Sight}

module _ {O : Type 0} (es : List (Link O)) (forest : IsForest es) (layout : List ℕ) (valid : IsValid es layout) (table : ℕ) where
  -- a table that is read over an operator is read from those that the operator keeps
  from_near : (t : ℕ) (e : Link O) → ReadsOver es layout t e → (u : ℕ) → In u (stored_way layout e).near → ReadsFrom es layout t e u
  from_near t e (inl up) u i = inl (up, subst (λ (l : List ℕ). In u l) (cond-false (is_in e.number layout) e.targets e.sources (not_in_false e.number layout up.1)) i)
  from_near t e (inr down) u i = inr (down, subst (λ (l : List ℕ). In u l) (cond-true (is_in e.number layout) e.targets e.sources (is_in_true e.number layout down.2)) i)

  -- the table is covered by its way
  pub way_covers : (ns : List ℕ) → ((n : ℕ) → IsOnWay es layout table n → In n ns) → Covers es layout ns table
  way_covers ns all e at over = all e.number (zero, table, e, refl, at, over, refl)

  -- and so are the tables that operators of the way keep
  pub way_covers_itself : (ns : List ℕ) → ((n : ℕ) → In n ns → IsOnWay es layout table n) → ((n : ℕ) → IsOnWay es layout table n → In n ns) → CoversItself es layout ns
  way_covers_itself ns on all e at mine t i f there over =
      let w = on e.number mine in
      let is : w.2 ≡ e = same_link es w.2 e forest w.4 at (sym w.6) in
      let from : ReadsFrom es layout w.1 w.2 t = from_near w.1 w.2 w.5 t (subst (λ (y : Link O). In t (stored_way layout y).near) (sym is) i) in
      all f.number (suc w.0, t, f, reads_on es forest layout valid table w.0 table w.1 w.2 t w.3 w.4 from, there, over, refl)

-- the listed way is that in a graph and a layout that are the same
pub way_listed : {O : Type 0} (es fs : List (Placed O)) (layout operators : List ℕ) (table : ℕ) (made ns : List ℕ) → fs ≡ es → operators ≡ layout → ns ≡ made → ((n : ℕ) → In n made ↔ IsOnWay (forest fs) operators table n) → (n : ℕ) → In n ns ↔ IsOnWay (forest es) layout table n
way_listed {O} es fs layout operators table made ns same stays is way n =
    subst (λ (l : List ℕ). In n l ↔ IsOnWay (forest es) layout table n) (sym is)
    (subst (λ (l : List ℕ). In n made ↔ IsOnWay (forest es) l table n) stays
    (subst (λ (l : List (Placed O)). In n made ↔ IsOnWay (forest l) operators table n) same (way n)))

-- ---- its steps

-- of lists with the same numbers as many operators are listed
pub listed_same : {O : Type 0} (ns ms : List ℕ) → ((n : ℕ) → In n ns ↔ In n ms) → (es : List (Link O)) → listed_in ns es ≡ listed_in ms es
listed_same ns ms both [] = refl
listed_same ns ms both (e ∷ es) =
    let here = same_test e.number ns ms (both e.number) in
    let rest = listed_same ns ms both es in
    cc

module _ {O : Type 0} (meaning : O → Meaning) (es : List (Placed O)) (layout : List ℕ) (table : ℕ) where
  -- the bound over a list of the way is the bound over the way
  pub within_way : (ms : List ℕ) (sight wider : Sight) (old new : ℕ) → IsWay es layout table ms → (AreLocalAt meaning es ms → wider ≡ sight) → SeenWithin 2 wider (listed_in ms (forest es)) old new → WayWithin meaning es layout table sight old new
  within_way ms sight wider old new way same within local ns other =
      let mine : AreLocalAt meaning es ms = λ e at i. local e at ((way e.number).0 i) in
      let both : (n : ℕ) → In n ms ↔ In n ns = λ n. (λ i. (other n).1 ((way n).0 i), λ i. (way n).1 ((other n).0 i)) in
      subst (λ (count : ℕ). SeenWithin 2 sight count old new) (listed_same ms ns both (forest es))
      (subst (λ (s : Sight). SeenWithin 2 s (listed_in ms (forest es)) old new) (same mine) within)
