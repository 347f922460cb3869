-- What each crossing of a run mapped stands at its end.
use Rattle.std.proofs.Common.{◌≡◌, ℕ, ◌≤◌, List, [], ◌∷◌, Bool, true, false, map, sym, ap, ◌∙◌, subst, arith}
use Rattle.version_graph.specs.Sets.{Apart, Distinct, Each}
use Rattle.version_graph.specs.Laws.{Ordered}
use Rattle.version_graph.specs.Forest.{Crossing, Link, crossing}
use Rattle.op_law.specs.Tables.{AreTablesOf, Heading, Tables}
use Rattle.op_law.specs.Laws.{Laws}
use Rattle.op_law.specs.Meaning.{Meaning, PairState, flip}
use Rattle.op_law.specs.Premises.{MayMap, pair_after}
use Rattle.row_changes.specs.Changed.{AreChangesOf, TableChanges, changed_tables}
use Rattle.operator_changes.specs.Footprint.{passes}
use Rattle.sought_ids.specs.Seeking.{IsMappedPair}
use Rattle.version_model.specs.Put.{put}
use Rattle.version_model.specs.States.{IsWell, State}
use Rattle.version_model.specs.Steps.{after, directed, mapped, pair_in, run}
use Rattle.version_model.proofs.PutLaws.{AsMany, put_apart, put_here}
use Rattle.version_model.proofs.RunLaws.{IsReady, after_rises, after_well, may_cross, run_leaves, run_rises, way_laws}

-- the pair of a crossing at the end is what was mapped of it, while some identifier was the next
pub record IsCrossedAt {O : Type 0} (meaning : O → Meaning) (heading : ℕ → Heading) (old end : State) (p : Crossing O) : Type 0 where
  pub next : ℕ
  pub up : old.next ≤ next
  pub less : next ≤ end.next
  pub may : MayMap (directed p.backward (meaning p.operator)) (map heading p.near) (map heading p.far) (map end.tables p.near) (pair_in old p) next
  pub is : pair_in end p ≡ pair_after (directed p.backward (meaning p.operator)) (map end.tables p.near) (pair_in old p) next

module _ {O : Type 0} (meaning : O → Meaning) (laws : (o : O) → Laws (meaning o)) (heading : ℕ → Heading) (old : State) (sound : IsWell heading old) where
  as_many : (ks : List ℕ) (ts : Tables) → AreTablesOf (map heading ks) ts → AsMany ks ts
  as_many [] [] h = tt
  as_many [] (t ∷ ts) h = absurd h
  as_many (k ∷ ks) [] h = absurd h
  as_many (k ∷ ks) (t ∷ ts) h = as_many ks ts h.1

  -- right behind it
  pair_is : (now : State) (p : Crossing O) → IsWell heading now → old.next ≤ now.next → IsReady meaning heading old p → Distinct p.far → Apart p.near p.far
      → pair_in (after meaning old now p) p ≡ pair_after (directed p.backward (meaning p.operator)) (map now.tables p.near) (pair_in old p) now.next
  pair_is now p well more m distinct apart =
      let to = mapped meaning old now p in
      let new = (way_laws p.backward (meaning p.operator) (laws p.operator)).kept (map heading p.near) (map heading p.far) (map now.tables p.near) (pair_in old p) now.next (may_cross meaning laws heading old sound now p well more m) in
      let near : map (put now.tables p.far to.far) p.near ≡ map now.tables p.near = put_apart now.tables p.far to.far p.near apart in
      let far : map (put now.tables p.far to.far) p.far ≡ to.far = put_here now.tables p.far to.far distinct (as_many p.far to.far new.target_of) in
      let memory : map (put now.memory (p.number ∷ []) (to.memory ∷ [])) (p.number ∷ []) ≡ to.memory ∷ [] = put_here now.memory (p.number ∷ []) (to.memory ∷ []) (λ i. i, tt) tt in
      cc

  -- EACH CROSSING OF A RUN IS MAPPED
  pub run_crossed : (ps : List (Crossing O)) (a : State) → IsWell heading a → old.next ≤ a.next → Each (IsReady meaning heading old) ps → Ordered ps → Each (IsCrossedAt meaning heading old (run meaning old a ps)) ps
  run_crossed [] a well more ready order = tt
  run_crossed (p ∷ ps) a well more ready order =
      let m = directed p.backward (meaning p.operator) in
      let behind = after meaning old a p in
      let end = run meaning old behind ps in
      let may = may_cross meaning laws heading old sound a p well more ready.0 in
      let rise = after_rises meaning laws heading old sound a p well more ready.0 in
      let well_behind = after_well meaning laws heading old sound a p well more ready.0 in
      let more_behind : old.next ≤ behind.next = omega (arith, more, rise) in
      let rest = run_rises meaning laws heading old sound ps behind well_behind more_behind ready.1 in
      let leaves : pair_in end p ≡ pair_in behind p = run_leaves meaning old ps behind p order.2 in
      let near : map end.tables p.near ≡ map a.tables p.near = ap (λ (x : PairState). x.source) leaves ∙ put_apart a.tables p.far (mapped meaning old a p).far p.near order.1 in (
        record {
          next = a.next;
          up = more;
          less = omega (arith, rise, rest);
          may = subst (λ (ts : Tables). MayMap m (map heading p.near) (map heading p.far) ts (pair_in old p) a.next) (sym near) may;
          is = leaves ∙ pair_is a p well more ready.0 order.0 order.1 ∙ ap (λ (ts : Tables). pair_after m ts (pair_in old p) a.next) (sym near);
        },
        run_crossed ps behind well_behind more_behind ready.1 order.3,
      )

-- so the pair of an operator is mapped, by the changes of the near tables of its crossing
pub mapped_by : {O : Type 0} (meaning : O → Meaning) (heading : ℕ → Heading) (s end : State) (e : Link O) (back : Bool) (changes : TableChanges) (seen : List ℕ) (crossed : IsCrossedAt meaning heading s end (crossing back e))
    → map end.tables (crossing back e).near ≡ changed_tables (map s.tables (crossing back e).near) changes → AreChangesOf (map s.tables (crossing back e).near) changes → passes seen crossed.next ≡ passes seen end.next
    → IsMappedPair (meaning e.operator) back changes (pair_in s (crossing false e)) (pair_in end (crossing false e)) end.next seen
mapped_by meaning heading s end e true changes seen crossed makes fit same = record {
  next = crossed.next;
  may = record { hs = map heading e.targets; ht = map heading e.sources; fit = fit; may = subst (λ (ts : Tables). MayMap (flip (meaning e.operator)) (map heading e.targets) (map heading e.sources) ts (pair_in s (crossing true e)) crossed.next) makes crossed.may };
  is = crossed.is ∙ ap (λ (ts : Tables). pair_after (flip (meaning e.operator)) ts (pair_in s (crossing true e)) crossed.next) makes;
  same = same;
}
mapped_by meaning heading s end e false changes seen crossed makes fit same = record {
  next = crossed.next;
  may = record { hs = map heading e.sources; ht = map heading e.targets; fit = fit; may = subst (λ (ts : Tables). MayMap (meaning e.operator) (map heading e.sources) (map heading e.targets) ts (pair_in s (crossing false e)) crossed.next) makes crossed.may };
  is = crossed.is ∙ ap (λ (ts : Tables). pair_after (meaning e.operator) ts (pair_in s (crossing false e)) crossed.next) makes;
  same = same;
}
