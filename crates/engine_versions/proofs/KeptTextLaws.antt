-- What a new version and a drop make of the texts that operators keep.
use Rattle.std.proofs.Common.{◌≡◌, ℕ, ◌+◌, ◌<◌, List, [], ◌∷◌, length, true, false, cond, Option, Result, Ok, Err, sym, ap, subst}
use Rattle.par_base.specs.declared.fault.Fault.{Fault}
use Rattle.par_base.specs.declared.fault.Fault.TheVariants.{Refused, Memory}
use Rattle.par_base.specs.declared.refusal.Refusal.{Refusal}
use Rattle.statements.specs.Views.{OpView}
use Rattle.version_graph.specs.Sets.{Each}
use Rattle.version_graph.specs.Tables.{headings_of}
use Rattle.version_graph.specs.Edges.{IsGraph, is_in, set_named, version_sets, working}
use Rattle.version_graph.specs.Evolve.{grown, placed_next}
use Rattle.version_graph.specs.Dropped.{other_versions, staying}
use Rattle.version_graph.specs.declared.parts.Heading.{Heading}
use Rattle.version_graph.specs.declared.parts.Edge.{Edge}
use Rattle.version_graph.specs.declared.parts.Placed.{Placed}
use Rattle.op_any.specs.Operators.{AnyView, any_meaning}
use Rattle.op_any.specs.Build.{built, planned_edge, with_text}
use Rattle.op_any.specs.BuiltOn.{AreBuiltOn, IsBuiltOn}
use Rattle.op_any.specs.Texts.{TextsFit}
use Rattle.version_model.specs.Sound.{IsSound}
use Rattle.version_model.specs.Databases.{Evolves, dropped_database}
use Rattle.db_state.specs.declared.parts.Parts.{Parts}
use Rattle.migration.specs.MoveAnswers.{Drops}
use Rattle.engine_state.specs.AnyDatabase.{AnyDatabase}
use Rattle.engine_state.specs.SharedChecks.{enough_ids, known_version}
use Rattle.engine_versions.specs.declared.edges.Counts.{Counts}
use Rattle.engine_versions.specs.Evolve.{counts_of, created, dropped_version, edges_on, start_at, state_after, target_count, unused, with_one}
use Rattle.engine_versions.specs.KeptTexts.{texts_of}
use Rattle.engine_versions.specs.Plans.{IsPlanned}
use Rattle.engine_versions.proofs.ChainLaws.{both_give, ok_is}
use Rattle.engine_versions.proofs.EdgeLemmas.{none_built, splits}
use Rattle.engine_versions.proofs.BuiltLemmas.{headings_then}
use Rattle.engine_versions.proofs.CreateLemmas.{Passes, next_rises}
use Rattle.engine_versions.proofs.BuiltOnLaws.{built_above, built_stays}

-- ---- an evolution

-- what is built keeps its text
text_kept : (set : List Heading) (next : ℕ) (text : OpView) (e : Edge AnyView) → built set next text ≡ Ok e → e.operator.text ≡ text
text_kept set next text e h =
    let a = both_give (planned_edge set next text) (λ p. Ok (with_text text p)) e h in
    ap (λ (x : Edge AnyView). x.operator.text) (sym (ok_is (with_text text a.0) e a.2))

-- AN EVOLUTION KEEPS EACH OPERATOR BUILT, AND BUILDS THE NEW ONES
pub built_grown : (next : ℕ) (es : List (Placed AnyView)) (w operator table : ℕ) (counts : Counts) (texts : List OpView) (edges : List (Edge AnyView))
    → edges_on (headings_of (working es w)) counts next texts ≡ Ok edges → Each TextsFit texts → AreBuiltOn next es → AreBuiltOn next (grown es w operator table edges)
built_grown next es w operator table counts [] edges h fit are = rw (none_built (headings_of (working es w)) counts next edges h) are
built_grown next es w operator table counts (text ∷ texts) edges h fit are =
    let set = headings_of (working es w) in
    let s = splits set counts next text texts edges h in
    let new : Placed AnyView = placed_next w operator table s.edge in
    let more = with_one counts (target_count text) in
    let same = text_kept set next text s.edge s.built in
    let here : IsBuiltOn next es w s.edge = record {
      texts = subst (λ (t : OpView). TextsFit t) (sym same) fit.0;
      built = subst (λ (t : OpView). built set next t ≡ Ok s.edge) (sym same) s.built;
    } in
    let then_on : edges_on (headings_of (working (new ∷ es) (operator + 1))) more next texts ≡ Ok s.rest =
    subst (λ hs. edges_on hs more next texts ≡ Ok s.rest) (sym (headings_then es w operator table s.edge)) s.others in
    rw s.are (built_grown next (new ∷ es) (operator + 1) (operator + 1) (table + length s.edge.targets) more texts s.rest then_on fit.1 (here, are))

-- the texts that are kept then are those before, and those of the new operators
texts_grown : (P : OpView → Type 0) (next : ℕ) (es : List (Placed AnyView)) (w operator table : ℕ) (set : List Heading) (counts : Counts) (texts : List OpView) (edges : List (Edge AnyView))
    → edges_on set counts next texts ≡ Ok edges → Each P texts → Each P (texts_of es) → Each P (texts_of (grown es w operator table edges))
texts_grown P next es w operator table set counts [] edges h told kept = rw (none_built set counts next edges h) kept
texts_grown P next es w operator table set counts (text ∷ texts) edges h told kept =
    let s = splits set counts next text texts edges h in
    let new : Placed AnyView = placed_next w operator table s.edge in
    let here : P s.edge.operator.text = subst P (sym (text_kept set next text s.edge s.built)) told.0 in
    rw s.are (texts_grown P next (new ∷ es) (operator + 1) (operator + 1) (table + length s.edge.targets) _ (with_one counts (target_count text)) texts s.rest s.others told.1 (here, kept))

-- ---- a new version

-- the working set from which it starts, its edges, and the database with it
pub record IsMade (d : AnyDatabase) (name : List ℕ) (from : Option (List ℕ)) (texts : List OpView) (new : AnyDatabase) : Type 0 where
  pub set : ℕ
  pub edges : List (Edge AnyView)
  pub passes : Passes d.graph d.state.next name from texts set edges
  pub is : new ≡ state_after d name set edges

pub made_of : (d : AnyDatabase) (name : List ℕ) (from : Option (List ℕ)) (texts : List OpView) (new : AnyDatabase) → created d name from texts ≡ Ok new → IsMade d name from texts new
made_of d name from texts new h =
    let a = both_give (start_at d.graph.versions from) _ new h in
    let b = both_give (unused name (set_named d.graph.versions name)) _ new a.2 in
    let c = both_give (edges_on (headings_of (working d.graph.edges a.0)) (counts_of d.graph) d.state.next texts) _ new b.2 in
    let e = both_give (enough_ids d (state_after d name a.0 c.0).state.next) _ new c.2 in
    record {
      set = a.0;
      edges = c.0;
      passes = record { start = a.1; free = b.1; built = c.1 };
      is = sym (ok_is (state_after d name a.0 c.0) new e.2);
    }

-- its operators' texts are those before, and those told
pub created_texts : (P : OpView → Type 0) (d : AnyDatabase) (name : List ℕ) (from : Option (List ℕ)) (texts : List OpView) (new : AnyDatabase) → created d name from texts ≡ Ok new
    → Each P texts → Each P (texts_of d.graph.edges) → Each P (texts_of new.graph.edges)
created_texts P d name from texts new h told kept =
    let m = made_of d name from texts new h in
    subst (λ (x : AnyDatabase). Each P (texts_of x.graph.edges)) (sym m.is)
    (texts_grown P d.state.next d.graph.edges m.set d.graph.last_operator d.graph.last_table (headings_of (working d.graph.edges m.set)) (counts_of d.graph) texts m.edges m.passes.built told kept)

pub created_limit : (d : AnyDatabase) (name : List ℕ) (from : Option (List ℕ)) (texts : List OpView) (new : AnyDatabase) → created d name from texts ≡ Ok new → new.limit ≡ d.limit
created_limit d name from texts new h = ap (λ (x : AnyDatabase). x.limit) (made_of d name from texts new h).is

-- each operator is built from its text
pub created_built : (d : AnyDatabase) (name : List ℕ) (from : Option (List ℕ)) (texts : List OpView) (new : AnyDatabase) → IsGraph d.graph → IsSound any_meaning d.graph.edges d.state
    → 0 < length texts → Each TextsFit texts → created d name from texts ≡ Ok new → AreBuiltOn d.state.next d.graph.edges → AreBuiltOn new.state.next new.graph.edges
created_built d name from texts new graph sound some fit h are =
    let m = made_of d name from texts new h in
    let after = state_after d name m.set m.edges in
    let up = next_rises d name from texts m.set m.edges graph m.passes some fit sound in
    let here = built_grown d.state.next d.graph.edges m.set d.graph.last_operator d.graph.last_table (counts_of d.graph) texts m.edges m.passes.built fit are in
    subst (λ (x : AnyDatabase). AreBuiltOn x.state.next x.graph.edges) (sym m.is) (built_above d.state.next after.state.next up after.graph.edges here)

-- so it is after an evolution that was planned, or an error
pub planned_built : (d : AnyDatabase) (name : List ℕ) (from : Option (List ℕ)) (texts : List OpView) (edges : List (Edge AnyView)) (new : AnyDatabase) (r : Result (Unit {0}) (Fault Refusal))
    → IsGraph d.graph → IsSound any_meaning d.graph.edges d.state → 0 < length texts → Each TextsFit texts → IsPlanned d name from texts edges → Evolves any_meaning d name from edges r new
    → AreBuiltOn d.state.next d.graph.edges → AreBuiltOn new.state.next new.graph.edges
planned_built d name from texts edges new (Ok done) graph sound some fit planned evolves are =
    created_built d name from texts new graph sound some fit (planned.gives (Ok done) new evolves) are
planned_built d name from texts edges new (Err (Refused told)) graph sound some fit planned evolves are =
    subst (λ (x : AnyDatabase). AreBuiltOn x.state.next x.graph.edges) (sym evolves.1) are
planned_built d name from texts edges new (Err (Memory memory)) graph sound some fit planned evolves are =
    subst (λ (x : AnyDatabase). AreBuiltOn x.state.next x.graph.edges) (sym evolves) are

-- ---- a drop

pub dropped_is : (d : AnyDatabase) (name : List ℕ) (new : AnyDatabase) → dropped_version d name ≡ Ok new → new ≡ dropped_database d name
dropped_is d name new h =
    let a = both_give (known_version name (set_named d.graph.versions name)) _ new h in
    sym (ok_is (dropped_database d name) new a.2)

texts_stay : (P : OpView → Type 0) (es : List (Placed AnyView)) (needed : List ℕ) → Each P (texts_of es) → Each P (texts_of (staying needed es))
texts_stay P [] needed kept = tt
texts_stay P (e ∷ es) needed kept =
    elim (is_in e.number needed) as (λ c. Each P (texts_of (cond c (e ∷ staying (e.parent ∷ needed) es) (staying needed es)))) [
      | true ↦ (kept.0, texts_stay P es (e.parent ∷ needed) kept.1)
      | false ↦ texts_stay P es needed kept.1
    ]

-- the texts are among those before
pub dropped_texts : (P : OpView → Type 0) (d : AnyDatabase) (name : List ℕ) (new : AnyDatabase) → dropped_version d name ≡ Ok new → Each P (texts_of d.graph.edges) → Each P (texts_of new.graph.edges)
dropped_texts P d name new h kept =
    subst (λ (x : AnyDatabase). Each P (texts_of x.graph.edges)) (sym (dropped_is d name new h)) (texts_stay P d.graph.edges (version_sets (other_versions d.graph.versions name)) kept)

-- each operator that stays is built from its text
pub dropped_built : (p n : Parts AnyView) (name : List ℕ) (r : Result (Unit {0}) (Fault Refusal)) → Drops any_meaning p name r n → AreBuiltOn p.ids.next p.graph.edges → AreBuiltOn n.ids.next n.graph.edges
dropped_built p n name (Ok done) drops are =
    subst (λ (x : AnyDatabase). AreBuiltOn x.state.next x.graph.edges) (sym drops.1) (built_stays p.ids.next p.graph.edges (version_sets (other_versions p.graph.versions name)) are)
dropped_built p n name (Err (Refused told)) drops are = subst (λ (x : Parts AnyView). AreBuiltOn x.ids.next x.graph.edges) (sym drops.2) are
dropped_built p n name (Err (Memory memory)) drops are = subst (λ (x : Parts AnyView). AreBuiltOn x.ids.next x.graph.edges) (sym drops) are
