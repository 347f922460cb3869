-- Operators that are built one after the other suit a graph.
use Rattle.std.proofs.Common.{◌≡◌, ◌≤◌, ℕ, suc, ◌+◌, ◌<◌, List, [], ◌∷◌, length, map, true, false, cond, Option, Some, None, Ok, inl, inr, refl, sym, ap, subst, ◌∙◌, arith}
use Rattle.std.specs.Prelude.{◌==◌, option_to_list}
use Rattle.std.specs.Option.{option_map_or}
use Rattle.std.proofs.lemmas.Bool.{cond-true, eq-eqb}
use Rattle.std.proofs.lemmas.List.{map-append}
use Rattle.statements.specs.Views.{OpView}
use Rattle.version_graph.specs.Sets.{Each, In, Within}
use Rattle.version_graph.specs.Tables.{FitsSet, IsHeading, TableVersion, headings_after, headings_of, headings_passing, table_named, table_numbers, taken}
use Rattle.version_graph.specs.Edges.{AreEdges, Follows, made, made_by_edge, numbers, set_after, working}
use Rattle.version_graph.specs.Evolve.{grown, numbers_after, placed_next, targets_in}
use Rattle.version_graph.specs.declared.parts.Heading.{Heading}
use Rattle.version_graph.specs.declared.parts.Edge.{Edge}
use Rattle.version_graph.specs.declared.parts.Placed.{Placed}
use Rattle.version_graph.proofs.GrowLaws.{length_after, rises_after, top_after}
use Rattle.version_graph.proofs.SetLaws.{each_append, each_at, each_more, each_of, in_append, in_left}
use Rattle.version_graph.proofs.TableLaws.{headings_made, headings_next, in_filter, numbers_made, rises_above, working_made}
use Rattle.version_graph.proofs.TakenLaws.{found_passes, heading_known}
use Rattle.version_model.specs.States.{as_seen, headings}
use Rattle.version_model.specs.Evolving.{AreBuilt}
use Rattle.version_model.proofs.HeadingLaws.{made_more}
use Rattle.op_law.specs.Tables.{Heading as SeenHeading}
use Rattle.op_any.specs.Build.{built}
use Rattle.op_any.specs.Operators.{AnyView, any_meaning}
use Rattle.op_build.specs.Laws.{headings_taken}
use Rattle.op_any.specs.Texts.{TextsFit}
use Rattle.op_build.proofs.BuiltLaws.{built_suits}
use Rattle.op_build.proofs.TableListsLaws.{headings_taken-of}
use Rattle.engine_sessions.specs.Counts.{Counts}
use Rattle.engine_sessions.specs.Evolve.{edges_on, room_for, target_count, with_one}
use Rattle.engine_sessions.proofs.ChainLaws.{both_give, ok_is}

-- ---- headings

headings_stay : {O : Type 0} (set : List Heading) (e : Edge O) → Each IsHeading set → FitsSet set e → Each IsHeading (headings_after set e)
headings_stay set e all fits =
    each_append IsHeading (headings_passing set e.sources) e.targets
    (each_of IsHeading (headings_passing set e.sources) (λ h i. each_at IsHeading set h (in_filter _ h set i) all)) fits.columns

-- each table of a graph has a heading as tables may have them
headings_well : {O : Type 0} (es : List (Placed O)) → AreEdges es → (w : ℕ) → Each IsHeading (headings_of (working es w))
headings_well [] edges w = tt
headings_well (e ∷ es) edges w =
    elim (w == e.number) as (λ b. Each IsHeading (headings_of (cond b (set_after (working es e.parent) e) (working es w)))) [
      | true ↦ subst (λ hs. Each IsHeading hs) (sym (headings_next (working es e.parent) e edges.0.counted))
          (headings_stay (headings_of (working es e.parent)) e.edge (headings_well es edges.1 e.parent) edges.0.fits)
      | false ↦ headings_well es edges.1 w
    ]

-- the tables that are taken from a set are in it
taken_within : (set : List TableVersion) (names : List (List ℕ)) → Within (taken set names) set
taken_within set [] v i = absurd i
taken_within set (name ∷ names) v i =
    elim (in_append v (option_to_list (table_named set name)) (taken set names) i) as (λ _. In v set) [
      | inl here ↦ one (table_named set name) refl here
      | inr there ↦ taken_within set names v there
    ]
  where
    one : (o : Option TableVersion) → table_named set name ≡ o → In v (option_to_list o) → In v set
    one None e j = absurd j
    one (Some u) e (inl same) = subst (λ x. In x set) (sym same) (found_passes _ set u e).0
    one (Some u) e (inr none) = absurd none

-- tables by their numbers have the headings that they were made with
seen_as : {O : Type 0} (es : List (Placed O)) → AreEdges es → (set : List TableVersion) → Within set (made es) → map (headings es) (table_numbers set) ≡ map as_seen (headings_of set)
seen_as es edges [] within = refl
seen_as es edges (v ∷ set) within =
    let none : SeenHeading = record { name = []; columns = [] } in
    let first : headings es v.number ≡ as_seen v.heading = ap (λ (o : Option Heading). option_map_or as_seen o none) (heading_known es edges v (within v (inl refl))) in
    let rest = seen_as es edges set (λ u i. within u (inr i)) in
    ap (λ (h : SeenHeading). h ∷ map (headings es) (table_numbers set)) first ∙ ap (λ (hs : List SeenHeading). as_seen v.heading ∷ hs) rest

-- ---- one operator more

-- edges that have no greater numbers than these, and a working set of them
pub record MayAdd (es : List (Placed AnyView)) (w o t : ℕ) : Type 0 where
  pub edges : AreEdges es
  pub live : In w (0 ∷ numbers es)
  pub operators : Each (λ n. n ≤ o) (numbers es)
  pub tables : Each (λ k. k ≤ t) (table_numbers (made es))

module _ (es : List (Placed AnyView)) (w o t : ℕ) (e : Edge AnyView) (may : MayAdd es w o t) (fits : FitsSet (headings_of (working es w)) e) where
  abbrev new : Placed AnyView
  new = placed_next w o t e

  follows : Follows es new
  follows = record {
    newest = λ n i. elim i as (λ _. n < o + 1) [ inl z ↦ omega arith | inr j ↦ let le = each_at (λ k. k ≤ o) (numbers es) n j may.operators in omega arith ];
    placed = may.live;
    fits = fits;
    counted = length_after t e.targets;
    rising = rises_after 0 t e.targets (omega arith);
    above = λ n k i j. let le = each_at (λ m. m ≤ t) (table_numbers (made es)) n i may.tables in let less = rises_above t (numbers_after t e.targets) (rises_after t t e.targets (omega arith)) k j in omega arith;
  }

  made_is : table_numbers (made_by_edge new) ≡ numbers_after t e.targets
  made_is = numbers_made (numbers_after t e.targets) e.targets (length_after t e.targets)

  add_next : MayAdd (new ∷ es) (o + 1) (o + 1) (t + length e.targets)
  add_next = record {
    edges = (follows, may.edges);
    live = inr (inl refl);
    operators = (omega arith, each_more (λ n. n ≤ o) (λ n. n ≤ o + 1) (λ n h. omega arith) (numbers es) may.operators);
    tables = subst (λ (l : List ℕ). Each (λ k. k ≤ t + length e.targets) l) (sym (map-append (λ (v : TableVersion). v.number) (made_by_edge new) (made es)))
        (each_append (λ k. k ≤ t + length e.targets) (table_numbers (made_by_edge new)) (table_numbers (made es))
        (subst (λ (l : List ℕ). Each (λ k. k ≤ t + length e.targets) l) (sym made_is) (top_after t e.targets))
        (each_more (λ k. k ≤ t) (λ k. k ≤ t + length e.targets) (λ k h. omega arith) (table_numbers (made es)) may.tables));
  }

  sources_seen : map (headings (new ∷ es)) (table_numbers (taken (working es w) e.sources)) ≡ map as_seen (headings_taken (headings_of (working es w)) e.sources)
  sources_seen =
      seen_as (new ∷ es) add_next.edges (taken (working es w) e.sources) (λ v i. made_more new es v (working_made es w v (taken_within (working es w) e.sources v i)))
      ∙ ap (λ (hs : List Heading). map as_seen hs) (sym (headings_taken-of (working es w) e.sources))

  targets_seen : map (headings (new ∷ es)) new.tables ≡ map as_seen e.targets
  targets_seen =
      ap (λ (ts : List ℕ). map (headings (new ∷ es)) ts) (sym (numbers_made new.tables e.targets (length_after t e.targets)))
      ∙ seen_as (new ∷ es) add_next.edges (made_by_edge new) (λ v i. in_left v (made_by_edge new) (made es) i)
      ∙ ap (λ (hs : List Heading). map as_seen hs) (headings_made new.tables e.targets (length_after t e.targets))

  -- it is built for its tables as the graph has them
  fits_seen : (any_meaning e.operator).Fits (map as_seen (headings_taken (headings_of (working es w)) e.sources)) (map as_seen e.targets)
      → (any_meaning e.operator).Fits (map (headings (new ∷ es)) (table_numbers (taken (working es w) e.sources))) (map (headings (new ∷ es)) new.tables)
  fits_seen is =
      let sources = subst (λ hs. (any_meaning e.operator).Fits hs (map as_seen e.targets)) (sym sources_seen) is in
      subst (λ hs. (any_meaning e.operator).Fits (map (headings (new ∷ es)) (table_numbers (taken (working es w) e.sources))) hs) (sym targets_seen) sources

  -- the tables that it leaves
  headings_then : headings_of (working (new ∷ es) (o + 1)) ≡ headings_after (headings_of (working es w)) e
  headings_then =
      ap (λ (s : List TableVersion). headings_of s) (cond-true ((o + 1) == (o + 1)) (set_after (working es w) new) (working es (o + 1)) (eq-eqb (o + 1) (o + 1) refl))
      ∙ headings_next (working es w) new (length_after t e.targets)

-- ---- all of them

-- the first operator builds an edge, and the others build theirs behind it
record Splits (set : List Heading) (counts : Counts) (next : ℕ) (text : OpView) (texts : List OpView) (edges : List (Edge AnyView)) : Type 0 where
  pub edge : Edge AnyView
  pub rest : List (Edge AnyView)
  pub are : edges ≡ edge ∷ rest
  pub built : built set next text ≡ Ok edge
  pub others : edges_on (headings_after set edge) (with_one counts (target_count text)) next texts ≡ Ok rest

splits : (set : List Heading) (counts : Counts) (next : ℕ) (text : OpView) (texts : List OpView) (edges : List (Edge AnyView)) → edges_on set counts next (text ∷ texts) ≡ Ok edges → Splits set counts next text texts edges
unfolding edges_on
splits set counts next text texts edges h =
    let a = both_give (room_for counts text) _ edges h in
    let b = both_give (built set next text) _ edges a.2 in
    let c = both_give (edges_on (headings_after set b.0) (with_one counts (target_count text)) next texts) _ edges b.2 in
    record { edge = b.0; rest = c.0; are = sym (ok_is (b.0 ∷ c.0) edges c.2); built = b.1; others = c.1 }

none_built : (set : List Heading) (counts : Counts) (next : ℕ) (edges : List (Edge AnyView)) → edges_on set counts next [] ≡ Ok edges → edges ≡ []
unfolding edges_on
none_built set counts next edges h = sym (ok_is [] edges h)

-- what is there then
pub record Grows (es : List (Placed AnyView)) (w o t next : ℕ) (edges : List (Edge AnyView)) : Type 0 where
  pub all : AreEdges (grown es w o t edges)
  pub operators : Each (λ n. n ≤ o + length edges) (numbers (grown es w o t edges))
  pub tables : Each (λ k. k ≤ t + targets_in edges) (table_numbers (made (grown es w o t edges)))
  pub built : AreBuilt any_meaning es w o t edges next

none_grows : (es : List (Placed AnyView)) (w o t next : ℕ) → MayAdd es w o t → Grows es w o t next []
none_grows es w o t next may = record {
  all = may.edges;
  operators = each_more (λ n. n ≤ o) (λ n. n ≤ o + 0) (λ n h. omega arith) (numbers es) may.operators;
  tables = each_more (λ k. k ≤ t) (λ k. k ≤ t + 0) (λ k h. omega arith) (table_numbers (made es)) may.tables;
  built = tt;
}

more_grows : (es : List (Placed AnyView)) (w o t next : ℕ) (e : Edge AnyView) (rest : List (Edge AnyView)) → MayAdd es w o t → (fits : FitsSet (headings_of (working es w)) e)
    → (any_meaning e.operator).Fits (map as_seen (headings_taken (headings_of (working es w)) e.sources)) (map as_seen e.targets) → (any_meaning e.operator).Closed next
    → Grows (placed_next w o t e ∷ es) (o + 1) (o + 1) (t + length e.targets) next rest → Grows es w o t next (e ∷ rest)
more_grows es w o t next e rest may fits seen closed more =
    let all = grown (placed_next w o t e ∷ es) (o + 1) (o + 1) (t + length e.targets) rest in
    let many : o + 1 + length rest ≡ o + suc (length rest) = omega arith in
    let sum : t + length e.targets + targets_in rest ≡ t + (length e.targets + targets_in rest) = omega arith in
    record {
      all = more.all;
      operators = subst (λ (m : ℕ). Each (λ n. n ≤ m) (numbers all)) many more.operators;
      tables = subst (λ (m : ℕ). Each (λ k. k ≤ m) (table_numbers (made all))) sum more.tables;
      built = (fits_seen es w o t e may fits seen, closed, more.built);
    }

pub grows : (es : List (Placed AnyView)) (w o t next : ℕ) (counts : Counts) (texts : List OpView) (edges : List (Edge AnyView)) → edges_on (headings_of (working es w)) counts next texts ≡ Ok edges
    → MayAdd es w o t → Each TextsFit texts → Grows es w o t next edges
grows es w o t next counts [] edges h may fit = subst (Grows es w o t next) (sym (none_built (headings_of (working es w)) counts next edges h)) (none_grows es w o t next may)
grows es w o t next counts (text ∷ texts) edges h may fit =
    let set = headings_of (working es w) in
    let s = splits set counts next text texts edges h in
    let here = built_suits set next text s.edge s.built in
    let well = headings_well es may.edges w in
    let fits = here.set_fits well in
    let more = with_one counts (target_count text) in
    let then_on : edges_on (headings_of (working (placed_next w o t s.edge ∷ es) (o + 1))) more next texts ≡ Ok s.rest =
    subst (λ hs. edges_on hs more next texts ≡ Ok s.rest) (sym (headings_then es w o t s.edge may fits)) s.others in
    let rest = grows (placed_next w o t s.edge ∷ es) (o + 1) (o + 1) (t + length s.edge.targets) next more texts s.rest then_on (add_next es w o t s.edge may fits) fit.1 in
    subst (Grows es w o t next) (sym s.are) (more_grows es w o t next s.edge s.rest may fits (here.fits well) (here.closed fit.0) rest)

-- there are edges where there are texts
pub some_grow : (set : List Heading) (counts : Counts) (next : ℕ) (texts : List OpView) (edges : List (Edge AnyView)) → 0 < length texts → edges_on set counts next texts ≡ Ok edges → 0 < length edges
some_grow set counts next [] edges some h = absurd (omega (arith, some))
some_grow set counts next (text ∷ texts) edges some h = let s = splits set counts next text texts edges h in rw s.are (omega arith)
