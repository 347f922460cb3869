-- Each operator of an evolution is built for its sources and targets.
use Rattle.std.proofs.Common.{◌≡◌, ℕ, ◌+◌, List, [], ◌∷◌, length, map, Ok, refl, sym, ap, subst, ◌∙◌}
use Rattle.std.specs.Prelude.{◌==◌}
use Rattle.std.proofs.lemmas.Bool.{cond-true, eq-eqb}
use Rattle.statements.specs.Views.{OpView}
use Rattle.version_graph.specs.Sets.{Each}
use Rattle.version_graph.specs.Tables.{TableVersion, headings_after, headings_of, table_numbers, taken}
use Rattle.version_graph.specs.Edges.{made, made_by_edge, set_after, working}
use Rattle.version_graph.specs.Evolve.{placed_next}
use Rattle.version_graph.specs.Calls.{CanGrow}
use Rattle.version_graph.specs.declared.parts.Heading.{Heading}
use Rattle.version_graph.specs.declared.parts.Edge.{Edge}
use Rattle.version_graph.specs.declared.parts.Placed.{Placed}
use Rattle.version_graph.proofs.SetLaws.{in_left}
use Rattle.version_graph.proofs.TableLaws.{headings_made, headings_next, numbers_made, working_made}
use Rattle.version_graph.proofs.GrowLaws.{can_next, length_after}
use Rattle.version_graph.proofs.HeadingLaws.{headings_well, taken_within}
use Rattle.version_model.specs.States.{as_seen, headings}
use Rattle.version_model.specs.Evolving.{AreBuilt}
use Rattle.version_model.proofs.HeadingLaws.{made_more, seen_as}
use Rattle.op_any.specs.Operators.{AnyView, any_meaning}
use Rattle.op_build.specs.Laws.{headings_taken}
use Rattle.op_any.specs.Texts.{TextsFit}
use Rattle.op_build.proofs.BuiltLaws.{built_suits}
use Rattle.op_build.proofs.TableListsLaws.{headings_taken-of}
use Rattle.engine_versions.specs.declared.edges.Counts.{Counts}
use Rattle.engine_versions.specs.Evolve.{edges_on, target_count, with_one}
use Rattle.engine_versions.proofs.EdgeLemmas.{none_built, splits}

module _ (es : List (Placed AnyView)) (w operator table : ℕ) (e : Edge AnyView) (rest : List (Edge AnyView)) (can : CanGrow es w operator table (e ∷ rest)) where
  abbrev new : Placed AnyView
  new = placed_next w operator table e

  after : CanGrow (new ∷ es) (operator + 1) (operator + 1) (table + length e.targets) rest
  after = can_next es w operator table e rest can

  counted : length new.tables ≡ length e.targets
  counted = length_after table e.targets

  sources_seen : map (headings (new ∷ es)) (table_numbers (taken (working es w) e.sources)) ≡ map as_seen (headings_taken (headings_of (working es w)) e.sources)
  sources_seen =
      seen_as (new ∷ es) after.edges (taken (working es w) e.sources) (λ v i. made_more new es v (working_made es w v (taken_within (working es w) e.sources v i)))
      ∙ ap (λ (hs : List Heading). map as_seen hs) (sym (headings_taken-of (working es w) e.sources))

  targets_seen : map (headings (new ∷ es)) new.tables ≡ map as_seen e.targets
  targets_seen =
      ap (λ (ts : List ℕ). map (headings (new ∷ es)) ts) (sym (numbers_made new.tables e.targets counted))
      ∙ seen_as (new ∷ es) after.edges (made_by_edge new) (λ v i. in_left v (made_by_edge new) (made es) i)
      ∙ ap (λ (hs : List Heading). map as_seen hs) (headings_made new.tables e.targets counted)

  -- it is built for its tables as the graph has them
  pub fits_seen : (any_meaning e.operator).Fits (map as_seen (headings_taken (headings_of (working es w)) e.sources)) (map as_seen e.targets)
      → (any_meaning e.operator).Fits (map (headings (new ∷ es)) (table_numbers (taken (working es w) e.sources))) (map (headings (new ∷ es)) new.tables)
  fits_seen fits =
      let sources = subst (λ hs. (any_meaning e.operator).Fits hs (map as_seen e.targets)) (sym sources_seen) fits in
      subst (λ hs. (any_meaning e.operator).Fits (map (headings (new ∷ es)) (table_numbers (taken (working es w) e.sources))) hs) (sym targets_seen) sources

-- the tables that the next edge leaves
pub headings_then : (es : List (Placed AnyView)) (w operator table : ℕ) (e : Edge AnyView) → headings_of (working (placed_next w operator table e ∷ es) (operator + 1)) ≡ headings_after (headings_of (working es w)) e
headings_then es w operator table e =
    let new : Placed AnyView = placed_next w operator table e in
    ap (λ (s : List TableVersion). headings_of s) (cond-true ((operator + 1) == (operator + 1)) (set_after (working es w) new) (working es (operator + 1)) (eq-eqb (operator + 1) (operator + 1) refl))
    ∙ headings_next (working es w) new (length_after table e.targets)

pub are_built : (es : List (Placed AnyView)) (w operator table next : ℕ) (counts : Counts) (texts : List OpView) (edges : List (Edge AnyView))
    → edges_on (headings_of (working es w)) counts next texts ≡ Ok edges → CanGrow es w operator table edges → Each TextsFit texts
    → AreBuilt any_meaning es w operator table edges next
are_built es w operator table next counts [] edges h can fit = rw (none_built (headings_of (working es w)) counts next edges h) tt
are_built es w operator table next counts (text ∷ texts) edges h can fit =
    let set = headings_of (working es w) in
    let s = splits set counts next text texts edges h in
    let here = built_suits set next text s.edge s.built in
    let can_both : CanGrow es w operator table (s.edge ∷ s.rest) = subst (λ l. CanGrow es w operator table l) s.are can in
    let new : Placed AnyView = placed_next w operator table s.edge in
    let more = with_one counts (target_count text) in
    let then_on : edges_on (headings_of (working (new ∷ es) (operator + 1))) more next texts ≡ Ok s.rest =
    subst (λ hs. edges_on hs more next texts ≡ Ok s.rest) (sym (headings_then es w operator table s.edge)) s.others in
    rw s.are (
      fits_seen es w operator table s.edge s.rest can_both (here.fits (headings_well es can.edges w)),
      here.closed fit.0,
      are_built (new ∷ es) (operator + 1) (operator + 1) (table + length s.edge.targets) next more texts s.rest then_on
          (can_next es w operator table s.edge s.rest can_both) fit.1,
    )
