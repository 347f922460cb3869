-- What a move is prepared from.
use Rattle.std.proofs.Common.{◌≡◌, ℕ, List, [], refl, sym, ap, ◌∙◌, subst}
use Rattle.row_store.specs.States.{TableState}
use Rattle.version_graph.specs.Sets.{In, Each}
use Rattle.version_graph.specs.Tables.{table_numbers}
use Rattle.version_graph.specs.Edges.{Drawn, Rises, made}
use Rattle.version_graph.specs.Forest.{forest}
use Rattle.op_law.specs.Laws.{Laws}
use Rattle.op_law.specs.Meaning.{Meaning}
use Rattle.layout_rules.specs.Layouts.{IsValid}
use Rattle.version_model.specs.Calls.{made_state}
use Rattle.version_model.specs.Kept.{pairs_at, rows_now}
use Rattle.version_model.specs.States.{State}
use Rattle.version_model.specs.declared.numbered.Numbered.{Numbered}
use Rattle.version_model.specs.declared.progress.Before.{Before}
use Rattle.version_model.specs.declared.progress.Made.{Made}
use Rattle.version_model.proofs.NowLaws.{no_pairs}
use Rattle.version_model.proofs.ProgressLaws.{state_is}
use Rattle.db_state.specs.Calls.{AreAuxesOf, IsRelatedAt}
use Rattle.db_state.specs.Covered.{Covers, CoversItself}
use Rattle.db_state.specs.Fields.{IsDatabase, state_for}
use Rattle.db_state.specs.Parts.{seen_of}
use Rattle.db_state.specs.declared.parts.Parts.{Parts}
use Rattle.db_state.specs.declared.sight.Sight.TheVariants.{All}
use Rattle.db_state.proofs.PartLaws.{rows_all}
use Rattle.migration.specs.Moved.{Leads}
use Rattle.migration.specs.Places.{AreStoredPlaces}
use Rattle.migration.specs.Sides.{changing}
use Rattle.migration.specs.declared.moved.Moved.{Moved}
use Rattle.migration.proofs.CoverLemmas.{covers_itself}
use Rattle.migration.proofs.LeadLemmas.{all_related, leads, read_state}

pub changing_is : {O : Type 0} (g h : Drawn O) (a b c d : List ℕ) → g ≡ h → a ≡ b → c ≡ d → changing g.edges a c ≡ changing h.edges b d
changing_is g h a b c d same first second = λ j. changing (same j).edges (first j) (second j)

-- where all rows are seen, the tables that were read are the state's
pub read_whole : {O : Type 0} (meaning : O → Meaning) (old : Parts O) (ns : List ℕ) (read : List (Numbered TableState))
    → ((t : ℕ) → In t (table_numbers (made old.graph.edges)) → Covers (forest old.graph.edges) old.layout.operators ns t → seen_of All (rows_now old.stored read) t ≡ seen_of All (state_for meaning old).tables t)
    → (t : ℕ) → In t (table_numbers (made old.graph.edges)) → Covers (forest old.graph.edges) old.layout.operators ns t → rows_now old.stored read t ≡ (state_for meaning old).tables t
read_whole meaning old ns read seen t live over = sym (rows_all (rows_now old.stored read t)) ∙ seen t live over ∙ rows_all ((state_for meaning old).tables t)

module _ {O : Type 0} (meaning : O → Meaning) (old : Parts O) (base : IsDatabase meaning old) (goal : List ℕ) (valid : IsValid (forest old.graph.edges) goal) (ns : List ℕ) (is : ns ≡ changing old.graph.edges old.layout.operators goal) where
  -- the operators may be read
  pub may_read : CoversItself (forest old.graph.edges) old.layout.operators ns
  may_read = subst (λ (l : List ℕ). CoversItself (forest old.graph.edges) old.layout.operators l) (sym is) (covers_itself old.graph.edges base.graph.edges old.layout.operators goal base.valid valid)

  module _ (b : Before) (done : Made) (right : (t : ℕ) → In t (table_numbers (made old.graph.edges)) → Covers (forest old.graph.edges) old.layout.operators ns t → rows_now old.stored done.tables t ≡ (state_for meaning old).tables t)
      (g : Drawn O) (same : g ≡ old.graph) (tables : b.tables.now ≡ old.stored) (memories : b.memories.now ≡ old.memories) (none : done.memories ≡ []) where
    right_there : (t : ℕ) → In t (table_numbers (made old.graph.edges)) → Covers (forest old.graph.edges) old.layout.operators (changing old.graph.edges old.layout.operators goal) t → rows_now old.stored done.tables t ≡ (state_for meaning old).tables t
    right_there = subst (λ (l : List ℕ). (t : ℕ) → In t (table_numbers (made old.graph.edges)) → Covers (forest old.graph.edges) old.layout.operators l t → rows_now old.stored done.tables t ≡ (state_for meaning old).tables t) is right

    abbrev now : State
    now = read_state meaning old base goal valid done.tables right_there done.ids.next

    now_is : made_state b done ≡ now
    now_is = state_is _ _ _ _ _ _ (ap (λ (l : List (Numbered TableState)). rows_now l done.tables) tables) (no_pairs b.memories.now done.memories none ∙ ap pairs_at memories) refl

    -- the auxiliary tables may be made
    pub may_make : (ms : List ℕ) → ms ≡ changing old.graph.edges old.layout.operators goal → Each (IsRelatedAt meaning g.edges (made_state b done)) ms
    may_make ms also =
        subst (λ (l : List ℕ). Each (IsRelatedAt meaning g.edges (made_state b done)) l) (sym also)
        (subst (λ (s : State). Each (IsRelatedAt meaning g.edges s) (changing old.graph.edges old.layout.operators goal)) (sym now_is)
        (subst (λ (h : Drawn O). Each (IsRelatedAt meaning h.edges now) (changing old.graph.edges old.layout.operators goal)) (sym same)
        (all_related meaning old base goal valid done.tables right_there done.ids.next)))

    -- and with them the move is prepared
    pub prepared : (laws : (o : O) → Laws (meaning o)) (moved : Moved) → moved.layout.operators ≡ goal → Rises 0 goal → (kept read : List (Numbered TableState)) → kept ≡ old.stored → read ≡ done.tables
        → AreStoredPlaces g.edges goal kept read moved.stored → (ms : List ℕ) → ms ≡ changing old.graph.edges old.layout.operators goal → AreAuxesOf meaning g.edges goal (made_state b done) ms moved.auxes → Leads meaning old moved
    prepared laws moved is_goal ascending kept read held lent places ms also auxes =
        let a : AreStoredPlaces old.graph.edges goal old.stored done.tables moved.stored = (
        let one = subst (λ (h : Drawn O). AreStoredPlaces h.edges goal kept read moved.stored) same places in
        let two = subst (λ (l : List (Numbered TableState)). AreStoredPlaces old.graph.edges goal l read moved.stored) held one in
        subst (λ (l : List (Numbered TableState)). AreStoredPlaces old.graph.edges goal old.stored l moved.stored) lent two
        ) in
        let c : AreAuxesOf meaning old.graph.edges goal now (changing old.graph.edges old.layout.operators goal) moved.auxes = (
        let one = subst (λ (h : Drawn O). AreAuxesOf meaning h.edges goal (made_state b done) ms moved.auxes) same auxes in
        let two = subst (λ (l : List ℕ). AreAuxesOf meaning old.graph.edges goal (made_state b done) l moved.auxes) also one in
        subst (λ (s : State). AreAuxesOf meaning old.graph.edges goal s (changing old.graph.edges old.layout.operators goal) moved.auxes) now_is two
        ) in
        leads meaning old base goal valid done.tables right_there laws moved is_goal ascending a done.ids.next c
