-- A plan is put into the parts of a database, and taken back.
use Rattle.std.proofs.Common.{◌≡◌, ℕ, List, refl, sym, ◌∙◌, subst}
use Rattle.op_law.specs.declared.side.Aux.{Aux}
use Rattle.row_store.specs.States.{TableState}
use Rattle.row_changes.specs.Changed.{changed, changed_tables}
use Rattle.pair_changes.specs.Changed.{changed_pairs}
use Rattle.version_model.specs.Kept.{rows_at, auxes_at, pairs_at, numbers_in}
use Rattle.version_model.specs.declared.numbered.Numbered.{Numbered}
use Rattle.db_state.specs.declared.parts.Parts.{Parts}
use Rattle.kept_changes.specs.Changes.{changes_at, pair_changes_at, sides_at}
use Rattle.kept_changes.specs.Undo.{AuxesLeadBack, MemoriesLeadBack, TablesLeadBack}
use Rattle.kept_changes.proofs.ChangesLaws.{no_changes}
use Rattle.id_memory.specs.States.{CounterState, MemoryState}
use Rattle.write_plans.specs.Plans.{IsSame, Puts}
use Rattle.write_plans.specs.Undo.{LeadsTo}
use Rattle.write_plans.specs.declared.plans.Plan.{Plan}
use Rattle.write_plans.specs.declared.undo.Undo.{Undo}

-- the tables have their changes
pub record HasChanges (old : List (Numbered TableState)) (plan : Plan) (new : List (Numbered TableState)) : Type 0 where
  pub rows : (n : ℕ) → rows_at new n ≡ changed (rows_at old n) (changes_at plan.stored n)
  pub numbers : numbers_in new ≡ numbers_in old

-- so have the auxiliary tables
pub record HasAuxChanges (old : List (Numbered Aux)) (plan : Plan) (new : List (Numbered Aux)) : Type 0 where
  pub rows : (n : ℕ) → auxes_at new n ≡ changed_tables (auxes_at old n) (sides_at plan.auxes n)
  pub numbers : numbers_in new ≡ numbers_in old

-- and the memories
pub record HasPairChanges (old : List (Numbered MemoryState)) (plan : Plan) (new : List (Numbered MemoryState)) : Type 0 where
  pub pairs : (n : ℕ) → pairs_at new n ≡ changed_pairs (pairs_at old n) (pair_changes_at plan.memories n)
  pub numbers : numbers_in new ≡ numbers_in old

module _ {O : Type 0} where
  -- the fields with other tables, memories and another counter
  abbrev pub with_kept : Parts O → List (Numbered TableState) → List (Numbered Aux) → List (Numbered MemoryState) → CounterState → Parts O
  with_kept parts stored aux memories ids = record { graph = parts.graph; layout = parts.layout; stored = stored; aux = aux; memories = memories; ids = ids }

  pub puts_plan : (old parts : Parts O) (plan : Plan) (stored : List (Numbered TableState)) (aux : List (Numbered Aux)) (memories : List (Numbered MemoryState)) → parts ≡ old → HasChanges parts.stored plan stored → HasAuxChanges parts.aux plan aux → HasPairChanges parts.memories plan memories → Puts old plan (with_kept parts stored aux memories plan.ids)
  puts_plan old parts plan stored aux memories same a b c =
      subst (λ (x : Parts O). Puts x plan (with_kept parts stored aux memories plan.ids)) same
      (record {
        graph = refl;
        layout = refl;
        ids = refl;
        tables = a.numbers;
        auxes = b.numbers;
        memories = c.numbers;
        stored = a.rows;
        aux = b.rows;
        memory = c.pairs;
      })

  -- the reverse changes lead back to the old parts
  pub leads_back : (old parts : Parts O) (plan : Plan) (undo : Undo) (stored : List (Numbered TableState)) (aux : List (Numbered Aux)) (memories : List (Numbered MemoryState)) → parts ≡ old → undo.ids ≡ parts.ids
      → TablesLeadBack parts.stored stored undo.stored → AuxesLeadBack parts.aux aux undo.auxes → MemoriesLeadBack parts.memories memories undo.memories → LeadsTo old (with_kept parts stored aux memories plan.ids) undo
  leads_back old parts plan undo stored aux memories same ids a b c =
      subst (λ (x : Parts O). LeadsTo x (with_kept parts stored aux memories plan.ids) undo) same
      (record {
        graph = refl;
        layout = refl;
        ids = ids;
        stored = a;
        auxes = b;
        memories = c;
      })

  -- once a plan is taken back, the database is the old one
  pub is_again : (before now parts : Parts O) (undo : Undo) (stored : List (Numbered TableState)) (aux : List (Numbered Aux)) (memories : List (Numbered MemoryState)) → parts ≡ now → LeadsTo before now undo → numbers_in stored ≡ numbers_in parts.stored → ((n : ℕ) → rows_at stored n ≡ rows_at before.stored n)
      → numbers_in aux ≡ numbers_in parts.aux → ((n : ℕ) → auxes_at aux n ≡ auxes_at before.aux n) → numbers_in memories ≡ numbers_in parts.memories → ((n : ℕ) → pairs_at memories n ≡ pairs_at before.memories n) → IsSame before (with_kept parts stored aux memories undo.ids)
  is_again before now parts undo stored aux memories same leads listed rows aux_listed aux_rows memories_listed pairs =
      let led : LeadsTo before parts undo = subst (λ (x : Parts O). LeadsTo before x undo) (sym same) leads in
      record {
        graph = led.graph;
        layout = led.layout;
        ids = led.ids;
        tables = listed ∙ led.stored.listed;
        auxes = aux_listed ∙ led.auxes.listed;
        memories = memories_listed ∙ led.memories.listed;
        stored = rows;
        aux = λ n. aux_rows n ∙ sym (no_changes (auxes_at before.aux n));
        memory = pairs;
      }
