-- Where a write begins: the changes of the written table alone.
use Rattle.std.proofs.Common.{◌≡◌, if◌then◌else◌, ℕ, List, [], ◌∷◌, Bool, true, false, ◌==◌, refl, ap, ◌∙◌, sym, subst}
use Rattle.std.proofs.Math.Path.{fun_ext}
use Rattle.std.proofs.lemmas.Bool.{eqb-true}
use Rattle.row_store.specs.declared.change.Change.{Change}
use Rattle.row_store.specs.Changes.{ChangesRise, AreOld}
use Rattle.id_memory.specs.States.{CounterState}
use Rattle.op_law.specs.Identifiers.{has_id}
use Rattle.row_changes.specs.Changed.{changed}
use Rattle.row_changes.specs.Touched.{AllPass}
use Rattle.version_model.specs.Put.{put}
use Rattle.version_model.specs.States.{State}
use Rattle.version_model.specs.Writes.{written}
use Rattle.version_model.specs.declared.numbered.Numbered.{Numbered}
use Rattle.version_model.proofs.ProgressLaws.{state_is}
use Rattle.changes_walk.specs.Bounds.{NamesOnly}
use Rattle.changes_walk.specs.Changing.{AreOfState, changing_state, latest_changes}
use Rattle.changes_walk.specs.declared.progress.Changing.{Changing}
use Rattle.changes_walk.proofs.SideLemmas.{changes_push}

-- the changes of one table, and no memory
abbrev pub first_changing : ℕ → List Change → CounterState → Changing
first_changing table changes ids = record { tables = record { number = table; value = changes } ∷ []; memories = []; ids = ids }

module _ (old : State) (table : ℕ) (changes : List Change) where
  abbrev items : List (Numbered (List Change))
  items = record { number = table; value = changes } ∷ []

  items_at : (t : ℕ) → latest_changes items t ≡ put (λ n. []) (table ∷ []) (changes ∷ []) t
  items_at t = ap (λ (f : ℕ → List Change). f t) (changes_push [] (record { number = table; value = changes }))

  table_is : (t : ℕ) (b : Bool) → (t == table) ≡ b → changed (old.tables t) (if b then changes else []) ≡ (if b then changed (old.tables table) changes else old.tables t)
  table_is t true e = ap (λ (n : ℕ). changed (old.tables n) changes) (eqb-true t table e)
  table_is t false e = refl

  -- THE STATE IS THE WRITTEN ONE
  pub first_state : (ids : CounterState) → changing_state old (first_changing table changes ids) ≡ written old table (changed (old.tables table) changes) ids.next
  first_state ids = state_is _ _ _ _ _ _ (fun_ext (λ t. ap (changed (old.tables t)) (items_at t) ∙ table_is t (t == table) refl)) refl refl

  fit_if : (t : ℕ) (b : Bool) → (t == table) ≡ b → ChangesRise 0 changes → AreOld (old.tables table) changes → ChangesRise 0 (if b then changes else []) × AreOld (old.tables t) (if b then changes else [])
  fit_if t true e rise fit = (rise, subst (λ (n : ℕ). AreOld (old.tables n) changes) (sym (eqb-true t table e)) fit)
  fit_if t false e rise fit = (tt, tt)

  -- the old rows are those of the old state where those of the table are
  pub first_fit : ChangesRise 0 changes → AreOld (old.tables table) changes → AreOfState old (record { number = table; value = changes } ∷ [])
  first_fit rise fit t = subst (λ (c : List Change). ChangesRise 0 c × AreOld (old.tables t) c) (sym (items_at t)) (fit_if t (t == table) refl rise fit)

  names_if : (ids : List ℕ) (b : Bool) → AllPass (has_id ids) changes → AllPass (has_id ids) (if b then changes else [])
  names_if ids true pass = pass
  names_if ids false pass = tt

  -- and no other identifiers are named
  pub first_names : (ids : List ℕ) → AllPass (has_id ids) changes → NamesOnly ids (record { number = table; value = changes } ∷ [])
  first_names ids pass t = subst (λ (c : List Change). AllPass (has_id ids) c) (sym (items_at t)) (names_if ids (t == table) pass)
