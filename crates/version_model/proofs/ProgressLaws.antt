-- One crossing of a write on its way.
use Rattle.std.proofs.Common.{◌≡◌, ℕ, suc, ◌≤◌, List, [], ◌∷◌, map, length, refl, sym, ap, ◌∙◌, subst}
use Rattle.id_memory.specs.Pairs.{Pairs}
use Rattle.id_memory.specs.States.{CounterState, MemoryState}
use Rattle.row_store.specs.Rows.{Rows}
use Rattle.op_law.specs.Tables.{Tables, Heading, AreTablesOf}
use Rattle.op_law.specs.Meaning.{Meaning, Mapped, PairState}
use Rattle.op_law.specs.Premises.{SomeMap}
use Rattle.op_law.specs.Laws.{HalfLaws}
use Rattle.version_model.specs.Put.{put}
use Rattle.version_model.specs.States.{State}
use Rattle.version_model.specs.Steps.{directed}
use Rattle.version_model.specs.Kept.{rows_now, pairs_now}
use Rattle.version_model.specs.Calls.{made_state, given, Crosses}
use Rattle.version_model.specs.declared.numbered.Numbered.{Numbered}
use Rattle.version_model.specs.declared.progress.Before.{Before}
use Rattle.version_model.specs.declared.progress.Made.{Made}
use Rattle.version_graph.specs.Forest.{Crossing}
use Rattle.op_law.specs.Calls.{first_refused}
use Rattle.row_store.specs.States.{TableState}
use Rattle.std.proofs.Common.{Ok}

tables_long : (hs : List Heading) (ts : Tables) → AreTablesOf hs ts → length ts ≡ length hs
tables_long [] [] h = refl
tables_long [] (t ∷ ts) h = absurd h
tables_long (k ∷ hs) [] h = absurd h
tables_long (k ∷ hs) (t ∷ ts) h = ap suc (tables_long hs ts h.1)

-- a mapping gives as many tables as the old far side had
pub far_long : (m : Meaning) → HalfLaws m → (near : Tables) (old : PairState) (n : ℕ) → SomeMap m near old n → length (m.forward near old n).far ≡ length old.target
far_long m laws near old n some =
    let new = laws.kept some.hs some.ht near old n some.may in
    tables_long some.ht (m.forward near old n).far new.target_of ∙ sym (tables_long some.ht old.target some.may.sound.pair.target_of)

-- so there is one for each number of the far side
pub made_long : (m : Meaning) → HalfLaws m → (near now far : Tables) (old : PairState) (n : ℕ) (numbers : List ℕ) → near ≡ now → far ≡ (m.forward near old n).far → SomeMap m now old n → length old.target ≡ length numbers → length far ≡ length numbers
made_long m laws near now far old n numbers is side may even =
    ap (λ (ts : Tables). length ts) (side ∙ ap (λ (ts : Tables). (m.forward ts old n).far) is) ∙ far_long m laws now old n may ∙ even

abbrev state : (ℕ → Rows) → (ℕ → Pairs) → ℕ → State
state tables memory next = record { tables = tables; memory = memory; next = next }

pub state_is : (t u : ℕ → Rows) (m k : ℕ → Pairs) (a b : ℕ) → t ≡ u → m ≡ k → a ≡ b → state t m a ≡ state u k b
state_is t u m k a b e f h = ap (λ (x : ℕ → Rows). state x m a) e ∙ ap (λ (x : ℕ → Pairs). state u x a) f ∙ ap (λ (x : ℕ). state u k x) h

-- what was made by a crossing
pub crosses : {O : Type 0} (meaning : O → Meaning) (b : Before) (made new : Made) (p : Crossing O) (old : PairState) (near far : Tables) (memory : Pairs)
    → near ≡ map (rows_now b.tables.now made.tables) p.near
    → ((directed p.backward (meaning p.operator)).forward near old made.ids.next).next ≤ first_refused made.ids
    → far ≡ ((directed p.backward (meaning p.operator)).forward near old made.ids.next).far
    → memory ≡ ((directed p.backward (meaning p.operator)).forward near old made.ids.next).memory
    → new.ids ≡ record made.ids { next = ((directed p.backward (meaning p.operator)).forward near old made.ids.next).next }
    → ((kept : List (Numbered TableState)) → rows_now kept new.tables ≡ put (rows_now kept made.tables) p.far far)
    → ((kept : List (Numbered MemoryState)) → pairs_now kept new.memories ≡ put (pairs_now kept made.memories) (p.number ∷ []) (memory ∷ []))
    → Crosses meaning b p old made new (Ok tt)
crosses {O} meaning b made new p old near far memory is within side pairs ids tables memories =
    let m = directed p.backward (meaning p.operator) in
    let same : m.forward near old made.ids.next ≡ given meaning (made_state b made) p old = ap (λ (ts : Tables). m.forward ts old made.ids.next) is in (
      subst (λ (x : Mapped). x.next ≤ first_refused made.ids) same within,
      state_is _ _ _ _ _ _
          (tables b.tables.now ∙ ap (λ (ts : Tables). put (rows_now b.tables.now made.tables) p.far ts) (side ∙ ap (λ (x : Mapped). x.far) same))
          (memories b.memories.now ∙ ap (λ (l : Pairs). put (pairs_now b.memories.now made.memories) (p.number ∷ []) (l ∷ [])) (pairs ∙ ap (λ (x : Mapped). x.memory) same))
          (ap (λ (x : CounterState). x.next) ids ∙ ap (λ (x : Mapped). x.next) same),
      ap (λ (x : CounterState). x.limit) ids,
    )
