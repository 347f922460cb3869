-- The fields after what was prepared is put into them.
use Rattle.std.proofs.Common.{◌≡◌, ℕ, List, refl, ap, ◌∙◌, subst}
use Rattle.row_store.specs.States.{TableState}
use Rattle.op_law.specs.declared.side.Aux.{Aux}
use Rattle.version_model.specs.Kept.{latest_of, renewed, value_of, numbers_in}
use Rattle.version_model.specs.declared.numbered.Numbered.{Numbered}
use Rattle.db_state.specs.declared.parts.Parts.{Parts}
use Rattle.migration.specs.Moved.{Adopts}
use Rattle.migration.specs.declared.moved.Moved.{Moved}

-- newer values over older ones, through lists that are the same
pub record Renews {T : Type 0} (older newer made : List (Numbered T)) : Type 0 where
  pub values : (n : ℕ) → value_of made n ≡ renewed (value_of older n) (latest_of newer n)
  pub numbers : numbers_in made ≡ numbers_in older

pub renews : {T : Type 0} (start older newer made end : List (Numbered T)) → start ≡ older → end ≡ made → ((n : ℕ) → value_of made n ≡ renewed (value_of start n) (latest_of newer n)) → numbers_in made ≡ numbers_in start → Renews older newer end
renews {T} start older newer made end first last values numbers = record {
  values = λ n. ap (λ (l : List (Numbered T)). value_of l n) last ∙ values n ∙ ap (λ (l : List (Numbered T)). renewed (value_of l n) (latest_of newer n)) first;
  numbers = ap (λ (l : List (Numbered T)). numbers_in l) last ∙ numbers ∙ ap (λ (l : List (Numbered T)). numbers_in l) first;
}

-- what was prepared is adopted
pub adopted : {O : Type 0} (old took : Parts O) (moved : Moved) (tables : List (Numbered TableState)) (operators : List (Numbered Aux)) → took ≡ old → Renews moved.stored took.stored tables → Renews took.aux moved.auxes operators
    → Adopts old moved (record { graph = took.graph; layout = moved.layout; stored = tables; aux = operators; memories = took.memories; ids = took.ids })
adopted {O} old took moved tables operators same held lent =
    subst (λ (p : Parts O). Adopts p moved (record { graph = took.graph; layout = moved.layout; stored = tables; aux = operators; memories = took.memories; ids = took.ids })) same (record {
      graph = refl;
      layout = refl;
      numbers = held.numbers;
      tables = held.values;
      operators = lent.numbers;
      auxes = lent.values;
      memories = refl;
      ids = refl;
    })
