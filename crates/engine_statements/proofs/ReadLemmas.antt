-- Rows that are read alone.
use Rattle.std.specs.Option.{option_and_then, option_map_or}
use Rattle.std.specs.Prelude.{IfOk, Result}
use Rattle.std.proofs.Common.{◌≡◌, ℕ, ◌==◌, List, [], ◌∷◌, Bool, true, false, cond, length, Option, Some, None, Ok, Err, sym, subst}
use Rattle.par_base.specs.declared.value.Value.{Value}
use Rattle.expr_lang.specs.Terms.{Term}
use Rattle.row_store.specs.Rows.{Rows, RiseFrom, row_of}
use Rattle.op_law.specs.Tables.{RowsWide}
use Rattle.ordinary_table.specs.Pinned.{pinned}
use Rattle.ordinary_table.specs.Shown.{HasChosen, row_alone}
use Rattle.ordinary_table.proofs.PinnedLaws.{pinned_stand_alone}

wide_at : (width : ℕ) (b : Bool) (own : List Value) (rest : Option (List Value)) (id : ℕ) → length own ≡ width → RowsWide width (option_map_or (λ (row : List Value). (id, row) ∷ []) rest []) → RowsWide width (option_map_or (λ (row : List Value). (id, row) ∷ []) (cond b (Some own) rest) [])
wide_at width true own rest id h later = (h, tt)
wide_at width false own rest id h later = later

-- the row of one identifier is as wide as all
pub alone_wide : (width : ℕ) (rows : Rows) (id : ℕ) → RowsWide width rows → RowsWide width (row_alone rows id)
alone_wide width [] id wide = tt
alone_wide width (r ∷ rs) id wide = wide_at width (r.0 == id) r.1 (row_of rs id) id wide.0 (alone_wide width rs id wide.1)

-- the row of the identifier that a condition pins is all that may meet it
pub pinned_part : (condition : Option (Term ℕ)) (id : ℕ) (rows part : Rows) → RiseFrom 0 rows → Some id ≡ option_and_then pinned condition → part ≡ row_alone rows id → HasChosen condition rows part
pinned_part (Some t) id rows part rise is alone = subst (λ (p : Rows). HasChosen (Some t) rows p) (sym alone) (pinned_stand_alone t id rows rise (sym is))
pinned_part None id rows part rise is alone = absurd (cc)

-- what follows of each answer
pub of_answer : {A E : Type 0} (P Q : A → Type 0) (r : Result A E) → ((a : A) → P a → Q a) → IfOk r P → IfOk r Q
of_answer P Q (Ok a) f h = f a h
of_answer P Q (Err e) f h = tt
