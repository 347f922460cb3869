-- A table stays a table.
use Rattle.std.specs.List.{All}
use Rattle.std.proofs.Common.{◌≡◌, ℕ, suc, ◌+◌, ◌≤◌, ◌==◌, List, [], ◌∷◌, ◌++◌, Bool, true, false, not, if◌then◌else◌, cond, length, Option, refl, arith}
use Rattle.par_base.specs.declared.value.Value.{Value}
use Rattle.expr_lang.specs.Terms.{Term}
use Rattle.expr_lang.specs.Val.{val}
use Rattle.row_store.specs.Rows.{Rows, RiseFrom, AreBelow}
use Rattle.row_store.specs.inner.FoundRows.{rise_more}
use Rattle.op_law.specs.Tables.{RowsWide}
use Rattle.op_law.specs.Sound.{ValueSound, ValuesSound, RowsSound}
use Rattle.op_law.specs.SoundTerms.{TermSound}
use Rattle.op_law.proofs.SoundLaws.{values_more, rows_more, below_sound}
use Rattle.op_law.proofs.SoundTermLaws.{val_sound}
use Rattle.ordinary_table.specs.Shown.{shown, meets}
use Rattle.ordinary_table.specs.Written.{SetTerm, numbered, inserted, value_after, values_after, updated_row, updated, deleted}
use Rattle.ordinary_table.specs.Laws.{IsTable, IsNewRow}
use Rattle.ordinary_table.proofs.SetLemmas.{length-values_after}

-- what holds of all items holds of the others behind the first
pub all_behind : {X : Type 0} (P : X → Type 0) (x : X) (xs : List X) → All P (x ∷ xs) → All P xs
all_behind P x xs all k d within = all (suc k) d (omega arith)

-- ---- identifiers

rises_append : (n m : ℕ) (rows more : Rows) → n ≤ m → RiseFrom n rows → AreBelow rows m → RiseFrom m more → RiseFrom n (rows ++ more)
rises_append n m [] more h rise below behind = rise_more n m more h behind
rises_append n m (r ∷ rs) more h rise below behind = (rise.0, rises_append (r.0 + 1) m rs more (omega (arith, below.0)) rise.1 below.1 behind)

pub rises_numbered : (next : ℕ) (new : List (List Value)) → RiseFrom next (numbered next new)
unfolding numbered
rises_numbered next [] = tt
rises_numbered next (row ∷ new) = (omega arith, rises_numbered (next + 1) new)

pub rises_inserted : (rows : Rows) (new : List (List Value)) (next : ℕ) → RiseFrom 0 rows → AreBelow rows next → RiseFrom 0 (inserted rows new next)
rises_inserted rows new next rise below = rises_append 0 next rows (numbered next new) (omega arith) rise below (rises_numbered next new)

pub rises_updated : (n : ℕ) (rows : Rows) (sets : List SetTerm) (condition : Option (Term ℕ)) → RiseFrom n rows → RiseFrom n (updated rows sets condition)
rises_updated n [] sets condition rise = tt
rises_updated n (r ∷ rs) sets condition rise = (rise.0, rises_updated (r.0 + 1) rs sets condition rise.1)

rises_cons : (n : ℕ) (b : Bool) (r : ℕ × List Value) (rs : Rows) → n ≤ r.0 → RiseFrom (r.0 + 1) rs → RiseFrom n (cond b (r ∷ rs) rs)
rises_cons n true r rs h rise = (h, rise)
rises_cons n false r rs h rise = rise_more n (r.0 + 1) rs (omega arith) rise

pub rises_deleted : (n : ℕ) (rows : Rows) (condition : Option (Term ℕ)) → RiseFrom n rows → RiseFrom n (deleted rows condition)
rises_deleted n [] condition rise = tt
rises_deleted n (r ∷ rs) condition rise = rises_cons n (not (meets condition r)) r (deleted rs condition) rise.0 (rises_deleted (r.0 + 1) rs condition rise.1)

-- ---- widths

wide_append : (width : ℕ) (rows more : Rows) → RowsWide width rows → RowsWide width more → RowsWide width (rows ++ more)
wide_append width [] more wide new = new
wide_append width (r ∷ rs) more wide new = (wide.0, wide_append width rs more wide.1 new)

wide_numbered : (width n next : ℕ) (new : List (List Value)) → All (IsNewRow width n) new → RowsWide width (numbered next new)
unfolding numbered
wide_numbered width n next [] all = tt
wide_numbered width n next (row ∷ new) all = ((all 0 row (omega arith)).wide, wide_numbered width n (next + 1) new (all_behind (IsNewRow width n) row new all))

pub length-updated_row : (sets : List SetTerm) (condition : Option (Term ℕ)) (r : ℕ × List Value) → length (updated_row sets condition r) ≡ length r.1
length-updated_row sets condition r =
    let M : Bool → Type 0 = λ b. length (if b then values_after sets (shown r) 0 r.1 else r.1) ≡ length r.1 in
    elim (meets condition r) as (λ b. M b) [ true ↦ length-values_after sets (shown r) 0 r.1 | false ↦ refl ]

pub wide_updated : (width : ℕ) (rows : Rows) (sets : List SetTerm) (condition : Option (Term ℕ)) → RowsWide width rows → RowsWide width (updated rows sets condition)
wide_updated width [] sets condition wide = tt
wide_updated width (r ∷ rs) sets condition wide = (rw (length-updated_row sets condition r) wide.0, wide_updated width rs sets condition wide.1)

wide_cons : (width : ℕ) (b : Bool) (r : ℕ × List Value) (rs : Rows) → length r.1 ≡ width → RowsWide width rs → RowsWide width (cond b (r ∷ rs) rs)
wide_cons width true r rs h wide = (h, wide)
wide_cons width false r rs h wide = wide

pub wide_deleted : (width : ℕ) (rows : Rows) (condition : Option (Term ℕ)) → RowsWide width rows → RowsWide width (deleted rows condition)
wide_deleted width [] condition wide = tt
wide_deleted width (r ∷ rs) condition wide = wide_cons width (not (meets condition r)) r (deleted rs condition) wide.0 (wide_deleted width rs condition wide.1)

-- ---- what may stand

sound_append : (n : ℕ) (rows more : Rows) → RowsSound n rows → RowsSound n more → RowsSound n (rows ++ more)
sound_append n [] more sound new = new
sound_append n (r ∷ rs) more sound new = (sound.0, sound_append n rs more sound.1 new)

sound_numbered : (width n next k : ℕ) (new : List (List Value)) → 1 ≤ next → n ≤ next → next + length new ≤ k → All (IsNewRow width n) new → RowsSound k (numbered next new)
unfolding numbered
sound_numbered width n next k [] some low fits all = tt
sound_numbered width n next k (row ∷ new) some low fits all = (
  ((some, omega arith), values_more n k (omega arith) row (all 0 row (omega arith)).sound),
  sound_numbered width n (next + 1) k new (omega arith) (omega arith) (omega arith) (all_behind (IsNewRow width n) row new all),
)

value_after-sound : (n : ℕ) (sets : List SetTerm) (before : List Value) (place : ℕ) (own : Value) → All (λ s. TermSound n s.value) sets → ValuesSound n before → ValueSound n own → ValueSound n (value_after sets before place own)
value_after-sound n [] before place own terms sound one = one
value_after-sound n (s ∷ sets) before place own terms sound one =
    let M : Bool → Type 0 = λ b. ValueSound n (if b then val s.value before else own) in
    let first : M (s.place == place) = elim (s.place == place) as (λ b. M b) [ true ↦ val_sound n s.value before (terms 0 s (omega arith)) sound | false ↦ one ] in
    value_after-sound n sets before place (if s.place == place then val s.value before else own) (all_behind (λ (t : SetTerm). TermSound n t.value) s sets terms) sound first

values_after-sound : (n : ℕ) (sets : List SetTerm) (before : List Value) (k : ℕ) (values : List Value) → All (λ s. TermSound n s.value) sets → ValuesSound n before → ValuesSound n values → ValuesSound n (values_after sets before k values)
values_after-sound n sets before k [] terms sound all = tt
values_after-sound n sets before k (own ∷ values) terms sound all = (value_after-sound n sets before k own terms sound all.0, values_after-sound n sets before (k + 1) values terms sound all.1)

pub sound_updated : (n : ℕ) (rows : Rows) (sets : List SetTerm) (condition : Option (Term ℕ)) → All (λ s. TermSound n s.value) sets → RowsSound n rows → RowsSound n (updated rows sets condition)
sound_updated n [] sets condition terms sound = tt
sound_updated n (r ∷ rs) sets condition terms sound =
    let M : Bool → Type 0 = λ b. ValuesSound n (if b then values_after sets (shown r) 0 r.1 else r.1) in
    let row : M (meets condition r) = elim (meets condition r) as (λ b. M b) [ true ↦ values_after-sound n sets (shown r) 0 r.1 terms sound.0 sound.0.1 | false ↦ sound.0.1 ] in
    ((sound.0.0, row), sound_updated n rs sets condition terms sound.1)

sound_cons : (n : ℕ) (b : Bool) (r : ℕ × List Value) (rs : Rows) → RowsSound n (r ∷ rs) → RowsSound n (cond b (r ∷ rs) rs)
sound_cons n true r rs sound = sound
sound_cons n false r rs sound = sound.1

pub sound_deleted : (n : ℕ) (rows : Rows) (condition : Option (Term ℕ)) → RowsSound n rows → RowsSound n (deleted rows condition)
sound_deleted n [] condition sound = tt
sound_deleted n (r ∷ rs) condition sound = sound_cons n (not (meets condition r)) r (deleted rs condition) (sound.0, sound_deleted n rs condition sound.1)

-- ---- all three

pub insert_keeps : (width n : ℕ) (rows : Rows) (new : List (List Value)) → 1 ≤ n → IsTable width n rows → All (IsNewRow width n) new → IsTable width (n + length new) (inserted rows new n)
insert_keeps width n rows new some table all = record {
  rises = rises_inserted rows new n table.rises (below_sound n rows table.sound);
  wide = wide_append width rows (numbered n new) table.wide (wide_numbered width n n new all);
  sound = sound_append (n + length new) rows (numbered n new) (rows_more n (n + length new) (omega arith) rows table.sound)
      (sound_numbered width n n (n + length new) new some (omega arith) (omega arith) all);
}

pub update_keeps : (width n : ℕ) (rows : Rows) (sets : List SetTerm) (condition : Option (Term ℕ)) → IsTable width n rows → All (λ s. TermSound n s.value) sets → IsTable width n (updated rows sets condition)
update_keeps width n rows sets condition table terms = record {
  rises = rises_updated 0 rows sets condition table.rises;
  wide = wide_updated width rows sets condition table.wide;
  sound = sound_updated n rows sets condition terms table.sound;
}

pub delete_keeps : (width n : ℕ) (rows : Rows) (condition : Option (Term ℕ)) → IsTable width n rows → IsTable width n (deleted rows condition)
delete_keeps width n rows condition table = record {
  rises = rises_deleted 0 rows condition table.rises;
  wide = wide_deleted width rows condition table.wide;
  sound = sound_deleted n rows condition table.sound;
}
