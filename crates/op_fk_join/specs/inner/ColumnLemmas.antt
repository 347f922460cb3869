-- JOIN ON FK of real columns: the parts fit, and the laws hold.
use Rattle.std.proofs.Common.{◌≡◌, ℕ, zero, suc, ◌+◌, ◌-◌, ◌≤◌, List, [], ◌∷◌, ◌++◌, take, drop, length, ap, ◌∙◌, subst, arith}
use Rattle.std.specs.List.{remove}
use Rattle.std.proofs.lemmas.List.{take-append-drop, length-take-le, length-drop, length-append}
use Rattle.std.proofs.Math.Seq.{take-append_seam, drop-append_seam}
use Rattle.std.proofs.lemmas.List.Edits.{length-insert, length-remove}
use Rattle.par_base.specs.declared.value.Value.{Value}
use Rattle.op_law.specs.Tables.{Heading}
use Rattle.op_law.specs.Sound.{ValuesSound}
use Rattle.op_law.specs.Laws.{Laws}
use Rattle.foreign_keys.specs.KeyParts.{FkWell}
use Rattle.row_parts.specs.RowEdits.{value_at-insert, remove-insert, insert-remove, insert_sound, remove_sound}
use Rattle.row_parts.specs.inner.PlaceLemmas.{length-nulls, nulls_sound, value_at_sound}
use Rattle.foreign_keys.specs.Shared.{FkFits}
use Rattle.op_fk_join.specs.inner.JoinRead.{join_laws}
use Rattle.op_fk_join.specs.Columns.{side_parts, JoinFits, join_columns}

-- the first values of a sound row are sound
take_sound : (n count : ℕ) (row : List Value) → ValuesSound n row → ValuesSound n (take count row)
take_sound n zero row sound = tt
take_sound n (suc count) [] sound = tt
take_sound n (suc count) (v ∷ vs) sound = (sound.0, take_sound n count vs sound.1)

-- so are those behind them
drop_sound : (n count : ℕ) (row : List Value) → ValuesSound n row → ValuesSound n (drop count row)
drop_sound n zero row sound = sound
drop_sound n (suc count) [] sound = tt
drop_sound n (suc count) (v ∷ vs) sound = drop_sound n count vs sound.1

-- sound values behind sound values are sound
append_sound : (n : ℕ) (x y : List Value) → ValuesSound n x → ValuesSound n y → ValuesSound n (x ++ y)
append_sound n [] y sx sy = sy
append_sound n (v ∷ vs) y sx sy = (sx.0, append_sound n vs y sx.1 sy)

-- the parts of JOIN fit, where the key has a place in S
sides_fit : (a b place : ℕ) → place ≤ a → FkWell (side_parts a b place) (a + b) a b (a + 1)
sides_fit a b place within = record {
  first_join = λ x y e f. subst (λ (i : ℕ). take i (x ++ y) ≡ x) e (take-append_seam x y);
  second_join = λ x y e f. subst (λ (i : ℕ). drop i (x ++ y) ≡ y) e (drop-append_seam x y);
  join_parts = λ v e. take-append-drop a v;
  long_first = λ v e. length-take-le a v (omega (arith, e));
  long_second = λ v e. length-drop a v ∙ omega (arith, e);
  long_join = λ x y e f. length-append x y ∙ omega (arith, e, f);
  long_null_first = length-nulls a;
  long_null_second = length-nulls b;
  part_put = λ x f e. remove-insert x place f (omega (arith, within, e));
  key_put = λ x f e. value_at-insert x place f (omega (arith, within, e));
  put_parts = λ v e. insert-remove v place (omega (arith, within, e));
  long_put = λ x f e. length-insert x place f (omega (arith, within, e)) ∙ ap (λ (i : ℕ). i + 1) e;
  long_part = λ v e. let r = length-remove v place (omega (arith, within, e)) in omega (arith, r, e);
  sound_first = λ n v sound. take_sound n a v sound;
  sound_second = λ n v sound. drop_sound n a v sound;
  sound_join = λ n x y sx sy. append_sound n x y sx sy;
  sound_put = λ n x f sx sf. insert_sound n x place f sx sf;
  sound_part = λ n v sound. remove_sound n v place sound;
  sound_key = λ n v sound. value_at_sound n v place sound;
  sound_null_first = λ n. nulls_sound n a;
  sound_null_second = λ n. nulls_sound n b;
}

-- the headings fit the parts
pub fits : (first second place : ℕ) (hs ht : List Heading) → JoinFits first second place hs ht → FkFits (side_parts (first - 1) second place) ((first - 1) + second) (first - 1) second ((first - 1) + 1) ht hs
fits first second place hs ht f =
    let within = f.within in
    let long_s = f.s_columns in
    let long_t = f.t_columns in
    let removed = length-remove f.s.columns place (omega (arith, within, long_s)) in
    record {
      source = f.target;
      first = f.s;
      second = f.t;
      source_is = f.target_is;
      target_is = f.source_is;
      source_wide = ap length f.columns ∙ length-append (remove f.s.columns place) f.t.columns ∙ omega (arith, removed, long_s, long_t);
      first_wide = omega (arith, within, long_s);
      second_wide = long_t;
      well = sides_fit (first - 1) second place (omega (arith, within));
    }

-- JOIN ON FK keeps the laws
pub join_keeps : (first second place : ℕ) → Laws (join_columns first second place)
join_keeps first second place =
    join_laws (JoinFits first second place) (side_parts (first - 1) second place) ((first - 1) + second) (first - 1) second ((first - 1) + 1) (fits first second place)
