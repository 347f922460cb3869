-- Identifiers that pass: all that are touched, and all that aren't drawn yet.
use Rattle.std.proofs.Common.{◌≡◌, ℕ, List, [], ◌∷◌, ◌==◌, Bool, true, false, cond, not, refl, ap, sym, ◌∙◌}
use Rattle.std.proofs.lemmas.Bool.{eqb-true, false≢true}
use Rattle.row_store.specs.declared.change.Change.{Change}
use Rattle.row_store.specs.Rows.{Rows, row_of}
use Rattle.op_law.proofs.IdentifierLaws.{has_put}
use Rattle.op_law.specs.Identifiers.{has_id}
use Rattle.op_law.specs.Local.{only, rows_only}
use Rattle.op_law.specs.Meaning.{Meaning, PairState}
use Rattle.op_law.specs.Premises.{IsPair, MayMap, SomeMap}
use Rattle.op_law.specs.Sound.{RowsSound, TablesSound}
use Rattle.op_law.specs.Tables.{AllRise, Heading, Tables}
use Rattle.op_rows.specs.inner.RowwiseLocal.{well_only}
use Rattle.row_parts.specs.RowCells.{by_test}
use Rattle.row_changes.specs.Changed.{TableChanges, changed_tables}
use Rattle.row_changes.specs.Touched.{AllPass, EachPass, touched, touched_in, touched_over}
use Rattle.row_changes.proofs.ChangedLaws.{other_changes}
use Rattle.row_changes.proofs.TouchedLaws.{touched_pass}
use Rattle.operator_changes.specs.Footprint.{passes}
use Rattle.pair_rows.specs.Sides.{table_at}
use Rattle.pair_rows.specs.inner.PairLemmas.{filter_pairs_sound}
use Rattle.pair_parts.specs.Parts.{part_of_pair}
use Rattle.cond_parts.proofs.TableLemmas.{same_at, table_only}

-- what may stand may stand restricted
rows_sound : (P : ℕ → Bool) (n : ℕ) (rows : Rows) → RowsSound n rows → RowsSound n (rows_only P rows)
rows_sound P n [] h = tt
rows_sound P n (r ∷ rs) h = by_test (P r.0) (λ e. rw e (h.0, rows_sound P n rs h.1)) (λ e. rw e (rows_sound P n rs h.1))

-- so may a side
tables_sound : (P : ℕ → Bool) (n : ℕ) (ts : Tables) → TablesSound n ts → TablesSound n (only P ts)
tables_sound P n [] h = tt
tables_sound P n (t ∷ ts) h = (rows_sound P n t h.0, tables_sound P n ts h.1)

-- a part that is a pair may be mapped where the whole may
pub part_may : (m : Meaning) (P : ℕ → Bool) (hs ht : List Heading) (near : Tables) (p : PairState) (n : ℕ) → MayMap m hs ht near p n → IsPair m hs ht (part_of_pair P p) → SomeMap m (only P near) (part_of_pair P p) n
part_may m P hs ht near p n may pair = record {
  hs = hs;
  ht = ht;
  may = record {
    sound = record {
      pair = pair;
      source = tables_sound P n p.source may.sound.source;
      target = tables_sound P n p.target may.sound.target;
      memory = filter_pairs_sound (λ e. P e.0) n p.memory may.sound.memory;
    };
    closed = may.closed;
    near_of = well_only P hs near may.near_of;
    near_sound = tables_sound P n near may.near_sound;
  };
}

not_false : (a : Bool) → not a ≡ true → a ≡ false
not_false true e = absurd (false≢true e)
not_false false e = refl

-- a row that isn't touched is as it was
pub untouched : (at : ℕ) (ts : Tables) (near : TableChanges) → AllRise ts → (q : ℕ) → has_id (touched near) q ≡ false → row_of (table_at at (changed_tables ts near)) q ≡ row_of (table_at at ts) q
untouched at ts near rise q out =
    let C : ℕ → Bool = has_id (touched near) in
    same_at C at ts (changed_tables ts near) q (other_changes C (λ i. not (C i)) ts near rise (touched_pass near) (λ i e. not_false (C i) e)) out

-- a test that is so in either way
or_either : (a b : Bool) (X : Type 0) → cond a true b ≡ true → (a ≡ true → X) → (b ≡ true → X) → X
or_either true b X e f g = f refl
or_either false b X e f g = g e

-- what is touched passes, where all changes do
touched_in_pass : (P : ℕ → Bool) (cs : List Change) (ids : List ℕ) (q : ℕ) → AllPass P cs → (has_id ids q ≡ true → P q ≡ true) → has_id (touched_in cs ids) q ≡ true → P q ≡ true
touched_in_pass P [] ids q all own e = own e
touched_in_pass P (c ∷ cs) ids q all own e =
    or_either (c.id == q) (has_id (touched_in cs ids) q) (P q ≡ true) (sym (has_put c.id (touched_in cs ids) q) ∙ e)
    (λ u. sym (ap P (eqb-true c.id q u)) ∙ all.0)
    (λ u. touched_in_pass P cs ids q all.1 own u)

touched_over_pass : (P : ℕ → Bool) (changes : TableChanges) (ids : List ℕ) (q : ℕ) → EachPass P changes → (has_id ids q ≡ true → P q ≡ true) → has_id (touched_over changes ids) q ≡ true → P q ≡ true
touched_over_pass P [] ids q all own e = own e
touched_over_pass P (c ∷ cs) ids q all own e = touched_over_pass P cs (touched_in c ids) q all.1 (touched_in_pass P c ids q all.0 own) e

pub touched_passes : (ids : List ℕ) (n : ℕ) (near : TableChanges) → EachPass (has_id ids) near → (q : ℕ) → has_id (touched near) q ≡ true → passes ids n q ≡ true
touched_passes ids n near all q e =
    let own = touched_over_pass (has_id ids) near [] q all (λ none. absurd (false≢true none)) e in
    rw own refl

-- nor are several of them
pub rows_untouched : (at : ℕ) (ts : Tables) (near : TableChanges) → AllRise ts → (X : ℕ → Bool) → ((q : ℕ) → X q ≡ true → has_id (touched near) q ≡ false) → rows_only X (table_at at (changed_tables ts near)) ≡ rows_only X (table_at at ts)
rows_untouched at ts near rise X still =
    sym (table_only X at (changed_tables ts near)) ∙ ap (table_at at) (other_changes (has_id (touched near)) X ts near rise (touched_pass near) still) ∙ table_only X at ts

-- nor is a side
pub side_untouched : (ts : Tables) (near : TableChanges) → AllRise ts → (X : ℕ → Bool) → ((q : ℕ) → X q ≡ true → has_id (touched near) q ≡ false) → only X (changed_tables ts near) ≡ only X ts
side_untouched ts near rise X still = other_changes (has_id (touched near)) X ts near rise (touched_pass near) still

-- what doesn't pass isn't touched
pub not_touched : (C P : ℕ → Bool) → ((q : ℕ) → C q ≡ true → P q ≡ true) → (q : ℕ) → not (P q) ≡ true → C q ≡ false
not_touched C P in_part q e = by_test (C q) (λ u. let pass = in_part q u in let bad : not true ≡ true = rw pass at e in absurd (false≢true bad)) (λ u. u)
