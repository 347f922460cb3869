-- Parts of a pair: what stands at the identifiers that pass.
use Rattle.std.proofs.Common.{◌≡◌, ℕ, ◌<◌, ◌≤◌, List, [], ◌∷◌, Bool, true, false, not, cond, None, refl, ap, sym, ◌∙◌, subst, arith}
use Rattle.std.proofs.lemmas.Bool.{not-true, or_right}
use Rattle.std.proofs.lemmas.Bool.Decides.{nat_tests}
use Rattle.std.specs.Prelude.{◌||◌, nat_lt}
use Rattle.row_store.specs.Rows.{Rows, RiseFrom, row_of}
use Rattle.row_store.proofs.UndoLaws.{ext}
use Rattle.op_law.specs.Tables.{Tables, Heading, AllRise}
use Rattle.op_law.specs.Sound.{RowsSound, TablesSound}
use Rattle.op_law.specs.Identifiers.{has_id}
use Rattle.op_law.specs.Local.{rows_only, only, pair_only}
use Rattle.pair_parts.specs.Parts.{part_of_pair}
use Rattle.pair_parts.proofs.MemoryLaws.{part_without}
use Rattle.op_law.specs.Meaning.{Meaning, PairState}
use Rattle.op_law.specs.Premises.{MayMap, SomeMap}
use Rattle.op_law.proofs.OnlyLaws.{by_test, row_in, row_out, rise_only, same_rows}
use Rattle.op_rows.specs.inner.RowwiseLocal.{well_only}
use Rattle.op_tables.specs.SideTables.{first_table, second_table}
use Rattle.row_changes.specs.Changed.{TableChanges, changed_tables}
use Rattle.row_changes.specs.Touched.{EachPass}
use Rattle.row_changes.proofs.ChangedLaws.{other_changes}
use Rattle.operator_changes.specs.Footprint.{passes}

-- what may stand may stand restricted
rows_sound : (P : ℕ → Bool) (n : ℕ) (rows : Rows) → RowsSound n rows → RowsSound n (rows_only P rows)
rows_sound P n [] h = tt
rows_sound P n (r ∷ rs) h =
    let rest = rows_sound P n rs h.1 in
    elim (P r.0) as (λ b. RowsSound n (cond b (r ∷ rows_only P rs) (rows_only P rs))) [ true ↦ (h.0, rest) | false ↦ rest ]

-- so may a side
tables_sound : (P : ℕ → Bool) (n : ℕ) (ts : Tables) → TablesSound n ts → TablesSound n (only P ts)
tables_sound P n [] h = tt
tables_sound P n (t ∷ ts) h = (rows_sound P n t h.0, tables_sound P n ts h.1)

-- a part that is related may be mapped where the whole may, and there is no memory
pub part_may : (m : Meaning) (P : ℕ → Bool) (hs ht : List Heading) (near : Tables) (p : PairState) (n : ℕ) → MayMap m hs ht near p n → p.memory ≡ [] → m.Related (only P p.source) (only P p.target) p.memory
    → SomeMap m (only P near) (part_of_pair P p) n
part_may m P hs ht near p n may none related = subst (λ (x : PairState). SomeMap m (only P near) x n) (part_without P p none) some
  where
    some : SomeMap m (only P near) (pair_only P p) n
    some = record {
      hs = hs;
      ht = ht;
      may = record {
        sound = record {
          pair = record {
            fits = may.sound.pair.fits;
            related = related;
            source_of = well_only P hs p.source may.sound.pair.source_of;
            target_of = well_only P ht p.target may.sound.pair.target_of;
          };
          source = tables_sound P n p.source may.sound.source;
          target = tables_sound P n p.target may.sound.target;
          memory = may.sound.memory;
        };
        closed = may.closed;
        near_of = well_only P hs near may.near_of;
        near_sound = tables_sound P n near may.near_sound;
      };
    }

-- the first table of a part is the part of the first table
pub first_only : (P : ℕ → Bool) (ts : Tables) → first_table (only P ts) ≡ rows_only P (first_table ts)
first_only P [] = refl
first_only P (t ∷ ts) = refl

-- so is the second
pub second_only : (P : ℕ → Bool) (ts : Tables) → second_table (only P ts) ≡ rows_only P (second_table ts)
second_only P [] = refl
second_only P (t ∷ ts) = first_only P ts

-- an identifier that doesn't pass was drawn before
pub low : (ids : List ℕ) (n q : ℕ) → passes ids n q ≡ false → q < n
low ids n q e = grind (arith, nat_tests)

-- one that wasn't passes
pub high : (ids : List ℕ) (n q : ℕ) → n ≤ q → passes ids n q ≡ true
high ids n q h = let no : nat_lt q n ≡ false = grind (arith, nat_tests) in or_right (has_id ids q) (not (nat_lt q n)) (ap not no)

-- an identifier that doesn't pass isn't listed
unlisted : (a b : Bool) → not (a || b) ≡ true → a ≡ false
unlisted true b e = absurd (cc)
unlisted false b e = refl

-- what doesn't pass is as it was
sides_same : (ids : List ℕ) (n : ℕ) (ts : Tables) (near : TableChanges) → AllRise ts → EachPass (has_id ids) near → only (λ q. not (passes ids n q)) (changed_tables ts near) ≡ only (λ q. not (passes ids n q)) ts
sides_same ids n ts near rise touches = other_changes (has_id ids) (λ q. not (passes ids n q)) ts near rise touches (λ q h. unlisted (has_id ids q) (not (nat_lt q n)) h)

-- in the first table
pub first_same : (ids : List ℕ) (n : ℕ) (ts : Tables) (near : TableChanges) → AllRise ts → EachPass (has_id ids) near → (q : ℕ) → passes ids n q ≡ false → row_of (first_table (changed_tables ts near)) q ≡ row_of (first_table ts) q
first_same ids n ts near rise touches q e =
    let Q : ℕ → Bool = λ q. not (passes ids n q) in
    same_rows Q (first_table (changed_tables ts near)) (first_table ts) q (ap not e) (sym (first_only Q (changed_tables ts near)) ∙ ap first_table (sides_same ids n ts near rise touches) ∙ first_only Q ts)

-- and in the second
pub second_same : (ids : List ℕ) (n : ℕ) (ts : Tables) (near : TableChanges) → AllRise ts → EachPass (has_id ids) near → (q : ℕ) → passes ids n q ≡ false → row_of (second_table (changed_tables ts near)) q ≡ row_of (second_table ts) q
second_same ids n ts near rise touches q e =
    let Q : ℕ → Bool = λ q. not (passes ids n q) in
    same_rows Q (second_table (changed_tables ts near)) (second_table ts) q (ap not e) (sym (second_only Q (changed_tables ts near)) ∙ ap second_table (sides_same ids n ts near rise touches) ∙ second_only Q ts)

-- a table that has what another has of what passes, and nothing else, is the part of the other
pub part_is : (P : ℕ → Bool) (t whole : Rows) → RiseFrom 0 t → RiseFrom 0 whole → ((q : ℕ) → P q ≡ true → row_of t q ≡ row_of whole q) → ((q : ℕ) → P q ≡ false → row_of t q ≡ None) → t ≡ rows_only P whole
part_is P t whole rise rise_whole here out =
    ext 0 t (rows_only P whole) rise (rise_only P 0 whole rise_whole)
    (λ q. by_test (P q) (λ e. here q e ∙ sym (row_in P whole q e)) (λ e. out q e ∙ sym (row_out P whole q e)))

-- two tables that have the same of what doesn't pass
pub rest_is : (P : ℕ → Bool) (t u : Rows) → RiseFrom 0 t → RiseFrom 0 u → ((q : ℕ) → P q ≡ false → row_of t q ≡ row_of u q) → rows_only (λ q. not (P q)) t ≡ rows_only (λ q. not (P q)) u
rest_is P t u rise_t rise_u same =
    let Q : ℕ → Bool = λ q. not (P q) in
    part_is Q (rows_only Q t) u (rise_only Q 0 t rise_t) rise_u
    (λ q e. row_in Q t q e ∙ same q (not-true (P q) e))
    (λ q e. row_out Q t q e)
