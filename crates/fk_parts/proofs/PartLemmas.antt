-- Parts of tables, and what changes leave of them.
use Rattle.std.proofs.Common.{◌≡◌, ℕ, List, [], ◌∷◌, Bool, true, false, not, Some, None, refl, ap, sym, ◌∙◌}
use Rattle.std.proofs.lemmas.Bool.{not-true}
use Rattle.par_base.specs.declared.value.Value.{Value}
use Rattle.row_store.specs.Rows.{Rows, RiseFrom, row_of}
use Rattle.row_store.proofs.UndoLaws.{ext}
use Rattle.op_law.specs.Tables.{Tables, AllRise}
use Rattle.op_law.specs.Identifiers.{ids_in}
use Rattle.op_law.specs.Local.{rows_only, only}
use Rattle.op_law.proofs.OnlyLaws.{by_test, row_in, row_out, rise_only, same_rows}
use Rattle.op_rows.specs.Cells.{table_from}
use Rattle.op_tables.specs.Lookups.{one_at, one_rise}
use Rattle.op_tables.specs.SideTables.{first_table, second_table}
use Rattle.row_parts.specs.RowCells.{Cell, kept_if, by_option}

-- the first table of a part is the part of the first table
pub first_only : (P : ℕ → Bool) (ts : Tables) → first_table (only P ts) ≡ rows_only P (first_table ts)
first_only P [] = refl
first_only P (t ∷ ts) = refl

-- so is the second
pub second_only : (P : ℕ → Bool) (ts : Tables) → second_table (only P ts) ≡ rows_only P (second_table ts)
second_only P [] = refl
second_only P (t ∷ ts) = first_only P ts

-- where all tables rise, so do these
pub first_rise : (ts : Tables) → AllRise ts → RiseFrom 0 (first_table ts)
first_rise [] rise = tt
first_rise (t ∷ ts) rise = rise.0

pub second_rise : (ts : Tables) → AllRise ts → RiseFrom 0 (second_table ts)
second_rise [] rise = tt
second_rise (t ∷ ts) rise = first_rise ts rise.1

-- a table that has what another has of what passes, and nothing else, is the part of the other
pub part_is : (P : ℕ → Bool) (t whole : Rows) → RiseFrom 0 t → RiseFrom 0 whole → ((q : ℕ) → P q ≡ true → row_of t q ≡ row_of whole q) → ((q : ℕ) → P q ≡ false → row_of t q ≡ None) → t ≡ rows_only P whole
part_is P t whole rise rise_whole here out =
    ext 0 t (rows_only P whole) rise (rise_only P 0 whole rise_whole)
    (λ q. by_test (P q) (λ e. here q e ∙ sym (row_in P whole q e)) (λ e. out q e ∙ sym (row_out P whole q e)))

-- two tables that have the same of what doesn't pass
pub rest_is : (P : ℕ → Bool) (t u : Rows) → RiseFrom 0 t → RiseFrom 0 u → ((q : ℕ) → P q ≡ false → row_of t q ≡ row_of u q) → rows_only (λ q. not (P q)) t ≡ rows_only (λ q. not (P q)) u
rest_is P t u rise_t rise_u same =
    let Q : ℕ → Bool = λ q. not (P q) in
    part_is Q (rows_only Q t) u (rise_only Q 0 t rise_t) rise_u
    (λ q e. row_in Q t q e ∙ same q (not-true (P q) e))
    (λ q e. row_out Q t q e)

-- what is made over the identifiers of a part is the part of what is made over those of the whole
pub made_part : (P : ℕ → Bool) (rows : Rows) (f g : ℕ → Cell) → RiseFrom 0 rows → ((q : ℕ) → row_of rows q ≡ None → f q ≡ None) → ((q : ℕ) → row_of (rows_only P rows) q ≡ None → g q ≡ None)
    → ((q : ℕ) → P q ≡ true → g q ≡ f q) → table_from (ids_in (rows_only P rows) []) g ≡ rows_only P (table_from (ids_in rows []) f)
made_part P rows f g rise none none_part same =
    let at : (q : ℕ) → row_of (table_from (ids_in (rows_only P rows) []) g) q ≡ g q = λ q. one_at (rows_only P rows) g q (none_part q) in
    part_is P (table_from (ids_in (rows_only P rows) []) g) (table_from (ids_in rows []) f) (one_rise (rows_only P rows) g (rise_only P 0 rows rise)) (one_rise rows f rise)
    (λ q e. at q ∙ same q e ∙ sym (one_at rows f q (none q)))
    (λ q e. at q ∙ none_part q (row_out P rows q e))

-- and what is made over two tables is the same elsewhere, where it is made so
pub made_rest : (P : ℕ → Bool) (rows now : Rows) (f g : ℕ → Cell) → RiseFrom 0 rows → RiseFrom 0 now → ((q : ℕ) → row_of rows q ≡ None → f q ≡ None) → ((q : ℕ) → row_of now q ≡ None → g q ≡ None)
    → ((q : ℕ) → P q ≡ false → g q ≡ f q) → rows_only (λ q. not (P q)) (table_from (ids_in now []) g) ≡ rows_only (λ q. not (P q)) (table_from (ids_in rows []) f)
made_rest P rows now f g rise rise_now none none_now same =
    rest_is P (table_from (ids_in now []) g) (table_from (ids_in rows []) f) (one_rise now g rise_now) (one_rise rows f rise)
    (λ q e. one_at now g q (none_now q) ∙ same q e ∙ sym (one_at rows f q (none q)))

-- three tables, each of which is another
pub three_same : {a b c d e f : Rows} → a ≡ b → c ≡ d → e ≡ f → a ∷ c ∷ e ∷ [] ≡ b ∷ d ∷ f ∷ []
three_same {b} {c} {d} {e} p q r = ap (λ (x : Rows). x ∷ c ∷ e ∷ []) p ∙ ap (λ (x : Rows). b ∷ x ∷ e ∷ []) q ∙ ap (λ (x : Rows). b ∷ d ∷ x ∷ []) r

-- nothing is kept where nothing is
pub kept_none : (b : Bool) → kept_if b None ≡ None
kept_none true = refl
kept_none false = refl

-- what is kept is the same where both are there alike
pub kept_same : (b d : Bool) (c e : Cell) → c ≡ e → ((u : List Value) → e ≡ Some u → b ≡ d) → kept_if b c ≡ kept_if d e
kept_same b d c e is same =
    by_option e
    (λ none. ap (kept_if b) (is ∙ none) ∙ kept_none b ∙ sym (kept_none d) ∙ ap (kept_if d) (sym none))
    (λ u at. ap (λ (x : Bool). kept_if x c) (same u at) ∙ ap (kept_if d) is)

module _ (P : ℕ → Bool) (ts us : Tables) (same : only (λ q. not (P q)) us ≡ only (λ q. not (P q)) ts) where
  -- tables that are the same elsewhere have the same there in the first
  pub first_same : (q : ℕ) → P q ≡ false → row_of (first_table us) q ≡ row_of (first_table ts) q
  first_same q e =
      let Q : ℕ → Bool = λ q. not (P q) in
      same_rows Q (first_table us) (first_table ts) q (ap not e) (sym (first_only Q us) ∙ ap first_table same ∙ first_only Q ts)

  -- and in the second
  pub second_same : (q : ℕ) → P q ≡ false → row_of (second_table us) q ≡ row_of (second_table ts) q
  second_same q e =
      let Q : ℕ → Bool = λ q. not (P q) in
      same_rows Q (second_table us) (second_table ts) q (ap not e) (sym (second_only Q us) ∙ ap second_table same ∙ second_only Q ts)
