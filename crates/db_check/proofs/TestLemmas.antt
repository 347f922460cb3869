-- Each test tells what it tests.
use Rattle.std.specs.Prelude.{◌&&◌, ◌==◌, ◌^◌, ℤ, pos, negsuc, nat_le, nat_lt, FitsSigned, IsUtf8}
use Rattle.std.specs.Int.{w64}
use Rattle.std.specs.Str.{is_utf8}
use Rattle.std.specs.List.{list_all}
use Rattle.std.proofs.Common.{◌≡◌, ◌≤◌, ◌<◌, ℕ, List, [], ◌∷◌, Bool, true, false, length, refl, sym, arith}
use Rattle.std.proofs.lemmas.Bool.{and_from, and_parts, eqb-true, eq-eqb, le-leb, leb-true, lt-ltb, ltb-true}
use Rattle.std.proofs.lemmas.Str.{IsUtf8-from_is_utf8, is_utf8-from_IsUtf8}
use Rattle.par_base.specs.declared.value.Value.{Value}
use Rattle.par_base.specs.declared.value.Value.TheVariants.{Null, Int, Text, Reference}
use Rattle.expr_lang.specs.Operations.{fits_i64, text_limit}
use Rattle.row_store.specs.Rows.{Rows}
use Rattle.row_store.specs.States.{TableState}
use Rattle.id_memory.specs.Pairs.{Pairs}
use Rattle.op_law.specs.Tables.{RowsWide, contents}
use Rattle.op_law.specs.Sound.{IsBelow, PairsSound, RowsSound, TablesSound, ValueSound, ValuesSound}
use Rattle.db_check.specs.inner.Tests.{Tells, id_below, pair_below, pairs_below, row_below, rows_below, rows_wide, value_below}

-- a text is UTF-8 whatever else is tested of it
pub text_tested : (b : Bool) (bytes : List ℕ) → IsUtf8 bytes → b ≡ (b && is_utf8 bytes)
text_tested true bytes u = sym (is_utf8-from_IsUtf8 bytes u)
text_tested false bytes u = refl

both_tell : (a b : Bool) (P Q : Type 0) → Tells a P → Tells b Q → Tells (a && b) (P × Q)
both_tell a b P Q x y = ((λ h. let two = and_parts a b h in (x.0 two.0, y.0 two.1)), (λ h. and_from a b (x.1 h.0) (y.1 h.1)))

pub id_tells : (n id : ℕ) → Tells (id_below n id) (IsBelow n id)
id_tells n id = both_tell (nat_le 1 id) (nat_lt id n) (1 ≤ id) (id < n) (leb-true 1 id, le-leb 1 id) ((λ h. grind arith), (λ h. grind arith))

pub fits_tells : (z : ℤ) → Tells (fits_i64 z) (FitsSigned w64 z)
fits_tells (pos m) = ((λ h. record { sfits = ltb-true m (2 ^ 63) h }), (λ fits. lt-ltb m (2 ^ 63) fits.sfits))
fits_tells (negsuc m) = ((λ h. record { sfits = ltb-true m (2 ^ 63) h }), (λ fits. lt-ltb m (2 ^ 63) fits.sfits))

value_tells : (n : ℕ) (v : Value) → Tells (value_below n v) (ValueSound n v)
value_tells n Null = ((λ h. tt), (λ h. refl))
value_tells n (Int number) = fits_tells number
value_tells n (Text text) =
    both_tell (nat_le (length text) text_limit) (is_utf8 text) (length text ≤ text_limit) (IsUtf8 text) (leb-true (length text) text_limit, le-leb (length text) text_limit)
    (IsUtf8-from_is_utf8 text, is_utf8-from_IsUtf8 text)
value_tells n (Reference id) = id_tells n id

values_tell : (n : ℕ) (vs : List Value) → Tells (list_all (value_below n) vs) (ValuesSound n vs)
values_tell n [] = ((λ h. tt), (λ h. refl))
values_tell n (v ∷ vs) = both_tell (value_below n v) (list_all (value_below n) vs) (ValueSound n v) (ValuesSound n vs) (value_tells n v) (values_tell n vs)

pub rows_tell : (n : ℕ) (rs : Rows) → Tells (rows_below n rs) (RowsSound n rs)
rows_tell n [] = ((λ h. tt), (λ h. refl))
rows_tell n (r ∷ rs) = both_tell (row_below n r) (rows_below n rs) (IsBelow n r.0 × ValuesSound n r.1) (RowsSound n rs)
    (both_tell (id_below n r.0) (list_all (value_below n) r.1) (IsBelow n r.0) (ValuesSound n r.1) (id_tells n r.0) (values_tell n r.1)) (rows_tell n rs)

pub wide_tells : (w : ℕ) (rs : Rows) → Tells (rows_wide w rs) (RowsWide w rs)
wide_tells w [] = ((λ h. tt), (λ h. refl))
wide_tells w (r ∷ rs) = both_tell (length r.1 == w) (rows_wide w rs) (length r.1 ≡ w) (RowsWide w rs) (eqb-true (length r.1) w, eq-eqb (length r.1) w) (wide_tells w rs)

under_tells : (n id : ℕ) → Tells (nat_lt id n) (id < n)
under_tells n id = ((λ h. grind arith), (λ h. grind arith))

halves_tell : (n : ℕ) (e : ℕ × ℕ × ℕ) → Tells (nat_lt e.1 n && nat_lt e.2 n) ((e.1 < n) × (e.2 < n))
halves_tell n e = both_tell (nat_lt e.1 n) (nat_lt e.2 n) (e.1 < n) (e.2 < n) (under_tells n e.1) (under_tells n e.2)

pair_tells : (n : ℕ) (e : ℕ × ℕ × ℕ) → Tells (pair_below n e) (IsBelow n e.0 × (e.1 < n) × (e.2 < n))
pair_tells n e = (
  (λ h. let two = and_parts (id_below n e.0) (nat_lt e.1 n && nat_lt e.2 n) h in let halves = (halves_tell n e).0 two.1 in ((id_tells n e.0).0 two.0, halves.0, halves.1)),
  (λ h. and_from (id_below n e.0) (nat_lt e.1 n && nat_lt e.2 n) ((id_tells n e.0).1 h.0) ((halves_tell n e).1 (h.1, h.2))),
)

pub pairs_tell : (n : ℕ) (ps : Pairs) → Tells (pairs_below n ps) (PairsSound n ps)
pairs_tell n [] = ((λ h. tt), (λ h. refl))
pairs_tell n (e ∷ es) = both_tell (pair_below n e) (pairs_below n es) (IsBelow n e.0 × (e.1 < n) × (e.2 < n)) (PairsSound n es) (pair_tells n e) (pairs_tell n es)

pub tables_tell : (n : ℕ) (ts : List TableState) → Tells (list_all (λ (t : TableState). rows_below n t.rows) ts) (TablesSound n (contents ts))
tables_tell n [] = ((λ h. tt), (λ h. refl))
tables_tell n (t ∷ ts) = both_tell (rows_below n t.rows) (list_all (λ (x : TableState). rows_below n x.rows) ts) (RowsSound n t.rows) (TablesSound n (contents ts)) (rows_tell n t.rows) (tables_tell n ts)
