-- What is written is read back.
use Rattle.std.specs.Prelude.{◌≤◌, ◌^◌, ◌&&◌, ◌==◌, nat_le, nat_lt, not, is_some, option_map, option_and_then, if◌then◌else◌, count_by}
use Rattle.std.proofs.Common.{◌≡◌, map, cond, Bool, true, false, Option, Some, None, refl, sym, ap, ◌∙◌, append_assoc, ℕ, ◌+◌, pos, negsuc, List, [], ◌∷◌, ◌++◌, subst, arith}
use Rattle.std.proofs.lemmas.Bool.{le-leb}
use Rattle.std.proofs.lemmas.List.Sums.{sum_by-cons}
use Rattle.par_base.specs.declared.value.Value.{Value}
use Rattle.par_base.specs.declared.value.Value.TheVariants.{Null, Int, Text, Reference}
use Rattle.id_memory.specs.Pairs.{IsOneToOne, Pairs, RiseFrom as PairsRise, has_pair, id_of as id_in}
use Rattle.row_store.specs.Rows.{RiseFrom, Rows}
use Rattle.serde_json.specs.Data.{Data}
use Rattle.serde_json.specs.View.{items_of}
use Rattle.dump_values.specs.Laws.{AllFit, AuxFits, IdFits, MemoryFits, NumberFits, OperatorFits, PairsFit, RowFits, StoredFits, TableFits, ValueFits, VersionFits}
use Rattle.dump_values.specs.Lines.{aux_json, aux_of, memory_json, memory_of, operator_json, operator_of, stored_json, stored_of, version_json, version_of}
use Rattle.json_members.specs.Members.{both, id_of, list_of, number_json, numbers_json, numbers_of, small_of, within}
use Rattle.dump_values.specs.Pairs.{may_follow, pairs_behind, pairs_json, pairs_of, triple_json, triple_of}
use Rattle.dump_values.specs.Tables.{rows_from, table_json, table_of, tables_json, tables_of}
use Rattle.dump_values.specs.Values.{row_json, row_of, value_json, value_of}
use Rattle.dump_values.specs.declared.lines.OperatorLine.{OperatorLine}
use Rattle.dump_values.specs.declared.lines.VersionLine.{VersionLine}
use Rattle.dump_values.proofs.PairLemmas.{step as pair_step}
use Rattle.dump_values.proofs.RiseLemmas.{step as row_step}

-- a number between two
pub within_back : (least most n : ℕ) → least ≤ n → n ≤ most → within least most n ≡ Some n
within_back least most n low high =
    let one : nat_le least n ≡ true = le-leb least n low in
    let two : nat_le n most ≡ true = le-leb n most high in
    ap (λ (b : Bool). if b && nat_le n most then Some n else None) one ∙ ap (λ (b : Bool). if b then Some n else None) two

pub small_back : (n : ℕ) → NumberFits n → small_of (number_json n) ≡ Some n
small_back n fits = within_back 0 4294967295 n (omega arith) (omega (arith, fits))

pub id_back : (id : ℕ) → IdFits id → id_of (number_json id) ≡ Some id
id_back id fits = let high = fits.1 in within_back 1 9223372036854775807 id fits.0 (omega (arith, high))

-- two things that are read back
pub both_back : {A B : Type 0} (found : Option A) (other : Option B) (x : A) (y : B) → found ≡ Some x → other ≡ Some y → both found other ≡ Some (x, y)
both_back {A} {B} found other x y one two = ap (λ (o : Option A). both o other) one ∙ ap (λ (o : Option B). both (Some x) o) two

-- a list, where each item is read back
pub list_back : {A : Type 0} (write : A → Data) (read : Data → Option A) (Fits : A → Type 0) → ((x : A) → Fits x → read (write x) ≡ Some x)
    → (xs : List A) → AllFit Fits xs → list_of read (items_of (map write xs)) ≡ Some xs
list_back write read Fits one [] fit = refl
list_back {A} write read Fits one (x ∷ xs) fit =
    ap (λ (o : Option A). option_and_then (λ y. option_map (λ ys. y ∷ ys) (list_of read (items_of (map write xs)))) o) (one x fit.0)
    ∙ ap (λ (o : Option (List A)). option_map (λ ys. x ∷ ys) o) (list_back write read Fits one xs fit.1)

pub numbers_back : (ns : List ℕ) → AllFit NumberFits ns → numbers_of (numbers_json ns) ≡ Some ns
numbers_back ns fit = list_back number_json small_of NumberFits small_back ns fit

pub value_back : (v : Value) → ValueFits v → value_of (value_json v) ≡ Some v
value_back Null fits = refl
value_back (Int (pos n)) fits = let is : nat_lt n (2 ^ 63) ≡ true = grind arith in ap (λ (b : Bool). option_map Int (if b then Some (pos n) else None)) is
value_back (Int (negsuc n)) fits = refl
value_back (Text text) fits = refl
value_back (Reference id) fits = ap (λ (o : Option ℕ). option_map Reference o) (id_back id fits)

pub row_back : (row : ℕ × List Value) → RowFits row → row_of (row_json row) ≡ Some row
row_back row fit = both_back _ _ row.0 row.1 (id_back row.0 fit.0) (list_back value_json value_of ValueFits value_back row.1 fit.1)

-- rows are read back from an identifier on
pub rows_back : (least : ℕ) (rs : Rows) → RiseFrom least rs → AllFit RowFits rs → rows_from least (items_of (map row_json rs)) ≡ Some rs
rows_back least [] rise fit = refl
rows_back least (r ∷ rs) rise fit =
    plain (rows_from least (items_of (map row_json (r ∷ rs)))) ∙ row_step [] least r.0 r.1 (row_json r) (items_of (map row_json rs)) (row_back r fit.0) rise.0
    ∙ ap (λ (o : Option Rows). option_map (λ (xs : Rows). ([] ++ (r.0, r.1) ∷ []) ++ xs) o) (rows_back (r.0 + 1) rs rise.1 fit.1)
  where
    plain : (o : Option Rows) → o ≡ option_map (λ (xs : Rows). [] ++ xs) o
    plain None = refl
    plain (Some xs) = refl

-- rows that rise and fit begin at 1 or above
from_one : (rs : Rows) → RiseFrom 0 rs → AllFit RowFits rs → RiseFrom 1 rs
from_one [] rise fit = tt
from_one (r ∷ rs) rise fit = (fit.0.0.0, rise.1)

pub table_back : (rows : Rows) → TableFits rows → table_of (table_json rows) ≡ Some rows
table_back rows fit = rows_back 1 rows (from_one rows fit.0 fit.1) fit.1

pub tables_back : (ts : List Rows) → AllFit TableFits ts → tables_of (tables_json ts) ≡ Some ts
tables_back ts fit = list_back table_json table_of TableFits table_back ts fit

-- ---- memories

triple_back : (e : ℕ × ℕ × ℕ) → IdFits e.0 → triple_of (triple_json e) ≡ Some e
triple_back e fits = ap (λ (o : Option ℕ). option_map (λ (f : ℕ × (ℕ × ℕ)). (f.0, f.1.0, f.1.1)) (both o (Some (e.1, e.2)))) (id_back e.0 fits)

-- an entry that passes a test is counted
count_yes : (p : ℕ × ℕ × ℕ → Bool) (x : ℕ × ℕ × ℕ) (xs : Pairs) → p x ≡ true → count_by p (x ∷ xs) ≡ 1 + count_by p xs
count_yes p x xs is = sum_by-cons (λ y. cond (p y) 1 0) x xs ∙ ap (λ (b : Bool). cond b 1 0 + count_by p xs) is

-- another one isn't
count_no : (p : ℕ × ℕ × ℕ → Bool) (x : ℕ × ℕ × ℕ) (xs : Pairs) → p x ≡ false → count_by p (x ∷ xs) ≡ count_by p xs
count_no p x xs is = sum_by-cons (λ y. cond (p y) 1 0) x xs ∙ ap (λ (b : Bool). cond b 1 0 + count_by p xs) is ∙ omega arith

-- a pair that no entry has is no entry's
not_there : (es : Pairs) (s t : ℕ) → count_by (has_pair s t) es ≡ 0 → id_in es s t ≡ None
not_there [] s t none = refl
not_there (e ∷ es) s t none = turn (not_there es s t) (has_pair s t e) refl
  where
    turn : (count_by (has_pair s t) es ≡ 0 → id_in es s t ≡ None) → (b : Bool) → has_pair s t e ≡ b → id_in (e ∷ es) s t ≡ None
    turn rest true is = let more = count_yes (has_pair s t) e es is in absurd (omega (arith, more, none))
    turn rest false is =
        ap (λ (c : Bool). if c then Some e.0 else id_in es s t) is ∙ rest (sym (count_no (has_pair s t) e es is) ∙ none)

-- entries with this one among them have its pair once more than those before it
once_more : (e : ℕ × ℕ × ℕ) (es xs : Pairs) → has_pair e.1 e.2 e ≡ true → count_by (has_pair e.1 e.2) xs + 1 ≤ count_by (has_pair e.1 e.2) (xs ++ e ∷ es)
once_more e es [] own = let here = count_yes (has_pair e.1 e.2) e es own in omega (arith, here)
once_more e es (x ∷ xs) own = turn (once_more e es xs own) (has_pair e.1 e.2 x) refl
  where
    turn : count_by (has_pair e.1 e.2) xs + 1 ≤ count_by (has_pair e.1 e.2) (xs ++ e ∷ es) → (b : Bool) → has_pair e.1 e.2 x ≡ b → count_by (has_pair e.1 e.2) (x ∷ xs) + 1 ≤ count_by (has_pair e.1 e.2) (x ∷ xs ++ e ∷ es)
    turn more true is =
        let one = count_yes (has_pair e.1 e.2) x xs is in
        let two = count_yes (has_pair e.1 e.2) x (xs ++ e ∷ es) is in
        omega (arith, one, two, more)
    turn more false is =
        let one = count_no (has_pair e.1 e.2) x xs is in
        let two = count_no (has_pair e.1 e.2) x (xs ++ e ∷ es) is in
        omega (arith, one, two, more)

-- the pair of an entry stands nowhere before it
fresh : (made : Pairs) (e : ℕ × ℕ × ℕ) (es : Pairs) → IsOneToOne (made ++ e ∷ es) → id_in made e.1 e.2 ≡ None
fresh made e es one =
    let first : (e.1 == e.1) ≡ true = grind arith in
    let second : (e.2 == e.2) ≡ true = grind arith in
    let own : has_pair e.1 e.2 e ≡ true = ap (λ (b : Bool). b && (e.2 == e.2)) first ∙ second in
    let more = once_more e es made own in
    let at_most = one e.1 e.2 in
    not_there made e.1 e.2 (omega (arith, more, at_most))

-- entries are read back behind others
behind_back : (made : Pairs) (least : ℕ) (es : Pairs) → PairsRise least es → IsOneToOne (made ++ es) → AllFit (λ (e : ℕ × ℕ × ℕ). IdFits e.0) es
    → pairs_behind made least (items_of (map triple_json es)) ≡ Some (made ++ es)
behind_back made least [] rise one fit = ap (λ (l : Pairs). Some l) (sym (append_nil made))
  where
    append_nil : (xs : Pairs) → xs ++ [] ≡ xs
    append_nil [] = refl
    append_nil (x ∷ xs) = ap (λ (l : Pairs). x ∷ l) (append_nil xs)
behind_back made least (e ∷ es) rise one fit =
    let low : nat_le least e.0 ≡ true = le-leb least e.0 rise.0 in
    let new = fresh made e es one in
    let follows : may_follow made least e ≡ true = ap (λ (b : Bool). b && not (is_some (id_in made e.1 e.2))) low ∙ ap (λ (o : Option ℕ). not (is_some o)) new in
    let moved : (made ++ e ∷ []) ++ es ≡ made ++ e ∷ es = append_assoc made (e ∷ []) es in
    pair_step made least e (triple_json e) (items_of (map triple_json es)) (triple_back e fit.0) follows
    ∙ behind_back (made ++ e ∷ []) (e.0 + 1) es rise.1 (subst IsOneToOne (sym moved) one) fit.1
    ∙ ap (λ (l : Pairs). Some l) moved

pairs_from_one : (es : Pairs) → PairsRise 0 es → AllFit (λ (e : ℕ × ℕ × ℕ). IdFits e.0) es → PairsRise 1 es
pairs_from_one [] rise fit = tt
pairs_from_one (e ∷ es) rise fit = (fit.0.0, rise.1)

pub pairs_back : (es : Pairs) → PairsFit es → pairs_of (pairs_json es) ≡ Some es
pairs_back es fit = behind_back [] 1 es (pairs_from_one es fit.rise fit.ids) fit.one fit.ids

-- ---- entries

pub stored_back : (line : ℕ × Rows) → StoredFits line → stored_of (stored_json line) ≡ Some line
stored_back line fit = both_back _ _ line.0 line.1 (small_back line.0 fit.0) (table_back line.1 fit.1)

pub aux_back : (line : ℕ × List Rows) → AuxFits line → aux_of (aux_json line) ≡ Some line
aux_back line fit = both_back _ _ line.0 line.1 (small_back line.0 fit.0) (tables_back line.1 fit.1)

pub memory_back : (line : ℕ × Pairs) → MemoryFits line → memory_of (memory_json line) ≡ Some line
memory_back line fit = both_back _ _ line.0 line.1 (small_back line.0 fit.0) (pairs_back line.1 fit.1)

pub version_back : (line : VersionLine) → VersionFits line → version_of (version_json line) ≡ Some line
version_back line fit = ap (λ (o : Option (List ℕ × ℕ)). option_map (λ (f : List ℕ × ℕ). record { name = f.0; set = f.1 }) o) (both_back (Some line.name) _ line.name line.set refl (small_back line.set fit))

pub operator_back : (line : OperatorLine) → OperatorFits line → operator_of (operator_json line) ≡ Some line
operator_back line fit =
    ap (λ (o : Option ((ℕ × ℕ) × (List ℕ × List ℕ))). option_map (λ (f : (ℕ × ℕ) × (List ℕ × List ℕ)). record { number = f.0.0; parent = f.0.1; targets = f.1.0; text = f.1.1 }) o)
    (both_back _ _ (line.number, line.parent) (line.targets, line.text)
    (both_back _ _ line.number line.parent (small_back line.number fit.number) (small_back line.parent fit.parent))
    (both_back _ (Some line.text) line.targets line.text (numbers_back line.targets fit.targets) refl))
