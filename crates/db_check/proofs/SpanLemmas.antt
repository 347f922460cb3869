-- One span more, and one table or operator more of a part.
use Rattle.std.specs.Prelude.{◌<◌, ◌≤◌, nat_le, Result, Ok, Err}
use Rattle.std.proofs.Common.{◌≡◌, ℕ, zero, suc, ◌+◌, List, [], ◌∷◌, ◌++◌, Bool, true, map, None, length, take, get_or, inl, inr, refl, sym, ap, ◌∙◌, subst, arith}
use Rattle.std.proofs.lemmas.Bool.{and_from, cases_lt, le-leb}
use Rattle.std.proofs.lemmas.List.{map-append, take_more}
use mathlib.Core.List.{reverse}
use Rattle.par_base.specs.declared.fault.Fault.{Fault}
use Rattle.par_base.specs.declared.fault.Fault.TheVariants.{Refused, Memory}
use Rattle.row_store.specs.Rows.{RiseFrom, Rows}
use Rattle.row_store.specs.States.{TableState}
use Rattle.version_graph.specs.Sets.{In}
use Rattle.version_graph.specs.Edges.{numbers}
use Rattle.version_graph.specs.Forest.{forest}
use Rattle.version_graph.proofs.SetLaws.{in_append}
use Rattle.version_graph.proofs.WalkStepLaws.{in_reverse}
use Rattle.op_law.specs.Meaning.{Meaning}
use Rattle.op_law.specs.Laws.{Laws}
use Rattle.op_law.specs.Local.{only, rows_only}
use Rattle.op_law.specs.Tables.{AllRise, Tables, contents}
use Rattle.op_law.specs.declared.side.Aux.{Aux}
use Rattle.layout_rules.proofs.LinkLaws.{number_listed}
use Rattle.version_model.specs.Kept.{rows_at}
use Rattle.version_model.specs.declared.numbered.Numbered.{Numbered}
use Rattle.version_model.proofs.CrossingLaws.{numbers_linked}
use Rattle.db_state.specs.Parts.{AreLocalAt}
use Rattle.db_state.specs.declared.parts.Parts.{Parts}
use Rattle.db_check.specs.declared.checking.NotValid.{NotValid}
use Rattle.db_check.specs.declared.spans.Span.{Span}
use Rattle.db_check.specs.inner.Calls.{AdmitsAll, AreWell, MayRead}
use Rattle.db_check.specs.inner.Spans.{AdmitsSpan, AreLocal, IsGood, IsGoodAt, IsPart, aux_line_in, aux_line_of, in_span, line_in, line_of, with_tables}
use Rattle.db_check.proofs.PartLemmas.{part_is_database}
use Rattle.db_check.proofs.WholeLemmas.{whole_is}

-- ---- what was gone over

pub rise_taken : (tables : List TableState) (i : ℕ) (d : TableState) → i < length tables → AllRise (contents (take i tables)) → RiseFrom 0 (get_or tables i d).rows → AllRise (contents (take (i + 1) tables))
rise_taken [] i d h rise own = absurd (omega arith)
rise_taken (t ∷ ts) zero d h rise own = (own, tt)
rise_taken (t ∷ ts) (suc i) d h rise own = let e : suc i + 1 ≡ suc (i + 1) = omega arith in rw e (rise.0, rise_taken ts i d (omega arith) rise.1 own)

pub all_taken : {X : Type 0} (P : X → Type 0) (xs : List X) (i : ℕ) (d : X) → i < length xs → ((x : X) → In x (take i xs) → P x) → P (get_or xs i d) → (x : X) → In x (take (i + 1) xs) → P x
all_taken {X} P xs i d h before own x j =
    elim (in_append x (take i xs) (get_or xs i d ∷ []) (subst (λ (l : List X). In x l) (take_more xs i d h) j)) as (λ _. P x) [
      | inl k ↦ before x k
      | inr last ↦ elim last as (λ _. P x) [ inl same ↦ subst P (sym same) own | inr none ↦ absurd none ]
    ]

-- what is seen of one more
pub map_taken : {X Y B : Type 0} (f : Y → B) (g : X → B) (made : List Y) (y : Y) (xs : List X) (i : ℕ) (d : X) → i < length xs → map f made ≡ map g (take i xs) → f y ≡ g (get_or xs i d) → map f (made ++ y ∷ []) ≡ map g (take (i + 1) xs)
map_taken {X} {Y} {B} f g made y xs i d h before own =
    map-append f made (y ∷ []) ∙ ap (λ (l : List B). l ++ f y ∷ []) before ∙ ap (λ (b : B). map g (take i xs) ++ b ∷ []) own
    ∙ sym (ap (map g) (take_more xs i d h) ∙ map-append g (take i xs) (get_or xs i d ∷ []))

pub contents_taken : (P : ℕ → Bool) (made : List TableState) (y : TableState) (xs : List TableState) (i : ℕ) (d : TableState) → i < length xs → contents made ≡ only P (contents (take i xs)) → y.rows ≡ rows_only P (get_or xs i d).rows → contents (made ++ y ∷ []) ≡ only P (contents (take (i + 1) xs))
contents_taken P made y xs i d h before own =
    let rows : TableState → Rows = λ t. t.rows in
    map-append rows made (y ∷ []) ∙ ap (λ (l : Tables). l ++ y.rows ∷ []) before ∙ ap (λ (r : Rows). only P (contents (take i xs)) ++ r ∷ []) own
    ∙ sym (ap (λ (l : List TableState). only P (contents l)) (take_more xs i d h)
    ∙ ap (only P) (map-append rows (take i xs) (get_or xs i d ∷ []))
    ∙ map-append (rows_only P) (contents (take i xs)) ((get_or xs i d).rows ∷ []))

-- ---- all live operators

-- where those of the listed numbers treat each identifier by itself, all do
pub all_local : {O : Type 0} (meaning : O → Meaning) (p : Parts O) (live : List ℕ) → live ≡ reverse (numbers p.graph.edges) → AreLocalAt meaning p.graph.edges live → AreLocal meaning p
all_local meaning p live is locals e at =
    let es = p.graph.edges in
    locals e at (subst (λ (l : List ℕ). In e.number l) (sym is) (in_reverse e.number (numbers es) (subst (λ (l : List ℕ). In e.number l) (numbers_linked es) (number_listed (forest es) e at))))

-- ---- spans

module _ {O : Type 0} (meaning : O → Meaning) (p : Parts O) (low : ℕ) (before : (id : ℕ) → id < low → IsGoodAt meaning p id) where
  -- and that of the last one
  pub good_all : IsGood meaning p (in_span (record { low = low; high = None })) → (id : ℕ) → IsGoodAt meaning p id
  good_all good id = elim (cases_lt id low) as (λ _. IsGoodAt meaning p id) [
    | inl under ↦ before id under
    | inr above ↦ record { test = in_span (record { low = low; high = None }); among = and_from (nat_le low id) true (le-leb low id above) refl; good = good }
  ]

-- ---- answers

-- what was made of the lists of the fields and put in their place is the part
pub is_part : {O : Type 0} (P : ℕ → Bool) (p : Parts O) (items made tables : List (Numbered TableState)) (aux_items aux_made auxes : List (Numbered Aux)) → tables ≡ made → map line_of made ≡ map (line_in P) items → items ≡ p.stored
    → auxes ≡ aux_made → map aux_line_of aux_made ≡ map (aux_line_in P) aux_items → aux_items ≡ p.aux → IsPart P p tables auxes
is_part P p items made tables aux_items aux_made auxes put lines own aux_put aux_lines aux_own = record {
  stored = ap (map line_of) put ∙ lines ∙ ap (map (line_in P)) own;
  aux = ap (map aux_line_of) aux_put ∙ aux_lines ∙ ap (map (aux_line_in P)) aux_own;
}

-- a part that isn't a database is no part of one
pub refused_part : {O : Type 0} (meaning : O → Meaning) → ((o : O) → Laws (meaning o)) → (p : Parts O) → AreLocal meaning p → (span : Span) (tables : List (Numbered TableState)) (auxes : List (Numbered Aux)) → IsPart (in_span span) p tables auxes
    → (f : Fault NotValid) → AdmitsAll meaning (with_tables p tables auxes) (Err f) → AdmitsSpan meaning p span (Err f)
refused_part meaning laws p locals span tables auxes part (Refused r) none = λ is. none (part_is_database meaning laws p locals (in_span span) tables auxes part is)
refused_part meaning laws p locals span tables auxes part (Memory memory) none = tt

-- with the last span all passed
pub last_admits : {O : Type 0} (meaning : O → Meaning) → ((o : O) → Laws (meaning o)) → (p : Parts O) → MayRead meaning p → AreWell p (rows_at p.stored) → AreLocal meaning p → {n : ℕ} → 1 ≤ n → n ≡ p.ids.next
    → (low : ℕ) → ((id : ℕ) → id < low → IsGoodAt meaning p id) → (r : Result (Unit {0}) (Fault NotValid)) → AdmitsSpan meaning p (record { low = low; high = None }) r → AdmitsAll meaning p r
last_admits meaning laws p may well locals from is low before (Ok done) got = whole_is meaning laws p may well locals got.1 (good_all meaning p low before got.0) from is
last_admits meaning laws p may well locals from is low before (Err (Refused r)) got = got
last_admits meaning laws p may well locals from is low before (Err (Memory memory)) got = tt
