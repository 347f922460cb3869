-- Copying the rows of some identifiers, one after another.
use Rattle.std.specs.Prelude.{◌<◌, ◌≤◌}
use Rattle.std.proofs.Common.{◌≡◌, ℕ, ◌+◌, ◌==◌, List, [], ◌∷◌, ◌++◌, Bool, true, false, cond, length, take, drop, get_or, Option, Some, inl, inr, refl, sym, ap, ◌∙◌, subst, arith}
use Rattle.std.proofs.lemmas.Bool.{cases_eq, cond-false, cond-true, eq-eqb, false≢true, ne_eqb}
use Rattle.std.proofs.lemmas.List.{drop_more, take-append-drop, take_more}
use Rattle.par_base.specs.declared.value.Value.{Value}
use Rattle.row_store.specs.Rows.{AreBelow, RiseFrom, Rows, row_of}
use Rattle.op_law.specs.Identifiers.{IdsRise, has_id}
use Rattle.op_law.specs.Local.{only, rows_only}
use Rattle.op_law.specs.Tables.{Tables}
use Rattle.version_model.specs.Put.{put}
use Rattle.db_state.specs.inner.Passes.{picked}

-- ---- one identifier more

-- the list with one more
has_more : (xs : List ℕ) (x q : ℕ) → has_id (xs ++ x ∷ []) q ≡ cond (x == q) true (has_id xs q)
has_more [] x q = refl
has_more (y ∷ ys) x q =
    let rest = has_more ys x q in
    let M : Bool → Bool → Type 0 = λ b c. cond b true (cond c true (has_id ys q)) ≡ cond c true (cond b true (has_id ys q)) in
    let swapped : M (y == q) (x == q) = elim (y == q) as (λ b. M b (x == q)) [
      | true ↦ elim (x == q) as (λ c. M true c) [ true ↦ refl | false ↦ refl ]
      | false ↦ elim (x == q) as (λ c. M false c) [ true ↦ refl | false ↦ refl ]
    ] in
    ap (λ (b : Bool). cond (y == q) true b) rest ∙ swapped

-- it is above those before it
last_above : (n : ℕ) (xs : List ℕ) (x : ℕ) (ys : List ℕ) → IdsRise n (xs ++ x ∷ ys) → n ≤ x
last_above n [] x ys rise = rise.0
last_above n (y ∷ xs) x ys rise = let a = rise.0 in let b = last_above (y + 1) xs x ys rise.1 in omega (arith, a, b)

below_last : (n : ℕ) (xs : List ℕ) (x : ℕ) (ys : List ℕ) → IdsRise n (xs ++ x ∷ ys) → (q : ℕ) → has_id xs q ≡ true → q < x
below_last n [] x ys rise q has = absurd (false≢true has)
below_last n (y ∷ xs) x ys rise q has =
    elim (cases_eq y q) as (λ _. q < x) [
      | inl same ↦ (let a = last_above (y + 1) xs x ys rise.1 in omega (arith, a, same))
      | inr other ↦ below_last (y + 1) xs x ys rise.1 q (sym (cond-false (y == q) true (has_id xs q) (ne_eqb y q other)) ∙ has)
    ]

pub before_below : (ids : List ℕ) (i : ℕ) → i < length ids → IdsRise 0 ids → (q : ℕ) → has_id (take i ids) q ≡ true → q < get_or ids i 0
before_below ids i within rise =
    let split : ids ≡ take i ids ++ get_or ids i 0 ∷ drop (i + 1) ids = sym (take-append-drop i ids) ∙ ap (λ (rest : List ℕ). take i ids ++ rest) (drop_more ids i 0 within) in
    below_last 0 (take i ids) (get_or ids i 0) (drop (i + 1) ids) (subst (λ (all : List ℕ). IdsRise 0 all) split rise)

-- ---- its row

-- rows of which none passes
none_pass : (P : ℕ → Bool) (n : ℕ) (rows : Rows) → RiseFrom n rows → ((q : ℕ) → n ≤ q → P q ≡ false) → rows_only P rows ≡ []
none_pass P n [] rise none = refl
none_pass P n (r ∷ rs) rise none =
    cond-false (P r.0) (r ∷ rows_only P rs) (rows_only P rs) (none r.0 rise.0)
    ∙ none_pass P (r.0 + 1) rs rise.1 (λ q h. none q (let a = rise.0 in omega (arith, a, h)))

pub none_seen : (rows : Rows) → rows_only (has_id []) rows ≡ []
none_seen [] = refl
none_seen (r ∷ rs) = none_seen rs

-- what passes is below, where the test passes nothing else
pub below_only : (P : ℕ → Bool) (x : ℕ) → ((q : ℕ) → P q ≡ true → q < x) → (rows : Rows) → AreBelow (rows_only P rows) x
below_only P x below [] = tt
below_only P x below (r ∷ rs) =
    let rest = below_only P x below rs in
    let M : Bool → Type 0 = λ b. P r.0 ≡ b → AreBelow (cond b (r ∷ rows_only P rs) (rows_only P rs)) x in
    let both : M (P r.0) = elim (P r.0) as (λ b. M b) [ true ↦ λ e. (below r.0 e, rest) | false ↦ λ e. rest ] in
    both refl

module _ (P Q : ℕ → Bool) (x : ℕ) (more : (q : ℕ) → Q q ≡ cond (x == q) true (P q)) (below : (q : ℕ) → P q ≡ true → q < x) where
  -- nothing from the identifier on passed before
  not_on : (q : ℕ) → x ≤ q → P q ≡ false
  not_on q on =
      let M : Bool → Type 0 = λ b. P q ≡ b → b ≡ false in
      let both : M (P q) = elim (P q) as (λ b. M b) [ true ↦ λ e. (let less = below q e in absurd (omega (arith, less, on))) | false ↦ λ e. refl ] in
      both refl

  -- nor does anything behind it now
  not_behind : (q : ℕ) → x + 1 ≤ q → Q q ≡ false
  not_behind q behind = more q ∙ cond-false (x == q) true (P q) (ne_eqb x q (λ same. omega (arith, same, behind))) ∙ not_on q (omega (arith, behind))

  -- its row comes behind the others
  pub one_more : (n : ℕ) (rows : Rows) → RiseFrom n rows → rows_only Q rows ≡ rows_only P rows ++ picked x (row_of rows x)
  one_more n [] rise = refl
  one_more n (r ∷ rs) rise =
      let Goal : Type 0 = rows_only Q (r ∷ rs) ≡ rows_only P (r ∷ rs) ++ picked x (row_of (r ∷ rs) x) in
      elim (cases_eq r.0 x) as (λ _. Goal) [
        | inl same ↦ (
            let here : Q r.0 ≡ true = more r.0 ∙ cond-true (x == r.0) true (P r.0) (eq-eqb x r.0 (sym same)) in
            let tail : rows_only Q rs ≡ [] = none_pass Q (r.0 + 1) rs rise.1 (λ q h. not_behind q (omega (arith, same, h))) in
            let new : rows_only Q (r ∷ rs) ≡ r ∷ [] = cond-true (Q r.0) (r ∷ rows_only Q rs) (rows_only Q rs) here ∙ ap (λ (l : Rows). r ∷ l) tail in
            let old : rows_only P (r ∷ rs) ≡ [] = none_pass P r.0 (r ∷ rs) (omega arith, rise.1) (λ q h. not_on q (omega (arith, same, h))) in
            let found : row_of (r ∷ rs) x ≡ Some r.1 = cond-true (r.0 == x) (Some r.1) (row_of rs x) (eq-eqb r.0 x same) in
            new ∙ ap (λ (k : ℕ). (k, r.1) ∷ []) same
            ∙ sym (ap (λ (l : Rows). l ++ picked x (row_of (r ∷ rs) x)) old ∙ ap (λ (o : Option (List Value)). picked x o) found))
        | inr other ↦ (
            let rest = one_more (r.0 + 1) rs rise.1 in
            let same : Q r.0 ≡ P r.0 = more r.0 ∙ cond-false (x == r.0) true (P r.0) (ne_eqb x r.0 (λ e. other (sym e))) in
            let past : row_of (r ∷ rs) x ≡ row_of rs x = cond-false (r.0 == x) (Some r.1) (row_of rs x) (ne_eqb r.0 x other) in
            let M : Bool → Type 0 = λ b. cond b (r ∷ rows_only Q rs) (rows_only Q rs) ≡ cond b (r ∷ rows_only P rs) (rows_only P rs) ++ picked x (row_of rs x) in
            let both : M (P r.0) = elim (P r.0) as (λ b. M b) [ true ↦ ap (λ (l : Rows). r ∷ l) rest | false ↦ rest ] in
            ap (λ (b : Bool). cond b (r ∷ rows_only Q rs) (rows_only Q rs)) same ∙ both
            ∙ ap (λ (o : Option (List Value)). rows_only P (r ∷ rs) ++ picked x o) (sym past))
      ]

-- the rows of one identifier more
pub id_more : (ids : List ℕ) (i : ℕ) → i < length ids → IdsRise 0 ids → (rows : Rows) → RiseFrom 0 rows
    → rows_only (has_id (take (i + 1) ids)) rows ≡ rows_only (has_id (take i ids)) rows ++ picked (get_or ids i 0) (row_of rows (get_or ids i 0))
id_more ids i within rise rows rises =
    one_more (has_id (take i ids)) (has_id (take (i + 1) ids)) (get_or ids i 0)
    (λ q. ap (λ (l : List ℕ). has_id l q) (take_more ids i 0 within) ∙ has_more (take i ids) (get_or ids i 0) q)
    (before_below ids i within rise) 0 rows rises

-- ---- tables that are put

-- what is seen of tables that are put is put
pub seen_put : (P : ℕ → Bool) (f : ℕ → Rows) (ks : List ℕ) (vs : Tables) (t : ℕ) → rows_only P (put f ks vs t) ≡ put (λ u. rows_only P (f u)) ks (only P vs) t
seen_put P f [] vs t = refl
seen_put P f (k ∷ ks) [] t = refl
seen_put P f (k ∷ ks) (v ∷ vs) t =
    let rest = seen_put P f ks vs t in
    let M : Bool → Type 0 = λ b. rows_only P (cond b v (put f ks vs t)) ≡ cond b (rows_only P v) (put (λ u. rows_only P (f u)) ks (only P vs) t) in
    elim (t == k) as (λ b. M b) [ true ↦ refl | false ↦ rest ]
