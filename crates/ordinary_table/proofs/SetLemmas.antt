-- A row after one more SET.
use Rattle.std.proofs.Common.{◌≡◌, ◌∙◌, ℕ, zero, suc, ◌+◌, ◌<◌, ◌==◌, List, [], ◌∷◌, ◌++◌, true, false, if◌then◌else◌, map, length, get_or, take, set, refl, ap, sym, subst, arith}
use Rattle.std.specs.List.{All}
use Rattle.std.proofs.lemmas.Bool.Decides.{nat_tests}
use Rattle.std.proofs.lemmas.List.{get_or-map, length-map, map_more}
use Rattle.par_base.specs.declared.value.Value.{Value}
use Rattle.expr_lang.specs.Val.{val}
use Rattle.ordinary_table.specs.declared.update.SetTo.{SetTo}
use Rattle.ordinary_table.specs.Written.{SetTerm, set_term, sets_of, value_after, values_after}
use Rattle.ordinary_table.specs.Fits.{SetFits}

-- without SETs all stays
pub values_after_none : (before : List Value) (k : ℕ) (values : List Value) → values_after [] before k values ≡ values
values_after_none before k [] = refl
values_after_none before k (own ∷ values) = rw (values_after_none before (k + 1) values) refl

pub length-values_after : (sets : List SetTerm) (before : List Value) (k : ℕ) (values : List Value) → length (values_after sets before k values) ≡ length values
length-values_after sets before k [] = refl
length-values_after sets before k (own ∷ values) = ap suc (length-values_after sets before (k + 1) values)

pub value_after_push : (sets : List SetTerm) (s : SetTerm) (before : List Value) (place : ℕ) (own : Value)
    → value_after (sets ++ s ∷ []) before place own ≡ (if s.place == place then val s.value before else value_after sets before place own)
value_after_push [] s before place own = refl
value_after_push (t ∷ sets) s before place own = value_after_push sets s before place (if t.place == place then val t.value before else own)

-- the columns behind its place stay
values_beyond : (sets : List SetTerm) (s : SetTerm) (before : List Value) (k m : ℕ) (values : List Value) → s.place + 1 + m ≡ k
    → values_after (sets ++ s ∷ []) before k values ≡ values_after sets before k values
values_beyond sets s before k m [] e = refl
values_beyond sets s before k m (own ∷ values) e =
    let other : (s.place == k) ≡ false = grind (arith, nat_tests) in
    rw (value_after_push sets s before k own, other, values_beyond sets s before (k + 1) (m + 1) values (omega arith)) refl

-- only the column at its place changes
pub values_after_push : (sets : List SetTerm) (s : SetTerm) (before : List Value) (k m : ℕ) (values : List Value) → s.place ≡ k + m
    → values_after (sets ++ s ∷ []) before k values ≡ set (values_after sets before k values) m (val s.value before)
values_after_push sets s before k m [] e = refl
values_after_push sets s before k zero (own ∷ values) e =
    let same : (s.place == k) ≡ true = grind (arith, nat_tests) in
    rw (value_after_push sets s before k own, same, values_beyond sets s before (k + 1) 0 values (omega arith)) refl
values_after_push sets s before k (suc m) (own ∷ values) e =
    let other : (s.place == k) ≡ false = grind (arith, nat_tests) in
    rw (value_after_push sets s before k own, other, values_after_push sets s before (k + 1) m values (omega arith)) refl

-- each SET fits the row
pub fits_at : (width : ℕ) (sets : List SetTo) (i : ℕ) (s : SetTo) → All (SetFits width) (sets_of sets) → i < length sets → s ≡ get_or sets i s → SetFits width (set_term s)
fits_at width sets i s all within is =
    subst (SetFits width) (get_or-map set_term sets i s (set_term s) within ∙ ap set_term (sym is)) (all i (set_term s) (omega (arith, length-map sets set_term)))

-- the values after the next SET
pub values_after_more : (sets : List SetTo) (i : ℕ) (s : SetTo) (before own : List Value) → i < length sets → s ≡ get_or sets i s
    → values_after (sets_of (take (i + 1) sets)) before 0 own ≡ set (values_after (sets_of (take i sets)) before 0 own) s.place (val (set_term s).value before)
values_after_more sets i s before own within is =
    ap (λ (ts : List SetTerm). values_after ts before 0 own) (map_more set_term sets i s within ∙ ap (λ (q : SetTo). map set_term (take i sets) ++ set_term q ∷ []) (sym is))
    ∙ values_after_push (sets_of (take i sets)) (set_term s) before 0 s.place own (omega arith)
