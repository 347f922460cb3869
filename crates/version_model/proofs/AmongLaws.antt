-- Tables that have rows of some identifiers alone have no other identifiers.
use Rattle.std.proofs.Common.{◌≡◌, ℕ, ◌≤◌, List, [], ◌∷◌, ◌++◌, Bool, true, length, Option, Some, None, IsSome, refl, ap, sym, ◌∙◌, subst}
use Rattle.std.proofs.lemmas.Bool.{false≢true}
use Rattle.std.proofs.lemmas.List.{map-append}
use mathlib.Core.Logic.{inl, inr}
use Rattle.row_store.specs.Rows.{row_of}
use Rattle.op_law.specs.Tables.{Tables}
use Rattle.op_law.specs.Sound.{HasRow}
use Rattle.op_law.specs.Local.{only, rows_only}
use Rattle.op_law.specs.Identifiers.{IdsRise, has_id, ids_in, ids_over}
use Rattle.op_law.proofs.IdentifierLaws.{has_over, none_stands_twice}
use Rattle.op_law.proofs.OnlyLaws.{by_test, row_out}
use Rattle.op_law.proofs.IdentifierLaws.{no_more}
use Rattle.version_model.specs.Bounds.{AreAmong}

some_none : {A : Type 0} (o : Option A) → IsSome o → o ≡ None → ⊥
some_none None h e = absurd (false≢true h)
some_none (Some x) h e = absurd (cc)

-- a restricted table has rows of identifiers that pass alone
has_passed : (P : ℕ → Bool) (ts : Tables) (id : ℕ) → HasRow id (only P ts) → P id ≡ true
has_passed P [] id has = absurd has
has_passed P (t ∷ ts) id (inl own) = by_test (P id) (λ e. e) (λ e. let none = row_out P t id e in absurd (some_none (row_of (rows_only P t) id) own none))
has_passed P (t ∷ ts) id (inr other) = has_passed P ts id other

-- tables of these identifiers have no more
pub few : (ids : List ℕ) (ts : Tables) → IdsRise 0 ids → AreAmong ids ts → length (ids_over ts []) ≤ length ids
few ids ts rise among =
    no_more 0 0 (ids_over ts []) ids (none_stands_twice ts) rise (λ id has.
    elim (has_over ts [] id has) [
      | inl own ↦ has_passed (has_id ids) ts id (subst (λ (us : Tables). HasRow id us) (sym among) own)
      | inr none ↦ absurd (false≢true none)
    ])

-- those of some tables beside those of others
ids_behind : (a b : Tables) (ids : List ℕ) → ids_over (a ++ b) ids ≡ ids_over b (ids_over a ids)
ids_behind [] b ids = refl
ids_behind (t ∷ ts) b ids = ids_behind ts b (ids_in t ids)

both_among : (ids : List ℕ) (a b : Tables) → AreAmong ids a → AreAmong ids b → AreAmong ids (a ++ b)
both_among ids a b h k = map-append (rows_only (has_id ids)) a b ∙ ap (λ (x : Tables). x ++ only (has_id ids) b) h ∙ ap (λ (x : Tables). a ++ x) k

pub few_in_two : (ids : List ℕ) (a b : Tables) → IdsRise 0 ids → AreAmong ids a → AreAmong ids b → length (ids_over a (ids_over b [])) ≤ length ids
few_in_two ids a b rise h k = subst (λ (l : List ℕ). length l ≤ length ids) (ids_behind b a []) (few ids (b ++ a) rise (both_among ids b a k h))
