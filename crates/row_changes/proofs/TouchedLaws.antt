-- The identifiers that changes name.
use Rattle.std.proofs.Common.{◌≡◌, ℕ, ◌==◌, List, [], ◌∷◌, Bool, true, false, cond, refl, ap, ◌∙◌, arith}
use Rattle.std.proofs.lemmas.Bool.{eq-eqb}
use Rattle.row_store.specs.declared.change.Change.{Change}
use Rattle.op_rows.specs.inner.CellLemmas.{has_id, has_put, rise_put, IdsRise}
use Rattle.row_changes.specs.Changed.{TableChanges}
use Rattle.row_changes.specs.Touched.{touched_in, touched_over, touched, AllPass, EachPass}

pub rise_touched : (cs : List Change) (ids : List ℕ) → IdsRise 0 ids → IdsRise 0 (touched_in cs ids)
rise_touched [] ids h = h
rise_touched (c ∷ cs) ids h = rise_put 0 c.id (touched_in cs ids) (omega arith) (rise_touched cs ids h)

pub rise_over : (changes : TableChanges) (ids : List ℕ) → IdsRise 0 ids → IdsRise 0 (touched_over changes ids)
rise_over [] ids h = h
rise_over (c ∷ cs) ids h = rise_over cs (touched_in c ids) (rise_touched c ids h)

true_or : (a b : Bool) → b ≡ true → cond a true b ≡ true
true_or true b e = refl
true_or false b e = e

-- what was there stays
stays_in : (cs : List Change) (ids : List ℕ) (id : ℕ) → has_id ids id ≡ true → has_id (touched_in cs ids) id ≡ true
stays_in [] ids id h = h
stays_in (c ∷ cs) ids id h = has_put c.id (touched_in cs ids) id ∙ true_or (c.id == id) (has_id (touched_in cs ids) id) (stays_in cs ids id h)

pub stays_over : (changes : TableChanges) (ids : List ℕ) (id : ℕ) → has_id ids id ≡ true → has_id (touched_over changes ids) id ≡ true
stays_over [] ids id h = h
stays_over (c ∷ cs) ids id h = stays_over cs (touched_in c ids) id (stays_in c ids id h)

own_pass : (all cs : List Change) (ids : List ℕ) (P : ℕ → Bool) → ((id : ℕ) → has_id (touched_in cs ids) id ≡ true → P id ≡ true) → AllPass P cs
own_pass all [] ids P h = tt
own_pass all (c ∷ cs) ids P h = (
  h c.id (has_put c.id (touched_in cs ids) c.id ∙ ap (λ (b : Bool). cond b true (has_id (touched_in cs ids) c.id)) (eq-eqb c.id c.id refl)),
  own_pass all cs ids P (λ id e. h id (has_put c.id (touched_in cs ids) id ∙ true_or (c.id == id) (has_id (touched_in cs ids) id) e)),
)

-- each change is of a touched identifier
pub each_pass : (changes : TableChanges) (ids : List ℕ) (P : ℕ → Bool) → ((id : ℕ) → has_id (touched_over changes ids) id ≡ true → P id ≡ true) → EachPass P changes
each_pass [] ids P h = tt
each_pass (c ∷ cs) ids P h = (own_pass c c ids P (λ id e. h id (stays_over cs (touched_in c ids) id e)), each_pass cs (touched_in c ids) P h)

pub touched_pass : (changes : TableChanges) → EachPass (has_id (touched changes)) changes
touched_pass changes = each_pass changes [] (has_id (touched changes)) (λ id e. e)
