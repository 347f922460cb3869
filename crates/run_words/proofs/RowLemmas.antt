-- Options that have no row yet.
use Rattle.std.specs.Prelude.{◌||◌, ⊤}
use Rattle.std.specs.Str.{bytes_eq}
use Rattle.std.proofs.Common.{◌≡◌, Bool, true, false, List, [], ◌∷◌, ◌++◌, Some, None, refl, sym, ◌∙◌}
use Rattle.std.proofs.lemmas.Slice.Eq.{bytes_eq-Decides}
use Rattle.std.proofs.lemmas.Bool.{or_parts}
use Rattle.clap.specs.Walk.{Row, Text, has_row}
use Rattle.run_words.specs.Words.{Given, value_of}
use Rattle.run_words.proofs.ClapLemmas.{row}

-- none of the options has a row
abbrev pub HaveNone : List Given → List Row → Type 0
HaveNone [] rows = ⊤
HaveNone (g ∷ gs) rows = (has_row g.name rows ≡ false) × HaveNone gs rows

more_rows : (name : Text) (rows : List Row) (r : Row) → has_row name (rows ++ r ∷ []) ≡ (has_row name rows || bytes_eq r.id name)
more_rows name [] r = go (bytes_eq r.id name)
  where
    go : (t : Bool) → (t || false) ≡ t
    go true = refl
    go false = refl
more_rows name (s ∷ rows) r = go (bytes_eq s.id name) (more_rows name rows r)
  where
    go : (t : Bool) → has_row name (rows ++ r ∷ []) ≡ (has_row name rows || bytes_eq r.id name)
        → (t || has_row name (rows ++ r ∷ [])) ≡ ((t || has_row name rows) || bytes_eq r.id name)
    go true e = refl
    go false e = e

turned : (a b : Text) → bytes_eq a b ≡ false → bytes_eq b a ≡ false
turned a b e = go (bytes_eq b a) refl
  where
    go : (t : Bool) → bytes_eq b a ≡ t → bytes_eq b a ≡ false
    go true f = let same : a ≡ b = sym ((bytes_eq-Decides b a).0 f) in let clash : true ≡ false = sym ((bytes_eq-Decides a b).1 same) ∙ e in cc
    go false f = f

not_given : (name : Text) (g : Given) (gs : List Given) → value_of name (g ∷ gs) ≡ None → (bytes_eq g.name name ≡ false) × (value_of name gs ≡ None)
not_given name g gs none = go (bytes_eq g.name name) refl
  where
    go : (t : Bool) → bytes_eq g.name name ≡ t → (bytes_eq g.name name ≡ false) × (value_of name gs ≡ None)
    go true e = let clash : Some g.value ≡ None = rw e at none in cc
    go false e = (e, rw e at none)

-- a row more, of an option that isn't given again
pub still_none : (name value : Text) (gs : List Given) (rows : List Row) → value_of name gs ≡ None → HaveNone gs rows
    → HaveNone gs (rows ++ row (record { name = name; value = value }) ∷ [])
still_none name value [] rows none have = tt
still_none name value (g ∷ gs) rows none have =
    let n = not_given name g gs none in (
      more_rows g.name rows (row (record { name = name; value = value })) ∙ rw (have.0, turned g.name name n.0) refl,
      still_none name value gs rows n.1 have.1,
    )

-- and back
pub were_none : (name value : Text) (gs : List Given) (rows : List Row) → HaveNone gs (rows ++ row (record { name = name; value = value }) ∷ [])
    → HaveNone gs rows × (value_of name gs ≡ None)
were_none name value [] rows have = (tt, refl)
were_none name value (g ∷ gs) rows have =
    let p = or_parts (has_row g.name rows) (bytes_eq name g.name) (sym (more_rows g.name rows (row (record { name = name; value = value }))) ∙ have.0) in
    let q = were_none name value gs rows have.1 in
    ((p.0, q.0), rw (turned name g.name p.1) q.1)
