-- Changes that were applied, and the two passes that undo them.
use Rattle.std.specs.Prelude.{IsSome, is_none}
use Rattle.std.proofs.Common.{◌≡◌, ℕ, zero, suc, ◌+◌, ◌<◌, ◌≤◌, ◌==◌, List, [], ◌∷◌, ◌++◌, Bool, true, false, length, get_or, Option, Some, None, if◌then◌else◌, refl, sym, ap, ◌∙◌, subst, arith}
use Rattle.std.proofs.lemmas.Bool.{eq-eqb, eqb-true}
use Rattle.std.proofs.Math.Bool.{and-false}
use mathlib.Core.Logic.{inr}
use Rattle.par_base.proofs.TestLaws.{apart_below, apart_above, swap_tests}
use Rattle.par_base.specs.declared.value.Value.{Value}
use Rattle.row_store.specs.declared.change.Change.{Change}
use Rattle.row_store.specs.declared.exchange.Which.{Which}
use Rattle.row_store.specs.declared.exchange.Which.TheVariants.{All, Added, Others}
use Rattle.row_store.specs.Rows.{Rows, RiseFrom, AreBelow, row_of}
use Rattle.row_store.specs.Changes.{ChangesRise, AreOld, after, back_to, reverse_of, WasApplied}
use Rattle.row_store.specs.inner.Passes.{is_in, after_in, exchanged, exchanged_one, HasRoom, PutsAt}
use Rattle.row_store.specs.inner.FoundRows.{rises_push}
pub use Rattle.row_store.specs.inner.SameTables.{ext}

-- a pass over all changes is all that they say
pub after_all : (cs : List Change) (id : ℕ) (row : Option (List Value)) → after_in All cs id row ≡ after cs id row
after_all [] id row = refl
after_all (c ∷ cs) id row = ap (λ (rest : Option (List Value)). if c.id == id then c.new else rest) (after_all cs id row)

same_id : (w : Which) (rows : Rows) (c : Change) (t : Bool) → is_in w c ≡ t → (exchanged_one w rows c).id ≡ c.id
same_id w rows c true e = rw e refl
same_id w rows c false e = rw e refl

-- a pass keeps the identifiers
pub exchanged_rise : (w : Which) (rows : Rows) (n : ℕ) (cs : List Change) → ChangesRise n cs → ChangesRise n (exchanged w rows cs)
exchanged_rise w rows n [] rise = tt
exchanged_rise w rows n (c ∷ cs) rise =
    let same = same_id w rows c (is_in w c) refl in
    let rest = exchanged_rise w rows (c.id + 1) cs rise.1 in
    (omega (arith, rise.0, same), subst (λ (k : ℕ). ChangesRise (k + 1) (exchanged w rows cs)) (sym same) rest)

no_new : (o : Option (List Value)) → is_none o ≡ true → IsSome o → ⊥
no_new None none some = cc
no_new (Some row) none some = cc

-- a change that added a row has none to bring back
pub added_new : (before : Rows) (cs : List Change) (k : ℕ) (d : Change) → AreOld before cs → k < length (reverse_of before cs) → is_none (get_or (reverse_of before cs) k d).old ≡ true → IsSome (get_or (reverse_of before cs) k d).new → ⊥
added_new before [] k d fit h none some = absurd (omega arith)
added_new before (c ∷ cs) zero d fit h none some = no_new c.old none (subst IsSome (sym fit.0) some)
added_new before (c ∷ cs) (suc k) d fit h none some = added_new before cs k d fit.1 (omega arith) none some

-- the second pass leaves what has come back
still_by : (before now : Rows) (c : Change) (cs : List Change) (id : ℕ) (t : Bool) (o : Option (List Value)) → (c.id == id) ≡ t → c.old ≡ o
    → after_in Others (exchanged Added now (reverse_of before cs)) id (row_of before id) ≡ row_of before id
    → after_in Others (exchanged Added now (reverse_of before (c ∷ cs))) id (row_of before id) ≡ row_of before id
still_by before now c cs id true None e old rest = rw old rest
still_by before now c cs id true (Some row) e old rest = rw (old, e) (ap (row_of before) (eqb-true c.id id e))
still_by before now c cs id false None e old rest = rw old rest
still_by before now c cs id false (Some row) e old rest = rw (old, e) rest

still : (before now : Rows) (cs : List Change) (id : ℕ) → after_in Others (exchanged Added now (reverse_of before cs)) id (row_of before id) ≡ row_of before id
still before now [] id = refl
still before now (c ∷ cs) id = still_by before now c cs id (c.id == id) c.old refl refl (still before now cs id)

restored_by : (before now : Rows) (c : Change) (cs : List Change) (id : ℕ) (t : Bool) (o : Option (List Value)) → (c.id == id) ≡ t → c.old ≡ o
    → after_in Others (exchanged Added now (reverse_of before cs)) id (after_in Added (reverse_of before cs) id (after cs id (row_of before id))) ≡ row_of before id
    → after_in Others (exchanged Added now (reverse_of before (c ∷ cs))) id (after_in Added (reverse_of before (c ∷ cs)) id (after (c ∷ cs) id (row_of before id))) ≡ row_of before id
restored_by before now c cs id true None e old rest =
    let same : row_of before c.id ≡ row_of before id = ap (row_of before) (eqb-true c.id id e) in
    rw (old, e) (ap (after_in Others (exchanged Added now (reverse_of before cs)) id) same ∙ still before now cs id)
restored_by before now c cs id true (Some row) e old rest = rw (old, e) (ap (row_of before) (eqb-true c.id id e))
restored_by before now c cs id false None e old rest = rw (old, e) rest
restored_by before now c cs id false (Some row) e old rest = rw (old, e) rest

-- after both passes each identifier has the row that it had before
pub restored : (before now : Rows) (cs : List Change) (id : ℕ) → after_in Others (exchanged Added now (reverse_of before cs)) id (after_in Added (reverse_of before cs) id (after cs id (row_of before id))) ≡ row_of before id
restored before now [] id = refl
restored before now (c ∷ cs) id = restored_by before now c cs id (c.id == id) c.old refl refl (restored before now cs id)

kept_by : (before : Rows) (c : Change) (cs : List Change) (id : ℕ) (t : Bool) (o : Option (List Value)) → (c.id == id) ≡ t → c.old ≡ o → c.old ≡ row_of before c.id
    → (IsSome (after_in Added (reverse_of before cs) id (after cs id (row_of before id))) → IsSome (row_of before id))
    → IsSome (after_in Added (reverse_of before (c ∷ cs)) id (after (c ∷ cs) id (row_of before id))) → IsSome (row_of before id)
kept_by before c cs id true None e old fit rest some =
    let has : IsSome (row_of before c.id) = rw (old, e) at some in
    subst (λ (k : ℕ). IsSome (row_of before k)) (eqb-true c.id id e) has
kept_by before c cs id true (Some row) e old fit rest some =
    let is : row_of before id ≡ Some row = ap (row_of before) (sym (eqb-true c.id id e)) ∙ sym fit ∙ old in
    rw is refl
kept_by before c cs id false None e old fit rest some = rest (rw (old, e) at some)
kept_by before c cs id false (Some row) e old fit rest some = rest (rw (old, e) at some)

-- what has a row after the first pass had one before
pub kept : (before : Rows) (cs : List Change) (id : ℕ) → AreOld before cs → IsSome (after_in Added (reverse_of before cs) id (after cs id (row_of before id))) → IsSome (row_of before id)
kept before [] id fit some = some
kept before (c ∷ cs) id fit some = kept_by before c cs id (c.id == id) c.old refl refl fit.0 (kept before cs id fit.1) some

other_by : (before now : Rows) (c : Change) (o : Option (List Value)) → c.old ≡ o → is_in Others (exchanged_one Added now (back_to before c)) ≡ true → IsSome (exchanged_one Added now (back_to before c)).new → IsSome (row_of before (exchanged_one Added now (back_to before c)).id)
other_by before now c None old taken some = let no : false ≡ true = rw old at taken in cc
other_by before now c (Some row) old taken some = rw old (rw old at some)

-- what the second pass brings back stood there before
pub other_new : (before now : Rows) (cs : List Change) (k : ℕ) (d : Change) → k < length (exchanged Added now (reverse_of before cs)) → is_in Others (get_or (exchanged Added now (reverse_of before cs)) k d) ≡ true → IsSome (get_or (exchanged Added now (reverse_of before cs)) k d).new → IsSome (row_of before (get_or (exchanged Added now (reverse_of before cs)) k d).id)
other_new before now [] k d h taken some = absurd (omega arith)
other_new before now (c ∷ cs) zero d h taken some = other_by before now c c.old refl taken some
other_new before now (c ∷ cs) (suc k) d h taken some = other_new before now cs k d (omega arith) taken some

-- later changes say nothing of an identifier below them
none_later : (w : Which) (before : Rows) (n : ℕ) (cs : List Change) (id : ℕ) (row : Option (List Value)) → ChangesRise n cs → id < n → after_in w (reverse_of before cs) id row ≡ row
none_later w before n [] id row rise h = refl
none_later w before n (c ∷ cs) id row rise h =
    let other = apart_above c.id id (omega (arith, rise.0)) in
    let no = and-false (is_in w (back_to before c)) in
    rw (other, no) (none_later w before (c.id + 1) cs id row rise.1 (omega (arith, rise.0)))

renewed_one : (before now rows : Rows) (c : Change) (cs : List Change) (o : Option (List Value)) → c.old ≡ o → ChangesRise (c.id + 1) cs
    → row_of now c.id ≡ c.new
    → row_of rows c.id ≡ after_in Added (reverse_of before (c ∷ cs)) c.id (row_of now c.id)
    → exchanged_one Others rows (exchanged_one Added now (back_to before c)) ≡ c
renewed_one before now rows c cs None old rise new other =
    let is : record c { new = row_of now c.id } ≡ c = ap (λ (row : Option (List Value)). record c { new = row }) new in
    rw old (subst (λ (was : Option (List Value)). record c { old = was; new = row_of now c.id } ≡ record c { old = was }) old is)
renewed_one before now rows c cs (Some row) old rise new other =
    let here : row_of rows c.id ≡ row_of now c.id = rw (old, none_later Added before (c.id + 1) cs c.id (row_of now c.id) rise (omega arith)) at other in
    let is : record c { new = row_of rows c.id } ≡ c = ap (λ (row : Option (List Value)). record c { new = row }) (here ∙ new) in
    rw old (subst (λ (was : Option (List Value)). record c { old = was; new = row_of rows c.id } ≡ record c { old = was }) old is)

-- after both passes the changes are as they were
pub renewed : (before now rows : Rows) (n : ℕ) (cs : List Change) → ChangesRise n cs
    → ((id : ℕ) → n ≤ id → row_of now id ≡ after cs id (row_of before id))
    → ((id : ℕ) → n ≤ id → row_of rows id ≡ after_in Added (reverse_of before cs) id (row_of now id))
    → exchanged Others rows (exchanged Added now (reverse_of before cs)) ≡ cs
renewed before now rows n [] rise was passed = refl
renewed before now rows n (c ∷ cs) rise was passed =
    let own = eq-eqb c.id c.id refl in
    let new : row_of now c.id ≡ c.new = rw own at (was c.id rise.0) in
    let head = renewed_one before now rows c cs c.old refl rise.1 new (passed c.id rise.0) in
    let tail = renewed before now rows (c.id + 1) cs rise.1
    (λ id h. let other = apart_below c.id id (omega arith) in rw other at (was id (omega (arith, rise.0))))
    (λ id h. let other = apart_below c.id id (omega arith) in rw (other, and-false (is_none c.old)) at (passed id (omega (arith, rise.0)))) in
    cc

-- the first pass of an undo needs no room
pub room_added : (rows before : Rows) (cs left : List Change) (capacity : ℕ) → RiseFrom 0 rows → length rows ≤ capacity → AreOld before cs → left ≡ reverse_of before cs → HasRoom Added rows left capacity
room_added rows before cs left capacity rise fits fit is =
    subst (λ (changes : List Change). HasRoom Added rows changes capacity) (sym is)
    (inr (rows, record { rises = rise; fits = fits; has_rows = λ id some. some; has_new = λ k d h taken some. absurd (added_new before cs k d fit h taken some) }))

-- the rows after the first pass, said of what stood before
passed_is : (rows now before : Rows) (cs left : List Change) (id : ℕ) → left ≡ reverse_of before cs → row_of now id ≡ after cs id (row_of before id) → row_of rows id ≡ after_in Added left id (row_of now id) → row_of rows id ≡ after_in Added (reverse_of before cs) id (after cs id (row_of before id))
passed_is rows now before cs left id is was passed = passed ∙ ap (λ (changes : List Change). after_in Added changes id (row_of now id)) is ∙ ap (after_in Added (reverse_of before cs) id) was

-- the second pass has room, where the table that comes back has
pub room_others : (rows now before : Rows) (cs left kept_left : List Change) (capacity : ℕ) → WasApplied before cs now left → length before ≤ capacity
    → ((id : ℕ) → row_of rows id ≡ after_in Added left id (row_of now id)) → kept_left ≡ exchanged Added now left → HasRoom Others rows kept_left capacity
room_others rows now before cs left kept_left capacity was fits passed is =
    let all : kept_left ≡ exchanged Added now (reverse_of before cs) = is ∙ ap (exchanged Added now) was.reversed in
    subst (λ (changes : List Change). HasRoom Others rows changes capacity) (sym all)
    (inr (
      before,
      record {
        rises = was.rises;
        fits = fits;
        has_rows = λ id some. kept before cs id was.fit (subst IsSome (passed_is rows now before cs left id was.reversed (was.changed.rows id) (passed id)) some);
        has_new = other_new before now cs;
      },
    ))

rise_back : (before : Rows) (n : ℕ) (cs : List Change) → ChangesRise n (reverse_of before cs) → ChangesRise n cs
rise_back before n [] rise = tt
rise_back before n (c ∷ cs) rise = (rise.0, rise_back before (c.id + 1) cs rise.1)

-- both passes restore the table and the changes
pub undone : (last rows now before : Rows) (cs left kept_left last_left : List Change) → WasApplied before cs now left → ChangesRise 0 left
    → ((id : ℕ) → row_of rows id ≡ after_in Added left id (row_of now id)) → kept_left ≡ exchanged Added now left
    → RiseFrom 0 last → ((id : ℕ) → row_of last id ≡ after_in Others kept_left id (row_of rows id)) → last_left ≡ exchanged Others rows kept_left
    → (last ≡ before) × (last_left ≡ cs)
undone last rows now before cs left kept_left last_left was rise passed is rise_last passed_last is_last =
    let all : kept_left ≡ exchanged Added now (reverse_of before cs) = is ∙ ap (exchanged Added now) was.reversed in
    let rise_cs : ChangesRise 0 cs = rise_back before 0 cs (subst (ChangesRise 0) was.reversed rise) in (
      ext 0 last before rise_last was.rises
          (λ id. passed_last id ∙ ap (λ (changes : List Change). after_in Others changes id (row_of rows id)) all
          ∙ ap (after_in Others (exchanged Added now (reverse_of before cs)) id) (passed_is rows now before cs left id was.reversed (was.changed.rows id) (passed id))
          ∙ restored before now cs id),
      is_last ∙ ap (exchanged Others rows) all
          ∙ renewed before now rows 0 cs rise_cs (λ id h. was.changed.rows id) (λ id h. passed id ∙ ap (λ (changes : List Change). after_in Added changes id (row_of now id)) was.reversed),
    )

-- a row of a greater identifier is behind the others
row_of_push : (rows : Rows) (id : ℕ) (row : List Value) (q : ℕ) → AreBelow rows id → row_of (rows ++ (id, row) ∷ []) q ≡ (if id == q then Some row else row_of rows q)
row_of_push [] id row q below = refl
row_of_push (r ∷ rs) id row q below =
    rw (row_of_push rs id row q below.1) (swap_tests (r.0 == q) (id == q) (Some r.1) (Some row) (row_of rs q) (λ e. let same = eqb-true r.0 q e in apart_above id q (omega (arith, same, below.0))))

pub pushed : (rows now : Rows) (id : ℕ) (row : List Value) → RiseFrom 0 rows → AreBelow rows id → RiseFrom 0 now → PutsAt id (Some row) rows now → now ≡ rows ++ (id, row) ∷ []
pushed rows now id row rise below rise_now puts =
    ext 0 now (rows ++ (id, row) ∷ []) rise_now (rises_push 0 rows id row (omega arith) rise below) (λ q. puts q ∙ sym (row_of_push rows id row q below))
