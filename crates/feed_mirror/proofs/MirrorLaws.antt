-- What shows a version's tables, and the note of an event.
use Rattle.std.proofs.Common.{◌≡◌, ℕ, ◌+◌, List, [], ◌∷◌, length, false, if◌then◌else◌, refl, sym, ◌∙◌, ap, subst, arith}
use Rattle.std.specs.Str.{bytes_eq}
use mathlib.Core.Logic.{inl, inr}
use Rattle.row_store.specs.Rows.{Rows}
use Rattle.change_feed.proofs.NameLemmas.{names, one_name, two_names, picks, passes}
use Rattle.row_store.specs.Changes.{AreOld}
use Rattle.row_changes.specs.Changed.{changed}
use Rattle.row_changes.specs.Differences.{IsDifference}
use Rattle.change_feed.specs.declared.note.TableChange.{TableChange}
use Rattle.change_feed.specs.Shown.{Named, rows_at, with_change, after_changes, Fit, count_rows}
use Rattle.feed_mirror.specs.Notes.{IsNoteOf, IsOther, AreApart, emptied}
use Rattle.feed_mirror.specs.Laws.{MirrorsFollow, MirrorsStart}

-- ---- one table changed

-- the changed table has the changed rows
at_same : (c : TableChange) (s : Named) → rows_at (with_change c s) c.table ≡ changed (rows_at s c.table) c.changes
at_same c [] = picks (bytes_eq c.table c.table) (changed [] c.changes) [] (one_name c.table c.table refl)
at_same c (t ∷ ts) =
    elim (names t.0 c.table) [
      | inl y ↦
          ap (λ s. rows_at s c.table) (picks (bytes_eq t.0 c.table) ((t.0, changed t.1 c.changes) ∷ ts) (t ∷ with_change c ts) y.0)
          ∙ picks (bytes_eq t.0 c.table) (changed t.1 c.changes) (rows_at ts c.table) y.0
          ∙ ap (λ rows. changed rows c.changes) (sym (picks (bytes_eq t.0 c.table) t.1 (rows_at ts c.table) y.0))
      | inr n ↦
          ap (λ s. rows_at s c.table) (passes (bytes_eq t.0 c.table) ((t.0, changed t.1 c.changes) ∷ ts) (t ∷ with_change c ts) n.0)
          ∙ passes (bytes_eq t.0 c.table) t.1 (rows_at (with_change c ts) c.table) n.0
          ∙ at_same c ts
          ∙ ap (λ rows. changed rows c.changes) (sym (passes (bytes_eq t.0 c.table) t.1 (rows_at ts c.table) n.0))
    ]

-- every other table keeps its rows
at_other : (c : TableChange) (s : Named) (name : List ℕ) → (c.table ≡ name → ⊥) → rows_at (with_change c s) name ≡ rows_at s name
at_other c [] name other = passes (bytes_eq c.table name) (changed [] c.changes) [] (two_names c.table name other)
at_other c (t ∷ ts) name other =
    elim (names t.0 c.table) [
      | inl y ↦
          let n : bytes_eq t.0 name ≡ false = two_names t.0 name (λ e. other (sym y.1 ∙ e)) in
          ap (λ s. rows_at s name) (picks (bytes_eq t.0 c.table) ((t.0, changed t.1 c.changes) ∷ ts) (t ∷ with_change c ts) y.0)
          ∙ passes (bytes_eq t.0 name) (changed t.1 c.changes) (rows_at ts name) n
          ∙ sym (passes (bytes_eq t.0 name) t.1 (rows_at ts name) n)
      | inr n ↦
          ap (λ s. rows_at s name) (passes (bytes_eq t.0 c.table) ((t.0, changed t.1 c.changes) ∷ ts) (t ∷ with_change c ts) n.0)
          ∙ ap (λ rows. if bytes_eq t.0 name then t.1 else rows) (at_other c ts name other)
    ]

other_with : (c : TableChange) (s : Named) (name : List ℕ) → (c.table ≡ name → ⊥) → IsOther name s → IsOther name (with_change c s)
other_with c [] name other h = (other, tt)
other_with c (t ∷ ts) name other h =
    elim (names t.0 c.table) [
      | inl y ↦ subst (IsOther name) (sym (picks (bytes_eq t.0 c.table) ((t.0, changed t.1 c.changes) ∷ ts) (t ∷ with_change c ts) y.0)) h
      | inr n ↦ subst (IsOther name) (sym (passes (bytes_eq t.0 c.table) ((t.0, changed t.1 c.changes) ∷ ts) (t ∷ with_change c ts) n.0)) (h.0, other_with c ts name other h.1)
    ]

apart_with : (c : TableChange) (s : Named) → AreApart s → AreApart (with_change c s)
apart_with c [] h = (tt, tt)
apart_with c (t ∷ ts) h =
    elim (names t.0 c.table) [
      | inl y ↦ subst AreApart (sym (picks (bytes_eq t.0 c.table) ((t.0, changed t.1 c.changes) ∷ ts) (t ∷ with_change c ts) y.0)) h
      | inr n ↦ subst AreApart (sym (passes (bytes_eq t.0 c.table) ((t.0, changed t.1 c.changes) ∷ ts) (t ∷ with_change c ts) n.0)) (other_with c ts t.0 (λ e. n.1 (sym e)) h.0, apart_with c ts h.1)
    ]

pub apart_after : (cs : List TableChange) (s : Named) → AreApart s → AreApart (after_changes cs s)
apart_after [] s h = h
apart_after (c ∷ cs) s h = apart_after cs (with_change c s) (apart_with c s h)

-- ---- a whole note

-- each table's rows are found under its name
abbrev Agrees : Named → Named → Type 0
Agrees s [] = Unit {0}
Agrees s (t ∷ ts) = (rows_at s t.0 ≡ t.1) × Agrees s ts

agrees_other : (c : TableChange) (s ts : Named) (name : List ℕ) → c.table ≡ name → IsOther name ts → Agrees s ts → Agrees (with_change c s) ts
agrees_other c s [] name e other h = tt
agrees_other c s (t ∷ ts) name e other h = (at_other c s t.0 (λ d. other.0 (sym d ∙ e)) ∙ h.0, agrees_other c s ts name e other.1 h.1)

record NoteDone (ts us : Named) (cs : List TableChange) (s : Named) : Type 0 where
  fits : Fit cs s
  agrees : Agrees (after_changes cs s) us
  others : (name : List ℕ) → IsOther name ts → rows_at (after_changes cs s) name ≡ rows_at s name

done_note : (ts us : Named) (cs : List TableChange) (s : Named) → AreApart ts → Agrees s ts → IsNoteOf ts us cs → NoteDone ts us cs s
done_note [] [] cs s apart agrees note = subst (λ ds. NoteDone [] [] ds s) (sym note) (record { fits = tt; agrees = tt; others = λ name o. refl })
done_note [] (u ∷ us) cs s apart agrees note = absurd note
done_note (t ∷ ts) [] cs s apart agrees note = absurd note
done_note (t ∷ ts) (u ∷ us) cs s apart agrees note =
    elim note.1 [
      | inl same ↦
          let it = done_note ts us cs s apart.1 agrees.1 same.1 in
          record {
            fits = it.fits;
            agrees = (ap (rows_at (after_changes cs s)) (sym note.0) ∙ it.others t.0 apart.0 ∙ agrees.0 ∙ same.0, it.agrees);
            others = λ name o. it.others name o.1;
          }
      | inr made ↦ changed_one t u ts us s apart agrees note.0 cs made.0 made.1 made.2 made.3 made.5 (done_note ts us made.1 (with_change made.0 s) apart.1 (agrees_other made.0 s ts t.0 made.3 apart.0 agrees.1) made.6)
    ]
  where
    changed_one : (t u : List ℕ × Rows) (ts us s : Named) → AreApart (t ∷ ts) → Agrees s (t ∷ ts) → t.0 ≡ u.0 → (cs : List TableChange) (c : TableChange) (rest : List TableChange) → cs ≡ c ∷ rest → c.table ≡ t.0 → IsDifference t.1 u.1 c.changes → NoteDone ts us rest (with_change c s) → NoteDone (t ∷ ts) (u ∷ us) cs s
    changed_one t u ts us s apart agrees name cs c rest is at diff it =
        let old : rows_at s c.table ≡ t.1 = ap (rows_at s) at ∙ agrees.0 in
        let now : rows_at (with_change c s) t.0 ≡ u.1 = ap (rows_at (with_change c s)) (sym at) ∙ at_same c s ∙ ap (λ rows. changed rows c.changes) old ∙ diff.new in
        subst (λ ds. NoteDone (t ∷ ts) (u ∷ us) ds s) (sym is) (record {
          fits = (subst (λ rows. AreOld rows c.changes) (sym old) diff.old, it.fits);
          agrees = (ap (rows_at (after_changes rest (with_change c s))) (sym name) ∙ it.others t.0 apart.0 ∙ now, it.agrees);
          others = λ n o. it.others n o.1 ∙ at_other c s n (λ e. o.0 (sym at ∙ e));
        })

-- the names stay
other_note : (ts us : Named) (cs : List TableChange) (name : List ℕ) → IsNoteOf ts us cs → IsOther name us → IsOther name ts
other_note [] [] cs name note h = tt
other_note [] (u ∷ us) cs name note h = absurd note
other_note (t ∷ ts) [] cs name note h = absurd note
other_note (t ∷ ts) (u ∷ us) cs name note h =
    (λ e. h.0 (sym note.0 ∙ e), elim note.1 [ inl same ↦ other_note ts us cs name same.1 h.1 | inr made ↦ other_note ts us made.1 name made.6 h.1 ])

note_other : (ts us : Named) (cs : List TableChange) (name : List ℕ) → IsNoteOf ts us cs → IsOther name ts → IsOther name us
note_other [] [] cs name note h = tt
note_other [] (u ∷ us) cs name note h = absurd note
note_other (t ∷ ts) [] cs name note h = absurd note
note_other (t ∷ ts) (u ∷ us) cs name note h =
    (λ e. h.0 (note.0 ∙ e), elim note.1 [ inl same ↦ note_other ts us cs name same.1 h.1 | inr made ↦ note_other ts us made.1 name made.6 h.1 ])

apart_note : (ts us : Named) (cs : List TableChange) → IsNoteOf ts us cs → AreApart ts → AreApart us
apart_note [] [] cs note h = tt
apart_note [] (u ∷ us) cs note h = absurd note
apart_note (t ∷ ts) [] cs note h = absurd note
apart_note (t ∷ ts) (u ∷ us) cs note h =
    elim note.1 [
      | inl same ↦ (subst (λ n. IsOther n us) note.0 (note_other ts us cs t.0 same.1 h.0), apart_note ts us cs same.1 h.1)
      | inr made ↦ (subst (λ n. IsOther n us) note.0 (note_other ts us made.1 t.0 made.6 h.0), apart_note ts us made.1 made.6 h.1)
    ]

-- ---- what agrees, table by table, shows the same rows under each name

none_at : (ts : Named) (name : List ℕ) → IsOther name ts → rows_at ts name ≡ []
none_at [] name h = refl
none_at (t ∷ ts) name h = passes (bytes_eq t.0 name) t.1 (rows_at ts name) (two_names t.0 name h.0) ∙ none_at ts name h.1

found_at : (s us : Named) (name : List ℕ) → Agrees s us → (IsOther name us → rows_at s name ≡ []) → rows_at s name ≡ rows_at us name
found_at s [] name h none = none tt
found_at s (u ∷ us) name h none =
    elim (names u.0 name) [
      | inl y ↦ ap (rows_at s) (sym y.1) ∙ h.0 ∙ sym (picks (bytes_eq u.0 name) u.1 (rows_at us name) y.0)
      | inr n ↦ found_at s us name h.1 (λ o. none (n.1, o)) ∙ sym (passes (bytes_eq u.0 name) u.1 (rows_at us name) n.0)
    ]

agrees_rows : (s ts : Named) → AreApart ts → ((name : List ℕ) → rows_at s name ≡ rows_at ts name) → Agrees s ts
agrees_rows s ts apart h = walk s ts ts apart h (λ name o. refl)
  where
    walk : (s all ts : Named) → AreApart ts → ((name : List ℕ) → rows_at s name ≡ rows_at all name) → ((name : List ℕ) → (IsOther name ts → ⊥) → rows_at all name ≡ rows_at ts name) → Agrees s ts
    walk s all [] apart h at = tt
    walk s all (t ∷ ts) apart h at = (
      h t.0 ∙ at t.0 (λ o. o.0 refl) ∙ picks (bytes_eq t.0 t.0) t.1 (rows_at ts t.0) (one_name t.0 t.0 refl),
      walk s all ts apart.1 h (λ name o. at name (λ p. o p.1) ∙ passes (bytes_eq t.0 name) t.1 (rows_at ts name) (two_names t.0 name (λ e. o (subst (λ n. IsOther n ts) e apart.0)))),
    )

-- ---- as many rows

dropped : List ℕ → Named → Named
dropped name [] = []
dropped name (t ∷ ts) = if bytes_eq t.0 name then ts else t ∷ dropped name ts

count_dropped : (name : List ℕ) (ts : Named) → count_rows ts ≡ length (rows_at ts name) + count_rows (dropped name ts)
unfolding dropped
count_dropped name [] = refl
count_dropped name (t ∷ ts) =
    elim (names t.0 name) [
      | inl y ↦ sym (ap (λ rows. length rows + count_rows (dropped name (t ∷ ts))) (picks (bytes_eq t.0 name) t.1 (rows_at ts name) y.0) ∙ ap (λ ss. length t.1 + count_rows ss) (picks (bytes_eq t.0 name) ts (t ∷ dropped name ts) y.0))
      | inr n ↦
          let a : length (rows_at (t ∷ ts) name) ≡ length (rows_at ts name) = ap length (passes (bytes_eq t.0 name) t.1 (rows_at ts name) n.0) in
          let b : count_rows (dropped name (t ∷ ts)) ≡ length t.1 + count_rows (dropped name ts) = ap count_rows (passes (bytes_eq t.0 name) ts (t ∷ dropped name ts) n.0) in
          let e = count_dropped name ts in
          omega (arith, a, b, e)
    ]

other_dropped : (name q : List ℕ) (ts : Named) → IsOther q ts → IsOther q (dropped name ts)
unfolding dropped
other_dropped name q [] h = tt
other_dropped name q (t ∷ ts) h =
    elim (names t.0 name) [
      | inl y ↦ subst (IsOther q) (sym (picks (bytes_eq t.0 name) ts (t ∷ dropped name ts) y.0)) h.1
      | inr n ↦ subst (IsOther q) (sym (passes (bytes_eq t.0 name) ts (t ∷ dropped name ts) n.0)) (h.0, other_dropped name q ts h.1)
    ]

apart_dropped : (name : List ℕ) (ts : Named) → AreApart ts → AreApart (dropped name ts)
unfolding dropped
apart_dropped name [] h = tt
apart_dropped name (t ∷ ts) h =
    elim (names t.0 name) [
      | inl y ↦ subst AreApart (sym (picks (bytes_eq t.0 name) ts (t ∷ dropped name ts) y.0)) h.1
      | inr n ↦ subst AreApart (sym (passes (bytes_eq t.0 name) ts (t ∷ dropped name ts) n.0)) (other_dropped name t.0 ts h.0, apart_dropped name ts h.1)
    ]

dropped_none : (name : List ℕ) (ts : Named) → AreApart ts → IsOther name (dropped name ts)
unfolding dropped
dropped_none name [] h = tt
dropped_none name (t ∷ ts) h =
    elim (names t.0 name) [
      | inl y ↦ subst (IsOther name) (sym (picks (bytes_eq t.0 name) ts (t ∷ dropped name ts) y.0)) (subst (λ q. IsOther q ts) y.1 h.0)
      | inr n ↦ subst (IsOther name) (sym (passes (bytes_eq t.0 name) ts (t ∷ dropped name ts) n.0)) (n.1, dropped_none name ts h.1)
    ]

dropped_at : (name q : List ℕ) (ts : Named) → (name ≡ q → ⊥) → rows_at (dropped name ts) q ≡ rows_at ts q
unfolding dropped
dropped_at name q [] other = refl
dropped_at name q (t ∷ ts) other =
    elim (names t.0 name) [
      | inl y ↦
          ap (λ ss. rows_at ss q) (picks (bytes_eq t.0 name) ts (t ∷ dropped name ts) y.0)
          ∙ sym (passes (bytes_eq t.0 q) t.1 (rows_at ts q) (two_names t.0 q (λ e. other (sym y.1 ∙ e))))
      | inr n ↦
          ap (λ ss. rows_at ss q) (passes (bytes_eq t.0 name) ts (t ∷ dropped name ts) n.0)
          ∙ ap (λ rows. if bytes_eq t.0 q then t.1 else rows) (dropped_at name q ts other)
    ]

count_none : (ts : Named) → AreApart ts → ((name : List ℕ) → [] ≡ rows_at ts name) → count_rows ts ≡ 0
count_none [] apart h = refl
count_none (t ∷ ts) apart h =
    let own : t.1 ≡ [] = sym (h t.0 ∙ picks (bytes_eq t.0 t.0) t.1 (rows_at ts t.0) (one_name t.0 t.0 refl)) in
    let rest : count_rows ts ≡ 0 = count_none ts apart.1 (λ name. elim (names t.0 name) [
      | inl y ↦ sym (none_at ts name (subst (λ n. IsOther n ts) y.1 apart.0))
      | inr n ↦ h name ∙ passes (bytes_eq t.0 name) t.1 (rows_at ts name) n.0
    ]) in
    omega (arith, ap length own, rest)

-- the same rows under each name are as many
pub count_same : (s ts : Named) → AreApart s → AreApart ts → ((name : List ℕ) → rows_at s name ≡ rows_at ts name) → count_rows s ≡ count_rows ts
count_same [] ts apart there h = sym (count_none ts there h)
count_same (x ∷ s) ts apart there h =
    let own : x.1 ≡ rows_at ts x.0 = sym (picks (bytes_eq x.0 x.0) x.1 (rows_at s x.0) (one_name x.0 x.0 refl)) ∙ h x.0 in
    let rest : count_rows s ≡ count_rows (dropped x.0 ts) = count_same s (dropped x.0 ts) apart.1 (apart_dropped x.0 ts there) (λ q. elim (names x.0 q) [
      | inl y ↦ none_at s q (subst (λ n. IsOther n s) y.1 apart.0) ∙ sym (none_at (dropped x.0 ts) q (subst (λ n. IsOther n (dropped x.0 ts)) y.1 (dropped_none x.0 ts there)))
      | inr n ↦ sym (passes (bytes_eq x.0 q) x.1 (rows_at s q) n.0) ∙ h q ∙ sym (dropped_at x.0 q ts n.1)
    ]) in
    omega (arith, ap length own, rest, count_dropped x.0 ts)

-- ---- the laws

pub follow : MirrorsFollow
follow shown before now cs apart shows note =
    let it = done_note before now cs shown apart (agrees_rows shown before apart shows.rows) note in
    let same : (name : List ℕ) → rows_at (after_changes cs shown) name ≡ rows_at now name = λ name. found_at (after_changes cs shown) now name it.agrees (λ o. let b = other_note before now cs name note o in it.others name b ∙ shows.rows name ∙ none_at before name b) in
    let parts : AreApart (after_changes cs shown) = apart_after cs shown shows.apart in
    (it.fits, record { rows = same; apart = parts; many = count_same (after_changes cs shown) now parts (apart_note before now cs note apart) same })

empty_at : (tables : Named) (name : List ℕ) → [] ≡ rows_at (emptied tables) name
empty_at [] name = refl
empty_at (t ∷ ts) name = elim (names t.0 name) [
  | inl y ↦ sym (picks (bytes_eq t.0 name) [] (rows_at (emptied ts) name) y.0)
  | inr n ↦ empty_at ts name ∙ sym (passes (bytes_eq t.0 name) [] (rows_at (emptied ts) name) n.0)
]

empty_other : (tables : Named) (name : List ℕ) → IsOther name tables → IsOther name (emptied tables)
empty_other [] name h = tt
empty_other (t ∷ ts) name h = (h.0, empty_other ts name h.1)

empty_apart : (tables : Named) → AreApart tables → AreApart (emptied tables)
empty_apart [] h = tt
empty_apart (t ∷ ts) h = (empty_other ts t.0 h.0, empty_apart ts h.1)

pub start : MirrorsStart
start tables cs apart note =
    let parts = empty_apart tables apart in
    follow [] (emptied tables) tables cs parts (record { rows = empty_at tables; apart = tt; many = sym (count_none (emptied tables) parts (empty_at tables)) }) note
