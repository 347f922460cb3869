-- Entries of the identifiers that pass.
use Rattle.std.proofs.Common.{◌≡◌, ℕ, ◌==◌, [], ◌∷◌, Bool, true, false, not, Option, Some, IsSome, refl, ap, sym, ◌∙◌}
use Rattle.std.proofs.lemmas.Bool.{eqb-true}
use Rattle.row_store.specs.Rows.{Rows, row_of}
use Rattle.id_memory.specs.Pairs.{Pairs, RiseFrom, pair_of}
use Rattle.pair_rows.specs.Shown.{AreThere}
use Rattle.row_parts.specs.RowCells.{by_test}
use Rattle.pair_rows.specs.Stays.{stands}
use Rattle.pair_rows.specs.inner.FoundPairs.{AllPaired, all_paired}
use Rattle.pair_parts.specs.Parts.{memory_only}
use Rattle.cond_parts.specs.Closed.{BringsEntry, BringsRows}

-- each entry has the property
abbrev pub Each : (ℕ × ℕ × ℕ → Type 0) → Pairs → Type 0
Each F [] = Unit {0}
Each F (e ∷ es) = F e × Each F es

-- what holds of each entry that is found by its identifier
each_from : (F : ℕ × ℕ × ℕ → Type 0) (m es : Pairs) → AllPaired m es → ((e : ℕ × ℕ × ℕ) → pair_of m e.0 ≡ Some (e.1, e.2) → F e) → Each F es
each_from F m [] all h = tt
each_from F m (e ∷ es) all h = (h e all.0, each_from F m es all.1 h)

pub each_of : (F : ℕ × ℕ × ℕ → Type 0) (m : Pairs) → RiseFrom 0 m → ((e : ℕ × ℕ × ℕ) → pair_of m e.0 ≡ Some (e.1, e.2) → F e) → Each F m
each_of F m rise h = each_from F m m (all_paired 0 m rise) h

-- an entry that passes brings its two rows
abbrev pub Brings : (ℕ → Bool) → ℕ × ℕ × ℕ → Type 0
Brings P e = P e.0 ≡ true → (P e.1 ≡ true) × (P e.2 ≡ true)

pub each_brings : (P : ℕ → Bool) (m : Pairs) → RiseFrom 0 m → BringsRows P m → Each (Brings P) m
each_brings P m rise rows = each_of (Brings P) m rise (λ e at. rows e.0 e.1 e.2 at)

-- and the other way
pub rows_of_each : (P : ℕ → Bool) (es : Pairs) → Each (Brings P) es → BringsRows P es
rows_of_each P [] all id a b at pass = absurd (cc)
rows_of_each P (e ∷ es) all id a b at pass =
    by_test (e.0 == id)
    (λ q.
    let some : ◌≡◌ {A = Option (ℕ × ℕ)} (Some (e.1, e.2)) (Some (a, b)) = rw q at at in
    let pair : ◌≡◌ {A = ℕ × ℕ} (e.1, e.2) (a, b) = cc in
    let own : P e.0 ≡ true = ap P (eqb-true e.0 id q) ∙ pass in
    let both = all.0 own in
    (sym (ap (λ (k : ℕ × ℕ). P k.0) pair) ∙ both.0, sym (ap (λ (k : ℕ × ℕ). P k.1) pair) ∙ both.1))
    (λ q. let rest : pair_of es id ≡ Some (a, b) = rw q at at in rows_of_each P es all.1 id a b rest pass)

-- an entry that passes brings this row of it
abbrev pub BringsIt : (ℕ → Bool) → (ℕ × ℕ × ℕ → ℕ) → ℕ × ℕ × ℕ → Type 0
BringsIt P pick e = P e.0 ≡ true → P (pick e) ≡ true

pub brings_first : (P : ℕ → Bool) (es : Pairs) → Each (Brings P) es → Each (BringsIt P (λ e. e.1)) es
brings_first P [] all = tt
brings_first P (e ∷ es) all = (λ q. (all.0 q).0, brings_first P es all.1)

pub brings_second : (P : ℕ → Bool) (es : Pairs) → Each (Brings P) es → Each (BringsIt P (λ e. e.2)) es
brings_second P [] all = tt
brings_second P (e ∷ es) all = (λ q. (all.0 q).1, brings_second P es all.1)

-- what stands in an entry that passes stands in one
pub stands_whole : (P : ℕ → Bool) (pick : ℕ × ℕ × ℕ → ℕ) (es : Pairs) (q : ℕ) → stands pick (memory_only P es) q ≡ true → stands pick es q ≡ true
stands_whole P pick [] q h = h
stands_whole P pick (e ∷ es) q h =
    by_test (pick e == q)
    (λ u. rw u refl)
    (λ u.
    rw u (by_test (P e.0)
    (λ v. let here : stands pick (e ∷ memory_only P es) q ≡ true = rw v at h in let rest : stands pick (memory_only P es) q ≡ true = rw u at here in stands_whole P pick es q rest)
    (λ v. let rest : stands pick (memory_only P es) q ≡ true = rw v at h in stands_whole P pick es q rest)))

-- two tests of which each follows from the other
pub both_ways : (a b : Bool) → (a ≡ true → b ≡ true) → (b ≡ true → a ≡ true) → a ≡ b
both_ways true b f g = sym (f refl)
both_ways false true f g = g refl
both_ways false false f g = refl

-- a row that passes stands in an entry of the part exactly where it stands in one
pub stands_part : (P : ℕ → Bool) (pick : ℕ × ℕ × ℕ → ℕ) (m : Pairs) (q : ℕ) → BringsEntry P pick m → P q ≡ true → stands pick (memory_only P m) q ≡ stands pick m q
stands_part P pick m q brings pass = both_ways (stands pick (memory_only P m) q) (stands pick m q) (stands_whole P pick m q) (λ h. brings q pass h)

-- a row that doesn't pass stands in entries that don't
pub stands_rest : (P : ℕ → Bool) (pick : ℕ × ℕ × ℕ → ℕ) (es : Pairs) (q : ℕ) → P q ≡ false → Each (BringsIt P pick) es → stands pick (memory_only (λ i. not (P i)) es) q ≡ stands pick es q
stands_rest P pick [] q out all = refl
stands_rest P pick (e ∷ es) q out all =
    let rest = stands_rest P pick es q out all.1 in
    by_test (P e.0)
    (λ v.
    let row = all.0 v in
    by_test (pick e == q)
    (λ u. let bad : P q ≡ true = sym (ap P (eqb-true (pick e) q u)) ∙ row in absurd (cc))
    (λ u. rw (v, u) rest))
    (λ v. by_test (pick e == q) (λ u. rw (v, u) refl) (λ u. rw (v, u) rest))

-- two facts of each entry
pub each_both : (F G : ℕ × ℕ × ℕ → Type 0) (es : Pairs) → Each F es → Each G es → Each (λ e. F e × G e) es
each_both F G [] one other = tt
each_both F G (e ∷ es) one other = ((one.0, other.0), each_both F G es one.1 other.1)

-- what follows of each entry
pub each_map : (F G : ℕ × ℕ × ℕ → Type 0) (es : Pairs) → ((e : ℕ × ℕ × ℕ) → F e → G e) → Each F es → Each G es
each_map F G [] h all = tt
each_map F G (e ∷ es) h all = (h e all.0, each_map F G es h all.1)

-- the rows of each entry are there
pub each_there : (s t : Rows) (es : Pairs) → AreThere s t es → Each (λ e. IsSome (row_of s e.1) × IsSome (row_of t e.2)) es
each_there s t [] there = tt
each_there s t (e ∷ es) there = (there.0, each_there s t es there.1)

-- what holds where an entry doesn't pass holds of each of the others
pub each_rest : (P : ℕ → Bool) (F : ℕ × ℕ × ℕ → Type 0) (es : Pairs) → Each (λ e. P e.0 ≡ false → F e) es → Each F (memory_only (λ q. not (P q)) es)
each_rest P F [] all = tt
each_rest P F (e ∷ es) all = by_test (P e.0) (λ q. rw q (each_rest P F es all.1)) (λ q. rw q (all.0 q, each_rest P F es all.1))

-- the pair of an identifier that passes
pub pair_in : (P : ℕ → Bool) (es : Pairs) (id : ℕ) → P id ≡ true → pair_of (memory_only P es) id ≡ pair_of es id
pair_in P [] id pass = refl
pair_in P (e ∷ es) id pass =
    let rest = pair_in P es id pass in
    by_test (e.0 == id)
    (λ q. let here : P e.0 ≡ true = ap P (eqb-true e.0 id q) ∙ pass in rw here (rw q refl))
    (λ q. by_test (P e.0) (λ u. rw u (rw q rest)) (λ u. rw u (rw q rest)))
