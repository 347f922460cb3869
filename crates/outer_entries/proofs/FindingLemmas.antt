-- The full entries that a pass over all pairs finds.
use Rattle.std.proofs.Common.{◌≡◌, ℕ, ◌+◌, ◌<◌, ◌==◌, List, [], ◌∷◌, ◌++◌, length, filter, take, slice_index_or, Bool, true, false, ◌&&◌, if◌then◌else◌, not, IsSome, refl, ap, sym, ◌∙◌, subst, append-nil}
use Rattle.std.proofs.lemmas.List.{take_more}
use Rattle.std.proofs.lemmas.Bool.{and_parts, eqb-true, eq-eqb}
use Rattle.par_base.specs.declared.value.Value.{Value}
use Rattle.row_store.specs.Rows.{Rows, row_of}
use Rattle.op_law.specs.Identifiers.{has_id, put_id}
use Rattle.op_rows.specs.inner.CellLemmas.{has_put}
use Rattle.id_sets.specs.IdPairs.{IdPairs, holds_pair, IsWithPair}
use Rattle.row_parts.specs.RowCells.{by_test}
use Rattle.pair_rows.specs.Shown.{pairs_with, all_pairs, has}
use Rattle.pair_rows.specs.inner.Changed.{pairs_of}
use Rattle.id_memory.specs.Pairs.{Pairs}
use Rattle.pair_rows.specs.inner.Lookups.{filter_append}
use Rattle.pair_rows.specs.inner.ShownLaws.{shown_there}
use Rattle.outer_law.specs.Entries.{some_row}
use Rattle.outer_entries.specs.declared.showing.Showing.{Showing}
use Rattle.outer_entries.specs.declared.finding.Found.{Found}
use Rattle.outer_entries.specs.Showings.{joining_in}
use Rattle.outer_entries.specs.inner.Calls.{is_full_in, is_full_pair, is_new_full}
use Rattle.outer_entries.specs.inner.Finding.{has_first, has_second, pairs_in, AddsPairs, HasPairs, Finds}
use Rattle.outer_entries.proofs.EntryLemmas.{all_append}

-- a pair, a first and a second identifier of two lists
holds_append : (xs ys : IdPairs) (a b : ℕ) → holds_pair (xs ++ ys) a b ≡ (if holds_pair xs a b then true else holds_pair ys a b)
unfolding holds_pair
holds_append [] ys a b = refl
holds_append (x ∷ xs) ys a b = by_test (a == x.0 && b == x.1) (λ q. rw q refl) (λ q. rw q (holds_append xs ys a b))

first_append : (xs ys : IdPairs) (a : ℕ) → has_first (xs ++ ys) a ≡ (if has_first xs a then true else has_first ys a)
first_append [] ys a = refl
first_append (x ∷ xs) ys a = by_test (x.0 == a) (λ q. rw q refl) (λ q. rw q (first_append xs ys a))

second_append : (xs ys : IdPairs) (b : ℕ) → has_second (xs ++ ys) b ≡ (if has_second xs b then true else has_second ys b)
second_append [] ys b = refl
second_append (x ∷ xs) ys b = by_test (x.1 == b) (λ q. rw q refl) (λ q. rw q (second_append xs ys b))

-- two choices are one
one_choice : (x y z : Bool) → (if y then true else if x then true else z) ≡ (if (if x then true else y) then true else z)
one_choice true true z = refl
one_choice true false z = refl
one_choice false y z = refl

-- what is there with no pair more, with one, and with those of two lists
pub adds_none : (f : Found) → AddsPairs f [] f
unfolding holds_pair
adds_none f = record { pairs = λ a b. refl; first = λ a. refl; second = λ b. refl }

pub none_has : (f : Found) → ((a b : ℕ) → holds_pair f.pairs a b ≡ false) → f.first ≡ [] → f.second ≡ [] → HasPairs [] f
unfolding holds_pair
none_has f pairs first second = record {
  pairs = λ a b. pairs a b;
  first = λ a. ap (λ (ids : List ℕ). has_id ids a) first;
  second = λ b. ap (λ (ids : List ℕ). has_id ids b) second;
}

tested : (x z : Bool) → (if x then true else z) ≡ (if (if x then true else false) then true else z)
tested true z = refl
tested false z = refl

pub adds_one : (f g : Found) (a b : ℕ) → IsWithPair f.pairs a b g.pairs → g.first ≡ put_id a f.first → g.second ≡ put_id b f.second → AddsPairs f ((a, b) ∷ []) g
unfolding holds_pair
adds_one f g a b with first second = record {
  pairs = λ c d. with c d ∙ turned a b c d (holds_pair f.pairs c d);
  first = λ c. ap (λ (ids : List ℕ). has_id ids c) first ∙ has_put a f.first c ∙ tested (a == c) (has_id f.first c);
  second = λ d. ap (λ (ids : List ℕ). has_id ids d) second ∙ has_put b f.second d ∙ tested (b == d) (has_id f.second d);
}
  where
    turn : (a c : ℕ) → (a == c) ≡ (c == a)
    turn a c = by_test (a == c) (λ q. q ∙ sym (eq-eqb c a (sym (eqb-true a c q)))) (λ q. by_test (c == a) (λ u. let back : (a == c) ≡ true = eq-eqb a c (sym (eqb-true c a u)) in absurd (cc)) (λ u. q ∙ sym u))

    turned : (a b c d : ℕ) (z : Bool) → (if a == c && b == d then true else z) ≡ (if (if c == a && d == b then true else false) then true else z)
    turned a b c d z = ap (λ (x : Bool). if x && b == d then true else z) (turn a c) ∙ ap (λ (x : Bool). if c == a && x then true else z) (turn b d) ∙ by_test (c == a && d == b) (λ q. rw q refl) (λ q. rw q refl)

pub adds_more : (f g h : Found) (xs ys : IdPairs) → AddsPairs f xs g → AddsPairs g ys h → AddsPairs f (xs ++ ys) h
adds_more f g h xs ys one two = record {
  pairs = λ a b. two.pairs a b ∙ ap (λ (z : Bool). if holds_pair ys a b then true else z) (one.pairs a b)
      ∙ one_choice (holds_pair xs a b) (holds_pair ys a b) (holds_pair f.pairs a b) ∙ ap (λ (z : Bool). if z then true else holds_pair f.pairs a b) (sym (holds_append xs ys a b));
  first = λ a. two.first a ∙ ap (λ (z : Bool). if has_first ys a then true else z) (one.first a)
      ∙ one_choice (has_first xs a) (has_first ys a) (has_id f.first a) ∙ ap (λ (z : Bool). if z then true else has_id f.first a) (sym (first_append xs ys a));
  second = λ b. two.second b ∙ ap (λ (z : Bool). if has_second ys b then true else z) (one.second b)
      ∙ one_choice (has_second xs b) (has_second ys b) (has_id f.second b) ∙ ap (λ (z : Bool). if z then true else has_id f.second b) (sym (second_append xs ys b));
}

-- pairs of two lists
of_append : (a : ℕ) (xs ys : List ℕ) → pairs_of a (xs ++ ys) ≡ pairs_of a xs ++ pairs_of a ys
of_append a [] ys = refl
of_append a (x ∷ xs) ys = ap (λ (zs : IdPairs). (a, x) ∷ zs) (of_append a xs ys)

in_append : (xs ys : Pairs) → pairs_in (xs ++ ys) ≡ pairs_in xs ++ pairs_in ys
in_append [] ys = refl
in_append (x ∷ xs) ys = ap (λ (zs : IdPairs). (x.1, x.2) ∷ zs) (in_append xs ys)

-- one second row more
pub each_next : (test : ℕ × ℕ → Bool) (a : ℕ) (bs : List ℕ) (i : ℕ) (f g h : Found) → i < length bs
    → AddsPairs f (filter test (pairs_of a (take i bs))) g → AddsPairs g (filter test (pairs_of a (slice_index_or bs i 0 ∷ []))) h → AddsPairs f (filter test (pairs_of a (take (i + 1) bs))) h
each_next test a bs i f g h low one two =
    let last = slice_index_or bs i 0 ∷ [] in
    let split : filter test (pairs_of a (take (i + 1) bs)) ≡ filter test (pairs_of a (take i bs)) ++ filter test (pairs_of a last) =
    ap (λ (all : List ℕ). filter test (pairs_of a all)) (take_more bs i 0 low)
    ∙ ap (filter test) (of_append a (take i bs) last) ∙ filter_append test (pairs_of a (take i bs)) (pairs_of a last) in
    subst (λ (xs : IdPairs). AddsPairs f xs h) (sym split) (adds_more f g h (filter test (pairs_of a (take i bs))) (filter test (pairs_of a last)) one two)

-- one entry more
pub kept_next : (test : ℕ × ℕ → Bool) (es : Pairs) (i : ℕ) (f g h : Found) → i < length es
    → AddsPairs f (filter test (pairs_in (take i es))) g → AddsPairs g (filter test (pairs_in (slice_index_or es i (0, 0, 0) ∷ []))) h → AddsPairs f (filter test (pairs_in (take (i + 1) es))) h
kept_next test es i f g h low one two =
    let last = slice_index_or es i (0, 0, 0) ∷ [] in
    let split : filter test (pairs_in (take (i + 1) es)) ≡ filter test (pairs_in (take i es)) ++ filter test (pairs_in last) =
    ap (λ (all : Pairs). filter test (pairs_in all)) (take_more es i (0, 0, 0) low)
    ∙ ap (filter test) (in_append (take i es) last) ∙ filter_append test (pairs_in (take i es)) (pairs_in last) in
    subst (λ (xs : IdPairs). AddsPairs f xs h) (sym split) (adds_more f g h (filter test (pairs_in (take i es))) (filter test (pairs_in last)) one two)

-- one first row more
turn_choice : (x y : Bool) → (if y then true else x) ≡ (if x then true else y)
turn_choice true true = refl
turn_choice true false = refl
turn_choice false true = refl
turn_choice false false = refl

pub has_more : (g h : Found) (xs ys : IdPairs) → HasPairs xs g → AddsPairs g ys h → HasPairs (xs ++ ys) h
has_more g h xs ys one two = record {
  pairs = λ a b. two.pairs a b ∙ ap (λ (z : Bool). if holds_pair ys a b then true else z) (one.pairs a b) ∙ turn_choice (holds_pair xs a b) (holds_pair ys a b) ∙ sym (holds_append xs ys a b);
  first = λ a. two.first a ∙ ap (λ (z : Bool). if has_first ys a then true else z) (one.first a) ∙ turn_choice (has_first xs a) (has_first ys a) ∙ sym (first_append xs ys a);
  second = λ b. two.second b ∙ ap (λ (z : Bool). if has_second ys b then true else z) (one.second b) ∙ turn_choice (has_second xs b) (has_second ys b) ∙ sym (second_append xs ys b);
}

pub all_next : (test : ℕ × ℕ → Bool) (rows t : Rows) (i : ℕ) (row : ℕ × List Value) (f g h : Found) → i < length rows → row ≡ slice_index_or rows i row
    → AddsPairs f (filter test (all_pairs (take i rows) t)) g → AddsPairs g (filter test (pairs_with row.0 t)) h → AddsPairs f (filter test (all_pairs (take (i + 1) rows) t)) h
all_next test rows t i row f g h low at one two =
    let split : filter test (all_pairs (take (i + 1) rows) t) ≡ filter test (all_pairs (take i rows) t) ++ filter test (pairs_with row.0 t) =
    ap (λ (rs : Rows). filter test (all_pairs rs t)) (take_more rows i row low ∙ ap (λ (r : ℕ × List Value). take i rows ++ r ∷ []) (sym at))
    ∙ ap (filter test) (all_append (take i rows) (row ∷ []) t ∙ ap (λ (xs : IdPairs). all_pairs (take i rows) t ++ xs) (append-nil (pairs_with row.0 t)))
    ∙ filter_append test (all_pairs (take i rows) t) (pairs_with row.0 t) in
    subst (λ (xs : IdPairs). AddsPairs f xs h) (sym split) (adds_more f g h (filter test (all_pairs (take i rows) t)) (filter test (pairs_with row.0 t)) one two)

-- of the pairs that pass, those that stand in a list are found, and no others
holds_filter : (full : ℕ → ℕ → Bool) (xs : IdPairs) (a b : ℕ) → holds_pair xs a b ≡ true → full a b ≡ true → holds_pair (filter (λ x. full x.0 x.1) xs) a b ≡ true
unfolding holds_pair
holds_filter full [] a b h passes = absurd (cc)
holds_filter full (x ∷ xs) a b h passes =
    by_test (a == x.0 && b == x.1)
    (λ q.
    let parts = and_parts (a == x.0) (b == x.1) q in
    let here : full x.0 x.1 ≡ true = ap (λ (i : ℕ). full i x.1) (sym (eqb-true a x.0 parts.0)) ∙ ap (λ (i : ℕ). full a i) (sym (eqb-true b x.1 parts.1)) ∙ passes in
    rw (here, q) refl)
    (λ q.
    let later : holds_pair xs a b ≡ true = rw q at h in
    let rest = holds_filter full xs a b later passes in
    by_test (full x.0 x.1) (λ u. rw (u, q) rest) (λ u. rw u rest))

holds_passes : (full : ℕ → ℕ → Bool) (xs : IdPairs) (a b : ℕ) → holds_pair (filter (λ x. full x.0 x.1) xs) a b ≡ true → full a b ≡ true
unfolding holds_pair
holds_passes full [] a b h = absurd (cc)
holds_passes full (x ∷ xs) a b h =
    by_test (full x.0 x.1)
    (λ u.
    let kept : holds_pair (x ∷ filter (λ x. full x.0 x.1) xs) a b ≡ true = rw u at h in
    by_test (a == x.0 && b == x.1)
    (λ q. let parts = and_parts (a == x.0) (b == x.1) q in ap (λ (i : ℕ). full i b) (eqb-true a x.0 parts.0) ∙ ap (λ (i : ℕ). full x.0 i) (eqb-true b x.1 parts.1) ∙ u)
    (λ q. let later : holds_pair (filter (λ x. full x.0 x.1) xs) a b ≡ true = rw q at kept in holds_passes full xs a b later))
    (λ u. let later : holds_pair (filter (λ x. full x.0 x.1) xs) a b ≡ true = rw u at h in holds_passes full xs a b later)

-- the pair of two rows stands among all pairs
holds_with : (rows : Rows) (a b : ℕ) → IsSome (row_of rows b) → holds_pair (pairs_with a rows) a b ≡ true
unfolding holds_pair
holds_with [] a b some = absurd (cc)
holds_with (r ∷ rs) a b some =
    let own = eq-eqb a a refl in
    by_test (r.0 == b)
    (λ q. let here : (b == r.0) ≡ true = eq-eqb b r.0 (sym (eqb-true r.0 b q)) in rw (own, here) refl)
    (λ q. let later : IsSome (row_of rs b) = rw q at some in by_test (b == r.0) (λ u. rw (own, u) refl) (λ u. rw (own, u) (holds_with rs a b later)))

either_second : (x y : Bool) → y ≡ true → (if x then true else y) ≡ true
either_second true y h = refl
either_second false y h = h

either_first : (x y : Bool) → x ≡ true → (if x then true else y) ≡ true
either_first true y h = refl
either_first false y h = absurd (cc)

holds_all : (s t : Rows) (a b : ℕ) → IsSome (row_of s a) → IsSome (row_of t b) → holds_pair (all_pairs s t) a b ≡ true
unfolding holds_pair
holds_all [] t a b one two = absurd (cc)
holds_all (r ∷ rs) t a b one two =
    holds_append (pairs_with r.0 t) (all_pairs rs t) a b
    ∙ by_test (r.0 == a)
    (λ q. either_first (holds_pair (pairs_with r.0 t) a b) (holds_pair (all_pairs rs t) a b) (subst (λ (i : ℕ). holds_pair (pairs_with i t) a b ≡ true) (sym (eqb-true r.0 a q)) (holds_with t a b two)))
    (λ q. let later : IsSome (row_of rs a) = rw q at one in either_second (holds_pair (pairs_with r.0 t) a b) (holds_pair (all_pairs rs t) a b) (holds_all rs t a b later two))

-- a pair has its first identifier, and a first identifier has a pair
first_has : (xs : IdPairs) (a b : ℕ) → holds_pair xs a b ≡ true → has_first xs a ≡ true
unfolding holds_pair
first_has [] a b h = absurd (cc)
first_has (x ∷ xs) a b h =
    by_test (x.0 == a)
    (λ u. rw u refl)
    (λ u.
    by_test (a == x.0 && b == x.1)
    (λ q. let back : (x.0 == a) ≡ true = eq-eqb x.0 a (sym (eqb-true a x.0 (and_parts (a == x.0) (b == x.1) q).0)) in absurd (cc))
    (λ q. let later : holds_pair xs a b ≡ true = rw q at h in rw u (first_has xs a b later)))

first_is : (xs : IdPairs) (a : ℕ) (X : Type 0) → has_first xs a ≡ true → ((b : ℕ) → holds_pair xs a b ≡ true → X) → X
unfolding holds_pair
first_is [] a X h f = absurd (cc)
first_is (x ∷ xs) a X h f =
    by_test (x.0 == a)
    (λ u.
    let here : (a == x.0) ≡ true = eq-eqb a x.0 (sym (eqb-true x.0 a u)) in
    let own = eq-eqb x.1 x.1 refl in
    f x.1 (rw (here, own) refl))
    (λ u.
    let later : has_first xs a ≡ true = rw u at h in
    first_is xs a X later (λ b holds. f b (either_second (a == x.0 && b == x.1) (holds_pair xs a b) holds)))

-- the same of its second one
second_has : (xs : IdPairs) (a b : ℕ) → holds_pair xs a b ≡ true → has_second xs b ≡ true
unfolding holds_pair
second_has [] a b h = absurd (cc)
second_has (x ∷ xs) a b h =
    by_test (x.1 == b)
    (λ u. rw u refl)
    (λ u.
    by_test (a == x.0 && b == x.1)
    (λ q. let back : (x.1 == b) ≡ true = eq-eqb x.1 b (sym (eqb-true b x.1 (and_parts (a == x.0) (b == x.1) q).1)) in absurd (cc))
    (λ q. let later : holds_pair xs a b ≡ true = rw q at h in rw u (second_has xs a b later)))

second_is : (xs : IdPairs) (b : ℕ) (X : Type 0) → has_second xs b ≡ true → ((a : ℕ) → holds_pair xs a b ≡ true → X) → X
unfolding holds_pair
second_is [] b X h f = absurd (cc)
second_is (x ∷ xs) b X h f =
    by_test (x.1 == b)
    (λ u.
    let here : (b == x.1) ≡ true = eq-eqb b x.1 (sym (eqb-true x.1 b u)) in
    let own = eq-eqb x.0 x.0 refl in
    f x.0 (rw (own, here) refl))
    (λ u.
    let later : has_second xs b ≡ true = rw u at h in
    second_is xs b X later (λ a holds. f a (either_second (a == x.0 && b == x.1) (holds_pair xs a b) holds)))

-- a row that passes is some
some_found : (test : ℕ → Bool) (rows : Rows) (id : ℕ) → IsSome (row_of rows id) → test id ≡ true → some_row test rows ≡ true
some_found test [] id some h = absurd (cc)
some_found test (r ∷ rs) id some h =
    by_test (test r.0)
    (λ p. rw p refl)
    (λ p.
    rw p (by_test (r.0 == id)
    (λ q. let same : test r.0 ≡ test id = ap test (eqb-true r.0 id q) in absurd (cc))
    (λ q. let later : IsSome (row_of rs id) = rw q at some in some_found test rs id later h)))

-- the other way
some_is : (test : ℕ → Bool) (rows : Rows) (X : Type 0) → some_row test rows ≡ true → ((id : ℕ) → IsSome (row_of rows id) → test id ≡ true → X) → X
some_is test [] X h f = absurd (cc)
some_is test (r ∷ rs) X h f =
    by_test (test r.0)
    (λ p. let own = eq-eqb r.0 r.0 refl in f r.0 (rw own refl) p)
    (λ p.
    let later : some_row test rs ≡ true = rw p at h in
    some_is test rs X later (λ id some passes. f id (by_test (r.0 == id) (λ q. rw q refl) (λ q. rw q some)) passes))

-- tests that pass alike
both_ways : (x y : Bool) → (x ≡ true → y ≡ true) → (y ≡ true → x ≡ true) → x ≡ y
both_ways true y f g = sym (f refl)
both_ways false y f g = by_test y (λ q. g q ∙ sym q) (λ q. sym q)

-- the pair of an entry stands among those of all entries
holds_entry : (es : Pairs) (a b : ℕ) → has es a b ≡ true → holds_pair (pairs_in es) a b ≡ true
unfolding holds_pair
holds_entry [] a b h = absurd (cc)
holds_entry (e ∷ es) a b h =
    by_test (e.1 == a && e.2 == b)
    (λ q.
    let parts = and_parts (e.1 == a) (e.2 == b) q in
    let first : (a == e.1) ≡ true = eq-eqb a e.1 (sym (eqb-true e.1 a parts.0)) in
    let second : (b == e.2) ≡ true = eq-eqb b e.2 (sym (eqb-true e.2 b parts.1)) in
    rw (first, second) refl)
    (λ q. let later : has es a b ≡ true = rw q at h in either_second (a == e.1 && b == e.2) (holds_pair (pairs_in es) a b) (holds_entry es a b later))

-- what was there, or doesn't pass, isn't new
pub not_new : (full had : Bool) → had ≡ true → (full && not had) ≡ false
not_new true true h = refl
not_new true false h = absurd (cc)
not_new false had h = refl

pub not_full : (full had : Bool) → full ≡ false → (full && not had) ≡ false
not_full true had h = absurd (cc)
not_full false had h = refl

-- what passes and was none
is_new : (full had : Bool) → full ≡ true → had ≡ false → (full && not had) ≡ true
is_new true false one two = refl
is_new true true one two = absurd (cc)
is_new false had one two = absurd (cc)

-- either of two tests
either_is : (x y : Bool) (X : Type 0) → (if x then true else y) ≡ true → (x ≡ true → X) → (y ≡ true → X) → X
either_is true y X h f g = f refl
either_is false y X h f g = g h

-- so both passes find the full entries, and the rows that are in one
pub finds_all : (it : Showing) (g : Found) → HasPairs (filter (is_full_pair it) (pairs_in it.memory.now.entries) ++ filter (is_new_full it) (all_pairs it.new_s.now.rows it.new_t.now.rows)) g → Finds it g
finds_all it g all_has =
    let full = is_full_in it in
    let m = it.memory.now.entries in
    let new : ℕ → ℕ → Bool = λ a b. is_full_in it a b && not (has m a b) in
    let s = it.new_s.now.rows in
    let t = it.new_t.now.rows in
    let all = all_pairs s t in
    let kept = filter (is_full_pair it) (pairs_in m) in
    let more = filter (is_new_full it) all in
    let found = kept ++ more in
    let there = shown_there (joining_in it) it.s.now.rows it.t.now.rows m s t in
    let holds : (a b : ℕ) → full a b ≡ true → holds_pair found a b ≡ true =
    λ a b passes.
    let both = there a b passes in
    holds_append kept more a b
    ∙ by_test (has m a b)
    (λ had. either_first (holds_pair kept a b) (holds_pair more a b) (holds_filter full (pairs_in m) a b (holds_entry m a b had) passes))
    (λ had. either_second (holds_pair kept a b) (holds_pair more a b) (holds_filter new all a b (holds_all s t a b both.0 both.1) (is_new (full a b) (has m a b) passes had))) in
    let passes : (a b : ℕ) → holds_pair found a b ≡ true → full a b ≡ true =
    λ a b h.
    either_is (holds_pair kept a b) (holds_pair more a b) (full a b ≡ true) (sym (holds_append kept more a b) ∙ h)
    (λ one. holds_passes full (pairs_in m) a b one)
    (λ two. (and_parts (full a b) (not (has m a b)) (holds_passes new all a b two)).0) in
    record {
      pairs = λ a b. all_has.pairs a b ∙ both_ways (holds_pair found a b) (full a b) (passes a b) (holds a b);
      first = λ a. all_has.first a ∙ both_ways (has_first found a) (some_row (λ b. full a b) t)
          (λ h. first_is found a (some_row (λ b. full a b) t ≡ true) h (λ b stands. let is = passes a b stands in some_found (λ b. full a b) t b (there a b is).1 is))
          (λ h. some_is (λ b. full a b) t (has_first found a ≡ true) h (λ b some is. first_has found a b (holds a b is)));
      second = λ b. all_has.second b ∙ both_ways (has_second found b) (some_row (λ a. full a b) s)
          (λ h. second_is found b (some_row (λ a. full a b) s ≡ true) h (λ a stands. let is = passes a b stands in some_found (λ a. full a b) s a (there a b is).0 is))
          (λ h. some_is (λ a. full a b) s (has_second found b ≡ true) h (λ a some is. second_has found a b (holds a b is)));
    }
