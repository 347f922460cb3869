-- Entries of memories, and the pairs that are shown after a write of S and T.
use Rattle.std.proofs.Common.{◌≡◌, ℕ, ◌+◌, ◌≤◌, ◌==◌, ◌⊎◌, List, [], ◌∷◌, ◌++◌, filter, Bool, true, false, not, ◌&&◌, ◌||◌, Option, Some, IsSome, is_some, refl, ap, sym, ◌∙◌, subst, arith}
use Rattle.std.proofs.lemmas.Bool.{and_parts, eqb-true, eq-eqb, or_right}
use mathlib.Core.Logic.{inl, inr}
use Rattle.par_base.specs.declared.value.Value.{Value}
use Rattle.row_store.specs.Rows.{Rows, row_of}
use Rattle.id_memory.specs.Pairs.{Pairs, RiseFrom, pair_of, has_pair}
use Rattle.row_parts.specs.RowCells.{Cell, by_test, by_option}
use Rattle.pair_rows.specs.Shown.{Joining, join_cells, row_at, holds_in, matches, IsJoined, has, is_shown, pairs_with, all_pairs, new_pairs, numbered, kept_pairs}
use Rattle.pair_rows.specs.Sides.{table_at}
use Rattle.pair_rows.specs.inner.ShownLaws.{there_cells, pair_is_there, pairs_rise, still_shown}
use Rattle.key_laws.specs.PairsShown.{Matches, HasPair, SourcesWritten, s_before, t_before, s_after, t_after, pairs_before, pairs_after, UnchangedRowsKeepTheirPair, DeletedPairStaysAway, MatchIsShown, UnmatchedPairGoes, PutPairStays}

-- the pair of an entry with its identifier
pub both_of : (e : ℕ × ℕ × ℕ) (a b : ℕ) → ◌≡◌ {A = Option (ℕ × ℕ)} (Some (e.1, e.2)) (Some (a, b)) → (e.1 ≡ a) × (e.2 ≡ b)
both_of e a b at =
    let pair : ◌≡◌ {A = ℕ × ℕ} (e.1, e.2) (a, b) = cc in
    (ap (λ (k : ℕ × ℕ). k.0) pair, ap (λ (k : ℕ × ℕ). k.1) pair)

-- an entry that passed a test of its pair
passed : (test : ℕ → ℕ → Bool) (es : Pairs) (p a b : ℕ) → pair_of (filter (λ e. test e.1 e.2) es) p ≡ Some (a, b) → test a b ≡ true
passed test [] p a b at = absurd (cc)
passed test (e ∷ es) p a b at =
    by_test (test e.1 e.2)
    (λ q.
    let here : pair_of (e ∷ filter (λ e. test e.1 e.2) es) p ≡ Some (a, b) = rw q at at in
    by_test (e.0 == p)
    (λ u.
    let is : ◌≡◌ {A = Option (ℕ × ℕ)} (Some (e.1, e.2)) (Some (a, b)) = rw u at here in
    let both = both_of e a b is in
    sym (ap (λ (i : ℕ). test i e.2) both.0 ∙ ap (λ (i : ℕ). test a i) both.1) ∙ q)
    (λ u. let later : pair_of (filter (λ e. test e.1 e.2) es) p ≡ Some (a, b) = rw u at here in passed test es p a b later))
    (λ q. let later : pair_of (filter (λ e. test e.1 e.2) es) p ≡ Some (a, b) = rw q at at in passed test es p a b later)

-- and the other way round
kept_pair : (test : ℕ → ℕ → Bool) (es : Pairs) (p a b : ℕ) → pair_of es p ≡ Some (a, b) → test a b ≡ true → pair_of (filter (λ e. test e.1 e.2) es) p ≡ Some (a, b)
kept_pair test [] p a b at passes = absurd (cc)
kept_pair test (e ∷ es) p a b at passes =
    by_test (e.0 == p)
    (λ u.
    let is : ◌≡◌ {A = Option (ℕ × ℕ)} (Some (e.1, e.2)) (Some (a, b)) = rw u at at in
    let both = both_of e a b is in
    let own : test e.1 e.2 ≡ true = ap (λ (i : ℕ). test i e.2) both.0 ∙ ap (λ (i : ℕ). test a i) both.1 ∙ passes in
    rw own (rw u is))
    (λ u.
    let later : pair_of es p ≡ Some (a, b) = rw u at at in
    let rest = kept_pair test es p a b later passes in
    by_test (test e.1 e.2) (λ q. rw q (rw u rest)) (λ q. rw q rest))

-- a pair that was numbered passed the test
numbered_passed : (test : ℕ → ℕ → Bool) (n : ℕ) (xs : List (ℕ × ℕ)) (p a b : ℕ) → pair_of (numbered n (filter (λ x. test x.0 x.1) xs)) p ≡ Some (a, b) → test a b ≡ true
numbered_passed test n [] p a b at = absurd (cc)
numbered_passed test n (x ∷ xs) p a b at =
    by_test (test x.0 x.1)
    (λ q.
    let here : pair_of (numbered n (x ∷ filter (λ x. test x.0 x.1) xs)) p ≡ Some (a, b) = rw q at at in
    by_test (n == p)
    (λ u.
    let is : ◌≡◌ {A = Option (ℕ × ℕ)} (Some (x.0, x.1)) (Some (a, b)) = rw u at here in
    let both = both_of (n, x.0, x.1) a b is in
    sym (ap (λ (i : ℕ). test i x.1) both.0 ∙ ap (λ (i : ℕ). test a i) both.1) ∙ q)
    (λ u. let later : pair_of (numbered (n + 1) (filter (λ x. test x.0 x.1) xs)) p ≡ Some (a, b) = rw u at here in numbered_passed test (n + 1) xs p a b later))
    (λ q. let later : pair_of (numbered n (filter (λ x. test x.0 x.1) xs)) p ≡ Some (a, b) = rw q at at in numbered_passed test n xs p a b later)

-- an entry of two lists
front : (es fs : Pairs) (p a b : ℕ) → pair_of es p ≡ Some (a, b) → pair_of (es ++ fs) p ≡ Some (a, b)
front [] fs p a b at = absurd (cc)
front (e ∷ es) fs p a b at =
    by_test (e.0 == p)
    (λ u. let here : ◌≡◌ {A = Option (ℕ × ℕ)} (Some (e.1, e.2)) (Some (a, b)) = rw u at at in rw u here)
    (λ u. let later : pair_of es p ≡ Some (a, b) = rw u at at in rw u (front es fs p a b later))

-- one of them has it
either : (es fs : Pairs) (p a b : ℕ) → pair_of (es ++ fs) p ≡ Some (a, b) → (pair_of es p ≡ Some (a, b)) ⊎ (pair_of fs p ≡ Some (a, b))
either [] fs p a b at = inr at
either (e ∷ es) fs p a b at =
    by_test (e.0 == p)
    (λ u. let here : ◌≡◌ {A = Option (ℕ × ℕ)} (Some (e.1, e.2)) (Some (a, b)) = rw u at at in inl (rw u here))
    (λ u. let later : pair_of (es ++ fs) p ≡ Some (a, b) = rw u at at in rw u (either es fs p a b later))

-- an entry's pair is in the memory
pub has_of : (es : Pairs) (p a b : ℕ) → pair_of es p ≡ Some (a, b) → has es a b ≡ true
has_of [] p a b at = absurd (cc)
has_of (e ∷ es) p a b at =
    by_test (e.0 == p)
    (λ u.
    let is : ◌≡◌ {A = Option (ℕ × ℕ)} (Some (e.1, e.2)) (Some (a, b)) = rw u at at in
    let both = both_of e a b is in
    let one : (e.1 == a) ≡ true = let own = eq-eqb e.1 e.1 refl in subst (λ (i : ℕ). (e.1 == i) ≡ true) both.0 own in
    let two : (e.2 == b) ≡ true = let own = eq-eqb e.2 e.2 refl in subst (λ (i : ℕ). (e.2 == i) ≡ true) both.1 own in
    let own : has_pair a b e ≡ true = rw (one, two) refl in
    rw own refl)
    (λ u.
    let later : pair_of es p ≡ Some (a, b) = rw u at at in
    let rest = has_of es p a b later in
    by_test (has_pair a b e) (λ q. rw q refl) (λ q. rw q rest))

-- no entry is below rising ones
pub above : (n : ℕ) (es : Pairs) (p : ℕ) (x : ℕ × ℕ) → RiseFrom n es → pair_of es p ≡ Some x → n ≤ p
above n [] p x rise at = absurd (cc)
above n (e ∷ es) p x rise at =
    let low = rise.0 in
    by_test (e.0 == p)
    (λ u. let same = eqb-true e.0 p u in omega (arith, low, same))
    (λ u. let later : pair_of es p ≡ Some x = rw u at at in let rest = above (e.0 + 1) es p x rise.1 later in omega (arith, low, rest))

-- what an entry behind the first has, the memory has
pub behind_first : (e : ℕ × ℕ × ℕ) (es : Pairs) (p : ℕ) (x : ℕ × ℕ) → RiseFrom (e.0 + 1) es → pair_of es p ≡ Some x → pair_of (e ∷ es) p ≡ Some x
behind_first e es p x rise at =
    let low = above (e.0 + 1) es p x rise at in
    by_test (e.0 == p)
    (λ u. let same = eqb-true e.0 p u in absurd (omega (arith, low, same)))
    (λ u. rw u at)

-- a pair of the memory has an identifier
of_has : (n : ℕ) (es : Pairs) (a b : ℕ) → RiseFrom n es → has es a b ≡ true → HasPair es a b
of_has n [] a b rise h = absurd (cc)
of_has n (e ∷ es) a b rise h =
    by_test (has_pair a b e)
    (λ q.
    let same = and_parts (e.1 == a) (e.2 == b) q in
    let one = eqb-true e.1 a same.0 in
    let two = eqb-true e.2 b same.1 in
    let own = eq-eqb e.0 e.0 refl in
    let is : ◌≡◌ {A = Option (ℕ × ℕ)} (Some (e.1, e.2)) (Some (a, b)) = ap (λ (i : ℕ). Some (i, e.2)) one ∙ ap (λ (i : ℕ). Some (a, i)) two in
    (e.0, rw own is))
    (λ q.
    let later : has es a b ≡ true = rw q at h in
    let rest = of_has (e.0 + 1) es a b rise.1 later in
    (rest.0, behind_first e es rest.0 (a, b) rise.1 rest.1))

-- a pair behind others
has_back : (es fs : Pairs) (a b : ℕ) → has fs a b ≡ true → has (es ++ fs) a b ≡ true
has_back [] fs a b h = h
has_back (e ∷ es) fs a b h = let rest = has_back es fs a b h in by_test (has_pair a b e) (λ q. rw q refl) (λ q. rw q rest)

-- whether the pair is listed
abbrev listed : ℕ → ℕ → List (ℕ × ℕ) → Bool
listed a b [] = false
listed a b (x ∷ xs) = (x.0 == a && x.1 == b) || listed a b xs

-- a pair in front
listed_front : (a b : ℕ) (xs ys : List (ℕ × ℕ)) → listed a b xs ≡ true → listed a b (xs ++ ys) ≡ true
listed_front a b [] ys h = absurd (cc)
listed_front a b (x ∷ xs) ys h =
    by_test (x.0 == a && x.1 == b)
    (λ q. rw q refl)
    (λ q. let later : listed a b xs ≡ true = rw q at h in rw q (listed_front a b xs ys later))

-- and one behind
listed_back : (a b : ℕ) (xs ys : List (ℕ × ℕ)) → listed a b ys ≡ true → listed a b (xs ++ ys) ≡ true
listed_back a b [] ys h = h
listed_back a b (x ∷ xs) ys h = or_right (x.0 == a && x.1 == b) (listed a b (xs ++ ys)) (listed_back a b xs ys h)

-- a pair of one row
listed_with : (a b k : ℕ) (t : Rows) (v : List Value) → k ≡ a → row_of t b ≡ Some v → listed a b (pairs_with k t) ≡ true
listed_with a b k [] v same at = absurd (cc)
listed_with a b k (r ∷ rs) v same at =
    by_test (r.0 == b)
    (λ u.
    let own : (k == a) ≡ true = let own = eq-eqb k k refl in subst (λ (i : ℕ). (k == i) ≡ true) same own in
    rw (own, u) refl)
    (λ u.
    let later : row_of rs b ≡ Some v = rw u at at in
    or_right (k == a && r.0 == b) (listed a b (pairs_with k rs)) (listed_with a b k rs v same later))

-- and of any
listed_all : (a b : ℕ) (s t : Rows) (u v : List Value) → row_of s a ≡ Some u → row_of t b ≡ Some v → listed a b (all_pairs s t) ≡ true
listed_all a b [] t u v at other = absurd (cc)
listed_all a b (r ∷ rs) t u v at other =
    by_test (r.0 == a)
    (λ q. listed_front a b (pairs_with r.0 t) (all_pairs rs t) (listed_with a b r.0 t v (eqb-true r.0 a q) other))
    (λ q. let later : row_of rs a ≡ Some u = rw q at at in listed_back a b (pairs_with r.0 t) (all_pairs rs t) (listed_all a b rs t u v later other))

-- a listed pair that passes is numbered
listed_numbered : (test : ℕ → ℕ → Bool) (n a b : ℕ) (xs : List (ℕ × ℕ)) → listed a b xs ≡ true → test a b ≡ true → has (numbered n (filter (λ x. test x.0 x.1) xs)) a b ≡ true
listed_numbered test n a b [] h passes = absurd (cc)
listed_numbered test n a b (x ∷ xs) h passes =
    by_test (x.0 == a && x.1 == b)
    (λ q.
    let same = and_parts (x.0 == a) (x.1 == b) q in
    let own : test x.0 x.1 ≡ true = ap (λ (i : ℕ). test i x.1) (eqb-true x.0 a same.0) ∙ ap (λ (i : ℕ). test a i) (eqb-true x.1 b same.1) ∙ passes in
    rw own (rw q refl))
    (λ q.
    let later : listed a b xs ≡ true = rw q at h in
    by_test (test x.0 x.1)
    (λ u. rw u (rw q (listed_numbered test (n + 1) a b xs later passes)))
    (λ u. rw u (listed_numbered test n a b xs later passes)))

-- when a pair is shown: both rows are there, it was in the memory, its old rows matched, its new ones match
new_shown : (there h k l : Bool) → there ≡ true → l ≡ true → (k ≡ true → h ≡ true) → (there && ((h && not k) || (l && not (k && not h)))) ≡ true
new_shown true true true true e f g = refl
new_shown true true false true e f g = refl
new_shown true false false true e f g = refl
new_shown true false true true e f g = let bad : false ≡ true = g refl in absurd (cc)
new_shown true h k false e f g = absurd (cc)
new_shown false h k l e f g = absurd (cc)

-- a pair that was put there is
put_shown : (there h k l : Bool) → there ≡ true → h ≡ true → k ≡ false → (there && ((h && not k) || (l && not (k && not h)))) ≡ true
put_shown there h k l e f g = rw (e, f, g) refl

-- a deleted one is not
deleted_not : (there h k l : Bool) → h ≡ false → k ≡ true → (there && ((h && not k) || (l && not (k && not h)))) ≡ false
deleted_not true h k true e f = rw (e, f) refl
deleted_not true h k false e f = rw e refl
deleted_not false h k l e f = refl

-- nor is one that matches no more
unmatched_not : (there h k l : Bool) → k ≡ true → l ≡ false → (there && ((h && not k) || (l && not (k && not h)))) ≡ false
unmatched_not true true k l e f = rw (e, f) refl
unmatched_not true false k l e f = rw (e, f) refl
unmatched_not false h k l e f = refl

module _ (j : Joining) where
  -- the words of the operator for a match
  matches_of : (s t : Rows) (a b : ℕ) → Matches j s t a b → matches j s t a b ≡ true
  matches_of s t a b is =
      ap (λ (c : Cell). holds_in j.condition (join_cells j c (row_of t b))) is.at
      ∙ ap (λ (c : Cell). holds_in j.condition (join_cells j (Some is.first) c)) is.other ∙ is.holds

  -- and back
  of_matches : (s t : Rows) (a b : ℕ) → matches j s t a b ≡ true → Matches j s t a b
  of_matches s t a b h = by_option (row_of s a)
      (λ none. let bad : false ≡ true = sym (ap (λ (c : Cell). holds_in j.condition (join_cells j c (row_of t b))) none) ∙ h in absurd (cc))
      (λ u at. by_option (row_of t b)
      (λ none.
      let bad : false ≡ true = sym (ap (λ (c : Cell). holds_in j.condition (join_cells j c (row_of t b))) at ∙ ap (λ (c : Cell). holds_in j.condition (join_cells j (Some u) c)) none) ∙ h in
      absurd (cc))
      (λ v other. record {
        first = u;
        second = v;
        at = at;
        other = other;
        holds = sym (ap (λ (c : Cell). holds_in j.condition (join_cells j c (row_of t b))) at ∙ ap (λ (c : Cell). holds_in j.condition (join_cells j (Some u) c)) other) ∙ h;
      }))

  -- what does not match is told
  unmatched : (s t : Rows) (a b : ℕ) → (Matches j s t a b → ⊥) → matches j s t a b ≡ false
  unmatched s t a b never = by_test (matches j s t a b) (λ e. absurd (never (of_matches s t a b e))) (λ e. e)

module _ (j : Joining) (w : SourcesWritten j) where
  -- old S
  abbrev s : Rows
  s = s_before w

  -- old T
  abbrev t : Rows
  t = t_before w

  -- new S
  abbrev ns : Rows
  ns = s_after w

  -- new T
  abbrev nt : Rows
  nt = t_after w

  -- the old pairs
  abbrev m : Pairs
  m = pairs_before w

  -- both sides belong together
  is : IsJoined j s t (table_at 0 w.old.target) m
  is = w.may.sound.pair.related

  -- whether a pair is shown
  abbrev shown : ℕ → ℕ → Bool
  shown a b = is_shown j s t m ns nt a b

  -- whether it is new
  abbrev is_new : ℕ → ℕ → Bool
  is_new a b = shown a b && not (has m a b)

  -- the new memory rises
  rises : RiseFrom 0 (pairs_after w)
  rises = pairs_rise j s t m ns nt w.n is.rises w.may.sound.memory

  -- a pair of the memory that is shown keeps its identifier
  stays : (p a b : ℕ) → pair_of m p ≡ Some (a, b) → shown a b ≡ true → pair_of (pairs_after w) p ≡ Some (a, b)
  stays p a b at passes = front (kept_pairs j s t m ns nt) (numbered w.n (new_pairs j s t m ns nt)) p a b (kept_pair shown m p a b at passes)

  -- a pair of the new memory is shown
  is_in : (a b : ℕ) → HasPair (pairs_after w) a b → shown a b ≡ true
  is_in a b has_it = elim (either (kept_pairs j s t m ns nt) (numbered w.n (new_pairs j s t m ns nt)) has_it.0 a b has_it.1) [
    | inl old ↦ passed shown m has_it.0 a b old
    | inr new ↦ (and_parts (shown a b) (not (has m a b)) (numbered_passed is_new w.n (all_pairs ns nt) has_it.0 a b new)).0
  ]

  -- and no other is
  not_in : (a b : ℕ) → shown a b ≡ false → HasPair (pairs_after w) a b → ⊥
  not_in a b never has_it = let yes = is_in a b has_it in absurd (cc)

  -- a pair that no entry has isn't in the memory
  has_none : (a b : ℕ) → (HasPair m a b → ⊥) → has m a b ≡ false
  has_none a b never = by_test (has m a b) (λ e. absurd (never (of_has 0 m a b is.rises e))) (λ e. e)

  pub unchanged : (p a b : ℕ) → pair_of m p ≡ Some (a, b) → row_of ns a ≡ row_of s a → row_of nt b ≡ row_of t b → pair_of (pairs_after w) p ≡ Some (a, b)
  unchanged p a b at one other =
      let both = pair_is_there j s t m p a b is.there at in
      let there : is_some (row_at j ns nt a b) ≡ true =
      there_cells j (row_of ns a) (row_of nt b) (subst (λ (c : Cell). IsSome c) (sym one) both.0) (subst (λ (c : Cell). IsSome c) (sym other) both.1) in
      let same : matches j ns nt a b ≡ matches j s t a b =
      ap (λ (c : Cell). holds_in j.condition (join_cells j c (row_of nt b))) one ∙ ap (λ (c : Cell). holds_in j.condition (join_cells j (row_of s a) c)) other in
      stays p a b at
      (ap (λ (l : Bool). is_some (row_at j ns nt a b) && ((has m a b && not (matches j s t a b)) || (l && not (matches j s t a b && not (has m a b))))) same
      ∙ still_shown j (is_some (row_at j ns nt a b)) (has m a b) (matches j s t a b) there (has_of m p a b at))

  pub deleted : (a b : ℕ) → Matches j s t a b → (HasPair m a b → ⊥) → HasPair (pairs_after w) a b → ⊥
  deleted a b matched never =
      not_in a b (deleted_not (is_some (row_at j ns nt a b)) (has m a b) (matches j s t a b) (matches j ns nt a b) (has_none a b never) (matches_of j s t a b matched))

  -- a pair that is shown is in the new memory
  shown_in : (a b : ℕ) → Matches j ns nt a b → shown a b ≡ true → HasPair (pairs_after w) a b
  shown_in a b is_match passes = by_test (has m a b)
      (λ e. let old = of_has 0 m a b is.rises e in (old.0, stays old.0 a b old.1 passes))
      (λ e.
      let new : is_new a b ≡ true = rw (passes, e) refl in
      of_has 0 (pairs_after w) a b rises
      (has_back (kept_pairs j s t m ns nt) (numbered w.n (new_pairs j s t m ns nt)) a b
      (listed_numbered is_new w.n a b (all_pairs ns nt) (listed_all a b ns nt is_match.first is_match.second is_match.at is_match.other) new)))

  pub match_shown : (a b : ℕ) → Matches j ns nt a b → (Matches j s t a b → HasPair m a b) → HasPair (pairs_after w) a b
  match_shown a b is_match old =
      let there : is_some (row_at j ns nt a b) ≡ true =
      ap (λ (c : Cell). is_some (join_cells j c (row_of nt b))) is_match.at ∙ ap (λ (c : Cell). is_some (join_cells j (Some is_match.first) c)) is_match.other in
      shown_in a b is_match
      (new_shown (is_some (row_at j ns nt a b)) (has m a b) (matches j s t a b) (matches j ns nt a b) there (matches_of j ns nt a b is_match)
      (λ e. let before = old (of_matches j s t a b e) in has_of m before.0 a b before.1))

  pub unmatched_goes : (a b : ℕ) → Matches j s t a b → (Matches j ns nt a b → ⊥) → HasPair (pairs_after w) a b → ⊥
  unmatched_goes a b matched never =
      not_in a b (unmatched_not (is_some (row_at j ns nt a b)) (has m a b) (matches j s t a b) (matches j ns nt a b) (matches_of j s t a b matched) (unmatched j ns nt a b never))

  pub put_stays : (p a b : ℕ) → pair_of m p ≡ Some (a, b) → (Matches j s t a b → ⊥) → IsSome (row_of ns a) → IsSome (row_of nt b) → pair_of (pairs_after w) p ≡ Some (a, b)
  put_stays p a b at never one other =
      stays p a b at
      (put_shown (is_some (row_at j ns nt a b)) (has m a b) (matches j s t a b) (matches j ns nt a b) (there_cells j (row_of ns a) (row_of nt b) one other) (has_of m p a b at) (unmatched j s t a b never))

-- the laws

pub rows_keep : UnchangedRowsKeepTheirPair
rows_keep j w p a b at one other = unchanged j w p a b at one other

pub deleted_stays_away : DeletedPairStaysAway
deleted_stays_away j w a b matched never new = deleted j w a b matched never new

pub match_is_shown : MatchIsShown
match_is_shown j w a b is_match old = match_shown j w a b is_match old

pub unmatched_pair_goes : UnmatchedPairGoes
unmatched_pair_goes j w a b matched never new = unmatched_goes j w a b matched never new

pub put_pair_stays : PutPairStays
put_pair_stays j w p a b at never one other = put_stays j w p a b at never one other
