-- Columns by their places: where listed columns stand, and when two lists divide them.
use Rattle.std.proofs.Common.{◌≡◌, ℕ, zero, suc, ◌+◌, ◌<◌, List, [], ◌∷◌, ◌++◌, length, Bool, true, false, cond, not, Option, Some, None, Ok, IfOk, inl, inr, refl, sym, ◌∙◌, ap, subst, arith}
use Rattle.std.specs.Prelude.{◌||◌, ◌==◌, slice_get, unwrap_or, MatchOption}
use Rattle.std.specs.List.{list_any}
use Rattle.std.specs.Option.{option_or}
use Rattle.std.specs.Str.{bytes_eq}
use Rattle.std.proofs.lemmas.Bool.{false≢true, eqb-true, eq-eqb}
use Rattle.std.proofs.lemmas.List.Quantifiers.{position-Some}
use Rattle.std.proofs.lemmas.Option.{unwrap_or-slice_get}
use Rattle.expr_lang.specs.Resolved.{place_of}
use Rattle.version_graph.specs.Sets.{In, Distinct, Within}
use Rattle.version_graph.specs.Tables.{IsHeading, row_name}
use Rattle.version_graph.specs.declared.parts.Heading.{Heading}
use Rattle.version_graph.proofs.SetLaws.{in_left}
use Rattle.version_graph.proofs.NameLaws.{same_name}
use Rattle.row_parts.specs.RowCells.{by_test}
use Rattle.row_parts.specs.Places.{has_place, AreOnce, names_at}
use Rattle.row_parts.specs.Partition.{Divides, divides}
use Rattle.row_parts.specs.inner.PlaceLemmas.{length-names}
use Rattle.op_key_join.specs.OtherPlaces.{others_divide}
use Rattle.op_checks.specs.NameChecks.{repeated, left_out, misdivided, known_column, known_places, well_divided}
use Rattle.op_build.specs.Laws.{IsFirstRepeated, IsFirstLeftOut, IsFirstMisdivided}
use Rattle.op_build.proofs.NameLists.{member, not_member, repeated-first, unrepeated_distinct}
use Rattle.op_build.proofs.Suits.{if_then, at_ok, column_is, place_within}

-- the name at a place
abbrev name_at : List (List ℕ) → ℕ → List ℕ
name_at columns place = unwrap_or (slice_get columns place) []

in_at : (columns : List (List ℕ)) (place : ℕ) → place < length columns → In (name_at columns place) columns
in_at [] place within = absurd (omega (arith, within))
in_at (c ∷ columns) zero within = inl refl
in_at (c ∷ columns) (suc place) within = inr (in_at columns place (omega (arith, within)))

-- in distinct columns a name has one place
same_place : (columns : List (List ℕ)) (a b : ℕ) → Distinct columns → a < length columns → b < length columns → name_at columns a ≡ name_at columns b → a ≡ b
same_place [] a b once first second same = absurd (omega (arith, first))
same_place (c ∷ columns) zero zero once first second same = refl
same_place (c ∷ columns) zero (suc b) once first second same =
    absurd (once.0 (subst (λ (n : List ℕ). In n columns) (sym same) (in_at columns b (omega (arith, second)))))
same_place (c ∷ columns) (suc a) zero once first second same =
    absurd (once.0 (subst (λ (n : List ℕ). In n columns) same (in_at columns a (omega (arith, first)))))
same_place (c ∷ columns) (suc a) (suc b) once first second same = ap suc (same_place columns a b once.1 (omega (arith, first)) (omega (arith, second)) same)

module _ (columns : List (List ℕ)) where
  -- what stands at a listed place is listed
  named_at : (places : List ℕ) (q : ℕ) → has_place places q ≡ true → In (name_at columns q) (names_at places columns)
  named_at [] q has = absurd (false≢true has)
  named_at (p ∷ places) q has =
      by_test (p == q)
      (λ e. inl (ap (name_at columns) (sym (eqb-true p q e))))
      (λ e. let rest : has_place places q ≡ true = rw e at has in inr (named_at places q rest))

  -- and what is listed stands at a listed place
  place_named : (places : List ℕ) (name : List ℕ) → In name (names_at places columns) → (q : ℕ) × (has_place places q ≡ true) × (name ≡ name_at columns q)
  place_named [] name i = absurd i
  place_named (p ∷ places) name (inl same) = let own = eq-eqb p p refl in (p, rw own refl, same)
  place_named (p ∷ places) name (inr i) =
      let rest = place_named places name i in
      (rest.0, by_test (p == rest.0) (λ e. rw e refl) (λ e. rw e rest.1), rest.2)

  -- distinct names stand at distinct places
  once_places : (places : List ℕ) → Distinct (names_at places columns) → AreOnce places
  once_places [] once = tt
  once_places (p ∷ places) once = (
    by_test (has_place places p) (λ has. absurd (once.0 (named_at places p has))) (λ none. none),
    once_places places once.1,
  )

  names_both : (first second : List ℕ) → names_at (first ++ second) columns ≡ names_at first columns ++ names_at second columns
  names_both [] second = refl
  names_both (p ∷ first) second = ap (λ (names : List (List ℕ)). name_at columns p ∷ names) (names_both first second)

has_both : (first second : List ℕ) (q : ℕ) → has_place (first ++ second) q ≡ (has_place first q || has_place second q)
has_both [] second q = refl
has_both (p ∷ first) second q = by_test (p == q) (λ e. rw e refl) (λ e. rw e (has_both first second q))

either_holds : {X : Type 0} (a b : Bool) → (a || b) ≡ true → (a ≡ true → X) → (b ≡ true → X) → X
either_holds true b e left right = left refl
either_holds false b e left right = right e

-- ---- the places of listed columns

pub record ArePlaced (columns names : List (List ℕ)) (places : List ℕ) : Type 0 where
  pub named : names_at places columns ≡ names
  pub within : (q : ℕ) → has_place places q ≡ true → q < length columns

place_is : (columns : List (List ℕ)) (name : List ℕ) (place : ℕ) → place_of columns name ≡ Some place → name_at columns place ≡ name
unfolding place_of
place_is columns name place found =
    unwrap_or-slice_get columns place [] ∙ sym (same_name name _ (position-Some (bytes_eq name) columns place [] found).1)

pub places_found : (columns names : List (List ℕ)) → IfOk (known_places columns names) (ArePlaced columns names)
unfolding known_places
places_found columns [] = record { named = refl; within = λ q has. absurd (false≢true has) }
places_found columns (name ∷ names) =
    if_then _ (known_column name (place_of columns name)) _ (λ place known.
    if_then _ (known_places columns names) _ (λ places are.
    let found = column_is name _ place known in
    let rest = at_ok (ArePlaced columns names) (known_places columns names) places are (places_found columns names) in
    let head = place_is columns name place found in
    let tail = rest.named in
    record {
      named = cc;
      within = λ q has.
          by_test (place == q)
          (λ e. let same = eqb-true place q e in let below = place_within columns name place found in omega (arith, same, below))
          (λ e. let more : has_place places q ≡ true = rw e at has in rest.within q more);
    }))

pub placed_at : (columns names : List (List ℕ)) (places : List ℕ) → known_places columns names ≡ Ok places → ArePlaced columns names places
placed_at columns names places known = at_ok (ArePlaced columns names) (known_places columns names) places known (places_found columns names)

-- one for each name
pub many_placed : (columns names : List (List ℕ)) (places : List ℕ) → ArePlaced columns names places → length places ≡ length names
many_placed columns names places are = sym (length-names places columns) ∙ ap (λ (l : List (List ℕ)). length l) are.named

-- distinct names have distinct places
pub placed_once : (columns names : List (List ℕ)) (places : List ℕ) → ArePlaced columns names places → Distinct names → AreOnce places
placed_once columns names places are once = once_places columns places (subst (λ (l : List (List ℕ)). Distinct l) (sym are.named) once)

-- ---- tables with some of the columns

module _ (h : Heading) (is : IsHeading h) (name : List ℕ) where
  -- names that are columns of a table, none twice, are columns of another
  pub some_columns : (names : List (List ℕ)) (places : List ℕ) → ArePlaced h.columns names places → Distinct names → IsHeading (record { name = name; columns = names })
  some_columns names places are once =
      let wide = (others_divide places (length h.columns) (placed_once h.columns names places are once) are.within).wide in
      let many = many_placed h.columns names places are in
      let most = is.few in
      record {
        once = (
          λ i.
              let at = place_named h.columns places row_name (subst (λ (l : List (List ℕ)). In row_name l) (sym are.named) i) in
              is.once.0 (subst (λ (n : List ℕ). In n h.columns) (sym at.2) (in_at h.columns at.0 (are.within at.0 at.1))),
          once,
        );
        few = omega (arith, wide, many, most);
      }

-- ---- names that are listed twice, and columns that are left out

-- the first column that none of the names is, or none where all are named
pub left_out-first : (columns names : List (List ℕ)) → MatchOption (left_out columns names) (Within columns names) (IsFirstLeftOut columns names)
left_out-first [] names = λ x i. absurd i
left_out-first (c ∷ columns) names =
    let P : Bool → Type 0 = λ b. list_any (bytes_eq c) names ≡ b → MatchOption (cond (not b) (Some c) (left_out columns names)) (Within (c ∷ columns) names) (IsFirstLeftOut (c ∷ columns) names) in
    let cases : P (list_any (bytes_eq c) names) = elim (list_any (bytes_eq c) names) as (λ b. P b) [
      | true ↦ λ is. one_named c columns names (member c names is) (left_out columns names) (left_out-first columns names)
      | false ↦ λ is. record { front = []; rest = columns; there = refl; before = λ x i. absurd i; out = not_member c names is }
    ] in
    cases refl
  where
    one_named : (c : List ℕ) (columns names : List (List ℕ)) → In c names → (o : Option (List ℕ)) → MatchOption o (Within columns names) (IsFirstLeftOut columns names) → MatchOption o (Within (c ∷ columns) names) (IsFirstLeftOut (c ∷ columns) names)
    one_named c columns names named None all = λ x i. elim i [ inl e ↦ subst (λ (n : List ℕ). In n names) (sym e) named | inr later ↦ all x later ]
    one_named c columns names named (Some name) first = record {
      front = c ∷ first.front;
      rest = first.rest;
      there = ap (λ (l : List (List ℕ)). c ∷ l) first.there;
      before = λ x i. elim i [ inl e ↦ subst (λ (n : List ℕ). In n names) (sym e) named | inr later ↦ first.before x later ];
      out = first.out;
    }

-- which column is refused where names don't divide a table's columns
pub misdivided-first : (columns names : List (List ℕ)) → MatchOption (misdivided columns names) (Distinct names × Within columns names) (IsFirstMisdivided columns names)
misdivided-first columns names = by_cases (repeated [] names) (repeated-first [] names tt)
  where
    then_left_out : Distinct names → (o : Option (List ℕ)) → MatchOption o (Within columns names) (IsFirstLeftOut columns names) → MatchOption o (Distinct names × Within columns names) (IsFirstMisdivided columns names)
    then_left_out once None all = (once, all)
    then_left_out once (Some name) first = inr (once, first)

    by_cases : (o : Option (List ℕ)) → MatchOption o (Distinct names) (IsFirstRepeated [] names) → MatchOption (option_or o (left_out columns names)) (Distinct names × Within columns names) (IsFirstMisdivided columns names)
    by_cases None once = then_left_out once (left_out columns names) (left_out-first columns names)
    by_cases (Some name) first = inl first

pub is_divided : (o : Option (List ℕ)) (u : Unit {0}) → well_divided o ≡ Ok u → o ≡ None
is_divided (Some name) u e = absurd (cc)
is_divided None u e = refl

pub listed_once : (names : List (List ℕ)) (u : Unit {0}) → well_divided (repeated [] names) ≡ Ok u → Distinct names
listed_once names u e = unrepeated_distinct [] names (is_divided _ u e) tt

pub divided_names : (columns names : List (List ℕ)) (u : Unit {0}) → well_divided (misdivided columns names) ≡ Ok u → Distinct names × Within columns names
divided_names columns names u e =
    subst (λ (o : Option (List ℕ)). MatchOption o (Distinct names × Within columns names) (IsFirstMisdivided columns names)) (is_divided _ u e) (misdivided-first columns names)

-- ---- two lists

module _ (columns first_names second_names : List (List ℕ)) (first second : List ℕ) where
  abbrev both : List ℕ
  both = first ++ second

  -- where their names are distinct and none is left out, they divide the places of the columns
  pub names_divide : Distinct columns → ArePlaced columns first_names first → ArePlaced columns second_names second → Distinct (first_names ++ second_names) → Within columns (first_names ++ second_names) → Divides first second (length columns)
  names_divide distinct a b once all =
      let named_first = a.named in
      let named_second = b.named in
      let named : names_at both columns ≡ first_names ++ second_names = names_both columns first second ∙ (rw (named_first, named_second) refl) in
      let within : (q : ℕ) → has_place both q ≡ true → q < length columns = λ q has.
      either_holds (has_place first q) (has_place second q) (sym (has_both first second q) ∙ has) (a.within q) (b.within q) in
      divides first second (length columns)
      (once_places columns both (subst (λ (l : List (List ℕ)). Distinct l) (sym named) once))
      within
      (λ q below.
      let at = place_named columns both (name_at columns q) (subst (λ (l : List (List ℕ)). In (name_at columns q) l) (sym named) (all (name_at columns q) (in_at columns q below))) in
      let same = same_place columns at.0 q distinct (within at.0 at.1) below (sym at.2) in
      subst (λ (p : ℕ). has_place both p ≡ true) same at.1)

pub distinct_left : {X : Type 0} (xs ys : List X) → Distinct (xs ++ ys) → Distinct xs
distinct_left [] ys once = tt
distinct_left (x ∷ xs) ys once = (λ i. once.0 (in_left x xs ys i), distinct_left xs ys once.1)

pub distinct_right : {X : Type 0} (xs ys : List X) → Distinct (xs ++ ys) → Distinct ys
distinct_right [] ys once = once
distinct_right (x ∷ xs) ys once = distinct_right xs ys once.1
