-- What the checks of an operator say, and what is to be shown of a built edge.
use Rattle.std.proofs.Common.{◌≡◌, ℕ, suc, ◌<◌, ◌≤◌, List, [], ◌∷◌, ◌++◌, length, map, Bool, true, false, cond, Option, Some, None, Result, Ok, Err, IfOk, inl, inr, refl, sym, ◌∙◌, ap, subst, arith}
use Rattle.std.specs.Prelude.{◌↔◌, nat_lt}
use Rattle.std.specs.List.{remove}
use Rattle.std.specs.Str.{bytes_eq}
use Rattle.std.specs.Cmp.Lexicographic.{pointwise, pointwise_decides, bytes_decides}
use Rattle.std.proofs.lemmas.Bool.{false≢true, ltb-false}
use Rattle.std.proofs.lemmas.List.Edits.{length-remove}
use Rattle.std.proofs.lemmas.List.Quantifiers.{position-Some}
use Rattle.par_base.specs.declared.refusal.Refusal.TheVariants.{TooManyColumns, ColumnsDiffer}
use Rattle.expr_lang.specs.Terms.{Term}
use Rattle.expr_lang.specs.Val.{fits_row}
use Rattle.expr_lang.specs.Resolved.{place_of, resolved, first_unknown_id}
use Rattle.expr_lang.proofs.ResolvingLaws.{resolved-fits}
use Rattle.statements.specs.Views.{Tree, OpView}
use Rattle.version_graph.specs.Sets.{In, Distinct, Each}
use Rattle.version_graph.specs.Tables.{IsHeading, FitsSet, row_name, heading_names, headings_passing}
use Rattle.version_graph.specs.declared.parts.Heading.{Heading}
use Rattle.version_graph.specs.declared.parts.Edge.{Edge}
use Rattle.version_graph.proofs.SetLaws.{each_at}
use Rattle.version_graph.proofs.NameLaws.{name_is}
use Rattle.op_law.specs.SoundTerms.{TermSound}
use Rattle.par_base.specs.Checked.{Checked, ◌then◌}
use Rattle.op_kinds.specs.Operators.{Built, meaning_of}
use Rattle.op_checks.specs.NameChecks.{heading_named, known_table, other_table, new_table, known_column, known_columns, unrepeated, new_columns, same_columns, few_columns, known_id}
use Rattle.op_any.specs.Texts.{TermFits, TextsFit}
use Rattle.op_build.specs.Laws.{as_seen, headings_taken, is_create_table, is_local_form}
use Rattle.op_build.proofs.NameLists.{distinct_remove, unrepeated_distinct}
use Rattle.op_build.proofs.TableListsLaws.{found_stands}
use Rattle.op_any.proofs.SoundTextsLaws.{resolved_sound}

-- ---- what the checks say

-- what follows a check needs to be shown only where the check gives something
pub if_then : {A B : Type 0} (P : B → Type 0) (c : Checked A) (f : A → Checked B) → ((x : A) → c ≡ Ok x → IfOk (f x) P) → IfOk (c then f) P
if_then P (Ok x) f h = h x refl
if_then P (Err r) f h = tt

-- what is shown of all answers is so of one
pub at_ok : {A E : Type 0} (P : A → Type 0) (c : Result A E) (x : A) → c ≡ Ok x → IfOk c P → P x
at_ok {A} {E} P c x e h = subst (λ (r : Result A E). IfOk r P) e h

pub table_is : (name : List ℕ) (o : Option Heading) (h : Heading) → known_table name o ≡ Ok h → o ≡ Some h
table_is name (Some k) h e = let same : k ≡ h = cc in ap (λ (x : Heading). Some x) same
table_is name None h e = absurd (cc)

pub is_new : (name : List ℕ) (b : Bool) (u : Unit {0}) → new_table name b ≡ Ok u → b ≡ false
is_new name true u e = absurd (cc)
is_new name false u e = refl

is_other : (name : List ℕ) (b : Bool) (u : Unit {0}) → other_table name b ≡ Ok u → b ≡ false
is_other name true u e = absurd (cc)
is_other name false u e = refl

-- names that a test tells apart differ
pub names_differ : (first second : List ℕ) → bytes_eq second first ≡ false → first ≡ second → ⊥
names_differ first second e same = false≢true (sym e ∙ name_is second first (sym same))

pub sources_differ : (first second : List ℕ) (u : Unit {0}) → other_table second (bytes_eq second first) ≡ Ok u → first ≡ second → ⊥
sources_differ first second u e = names_differ first second (is_other second _ u e)

pub column_is : (name : List ℕ) (o : Option ℕ) (place : ℕ) → known_column name o ≡ Ok place → o ≡ Some place
column_is name (Some n) place e = let same : n ≡ place = cc in ap (λ (m : ℕ). Some m) same
column_is name None place e = absurd (cc)

pub expression_is : (r : Result (Term ℕ) (List ℕ)) (e : Term ℕ) → known_columns r ≡ Ok e → r ≡ Ok e
expression_is (Ok x) e h = let same : x ≡ e = cc in ap (λ (t : Term ℕ). Ok t) same
expression_is (Err name) e h = absurd (cc)

pub are_once : (o : Option (List ℕ)) (u : Unit {0}) → unrepeated o ≡ Ok u → o ≡ None
are_once (Some name) u e = absurd (cc)
are_once None u e = refl

few_test : (table : List ℕ) (b : Bool) (u : Unit {0}) → ◌≡◌ {A = Checked (Unit {0})} (cond b (Err (TooManyColumns table 64)) (Ok tt)) (Ok u) → b ≡ false
few_test table true u e = absurd (cc)
few_test table false u e = refl

same_test : (first second : List ℕ) (b : Bool) (u : Unit {0}) → ◌≡◌ {A = Checked (Unit {0})} (cond b (Ok tt) (Err (ColumnsDiffer first second))) (Ok u) → b ≡ true
same_test first second true u e = refl
same_test first second false u e = absurd (cc)

pub are_same : (first second : Heading) (u : Unit {0}) → same_columns first second ≡ Ok u → first.columns ≡ second.columns
are_same first second u e =
    (pointwise_decides bytes_decides first.columns second.columns).0 (same_test first.name second.name (pointwise bytes_eq first.columns second.columns) u e)

pub are_few : (table : List ℕ) (columns : List (List ℕ)) (u : Unit {0}) → few_columns table columns ≡ Ok u → length columns ≤ 64
are_few table columns u e = omega (arith, ltb-false 64 (length columns) (few_test table (nat_lt 64 (length columns)) u e))

pub ids_known : (next : ℕ) (o : Option ℕ) (u : Unit {0}) → known_id next o ≡ Ok u → o ≡ None
ids_known next (Some id) u e = absurd (cc)
ids_known next None u e = refl

-- ---- columns

-- the new columns and the ones that are there are distinct, and none is `p`
pub new_once : (there new : List (List ℕ)) (u : Unit {0}) → new_columns there new ≡ Ok u → Distinct (row_name ∷ there) → Distinct (row_name ∷ (there ++ new))
new_once there new u e once = unrepeated_distinct (row_name ∷ there) new (are_once _ u e) once

pub place_within : (columns : List (List ℕ)) (name : List ℕ) (place : ℕ) → place_of columns name ≡ Some place → place < length columns
unfolding place_of
place_within columns name place found = (position-Some (bytes_eq name) columns place [] found).0

pub heading_at : (set : List Heading) (name : List ℕ) (h : Heading) → Each IsHeading set → heading_named set name ≡ Some h → IsHeading h
heading_at set name h tables found = each_at IsHeading set h (found_stands set name h found).there tables

pub without_column : (h : Heading) (place : ℕ) → place < length h.columns → IsHeading h → (name : List ℕ) → IsHeading (record { name = name; columns = remove h.columns place })
without_column h place within is name = record {
  once = distinct_remove (row_name ∷ h.columns) (suc place) is.once;
  few = let shorter = length-remove h.columns place within in omega (arith, shorter, is.few);
}

-- ---- expressions

-- an expression over columns fits rows with a value for each
pub reads_columns : (e : Term ℕ) (columns : List (List ℕ)) (t : Tree) → resolved columns t ≡ Ok e → fits_row e (length columns) ≡ true
reads_columns e columns t read = at_ok (λ x. fits_row x (length columns) ≡ true) (resolved columns t) e read (resolved-fits columns t)

pub is_closed : (next : ℕ) (e : Term ℕ) (columns : List (List ℕ)) (t : Tree) → resolved columns t ≡ Ok e → first_unknown_id next t ≡ None → TermFits t → TermSound next e
is_closed next e columns t read known fits = at_ok (TermSound next) (resolved columns t) e read (resolved_sound next columns t known fits)

-- ---- edges

-- what is true of an edge that is built from this text
pub record Suits (set : List Heading) (next : ℕ) (text : OpView) (e : Edge Built) : Type 0 where
  pub set_fits : Each IsHeading set → FitsSet set e
  pub fits : Each IsHeading set → (meaning_of e.operator).Fits (map as_seen (headings_taken set e.sources)) (map as_seen e.targets)
  pub closed : TextsFit text → (meaning_of e.operator).Closed next
  pub few : (length e.sources ≤ 2) × (length e.targets ≤ 2)
  pub sources : (e.sources ≡ []) ↔ (is_create_table text ≡ true)
  pub local : (meaning_of e.operator).is_local ≡ is_local_form text

-- an edge from one table to another name
pub one_fits : (set : List Heading) (operator : Built) (source : List ℕ) (target : Heading) → In source (heading_names set) → (In target.name (heading_names (headings_passing set (source ∷ []))) → ⊥) → IsHeading target
    → FitsSet set (record { operator = operator; sources = source ∷ []; targets = target ∷ [] })
one_fits set operator source target known new heading = record {
  known = (known, tt);
  sources_once = ((λ i. i), tt);
  targets_new = λ name i j. elim i [ inl same ↦ new (subst (λ (n : List ℕ). In n (heading_names (headings_passing set (source ∷ [])))) same j) | inr none ↦ none ];
  targets_once = ((λ i. i), tt);
  columns = (heading, tt);
}

-- an edge from one table to two other names
pub two_targets_fit : (set : List Heading) (operator : Built) (source : List ℕ) (first second : Heading) → In source (heading_names set)
    → (In first.name (heading_names (headings_passing set (source ∷ []))) → ⊥) → (In second.name (heading_names (headings_passing set (source ∷ []))) → ⊥)
    → (first.name ≡ second.name → ⊥) → IsHeading first → IsHeading second
    → FitsSet set (record { operator = operator; sources = source ∷ []; targets = first ∷ second ∷ [] })
two_targets_fit set operator source first second known new_first new_second differ heading_first heading_second =
    let passing = heading_names (headings_passing set (source ∷ [])) in
    record {
      known = (known, tt);
      sources_once = ((λ i. i), tt);
      targets_new = λ name i j. elim i [
        | inl same ↦ new_first (subst (λ (n : List ℕ). In n passing) same j)
        | inr rest ↦ elim rest [ inl same ↦ new_second (subst (λ (n : List ℕ). In n passing) same j) | inr none ↦ none ]
      ];
      targets_once = (λ i. elim i [ inl same ↦ differ same | inr none ↦ none ], ((λ i. i), tt));
      columns = (heading_first, (heading_second, tt));
    }

-- an edge from two tables to another name
pub two_sources_fit : (set : List Heading) (operator : Built) (first second : List ℕ) (target : Heading) → In first (heading_names set) → In second (heading_names set)
    → (first ≡ second → ⊥) → (In target.name (heading_names (headings_passing set (first ∷ second ∷ []))) → ⊥) → IsHeading target
    → FitsSet set (record { operator = operator; sources = first ∷ second ∷ []; targets = target ∷ [] })
two_sources_fit set operator first second target known_first known_second differ new heading =
    let passing = heading_names (headings_passing set (first ∷ second ∷ [])) in
    record {
      known = (known_first, (known_second, tt));
      sources_once = (λ i. elim i [ inl same ↦ differ same | inr none ↦ none ], ((λ i. i), tt));
      targets_new = λ name i j. elim i [ inl same ↦ new (subst (λ (n : List ℕ). In n passing) same j) | inr none ↦ none ];
      targets_once = ((λ i. i), tt);
      columns = (heading, tt);
    }

-- the only source, where it was found
pub one_taken : (set : List Heading) (name : List ℕ) (h : Heading) → heading_named set name ≡ Some h → headings_taken set (name ∷ []) ≡ h ∷ []
one_taken set name h found = rw found refl

-- both sources, where they were found
pub two_taken : (set : List Heading) (first second : List ℕ) (h k : Heading) → heading_named set first ≡ Some h → heading_named set second ≡ Some k → headings_taken set (first ∷ second ∷ []) ≡ h ∷ k ∷ []
two_taken set first second h k found other = rw (found, other) refl
