-- What known expressions, conditions and SETs read, and that they may stand.
use Rattle.std.proofs.Common.{◌≡◌, ℕ, zero, suc, ◌+◌, ◌<◌, List, [], ◌∷◌, true, Option, Some, None, Result, Ok, Err, IfOk, length, refl, sym, ◌∙◌, ap, subst, arith}
use Rattle.std.specs.List.{All}
use Rattle.std.specs.Option.{option_copied}
use Rattle.std.specs.Borrow.{Bor}
use Rattle.std.specs.Str.{bytes_eq}
use Rattle.std.proofs.lemmas.List.Quantifiers.{position-Some}
use Rattle.expr_lang.specs.declared.tree.Expr.{Expr}
use Rattle.expr_lang.specs.Terms.{Term}
use Rattle.expr_lang.specs.Val.{fits_row}
use Rattle.expr_lang.specs.Resolved.{place_of, resolved, first_unknown_id}
use Rattle.expr_lang.proofs.ResolvingLaws.{resolved-fits}
use Rattle.statements.specs.Views.{Tree, AssignmentView}
use Rattle.op_law.specs.SoundTerms.{TermSound}
use Rattle.par_base.specs.Checked.{Checked, ◌then◌}
use Rattle.op_checks.specs.NameChecks.{known_column, known_columns}
use Rattle.op_any.specs.Texts.{TermFits}
use Rattle.op_any.proofs.SoundTextsLaws.{resolved_sound}
use Rattle.ordinary_table.specs.Shown.{condition_of}
use Rattle.ordinary_table.specs.Written.{SetTerm}
use Rattle.ordinary_table.specs.Fits.{condition_fits, SetFits}
use Rattle.ordinary_table.proofs.KeptLaws.{all_behind}
use Rattle.engine_statements.specs.Found.{shown_names, known_expression, known_condition, some_term, unknown_in}
use Rattle.engine_statements.specs.Statements.{known_set, known_sets, set_values}
use Rattle.engine_statements.specs.Calls.{condition_term, AssignmentFits}
use Rattle.engine_statements.proofs.IdLemmas.{first_none}

pub all_cons : {X : Type 0} (P : X → Type 0) (x : X) (xs : List X) → P x → All P xs → All P (x ∷ xs)
all_cons P x xs here there zero d within = here
all_cons P x xs here there (suc k) d within = there k d (omega arith)

pub ok_same : {X E : Type 0} (x y : X) → ◌≡◌ {A = Result X E} (Ok x) (Ok y) → x ≡ y
ok_same x y e = cc

at_ok : {X E : Type 0} (P : X → Type 0) (r : Result X E) (x : X) → r ≡ Ok x → IfOk r P → P x
at_ok {X} {E} P r x e all = subst (λ (s : Result X E). IfOk s P) e all

-- ---- expressions

read_ok : (r : Result (Term ℕ) (List ℕ)) (e : Term ℕ) → known_columns r ≡ Ok e → r ≡ Ok e
read_ok (Ok t) e is = ap (λ (x : Term ℕ). Ok x) (ok_same t e is)
read_ok (Err name) e is = absurd (cc)

-- it reads what a row shows
pub expression_reads : (columns : List (List ℕ)) (value : Tree) (e : Term ℕ) → known_expression columns value ≡ Ok e → fits_row e (length columns + 1) ≡ true
expression_reads columns value e is =
    let long : length (shown_names columns) ≡ length columns + 1 = omega arith in
    subst (λ (n : ℕ). fits_row e n ≡ true) long
    (at_ok (λ (t : Term ℕ). fits_row t (length (shown_names columns)) ≡ true) (resolved (shown_names columns) value) e (read_ok (resolved (shown_names columns) value) e is) (resolved-fits (shown_names columns) value))

-- it may stand where its references are known and its texts fit
expression_sound : (next : ℕ) (columns : List (List ℕ)) (value : Tree) (e : Term ℕ) → known_expression columns value ≡ Ok e → first_unknown_id next value ≡ None → TermFits value → TermSound next e
expression_sound next columns value e is known fits =
    at_ok (TermSound next) (resolved (shown_names columns) value) e (read_ok (resolved (shown_names columns) value) e is) (resolved_sound next (shown_names columns) value known fits)

some_reads : (columns : List (List ℕ)) (value : Tree) (r : Checked (Term ℕ)) (c : Option (Term ℕ)) → known_expression columns value ≡ r → some_term r ≡ Ok c → condition_fits c (length columns + 1) ≡ true
some_reads columns value (Ok e) c is known =
    subst (λ (o : Option (Term ℕ)). condition_fits o (length columns + 1) ≡ true) (ok_same (Some e) c known) (expression_reads columns value e is)
some_reads columns value (Err refusal) c is known = absurd (cc)

-- a condition reads what a row shows
pub condition_reads : (columns : List (List ℕ)) (filter : Option Tree) (c : Option (Term ℕ)) → known_condition columns filter ≡ Ok c → condition_fits c (length columns + 1) ≡ true
condition_reads columns None c known = subst (λ (o : Option (Term ℕ)). condition_fits o (length columns + 1) ≡ true) (ok_same None c known) refl
condition_reads columns (Some value) c known = some_reads columns value (known_expression columns value) c refl known

pub lent_term : (o : Option (Bor Expr)) → condition_of o ≡ condition_term (option_copied o)
lent_term None = refl
lent_term (Some e) = refl

-- a lent condition reads the same
pub lent_reads : (columns : List (List ℕ)) (filter : Option Tree) (o : Option (Bor Expr)) (c : Option Expr) → option_copied o ≡ c → known_condition columns filter ≡ Ok (condition_term c)
    → condition_fits (condition_of o) (length columns + 1) ≡ true
lent_reads columns filter o c lent known =
    subst (λ (t : Option (Term ℕ)). condition_fits t (length columns + 1) ≡ true) (sym (lent_term o ∙ ap condition_term lent)) (condition_reads columns filter (condition_term c) known)

-- ---- SETs

-- what a SET was read from
record IsRead (columns : List (List ℕ)) (a : AssignmentView) (s : SetTerm) : Type 0 where
  pub within : s.place < length columns
  pub value : known_expression columns a.value ≡ Ok s.value

value_read : (columns : List (List ℕ)) (a : AssignmentView) (s : SetTerm) (place : ℕ) (r : Checked (Term ℕ)) → place < length columns → known_expression columns a.value ≡ r
    → (r then λ value. Ok (record { place = place; value = value })) ≡ Ok s → IsRead columns a s
value_read columns a s place (Ok e) within is set =
    let same : record { place = place; value = e } ≡ s = ok_same (record { place = place; value = e }) s set in
    record { within = subst (λ (t : SetTerm). t.place < length columns) same within; value = is ∙ ap (λ (t : SetTerm). Ok t.value) same }
value_read columns a s place (Err refusal) within is set = absurd (cc)

pub place_within : (columns : List (List ℕ)) (name : List ℕ) (place : ℕ) → place_of columns name ≡ Some place → place < length columns
unfolding place_of
place_within columns name place found = (position-Some (bytes_eq name) columns place [] found).0

set_read : (columns : List (List ℕ)) (a : AssignmentView) (s : SetTerm) (o : Option ℕ) → place_of columns a.column ≡ o
    → (known_column a.column o then λ place. known_expression columns a.value then λ value. Ok (record { place = place; value = value })) ≡ Ok s → IsRead columns a s
set_read columns a s None is set = absurd (cc)
set_read columns a s (Some place) is set = value_read columns a s place (known_expression columns a.value) (place_within columns a.column place is) refl set

-- the first SET and the others
sets_split : (columns : List (List ℕ)) (a : AssignmentView) (more : List AssignmentView) (sets : List SetTerm) (r : Checked SetTerm) (t : Checked (List SetTerm)) → known_set columns a ≡ r → known_sets columns more ≡ t
    → (r then λ set. t then λ others. Ok (set ∷ others)) ≡ Ok sets
    → (s : SetTerm) × (others : List SetTerm) × (known_set columns a ≡ Ok s) × (known_sets columns more ≡ Ok others) × (s ∷ others ≡ sets)
sets_split columns a more sets (Ok s) (Ok others) is are all = (s, others, is, are, ok_same (s ∷ others) sets all)
sets_split columns a more sets (Ok s) (Err refusal) is are all = absurd (cc)
sets_split columns a more sets (Err refusal) t is are all = absurd (cc)

-- what follows of each SET's text holds of each SET
sets_all : (P : SetTerm → Type 0) (Q : AssignmentView → Type 0) (columns : List (List ℕ)) (assignments : List AssignmentView) (sets : List SetTerm)
    → ((a : AssignmentView) (s : SetTerm) → IsRead columns a s → Q a → P s) → All Q assignments → known_sets columns assignments ≡ Ok sets → All P sets
unfolding known_sets
sets_all P Q columns [] sets one all known = subst (λ (l : List SetTerm). All P l) (ok_same [] sets known) (λ k d within. absurd (omega (arith, within)))
sets_all P Q columns (a ∷ more) sets one all known =
    let parts = sets_split columns a more sets (known_set columns a) (known_sets columns more) refl refl known in
    let s = parts.0 in
    let others = parts.1 in
    let here : P s = one a s (set_read columns a s (place_of columns a.column) refl parts.2) (all 0 a (omega arith)) in
    subst (λ (l : List SetTerm). All P l) parts.4 (all_cons P s others here (sets_all P Q columns more others one (all_behind Q a more all) parts.3))

-- each SET has a column, and reads what a row shows
pub sets_fit : (columns : List (List ℕ)) (assignments : List AssignmentView) (sets : List SetTerm) → known_sets columns assignments ≡ Ok sets → All (SetFits (length columns)) sets
sets_fit columns assignments sets known =
    sets_all (SetFits (length columns)) (λ a. Unit {0}) columns assignments sets
    (λ a s read u. record { column = read.within; reads = expression_reads columns a.value s.value read.value }) (λ k d within. tt) known

-- a SET's references are known, and its texts fit
abbrev MayStand : ℕ → AssignmentView → Type 0
MayStand next a = (first_unknown_id next a.value ≡ None) × TermFits a.value

all_may_stand : (next : ℕ) (assignments : List AssignmentView) → unknown_in next (set_values assignments) ≡ None → All AssignmentFits assignments → All (MayStand next) assignments
unfolding unknown_in
all_may_stand next [] known fits = λ k d within. absurd (omega (arith, within))
all_may_stand next (a ∷ more) known fits =
    let both = first_none (first_unknown_id next a.value) (unknown_in next (set_values more)) known in
    let here : MayStand next a = (both.0, fits 0 a (omega arith)) in
    all_cons (MayStand next) a more here (all_may_stand next more both.1 (all_behind AssignmentFits a more fits))

-- each SET may stand
pub sets_sound : (next : ℕ) (columns : List (List ℕ)) (assignments : List AssignmentView) (sets : List SetTerm) → unknown_in next (set_values assignments) ≡ None → All AssignmentFits assignments
    → known_sets columns assignments ≡ Ok sets → All (λ s. TermSound next s.value) sets
sets_sound next columns assignments sets unknown fits known =
    sets_all (λ s. TermSound next s.value) (MayStand next) columns assignments sets
    (λ a s read may. expression_sound next columns a.value s.value read.value may.0 may.1) (all_may_stand next assignments unknown fits) known
