-- SETs that pass the checks of an UPDATE may stand.
use Rattle.std.proofs.Common.{◌≡◌, ℕ, List, [], ◌∷◌, ◌++◌, Option, Some, None, Result, Ok, Err, IfOk, refl, ◌∙◌, ap, subst, arith}
use Rattle.std.specs.List.{All}
use Rattle.expr_lang.specs.Terms.{Term}
use Rattle.expr_lang.specs.Resolved.{place_of, resolved, first_unknown_id}
use Rattle.statements.specs.Views.{Tree, AssignmentView}
use Rattle.op_law.specs.SoundTerms.{TermSound}
use Rattle.op_checks.specs.NameChecks.{known_column, known_columns}
use Rattle.op_any.specs.Texts.{TermFits}
use Rattle.op_any.proofs.SoundTextsLaws.{resolved_sound}
use Rattle.ordinary_table.specs.Written.{SetTerm}
use Rattle.ordinary_table.proofs.KeptLaws.{all_behind}
use Rattle.engine_sessions.specs.Found.{first_of, known_expression, shown_names, unknown_in}
use Rattle.engine_sessions.specs.Statements.{known_set, known_sets, set_values}
use Rattle.engine_sessions.proofs.ChainLaws.{both_give, ok_is}
use Rattle.session_laws.proofs.NewRowLemmas.{all_cons, first_none}

first_of-first : (a b c : Option ℕ) → first_of a (first_of b c) ≡ first_of (first_of a b) c
first_of-first None b c = refl
first_of-first (Some id) b c = refl

-- the expressions of two lists, one after the other
pub unknown_in-append : (next : ℕ) (xs ys : List Tree) → unknown_in next (xs ++ ys) ≡ first_of (unknown_in next xs) (unknown_in next ys)
unfolding unknown_in
unknown_in-append next [] ys = refl
unknown_in-append next (x ∷ xs) ys =
    ap (first_of (first_unknown_id next x)) (unknown_in-append next xs ys) ∙ first_of-first (first_unknown_id next x) (unknown_in next xs) (unknown_in next ys)

at_ok : {X E : Type 0} (P : X → Type 0) (r : Result X E) (x : X) → r ≡ Ok x → IfOk r P → P x
at_ok {X} {E} P r x e all = subst (λ (s : Result X E). IfOk s P) e all

read_ok : (r : Result (Term ℕ) (List ℕ)) (e : Term ℕ) → known_columns r ≡ Ok e → r ≡ Ok e
read_ok (Ok t) e is = ap (λ (x : Term ℕ). Ok x) (ok_is t e is)
read_ok (Err name) e is = absurd (let no : ⊥ = cc in no)

-- an expression may stand where its references are known and its texts fit
expression_sound : (next : ℕ) (columns : List (List ℕ)) (value : Tree) (e : Term ℕ) → known_expression columns value ≡ Ok e → first_unknown_id next value ≡ None → TermFits value → TermSound next e
expression_sound next columns value e is known fits =
    at_ok (TermSound next) (resolved (shown_names columns) value) e (read_ok (resolved (shown_names columns) value) e is) (resolved_sound next (shown_names columns) value known fits)

-- so may each SET
pub sets_sound : (next : ℕ) (columns : List (List ℕ)) (assignments : List AssignmentView) (sets : List SetTerm) → unknown_in next (set_values assignments) ≡ None
    → All (λ (a : AssignmentView). TermFits a.value) assignments → known_sets columns assignments ≡ Ok sets → All (λ (s : SetTerm). TermSound next s.value) sets
unfolding known_sets unknown_in
sets_sound next columns [] sets unknown fits known = subst (λ (l : List SetTerm). All (λ (s : SetTerm). TermSound next s.value) l) (ok_is [] sets known) (λ k d within. absurd (omega (arith, within)))
sets_sound next columns (a ∷ more) sets unknown fits known =
    let both = first_none (first_unknown_id next a.value) (unknown_in next (set_values more)) unknown in
    let c = both_give (known_set columns a) _ sets known in
    let e = both_give (known_sets columns more) _ sets c.2 in
    let f = both_give (known_column a.column (place_of columns a.column)) _ c.0 c.1 in
    let g = both_give (known_expression columns a.value) _ c.0 f.2 in
    let made : record { place = f.0; value = g.0 } ≡ c.0 = ok_is (record { place = f.0; value = g.0 }) c.0 g.2 in
    let here : TermSound next c.0.value = subst (λ (s : SetTerm). TermSound next s.value) made (expression_sound next columns a.value g.0 g.1 both.0 (fits 0 a (omega arith))) in
    let rest = sets_sound next columns more e.0 both.1 (all_behind (λ (x : AssignmentView). TermFits x.value) a more fits) e.1 in
    subst (λ (l : List SetTerm). All (λ (s : SetTerm). TermSound next s.value) l) (ok_is (c.0 ∷ e.0) sets e.2) (all_cons (λ (s : SetTerm). TermSound next s.value) c.0 e.0 here rest)
