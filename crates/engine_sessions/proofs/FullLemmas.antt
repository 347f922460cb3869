-- Statements in full.
use Rattle.std.specs.Prelude.{IfOk, Option}
use Rattle.std.proofs.Common.{◌≡◌, ℕ, List, ◌++◌, Result, Ok, Err, refl, ap, sym, subst, ◌∙◌}
use Rattle.expr_lang.specs.Operations.{text_limit}
use Rattle.statements.specs.declared.statement.Statement.{Statement}
use Rattle.statements.specs.declared.statement.Statement.TheVariants as statement
use Rattle.statements.specs.Texts.{TextsWithin}
use Rattle.statements.specs.Views.{statement_view, OpView, StatementView, CreateVersion, DropVersion, Insert, Import, Update, Delete, Select, Materialize, Step, ShowLayout, Use, Session, Advise, Watch, Unwatch, Begin, Commit, Rollback}
use Rattle.version_graph.specs.Sets.{Within}
use Rattle.version_graph.specs.declared.parts.Placed.{Placed}
use Rattle.version_graph.proofs.SetLaws.{in_right}
use Rattle.op_any.specs.Operators.{AnyView}
use Rattle.engine_moves.specs.KeptTexts.{texts_of}
use Rattle.engine_moves.specs.Spoken.{TextsCome, operators_in}
use Rattle.engine_sessions.specs.Standing.{Standing, used_by}
use Rattle.engine_sessions.specs.InFull.{in_full, wants_csv}
use Rattle.engine_sessions.specs.Act.{act, counted}
use Rattle.engine_sessions.proofs.TextLaws.{import_texts}

-- statements that the engine carries out
pub act_counted : (s : Standing) (st : Statement)
    → ((a : List ℕ) → st ≡ statement.Use a → ⊥) → ((a : ℕ) → st ≡ statement.Session a → ⊥) → ((a : List ℕ) → st ≡ statement.Advise a → ⊥)
    → act s (statement_view st) ≡ counted s (wants_csv (statement_view st)) (in_full (used_by s.uses s.session) (statement_view st))
act_counted s (statement.CreateVersion name origin operators) u n a = refl
act_counted s (statement.DropVersion name) u n a = refl
act_counted s (statement.Insert table rows) u n a = refl
act_counted s (statement.Import table text) u n a = refl
act_counted s (statement.Update table assignments filter) u n a = refl
act_counted s (statement.Delete table filter) u n a = refl
act_counted s (statement.Select table items filter csv) u n a = refl
act_counted s (statement.Materialize named in_steps) u n a = refl
act_counted s statement.Step u n a = refl
act_counted s statement.ShowLayout u n a = refl
act_counted s (statement.Use name) u n a = absurd (u name refl)
act_counted s (statement.Session number) u n a = absurd (n number refl)
act_counted s (statement.Advise name) u n a = absurd (a name refl)
act_counted s (statement.Watch name) u n a = refl
act_counted s (statement.Unwatch number) u n a = refl
act_counted s statement.Begin u n a = refl
act_counted s statement.Commit u n a = refl
act_counted s statement.Rollback u n a = refl

-- a statement in full has no longer texts
pub full_texts : (used : Option (List ℕ)) (x : StatementView) → TextsWithin text_limit x → TextsWithin text_limit (in_full used x)
full_texts used (CreateVersion name from operators) is = is
full_texts used (DropVersion name) is = is
full_texts used (Insert name rows) is = is
full_texts used (Import name text) is = import_texts text is
full_texts used (Update name assignments filter) is = is
full_texts used (Delete name filter) is = is
full_texts used (Select name items filter csv) is = is
full_texts used (Materialize named in_steps) is = is
full_texts used Step is = is
full_texts used ShowLayout is = is
full_texts used (Use name) is = is
full_texts used (Session number) is = is
full_texts used (Advise name) is = is
full_texts used (Watch name) is = is
full_texts used (Unwatch number) is = is
full_texts used Begin is = is
full_texts used Commit is = is
full_texts used Rollback is = is

-- whatever a call makes of it in full
pub full_within : {E : Type 0} (r : Result Statement E) (used : Option (List ℕ)) (x : StatementView) → TextsWithin text_limit x → IfOk r (λ made. statement_view made ≡ in_full used x) → IfOk r (λ made. TextsWithin text_limit (statement_view made))
full_within (Ok made) used x is full = subst (λ (y : StatementView). TextsWithin text_limit y) (sym full) (full_texts used x is)
full_within (Err e) used x is full = tt

-- it tells the same operators
pub full_operators : (used : Option (List ℕ)) (x : StatementView) → operators_in (in_full used x) ≡ operators_in x
full_operators used (CreateVersion name from operators) = refl
full_operators used (DropVersion name) = refl
full_operators used (Insert name rows) = refl
full_operators used (Import name text) = refl
full_operators used (Update name assignments filter) = refl
full_operators used (Delete name filter) = refl
full_operators used (Select name items filter csv) = refl
full_operators used (Materialize named in_steps) = refl
full_operators used Step = refl
full_operators used ShowLayout = refl
full_operators used (Use name) = refl
full_operators used (Session number) = refl
full_operators used (Advise name) = refl
full_operators used (Watch name) = refl
full_operators used (Unwatch number) = refl
full_operators used Begin = refl
full_operators used Commit = refl
full_operators used Rollback = refl

-- what stays behind a statement that changes nothing
pub stay_within : (x : StatementView) (es : List (Placed AnyView)) → TextsCome x es es
stay_within x es o i = in_right o (operators_in x) (texts_of es) i

-- the operators behind a statement in full come from the statement
pub full_come : (used : Option (List ℕ)) (x full : StatementView) (old new : List (Placed AnyView)) → full ≡ in_full used x → TextsCome full old new → TextsCome x old new
full_come used x full old new is come = subst (λ (os : List OpView). Within (texts_of new) (os ++ texts_of old)) (ap operators_in is ∙ full_operators used x) come

-- ---- answers
