-- The statements of a script.
use Rattle.std.specs.List.{All}
use Rattle.std.proofs.Common.{ℕ, zero, suc, List, [], ◌∷◌, ◌++◌, drop, subst, arith}
use Rattle.expr_lang.specs.Operations.{text_limit}
use Rattle.statements.specs.Views.{StatementView}
use Rattle.statements.specs.Texts.{TextsWithin}
use Rattle.bidel_lex.specs.Tokens.{AreTokens}
use Rattle.bidel_lex.specs.declared.tokens.Token.{Token}
use Rattle.bidel_script.specs.Script.{Leads}
use Rattle.bidel_script.specs.declared.tokens.Tail.{Tail}
use Rattle.bidel_script.proofs.TextLimitsLaws.{texts_within}
use Rattle.bidel_script.proofs.TokenLaws.{all_are_tokens, are_tokens_drop}
use Rattle.ordinary_table.proofs.KeptLaws.{all_behind}
use Rattle.engine_transactions.specs.Act.{act}
use Rattle.engine_transactions.specs.Replies.{next_state, state_after}
use Rattle.script_laws.specs.Scripts.{ScriptsAreOrdinary, ScriptsFit, ScriptsStayKept}
use Rattle.script_laws.specs.Kept.{ScriptsKeep, StatementsKeep}
use Rattle.script_laws.specs.Written.{StatementsAreOrdinary}

abbrev Fits : StatementView → Type 0
Fits statement = TextsWithin text_limit statement

all_cons : {X : Type 0} (P : X → Type 0) (x : X) (xs : List X) → P x → All P xs → All P (x ∷ xs)
all_cons P x xs here there zero d within = here
all_cons P x xs here there (suc k) d within = there k d (omega arith)

leads_fit : (bytes : List ℕ) (tail : Tail) (tokens : List Token) (statements : List StatementView) (used : ℕ) → AreTokens bytes tokens → Leads bytes tail tokens statements used → All Fits statements
leads_fit bytes tail tokens [] used are leads = λ k d lt. absurd (omega (arith, lt))
leads_fit bytes tail tokens (x ∷ xs) used are leads =
    all_cons Fits x xs (texts_within bytes tail tokens x leads.0 leads.3 are leads.4)
    (leads_fit bytes tail (drop leads.0 tokens) xs leads.1 (are_tokens_drop bytes leads.0 tokens are) leads.5)

pub scripts_fit : ScriptsFit
scripts_fit bytes ended statements outcome comes =
    leads_fit bytes comes.tail comes.tokens statements comes.used (all_are_tokens bytes ended comes.tokens comes.tail comes.all) comes.leads

pub scripts_keep : StatementsKeep → ScriptsKeep
unfolding state_after
scripts_keep law s [] texts kept = kept
scripts_keep law s (x ∷ xs) texts kept =
    scripts_keep law (next_state s (act s x)) xs (all_behind Fits x xs texts) (law s x (texts 0 x (omega arith)) kept)

pub scripts_stay_kept : ScriptsKeep → ScriptsStayKept
scripts_stay_kept law from bytes ended statements outcome kept comes = law from statements (scripts_fit bytes ended statements outcome comes) kept

-- what holds of all holds of those before one, and of that one
all_of : (P : StatementView → Type 0) (before : List StatementView) (x : StatementView) (after : List StatementView) → All P (before ++ x ∷ after) → All P before × P x
all_of P [] x after all = ((λ k d lt. absurd (omega (arith, lt))), all 0 x (omega arith))
all_of P (y ∷ before) x after all =
    let rest = all_of P before x after (all_behind P y (before ++ x ∷ after) all) in
    (all_cons P y before (all 0 y (omega arith)) rest.0, rest.1)

pub scripts_ordinary : StatementsAreOrdinary → ScriptsKeep → ScriptsAreOrdinary
scripts_ordinary law keep from bytes ended statements outcome kept comes before after x answer are h =
    let fit : All Fits (before ++ x ∷ after) = subst (All Fits) are (scripts_fit bytes ended statements outcome comes) in
    let both = all_of Fits before x after fit in
    law (state_after from before) x answer both.1 (keep from before both.0 kept) h
