-- Statements and scripts, by the laws of fronts.
use Rattle.std.proofs.Common.{◌≡◌, ◌++◌, ◌∷◌, [], ◌+◌, ◌<◌, ℕ, List, Bool, true, false, refl, sym, subst, append-nil, arith, length, take}
use Rattle.std.specs.Prelude.{Some, codes}
use Rattle.phrases.specs.Phrases.{Begins}
use Rattle.phrases.specs.Fronts.{ShowsEnd}
use Rattle.phrases.proofs.FrontsLaws as fronts
use Rattle.phrases.proofs.LookaheadLaws.{stays_shown, front_shown}
use Rattle.bidel_expr.specs.Lexemes.{Lexeme, word}
use Rattle.bidel_parser.specs.declared.first_words.OperatorWord.{OperatorWord}
use Rattle.bidel_parser.specs.declared.first_words.StatementWord.{StatementWord}
use Rattle.bidel_parser.specs.declared.first_words.StatementWord.TheVariants as first
use Rattle.bidel_parser.specs.Words.{choice_of}
use Rattle.statements.specs.Views.{StatementView, CreateVersion, DropVersion, Insert, Import, Update, Delete, Select, Materialize, Step, ShowLayout, Use, Session, Advise, Watch, Unwatch, Begin, Commit, Rollback}
use Rattle.bidel_parser.specs.Operators.{shared_words, begins_operator}
use Rattle.bidel_parser.specs.Statements.{statement_words, StatementRest, IsStatement, Script, stays_open}
use Rattle.bidel_parser.specs.inner.StatementReaders.{statement_at}
use Rattle.bidel_parser.specs.Laws.{OneFront, FrontStays, FrontLeads, FrontPrecedes, NoScript, EmptyScript, FaultStays, FaultFollows}
use Rattle.bidel_parser.proofs.ChoiceLaws.{◌&◌, by_choice, chosen_of, begins_behind}
use Rattle.bidel_parser.proofs.OperatorListLaws.{lone, shared, both}
use Rattle.bidel_parser.proofs.StatementLaws.{rest-last, statement-last, script_over, statement_long}

-- what shows the end still does as tokens come
shown : (ended : Bool) (s : StatementView) (us more : List Lexeme) → stays_open s false us ≡ false → stays_open s ended (us ++ more) ≡ false
shown ended (CreateVersion name origin operators) us more h = stays_shown lone shared both ended us more h
shown ended (DropVersion name) us more h = refl
shown ended (Insert table rows) us more h = refl
shown ended (Import table bytes) us more h = refl
shown ended (Update table assignments filter) us more h = refl
shown ended (Delete table filter) us more h = refl
shown ended (Select table items filter csv) us more h = refl
shown ended (Materialize named in_steps) us more h = refl
shown ended Step us more h = refl
shown ended ShowLayout us more h = refl
shown ended (Use name) us more h = refl
shown ended (Session number) us more h = refl
shown ended (Advise name) us more h = refl
shown ended (Watch name) us more h = refl
shown ended (Unwatch number) us more h = refl
shown ended Begin us more h = refl
shown ended Commit us more h = refl
shown ended Rollback us more h = refl

-- a script begins with each word that begins operators too
begins_script : (t : Lexeme) (k : OperatorWord) → choice_of shared_words t ≡ Some k → Begins Script (t ∷ [])
begins_script = by_choice (λ t _. Begins Script (t ∷ [])) shared_words (with_word (word (codes "create")) first.Create refl & with_word (word (codes "drop")) first.Drop refl & tt)
  where
    with_word : (t : Lexeme) (k : StatementWord) → choice_of statement_words t ≡ Some k → Begins Script (t ∷ [])
    with_word t k h =
        let b = begins_behind (choice_of statement_words) StatementRest t k [] h (rest-last k).some in
        record {
          more = b.more;
          value = b.value ∷ [];
          spelled = (t ∷ b.more, [], sym (append-nil (t ∷ b.more)), b.spelled, refl);
        }

-- the tokens up to one with which no script begins show where operators end
operators_end : (ts more : List Lexeme) (at : ℕ) → at < length ts → begins_operator true ts ≡ false → (Begins Script (take (at + 1) ts) → ⊥) → begins_operator true (take (at + 1) ts ++ more) ≡ false
operators_end ts more at lt h none =
    front_shown lone shared both ts more (at + 1) (omega arith) (omega (arith, lt)) h (λ t e. alone t e (shared t) refl)
  where
    alone : (t : Lexeme) → take (at + 1) ts ≡ t ∷ [] → (b : Bool) → shared t ≡ b → b ≡ false
    alone t e true k = let c = chosen_of (choice_of shared_words t) k in absurd (none (subst (Begins Script) (sym e) (begins_script t c.0 c.1)))
    alone t e false k = refl

shows_end : ShowsEnd stays_open IsStatement
shows_end (CreateVersion name origin operators) ts more at lt h none = operators_end ts more at lt h none
shows_end (DropVersion name) ts more at lt h none = refl
shows_end (Insert table rows) ts more at lt h none = refl
shows_end (Import table bytes) ts more at lt h none = refl
shows_end (Update table assignments filter) ts more at lt h none = refl
shows_end (Delete table filter) ts more at lt h none = refl
shows_end (Select table items filter csv) ts more at lt h none = refl
shows_end (Materialize named in_steps) ts more at lt h none = refl
shows_end Step ts more at lt h none = refl
shows_end ShowLayout ts more at lt h none = refl
shows_end (Use name) ts more at lt h none = refl
shows_end (Session number) ts more at lt h none = refl
shows_end (Advise name) ts more at lt h none = refl
shows_end (Watch name) ts more at lt h none = refl
shows_end (Unwatch number) ts more at lt h none = refl
shows_end Begin ts more at lt h none = refl
shows_end Commit ts more at lt h none = refl
shows_end Rollback ts more at lt h none = refl

pub one_front : OneFront
one_front = fronts.one_front stays_open IsStatement statement_at statement-last

pub front_stays : FrontStays
front_stays = fronts.front_stays stays_open IsStatement shown

pub front_leads : FrontLeads
front_leads = fronts.script_front stays_open IsStatement statement_at statement-last script_over statement_long

pub front_precedes : FrontPrecedes
front_precedes = fronts.front_script stays_open IsStatement

pub no_script : NoScript
no_script = fronts.script_none stays_open IsStatement statement_at statement-last script_over

pub empty_script : EmptyScript
empty_script = (refl, fronts.empty_script IsStatement statement_long)

pub fault_stays : FaultStays
fault_stays = fronts.fault_stays IsStatement

pub fault_follows : FaultFollows
fault_follows = fronts.fault_follows stays_open IsStatement statement_at statement-last script_over statement_long shows_end
