-- Scripts with watches are as those without, beside them.
use Rattle.std.specs.Prelude.{Ok}
use Rattle.std.proofs.Common.{◌≡◌, refl, sym, ◌∙◌, subst}
use Rattle.statements.specs.Views.{StatementView, CreateVersion, DropVersion, Insert, Import, Update, Delete, Select, Materialize, Step, ShowLayout, Use, Session, Advise, Watch, Unwatch, Begin, Commit, Rollback}
use Rattle.engine_feeds.specs.TransactionsAct.{act as act_unwatched}
use Rattle.engine_feeds.specs.Answer.{Answer}
use Rattle.engine_feeds.specs.Begun.{DifferInSessions}
use Rattle.engine_feeds.specs.TransactionsStanding.{Standing as TransactionsStanding}
use Rattle.script_laws.specs.Kept.{IsKeptAt}
use Rattle.script_laws.specs.Said.{SaidNeedNoSession as SaidNeedNone}
use Rattle.script_laws.specs.Scripts.{ScriptsAreOrdinary as WritesAreOrdinary, ScriptsStayKept as StaysKept}
use Rattle.script_laws.specs.Written.{IsOrdinary}
use Rattle.engine_feeds.specs.Act.{act}
use Rattle.engine_feeds.specs.Replies.{state_after}
use Rattle.engine_feeds.specs.Standing.{Standing}
use Rattle.watch_laws.specs.Beside.{StandsBeside, UnwatchedAreAnswered}
use Rattle.watch_laws.specs.Said.{SaidNeedNoSession, again_with}
use Rattle.watch_laws.specs.Scripts.{ScriptsAreOrdinary, ScriptsStayKept}
use Rattle.watch_laws.proofs.BesideLaws.{answer_beside}

-- ---- scripts that need no session

-- what differs in sessions does so where the standings are others of the same
differ_so : {a b c d : TransactionsStanding} → a ≡ c → b ≡ d → DifferInSessions c d → DifferInSessions a b
differ_so {a} {b} {c} {d} same other differ = subst (λ (n : TransactionsStanding). DifferInSessions n b) (sym same) (subst (λ (n : TransactionsStanding). DifferInSessions c n) (sym other) differ)

pub said_need : StandsBeside → UnwatchedAreAnswered → SaidNeedNone → SaidNeedNoSession
said_need beside answered law s watches xs none said nothing =
    let one = law s.transactions xs none said in (
      answered (again_with watches s) xs nothing ∙ one.0 ∙ sym (answered s xs nothing),
      differ_so (beside (again_with watches s) xs) (beside s xs) one.1,
    )

-- ---- each version is an ordinary database

pub stay_kept : StandsBeside → StaysKept → ScriptsStayKept
stay_kept beside law from bytes ended statements outcome kept comes =
    subst IsKeptAt (sym (beside from statements)) (law from.transactions bytes ended statements outcome kept comes)

-- a statement that is answered, by what it means without watches; WATCH and UNWATCH write nothing
written : (s : Standing) (x : StatementView) (answer : Answer × Standing) → act s x ≡ Ok answer
    → (act_unwatched s.transactions x ≡ Ok (answer.0, answer.1.transactions) → IsOrdinary s.transactions x (answer.0, answer.1.transactions))
    → IsOrdinary s.transactions x (answer.0, answer.1.transactions)
written s (CreateVersion name from operators) answer is law = law (answer_beside s (CreateVersion name from operators) answer refl is)
written s (DropVersion name) answer is law = law (answer_beside s (DropVersion name) answer refl is)
written s (Insert name rows) answer is law = law (answer_beside s (Insert name rows) answer refl is)
written s (Import name text) answer is law = law (answer_beside s (Import name text) answer refl is)
written s (Update name assignments filter) answer is law = law (answer_beside s (Update name assignments filter) answer refl is)
written s (Delete name filter) answer is law = law (answer_beside s (Delete name filter) answer refl is)
written s (Select name items filter csv) answer is law = law (answer_beside s (Select name items filter csv) answer refl is)
written s (Materialize named in_steps) answer is law = law (answer_beside s (Materialize named in_steps) answer refl is)
written s Step answer is law = law (answer_beside s Step answer refl is)
written s ShowLayout answer is law = law (answer_beside s ShowLayout answer refl is)
written s (Use name) answer is law = law (answer_beside s (Use name) answer refl is)
written s (Session number) answer is law = law (answer_beside s (Session number) answer refl is)
written s (Advise name) answer is law = law (answer_beside s (Advise name) answer refl is)
written s (Watch name) answer is law = tt
written s (Unwatch number) answer is law = tt
written s Begin answer is law = law (answer_beside s Begin answer refl is)
written s Commit answer is law = law (answer_beside s Commit answer refl is)
written s Rollback answer is law = law (answer_beside s Rollback answer refl is)

pub are_ordinary : StandsBeside → WritesAreOrdinary → ScriptsAreOrdinary
are_ordinary beside law from bytes ended statements outcome kept comes before after x answer are is =
    let here = beside from before in
    written (state_after from before) x answer is (λ acts.
    subst (λ (t : TransactionsStanding). IsOrdinary t x (answer.0, answer.1.transactions)) (sym here)
    (law from.transactions bytes ended statements outcome kept comes before after x (answer.0, answer.1.transactions) are
    (subst (λ (t : TransactionsStanding). act_unwatched t x ≡ Ok (answer.0, answer.1.transactions)) here acts)))
