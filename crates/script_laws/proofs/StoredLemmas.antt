-- What an answered MATERIALIZE leaves, whatever transactions are open.
use Rattle.std.specs.Prelude.{Ok, Err}
use Rattle.std.proofs.Common.{◌≡◌, true, false, refl, subst}
use Rattle.par_base.specs.Checked.{Checked, ◌then◌}
use Rattle.statements.specs.Views.{Materialize}
use Rattle.session_laws.specs.Moves.{MovesStoreNamed as MovesStoreBeside, StartsLeadToNamed as StartsLeadBeside}
use Rattle.engine_transactions.specs.Answer.{Answer}
use Rattle.engine_transactions.specs.EngineSessionsStanding.{Standing as SessionsStanding}
use Rattle.engine_transactions.specs.EngineSessionsAct.{act as act_beside}
use Rattle.engine_transactions.specs.Standing.{Standing}
use Rattle.script_laws.specs.Stored.{MovesStoreNamed, StartsLeadToNamed}

-- a statement that changes no history
abbrev keeping : Standing → Checked (Answer × SessionsStanding) → Checked (Answer × Standing)
keeping s m = m then λ answer. Ok (answer.0, record s { sessions = answer.1 })

-- what holds of its answer beside transactions
beside_is : (P : SessionsStanding → Type 0) (s : Standing) (m : Checked (Answer × SessionsStanding)) → ((a : Answer × SessionsStanding) → m ≡ Ok a → P a.1) → (answer : Answer × Standing) → keeping s m ≡ Ok answer → P answer.1.sessions
beside_is P s (Ok a) law answer same =
    let one : (a.0, record s { sessions = a.1 }) ≡ answer = cc in
    subst (λ (k : Answer × Standing). P k.1.sessions) one (law a refl)
beside_is P s (Err refusal) law answer same = absurd (let no : ⊥ = cc in no)

pub stores_named : MovesStoreBeside → MovesStoreNamed
stores_named law s named answer edges is = beside_is _ s (act_beside s.sessions (Materialize named false)) (λ a same. law s.sessions named a edges same) answer is

pub leads_to_named : StartsLeadBeside → StartsLeadToNamed
leads_to_named law s named answer edges is = beside_is _ s (act_beside s.sessions (Materialize named true)) (λ a same. law s.sessions named a edges same) answer is
