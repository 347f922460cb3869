-- What statements of transactions answer and leave.
use Rattle.std.proofs.Common.{◌≡◌, ℕ, ◌==◌, Bool, true, not, List, length, Option, Some, None, option_map, Result, Ok, Err, refl, sym, ap, ◌∙◌}
use Rattle.par_base.specs.Checked.{Checked, Gives, ◌then◌}
use Rattle.par_base.specs.declared.fault.Fault.{Fault}
use Rattle.par_base.specs.declared.fault.Fault.TheVariants.{Refused, Memory as OutOfMemory}
use Rattle.par_base.specs.declared.refusal.Refusal.{Refusal}
use Rattle.statements.specs.Views.{StatementView}
use Rattle.std.specs.Prelude.{OnErr, is_some}
use Rattle.std.proofs.lemmas.Bool.{false≢true}
use Rattle.engine_state.specs.declared.reply.Reply.TheVariants.{Kept}
use Rattle.engine_sessions.specs.declared.answer.Answer.{Answer}
use Rattle.engine_sessions.specs.declared.answer.Answer.TheVariants.{Plain}
use Rattle.engine_transactions.specs.Act.{Answers, at_hand, kept_by, noted, with_transaction}
use Rattle.engine_transactions.specs.ByKind.{acted_by, at_once_with, graph_behind, read_full, read_told}
use Rattle.tx_history.specs.Kinds.{kind_in}
use Rattle.tx_history.specs.declared.statement_kind.StatementKind.{StatementKind}
use Rattle.tx_history.specs.declared.statement_kind.StatementKind.TheVariants as kind
use Rattle.engine_transactions.proofs.KindLemmas.{once_behind}
use Rattle.tx_history.specs.Opens.{noted_in, with_changed}
use Rattle.tx_history.proofs.OpenLaws.{changed_open, open_none, open_some, same_changed}
use Rattle.engine_sessions.specs.Act.{read_in}
use Rattle.engine_transactions.specs.Calls.{IsSame, standing_in}
use Rattle.tx_history.specs.Views.{OpenView, TransactionView, open_of, with_write}
use Rattle.engine_transactions.specs.Standing.{Standing}
use Rattle.engine_transactions.specs.declared.executing.Executing.{Executing}
use Rattle.tx_history.specs.declared.table_read.TableRead.{TableRead}

-- ---- a kept write

pub kept_some : (s : Standing) (t : TransactionView) (v : Option (List ℕ)) (full : StatementView) → is_some v ≡ true → kept_by s t v full ≡ Ok (Plain Kept, with_transaction s (with_write t full))
kept_some s t (Some version) full some = refl
kept_some s t None full some = absurd (false≢true some)

-- ---- a SELECT

abbrev read_answered : Standing → TransactionView → StatementView → Answer → Checked (Answer × Standing)
read_answered s t full answer = Ok (answer, noted s t (read_told s.sessions.laid.database full))

pub read_fails : (s : Standing) (t : TransactionView) (told : Bool) (full made : StatementView) (csv : Bool) (fault : Fault Refusal) (end : Standing) → csv ≡ told → made ≡ full → Gives (λ (answer : Answer). answer) (Err fault) (read_in s.sessions csv made) → Answers (read_full s t told full) (Err fault) end
read_fails s t told full made csv (Refused r) end asked is gives =
    let b = sym asked in
    let x = sym is in
    (λ i. (read_in s.sessions (b i) (x i)) then read_answered s t full) ∙ ap (λ (m : Checked Answer). m then read_answered s t full) gives
read_fails s t told full made csv (OutOfMemory memory) end asked is gives = tt

with_noted : (s : Standing) (o : OpenView) (r : Option TableRead) (opens : List OpenView) → open_of s.opens s.sessions.session ≡ Some o → opens ≡ with_changed s.opens s.sessions.session (λ t. noted_in t r s.history.last) → noted s o.transaction r ≡ record s { opens = opens }
with_noted s o (Some read) opens at is = ap (λ (l : List OpenView). record s { opens = l }) (sym (is ∙ changed_open s.sessions.session (λ t. noted_in t (Some read) s.history.last) o s.opens at))
with_noted s o None opens at is = ap (λ (l : List OpenView). record s { opens = l }) (sym (is ∙ same_changed s.opens s.sessions.session))

abbrev answered_so : Answer → Standing → Checked (Answer × Standing)
answered_so answer next = Ok (answer, next)

pub read_noted : (s : Standing) (o : OpenView) (full made : StatementView) (told csv : Bool) (answer : Answer) (r : Option TableRead) (opens : List OpenView) → open_of s.opens s.sessions.session ≡ Some o → csv ≡ told → made ≡ full → read_in s.sessions csv made ≡ Ok answer → r ≡ read_told s.sessions.laid.database made
    → (session : ℕ) → session ≡ s.sessions.session → opens ≡ with_changed s.opens session (λ t. noted_in t r s.history.last) → read_full s o.transaction told full ≡ answered_so answer (record s { opens = opens })
read_noted s o full made told csv answer r opens at asked is gives read session own changed =
    let next = changed ∙ ap (λ (n : ℕ). with_changed s.opens n (λ t. noted_in t r s.history.last)) own in
    let b = sym asked in
    let x = sym is in
    (λ i. (read_in s.sessions (b i) (x i)) then read_answered s o.transaction full)
    ∙ ap (λ (m : Checked Answer). m then read_answered s o.transaction full) gives
    ∙ ap (λ (k : Option TableRead). answered_so answer (noted s o.transaction k)) (sym (read ∙ ap (λ (y : StatementView). read_told s.sessions.laid.database y) is))
    ∙ ap (λ (n : Standing). answered_so answer n) (with_noted s o r opens at next)

-- ---- after an error

pub same_beside : {X E : Type 0} (r : Result X E) (old new : Executing) (opens : List OpenView) → OnErr r (IsSame old new) → OnErr r (standing_in new opens ≡ standing_in old opens)
same_beside (Ok x) old new opens same = tt
same_beside (Err e) old new opens same = same opens

-- ---- outside a transaction

abbrev pub writes : OpenView → Bool
writes own = not (length own.transaction.writes == 0)

pub at_none : (s : Standing) (session : ℕ) → session ≡ s.sessions.session → (o : Option Bool) → o ≡ None → o ≡ option_map writes (open_of s.opens session) → at_hand s ≡ None
at_none s session own o none is = ap (λ (n : ℕ). open_of s.opens n) (sym own) ∙ open_none writes (open_of s.opens session) (sym none ∙ is)

pub at_some : (s : Standing) (session : ℕ) → session ≡ s.sessions.session → (o : Option Bool) (b : Bool) → o ≡ Some b → o ≡ option_map writes (open_of s.opens session) → (v : OpenView) × (at_hand s ≡ Some v)
at_some s session own o b some is =
    let found = open_some writes (open_of s.opens session) b (sym some ∙ is) in
    (found.0, ap (λ (n : ℕ). open_of s.opens n) (sym own) ∙ found.1.0)

two_kinds : kind.Select ≡ kind.Write → ⊥
two_kinds h = cc

other_kinds : kind.Other ≡ kind.Write → ⊥
other_kinds h = cc

pub no_select : (x : StatementView) → kind_in x ≡ kind.Select → kind_in x ≡ kind.Write → ⊥
no_select x is other = two_kinds (sym is ∙ other)

pub other_acts : (s : Standing) (x : StatementView) → kind_in x ≡ kind.Other → at_once_with s x (graph_behind s x) ≡ acted_by (kind_in x) s x
other_acts s x is = sym (once_behind s x (λ other. other_kinds (sym is ∙ other))) ∙ ap (λ (k : StatementKind). acted_by k s x) (sym is)
