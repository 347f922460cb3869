-- One after the other: the second script of a script, in which each committed transaction stands where it was committed.
use Rattle.std.specs.Prelude.{◌≡◌, ℕ, ◌==◌, ◌++◌, not, List, [], ◌∷◌, filter, flat_map, map, Option, Some, None, Ok, Err}
use Rattle.std.specs.List.{zip}
use Rattle.par_base.specs.Checked.{Checked}
use Rattle.statements.specs.Views.{StatementView, Begin, Commit, Delete, Import, Insert, Rollback, Select, Update}
use Rattle.engine_state.specs.declared.reply.Reply.TheVariants.{Committed, Deleted, Inserted, Updated}
use Rattle.engine_state.specs.declared.reply.WriteReply.{WriteReply}
use Rattle.engine_state.specs.declared.reply.WriteReply.TheVariants as write
use Rattle.engine_sessions.specs.Act.{act as act_beside}
use Rattle.engine_sessions.specs.Standing.{Standing as SessionsStanding}
use Rattle.engine_sessions.specs.declared.answer.Answer.{Answer}
use Rattle.engine_sessions.specs.declared.answer.Answer.TheVariants.{Plain}
use Rattle.tx_history.specs.Views.{OpenView}
use Rattle.engine_transactions.specs.Standing.{Standing}
use Rattle.engine_transactions.specs.Act.{act, at_hand, named_at}

-- ---- the second script

-- what stands in it: a statement that acts at once, in the session at hand, or a SELECT or a write of a committed transaction, in that one's session
pub data Entry : Type 0 where
  AtOnce : StatementView → Entry
  Within : ℕ → StatementView → Entry

-- an entry, with what was answered to it in the first script
pub record Told : Type 0 where
  pub entry : Entry
  pub answer : Checked Answer

-- the SELECTs that were accepted in the open transaction of a session, each with its version written out, and their answers
pub record OpenReads : Type 0 where
  pub session : ℕ
  pub reads : List Told

abbrev pub without_reads : List OpenReads → ℕ → List OpenReads
without_reads opens session = filter (λ (o : OpenReads). not (o.session == session)) opens

abbrev pub reads_of : List OpenReads → ℕ → List Told
reads_of opens session = flat_map (λ (o : OpenReads). o.reads) (filter (λ (o : OpenReads). o.session == session) opens)

-- with one SELECT more
abbrev pub with_told : List OpenReads → ℕ → Told → List OpenReads
with_told opens session told = without_reads opens session ++ record { session = session; reads = reads_of opens session ++ told ∷ [] } ∷ []

-- the answer to a write
abbrev pub answer_to : WriteReply → Answer
answer_to (write.Inserted ids) = Plain (Inserted ids)
answer_to (write.Updated count) = Plain (Updated count)
answer_to (write.Deleted count) = Plain (Deleted count)

-- the kept writes of a session, with what its COMMIT answers
abbrev pub told_writes : ℕ → List StatementView → List WriteReply → List Told
told_writes session writes replies = map (λ (w : StatementView × WriteReply). record { entry = Within session w.0; answer = Ok (answer_to w.1) }) (zip writes replies)

abbrev pub writes_of : Option OpenView → List StatementView
writes_of None = []
writes_of (Some o) = o.transaction.writes

-- an accepted COMMIT is replaced by the accepted SELECTs of its transaction and then its kept writes
abbrev pub told_commit : List OpenReads → ℕ → Option OpenView → Checked (Answer × Standing) → List Told
told_commit opens session o (Ok (Plain (Committed replies), next)) = reads_of opens session ++ told_writes session (writes_of o) replies
told_commit opens session o (Ok other) = []
told_commit opens session o (Err refusal) = []

-- what was answered
abbrev pub answered : Checked (Answer × Standing) → Checked Answer
answered (Ok answer) = Ok answer.0
answered (Err refusal) = Err refusal

-- a SELECT or a write in an open transaction is struck at its own place
abbrev pub told_outside : Option OpenView → StatementView → Checked (Answer × Standing) → List Told
told_outside None statement answer = record { entry = AtOnce statement; answer = answered answer } ∷ []
told_outside (Some o) statement answer = []

-- what stands in the second script for a statement
abbrev pub told_for : List OpenReads → Standing → StatementView → Checked (Answer × Standing) → List Told
told_for opens s Begin answer = []
told_for opens s Rollback answer = []
told_for opens s Commit answer = told_commit opens s.sessions.session (at_hand s) answer
told_for opens s (Select name items filter csv) answer = told_outside (at_hand s) (Select name items filter csv) answer
told_for opens s (Insert name rows) answer = told_outside (at_hand s) (Insert name rows) answer
told_for opens s (Import name text) answer = told_outside (at_hand s) (Import name text) answer
told_for opens s (Update name assignments filter) answer = told_outside (at_hand s) (Update name assignments filter) answer
told_for opens s (Delete name filter) answer = told_outside (at_hand s) (Delete name filter) answer
told_for opens s statement answer = record { entry = AtOnce statement; answer = answered answer } ∷ []

-- the SELECTs of open transactions behind an accepted statement
abbrev pub selected_behind : List OpenReads → ℕ → Option OpenView → StatementView → Answer → List OpenReads
selected_behind opens session None statement answer = opens
selected_behind opens session (Some o) statement answer = with_told opens session (record { entry = Within session statement; answer = Ok answer })

abbrev pub opens_behind : List OpenReads → Standing → StatementView → Checked (Answer × Standing) → List OpenReads
opens_behind opens s statement (Err refusal) = opens
opens_behind opens s Begin (Ok answer) = without_reads opens s.sessions.session
opens_behind opens s Rollback (Ok answer) = without_reads opens s.sessions.session
opens_behind opens s Commit (Ok answer) = without_reads opens s.sessions.session
opens_behind opens s (Select name items filter csv) (Ok answer) = selected_behind opens s.sessions.session (at_hand s) (Select (named_at s name) items filter csv) answer.0
opens_behind opens s statement (Ok answer) = opens

-- where the next statement is given: a refused one leaves all as it was
abbrev pub behind : Standing → Checked (Answer × Standing) → Standing
behind s (Ok answer) = answer.1
behind s (Err refusal) = s

-- THE SECOND SCRIPT of a script, with the answers to the first
unfoldable pub second_of : List OpenReads → Standing → List StatementView → List Told
second_of opens s [] = []
second_of opens s (x ∷ xs) = told_for opens s x (act s x) ++ second_of (opens_behind opens s x (act s x)) (behind s (act s x)) xs

-- where a script ends
unfoldable pub end_of : Standing → List StatementView → Standing
end_of s [] = s
end_of s (x ∷ xs) = end_of (behind s (act s x)) xs

-- ---- running it, without transactions

-- an entry is given in its session
abbrev pub given : SessionsStanding → Entry → Checked (Answer × SessionsStanding)
given s (AtOnce statement) = act_beside s statement
given s (Within session statement) = act_beside (record s { session = session }) statement

abbrev pub answered_in : Checked (Answer × SessionsStanding) → Checked Answer
answered_in (Ok answer) = Ok answer.0
answered_in (Err refusal) = Err refusal

-- what stands behind it: the session at hand is the one before it, but for a SESSION
abbrev pub left_by : SessionsStanding → Entry → Checked (Answer × SessionsStanding) → SessionsStanding
left_by s entry (Err refusal) = s
left_by s (AtOnce statement) (Ok answer) = answer.1
left_by s (Within session statement) (Ok answer) = record answer.1 { session = s.session }

-- the entries lead from one standing to the other, and each is answered so
abbrev pub AreTold : List Told → SessionsStanding → SessionsStanding → Type 0
AreTold [] s end = end ≡ s
AreTold (t ∷ ts) s end = (answered_in (given s t.entry) ≡ t.answer) × AreTold ts (left_by s t.entry (given s t.entry)) end

-- ONE AFTER THE OTHER: the second script, in which nothing stands between the SELECTs and the writes of a transaction, has the answers of the first, and leads to the same data, accesses and versions in use
abbrev pub OneAfterTheOther : Standing → List StatementView → Type 0
OneAfterTheOther s script = AreTold (second_of [] s script) s.sessions (end_of s script).sessions
