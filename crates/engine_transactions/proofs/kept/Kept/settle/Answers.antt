-- What was held stays.
use Rattle.std.proofs.Common.{sym, ap, subst, ◌∙◌}
use Rattle.engine_sessions.specs.declared.answer.Answer.{Answer}
use Rattle.engine_transactions.specs.Held.{Holds, Settles}
use Rattle.tx_history.specs.Opens.{opens_view}
use Rattle.tx_history.specs.Views.{without_open}
use Rattle.engine_transactions.specs.declared.held.Held.{Held}
use Rattle.engine_transactions.specs.declared.kept.Kept.{Kept}
use Rattle.engine_transactions.proofs.HoldLemmas.{kept_stays, runs_stay}
use Rattle.engine_transactions.proofs.kept.Kept.settle.Goals as goal

pub returns-in-Kept : goal.returns-in-Kept
returns-in-Kept c = λ model datas old h.
    kept_stays model datas old c.args.self.now c.in-Kept.session (subst (λ (x : Held). Holds model datas old x c.args.self.now) c.in-Kept.is h)

pub returns-in-Write : goal.returns-in-Write
returns-in-Write c = λ model datas old h.
    let now = c.args.self.now in
    let new : Kept = record { executing = c.settle_runs.new.at; opens = now.opens } in
    let k = subst (λ (x : Held). Holds model datas old x now) c.in-Write.is h in
    let same = sym c.settle_runs.ensures.answer in
    subst (λ (a : Answer). Settles model old a new) same
    (runs_stay old now new model c.in-Write.runs.answer c.in-Write.runs.counts (opens_view old.opens.items) k.next k.acts k.prints k.left c.settle_runs.ensures.settles (ap (λ os. opens_view os.items) k.left.opens))

pub returns-in-Commit : goal.returns-in-Commit
returns-in-Commit c = λ model datas old h.
    let now = c.args.self.now in
    let new : Kept = record { executing = c.settle_runs-answer.new.at; opens = c.end.new.opens } in
    let k = subst (λ (x : Held). Holds model datas old x now) c.in-Commit.is h in
    let session = c.in-Commit.session in
    let same = sym c.settle_runs-answer.ensures.answer in
    subst (λ (a : Answer). Settles model old a new) same
    (runs_stay old now new model c.in-Commit.runs.answer c.in-Commit.runs.counts (without_open (opens_view old.opens.items) session) k.next k.acts k.prints k.left c.settle_runs-answer.ensures.settles (c.end.ensures ∙ ap (λ os. without_open (opens_view os.items) session) k.left.opens))
