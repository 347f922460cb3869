-- What was held is taken back.
use Rattle.std.proofs.Common.{refl, subst}
use Rattle.engine_transactions.specs.Held.{Holds, IsHeld}
use Rattle.tx_history.specs.Opens.{opens_view}
use Rattle.tx_history.specs.Views.{without_open}
use Rattle.engine_transactions.specs.declared.held.Held.{Held}
use Rattle.engine_transactions.proofs.HoldLemmas.{commit_has_run, kept_returns, runs_return, write_has_run}
use Rattle.engine_transactions.proofs.kept.Kept.let_go.Goals as goal

pub take_back_runs-requires : goal.take_back_runs-requires
take_back_runs-requires c = write_has_run c.in-Write.runs c.args.self.now (subst (λ (x : Held). IsHeld x c.args.self.now) c.in-Write.is c.requires)

pub take_back_runs-requires-in-Commit : goal.take_back_runs-requires-in-Commit
take_back_runs-requires-in-Commit c = commit_has_run c.in-Commit.session c.in-Commit.runs c.args.self.now (subst (λ (x : Held). IsHeld x c.args.self.now) c.in-Commit.is c.requires)

pub returns-in-Kept : goal.returns-in-Kept
returns-in-Kept c = λ model datas old h.
    let now = c.args.self.now in
    let k = subst (λ (x : Held). Holds model datas old x now) c.in-Kept.is h in
    kept_returns model datas old now (record { executing = now.executing; opens = c.forget.new.opens }) c.in-Kept.session k refl c.forget.ensures

pub returns-in-Write : goal.returns-in-Write
returns-in-Write c = λ model datas old h.
    let now = c.args.self.now in
    let k = subst (λ (x : Held). Holds model datas old x now) c.in-Write.is h in
    runs_return old now (record { executing = c.take_back_runs.new.at; opens = now.opens }) c.in-Write.runs.counts (opens_view old.opens.items) k.next k.left c.take_back_runs.ensures refl

pub returns : goal.returns
returns c = λ model datas old h.
    let now = c.args.self.now in
    let k = subst (λ (x : Held). Holds model datas old x now) c.in-Commit.is h in
    runs_return old now (record { executing = c.take_back_runs-in-Commit.new.at; opens = now.opens }) c.in-Commit.runs.counts (without_open (opens_view old.opens.items) c.in-Commit.session) k.next k.left c.take_back_runs-in-Commit.ensures refl
