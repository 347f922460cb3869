-- The name that went has the next number.
use Rattle.std.proofs.Common.{ℕ, ◌≤◌, Ok, refl, sym, ap, subst, ◌∙◌}
use Rattle.session_tx.specs.Calls.{last_number}
use Rattle.statements.specs.Views.{DropVersion}
use Rattle.engine_sessions.specs.Standing.{standing_of}
use Rattle.engine_transactions.specs.Calls.{standing_in}
use Rattle.tx_history.specs.History.{History, history_of, with_drop}
use Rattle.tx_history.specs.declared.history.ChangeNumbers.{ChangeNumbers}
use Rattle.engine_transactions.proofs.AtOnceLemmas.{given_at_once}
use Rattle.tx_history.proofs.DropLaws.{same_drops}
use Rattle.tx_history.proofs.NumberLaws.{at_most}
use Rattle.engine_transactions.proofs.at_once.drop_version.Goals as goal

pub returns-clause-answers : goal.returns-clause-answers
returns-clause-answers g c = λ opens.
    let old = c.args.at.now.numbers in
    let kept : ChangeNumbers = record { last = old.last; changed = old.changed; dropped = c.keep_drop.new.dropped } in
    let name = c.args.name in
    let s = standing_in c.args.at.now opens in
    let behind = c.number_drop.ensures.history name c.in_ok-place.ensures.place ∙ ap (λ (h : History). with_drop h name) (same_drops old kept refl refl c.keep_drop.ensures.same) in
    given_at_once s (DropVersion name) (λ next. with_drop s.history name) (Ok c.in_ok-answer.answer) (standing_of c.event.new.self) (history_of c.number_drop.new.numbers) c.in_ok-answer.ensures.answers behind

pub returns-clause-idle : goal.returns-clause-idle
returns-clause-idle g c =
    let old = c.args.at.now.numbers in
    let name = c.args.name in
    record {
      settled = c.requires.idle.settled;
      drops = c.number_drop.ensures.past name c.in_ok-place.ensures.place c.requires.idle.within (λ other. subst (λ (n : ℕ). n ≤ old.last) (sym (c.keep_drop.ensures.same other)) (c.requires.idle.drops other));
      within = subst (λ (n : ℕ). n ≤ last_number) (sym (ap (λ (h : History). h.last) (c.number_drop.ensures.history name c.in_ok-place.ensures.place))) (at_most old.last);
    }
