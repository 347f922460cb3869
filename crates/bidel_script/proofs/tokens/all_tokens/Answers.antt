use Rattle.std.proofs.Common.{◌∙◌, ◌++◌, ◌∷◌, [], List, subst, append-nil, append_assoc, sym, ap}
use Rattle.bidel_lex.specs.declared.tokens.Token.{Token}
use Rattle.bidel_lex.specs.Tokens.{HasTokens}
use Rattle.bidel_script.specs.Tails.{begun_at, last_end}
use Rattle.bidel_script.proofs.LengthLemmas.{not_token}
use Rattle.bidel_script.proofs.TokenLaws.{last_end-push, bad_within, begun_other}
use Rattle.bidel_script.proofs.tokens.all_tokens.Goals as goal
use Rattle.bidel_script.proofs.tokens.all_tokens.Goals.{in-End, in_default-last}

pub loop-token-preserved : goal.loop-token-preserved
loop-token-preserved c =
    let token = c.in-Token.token in
    let found = sym c.next_token.ensures.value ∙ c.in-Token.is in
    record {
      within = c.in-Token.ensures.within.2;
      end = sym (ap (last_end 0) c.in_ok-push-in-Token.ensures.items ∙ last_end-push 0 c.loop-token.tokens.items token);
      found = λ more last h.
          subst (λ (l : List Token). HasTokens c.args.ended c.args.bytes.now 0 l last)
          (sym (append_assoc c.loop-token.tokens.items (token ∷ []) more) ∙ ap (λ (l : List Token). l ++ more) (sym c.in_ok-push-in-Token.ensures.items))
          (c.loop-token.invariant.found (token ∷ more) last (found, h));
    }

pub returns-in_default : goal.returns-in_default
returns-in_default c =
    let bytes = c.args.bytes.now in
    let last = c.next_token.result in
    let none = not_token last c.in_default.not-Token in
    record {
      all = record {
        found = subst (λ (l : List Token). HasTokens c.args.ended bytes 0 l last) (append-nil c.loop-token.tokens.items)
            (c.loop-token.invariant.found [] last (sym c.next_token.ensures.value, none));
        begun = elim c.match-last.branch [
          | in-End w ↦ w.begun-is ∙ sym (ap (begun_at bytes (last_end 0 c.loop-token.tokens.items)) w.in-End.is)
          | in_default-last w ↦ w.begun-is ∙ w.pass_blanks.ensures.upto ∙ begun_other bytes c.loop-token.from (last_end 0 c.loop-token.tokens.items) last c.loop-token.invariant.end
              (λ e. w.in_default-last.not-End e)
        ];
      };
      fits = record { none = none; within = λ at e. bad_within bytes c.loop-token.from c.args.ended last at (sym c.next_token.ensures.value) e };
    }
