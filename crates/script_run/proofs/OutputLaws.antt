-- The lines that answer statements, and the state behind them.
use Rattle.std.proofs.Common.{◌≡◌, List, [], ◌∷◌, ◌++◌, ℕ, refl, sym, ap, ◌∙◌, append_assoc, append-nil}
use Rattle.statements.specs.Views.{StatementView}
use Rattle.engine_feeds.specs.Standing.{Standing}
use Rattle.engine_feeds.specs.Act.{act}
use Rattle.engine_feeds.specs.Replies.{out, replies, text_of, next_state, state_after}

pub state_after-more : (s : Standing) (sts : List StatementView) (st : StatementView)
    → state_after s (sts ++ st ∷ []) ≡ next_state (state_after s sts) (act (state_after s sts) st)
unfolding state_after
state_after-more s [] st = refl
state_after-more s (t ∷ ts) st = state_after-more (next_state s (act s t)) ts st

pub out-more : (s : Standing) (sts : List StatementView) (st : StatementView)
    → out s (sts ++ st ∷ []) ≡ out s sts ++ text_of (act (state_after s sts) st)
unfolding replies state_after
out-more s [] st = append-nil (text_of (act s st))
out-more s (t ∷ ts) st =
    let s2 = next_state s (act s t) in
    ap (λ (l : List ℕ). text_of (act s t) ++ l) (out-more s2 ts st) ∙ sym (append_assoc (text_of (act s t)) (out s2 ts) (text_of (act (state_after s2 ts) st)))

-- the lines of statements and of those behind them
pub out-append : (s : Standing) (sts rest : List StatementView) → out s (sts ++ rest) ≡ out s sts ++ out (state_after s sts) rest
unfolding replies state_after
out-append s [] rest = refl
out-append s (t ∷ ts) rest =
    let s2 = next_state s (act s t) in
    ap (λ (l : List ℕ). text_of (act s t) ++ l) (out-append s2 ts rest) ∙ sym (append_assoc (text_of (act s t)) (out s2 ts) (out (state_after s2 ts) rest))
