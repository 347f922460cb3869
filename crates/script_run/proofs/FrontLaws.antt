-- Fronts of the bytes that a run puts.
use Rattle.std.proofs.Common.{◌≡◌, ◌+◌, ℕ, List, [], ◌++◌, Option, inl, inr, refl, sym, ap, subst, ◌∙◌, take, length, arith}
use Rattle.std.proofs.lemmas.Bool.Decides.{leb_tells}
use Rattle.std.proofs.lemmas.List.{take-append-le, take_all, take_at}
use Rattle.std.proofs.Math.Seq.{take-append-add}
use Rattle.std.specs.Io.KnownBytes.{Appends}
use Rattle.std.proofs.KnownBytes.{Appends-nil, Appends-trans}
use Rattle.statements.specs.Views.{StatementView}
use Rattle.engine_feeds.specs.Standing.{Standing}
use Rattle.engine_feeds.specs.Replies.{out, state_after}
use Rattle.script_run.specs.Statuses.{PutsFront}
use Rattle.script_run.proofs.OutputLaws.{out-append}

-- ---- fronts of bytes

-- a front of bytes is one of more bytes
pub puts_more : (held held' : Option (List ℕ)) (xs ys : List ℕ) → PutsFront held held' xs → PutsFront held held' (xs ++ ys)
puts_more held held' xs ys p = elim (leb_tells p.0 (length xs)) [
  | inl k ↦ (p.0, subst (Appends held held') (sym (take-append-le p.0 xs ys k.1)) p.1)
  | inr k ↦ (length xs, subst (Appends held held') (take_all p.0 xs (omega (arith, k.1)) ∙ sym (take_at xs ys (length xs) refl)) p.1)
]

-- bytes, and a front of others
pub puts_behind : (held mid held' : Option (List ℕ)) (xs ys : List ℕ) → Appends held mid xs → PutsFront mid held' ys → PutsFront held held' (xs ++ ys)
puts_behind held mid held' xs ys p q =
    (length xs + q.0, subst (Appends held held') (sym (take-append-add xs ys q.0)) (Appends-trans held mid held' xs (take q.0 ys) p q.1))

-- all of the bytes are a front of them
pub puts_all : (held held' : Option (List ℕ)) (xs : List ℕ) → Appends held held' xs → PutsFront held held' xs
puts_all held held' xs p = (length xs, subst (Appends held held') (sym (take_all (length xs) xs (omega arith))) p)

-- no byte is a front of all bytes
pub puts_none : (held held' : Option (List ℕ)) (xs : List ℕ) → held' ≡ held → PutsFront held held' xs
puts_none held held' xs same = (0, subst (λ (h : Option (List ℕ)). Appends held h []) (sym same) (Appends-nil held))

-- what the statements put begins what those put that begin with them
pub out_more : (from : Standing) (held held' : Option (List ℕ)) (sts all rest : List StatementView) → all ≡ sts ++ rest → PutsFront held held' (out from sts) → PutsFront held held' (out from all)
out_more from held held' sts all rest same p =
    subst (PutsFront held held') (sym (ap (out from) same ∙ out-append from sts rest)) (puts_more held held' (out from sts) (out (state_after from sts) rest) p)
