use Rattle.std.proofs.Common.{◌≡◌, ℕ, List, [], ◌∷◌, ◌++◌, ap, sym, subst, ◌∙◌, arith}
use Rattle.row_store.specs.Rows.{Rows}
use Rattle.feed_mirror.specs.declared.tables.Shown.{Shown}
use Rattle.feed_mirror.specs.Tables.{named, named_one}
use Rattle.feed_mirror.specs.Padded.{has_name}
use Rattle.feed_mirror.specs.Rooms.{HasRooms}
use Rattle.feed_mirror.proofs.PadLemmas.{name_new}
use Rattle.feed_mirror.proofs.KeptLemmas.{named_push}
use Rattle.feed_mirror.proofs.RoomLemmas.{due_other, rooms_end}
use Rattle.feed_mirror.proofs.tables.push_empty.Goals as goal

pub returns-clause-ok : goal.returns-clause-ok
returns-clause-ok c =
    let old = c.args.tables.now.items in
    let x : Shown = record { name = c.in_ok-name.name; table = c.new.result } in
    let pair : named_one x ≡ (c.args.name.now, []) = (λ i. (c.in_ok-name.ensures i, c.new.ensures i)) in
    ap named c.in_ok-push.ensures.items ∙ named_push old x ∙ ap (λ (p : List ℕ × Rows). named old ++ p ∷ []) pair ∙ sym (name_new c.args.name.now (named old) c.requires)

pub returns-clause-rooms : goal.returns-clause-rooms
returns-clause-rooms c = λ cs there rooms.
    let old = c.args.tables.now.items in
    let x : Shown = record { name = c.in_ok-name.name; table = c.new.result } in
    let none = due_other x.name cs (named old) there (ap (λ (n : List ℕ). has_name n (named old)) c.in_ok-name.ensures ∙ c.requires) in
    subst (λ (ts : List Shown). HasRooms cs ts) (sym c.in_ok-push.ensures.items) (rooms_end cs old x (omega (arith, none)) rooms)
