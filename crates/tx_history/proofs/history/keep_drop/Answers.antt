-- A number stands there, or a 0 comes behind the others.
use Rattle.std.specs.List.{position}
use Rattle.std.specs.Str.{bytes_eq}
use Rattle.std.proofs.Common.{ℕ, List, Some, refl, sym, ap, ◌∙◌}
use Rattle.std.proofs.lemmas.Slice.Eq.{bytes_eq-Decides}
use Rattle.tx_history.specs.History.{dropped_in}
use Rattle.tx_history.specs.declared.history.NameDrop.{NameDrop}
use Rattle.tx_history.proofs.DropLaws.{dropped_more}
use Rattle.tx_history.proofs.PlaceLemmas.{place_more}
use Rattle.tx_history.proofs.history.keep_drop.Goals as goal

pub returns-clause-same : goal.returns-clause-same
returns-clause-same c = λ other.
    let x : NameDrop = record { name = c.in_ok-copy.field-0; at = 0 } in
    ap (λ (l : List NameDrop). dropped_in l other) c.in_ok-push.ensures.ok ∙ dropped_more c.args.dropped.now x refl other

pub returns-clause-place : goal.returns-clause-place
returns-clause-place c =
    let x : NameDrop = record { name = c.in_ok-copy.field-0; at = 0 } in
    let name = c.args.name.now in
    let found = ap (λ (l : List NameDrop). position (λ (one : NameDrop). bytes_eq name one.name) l) (sym c.as_slice.ensures) ∙ sym c.place_of_drop.ensures ∙ c.in_default.is in
    ap (λ (l : List NameDrop). position (λ (one : NameDrop). bytes_eq name one.name) l) c.in_ok-push.ensures.ok
    ∙ place_more (λ (one : NameDrop). bytes_eq name one.name) c.args.dropped.now x ((bytes_eq-Decides name c.in_ok-copy.field-0).1 (sym c.in_ok-copy.ensures)) found
    ∙ ap (λ (n : ℕ). Some n) (sym c.len-place.ensures)
