-- Identifiers that are closed over operators split what each of them relates, wherever the kept keys are right.
use Rattle.std.proofs.Common.{ℕ, Bool, false, List, map, Option, inl, inr}
use Rattle.version_graph.specs.Sets.{In}
use Rattle.version_graph.specs.Forest.{Link, crossing, forest}
use Rattle.version_graph.specs.declared.parts.Placed.{Placed}
use Rattle.op_law.specs.Identifiers.{has_id}
use Rattle.op_law.specs.Laws.{Laws}
use Rattle.op_law.specs.Meaning.{Meaning}
use Rattle.op_law.specs.Tables.{Tables}
use Rattle.pair_parts.specs.Splits.{Splits}
use Rattle.pair_parts.proofs.SplitLaws.{splits_anywhere}
use Rattle.op_seeks.specs.Closed.{PassListed}
use Rattle.op_seeks.specs.Places.{PassKnown, side_at}
use Rattle.op_seeks.specs.Seeking.{SeekLaws}
use Rattle.op_seeks.specs.declared.place.SeekPlace.{SeekPlace}
use Rattle.version_model.specs.States.{State, headings}
use Rattle.version_model.specs.Steps.{IsRelated, pair_in}
use Rattle.sought_ids.specs.Sought.{AreKeptOf, ClosesAt, KeptState}

-- those that are listed pass, and no others
pub listed_self : (ids : List ℕ) (st : Tables) → PassListed (has_id ids) ids st
listed_self ids st = record { all = λ q h. h; first = λ q v at h. h; second = λ q u at h. h }

module _ {O : Type 0} (meaning : O → Meaning) (seeks : O → Option SeekPlace) (laws : (o : O) → Laws (meaning o)) (seeking : (o : O) → SeekLaws (meaning o) (seeks o)) (es : List (Placed O)) (s : State)
    (kept : KeptState) (right : AreKeptOf s kept) (ns ids : List ℕ) (closed : ClosesAt meaning seeks es kept ns ids) where
  -- so does any test by which those of S and T pass that are listed, and no others
  pub split_by : (P : ℕ → Bool) → ((e : Link O) → PassKnown P ids (seeks e.operator) (pair_in s (crossing false e)))
      → (e : Link O) → In e (forest es) → In e.number ns → IsRelated meaning (headings es) s (crossing false e) → Splits (meaning e.operator) (pair_in s (crossing false e)) P
  split_by P listed e i own related =
      let p = pair_in s (crossing false e) in
      elim (closed e i own) as (λ _. Splits (meaning e.operator) p P) [
        | inl local ↦ splits_anywhere (meaning e.operator) (laws e.operator) P (map (headings es) e.sources) (map (headings es) e.targets) p local related
        | inr by ↦ (seeking e.operator).splits by.known ids P (map (headings es) e.sources) (map (headings es) e.targets) p (by.are s right) by.closing (listed e) related
      ]

  -- CLOSED IDENTIFIERS SPLIT THE STATE
  pub split_ids : (e : Link O) → In e (forest es) → In e.number ns → IsRelated meaning (headings es) s (crossing false e) → Splits (meaning e.operator) (pair_in s (crossing false e)) (has_id ids)
  split_ids = split_by (has_id ids) (λ e. record { rows = listed_self ids (side_at (seeks e.operator) (pair_in s (crossing false e))); entries = record { own = λ id a b at h. h; first = λ id a b at h. h; second = λ id a b at h. h } })
