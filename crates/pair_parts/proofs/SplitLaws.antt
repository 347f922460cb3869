-- Identifiers that split a pair split it from either side, and any split a pair of a local operator.
use Rattle.std.proofs.Common.{◌≡◌, List, sym, ap, ◌∙◌, subst}
use Rattle.op_law.specs.Tables.{Heading}
use Rattle.op_law.specs.Laws.{Laws}
use Rattle.op_law.specs.Local.{pair_only}
use Rattle.op_law.specs.Meaning.{Meaning, PairState, exchanged, flip}
use Rattle.op_law.specs.Premises.{IsPair}
use Rattle.pair_parts.specs.Laws.{KeepsFromBehind, SplitsAnywhere, SplitsFromBehind}
use Rattle.pair_parts.specs.Parts.{part_of_pair}
use Rattle.pair_parts.proofs.MemoryLaws.{part_without}

-- a pair is one from either side
pub turned : (m : Meaning) (hs ht : List Heading) (p : PairState) → IsPair m hs ht p → IsPair (flip m) ht hs (exchanged p)
turned m hs ht p pair = record { fits = pair.fits; related = pair.related; source_of = pair.target_of; target_of = pair.source_of }

-- what splits a pair splits it from its other side
pub splits_behind : (m : Meaning) → SplitsFromBehind m
splits_behind m P p splits = record {
  related = λ hs ht pair. turned m ht hs (part_of_pair P p) (splits.related ht hs (turned (flip m) hs ht (exchanged p) pair));
  at_source = splits.at_target;
  at_target = splits.at_source;
}

-- and what keeps a change to itself does
pub keeps_behind : (m : Meaning) → KeepsFromBehind m
keeps_behind m P old new apart = record { splits = splits_behind m P new apart.splits; at_source = apart.at_target; at_target = apart.at_source }

-- A LOCAL OPERATOR'S PAIR IS SPLIT BY ANY IDENTIFIERS
pub splits_anywhere : (m : Meaning) → Laws m → SplitsAnywhere m
splits_anywhere m laws P hs ht p local pair =
    let own = laws.0.local local in
    let other = laws.1.local local in
    let same : pair_only P p ≡ part_of_pair P p = part_without P p (own.no_memory hs ht p pair) in
    record {
      related = λ xs ys it. subst (λ (x : PairState). IsPair m xs ys x) same (own.related P xs ys p it);
      at_source = sym (ap m.aux_at_source same) ∙ own.aux P hs ht p pair;
      at_target = sym (ap m.aux_at_target same) ∙ other.aux P ht hs (exchanged p) (turned m hs ht p pair);
    }
