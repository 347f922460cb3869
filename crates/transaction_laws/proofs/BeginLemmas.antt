-- What the engine begins with is orderly.
use Rattle.std.proofs.Common.{◌≤◌, ℕ, subst, sym}
use Rattle.version_graph.specs.Sets.{In}
use Rattle.version_graph.specs.Edges.{numbers}
use Rattle.version_graph.proofs.SetLaws.{each_at, each_more, each_of}
use Rattle.layout_rules.proofs.ChangeLaws.{link_number}
use Rattle.transaction_laws.specs.Laws.{DatabasesAreOrderly, EmptyIsOrderly}

pub empty_orderly : EmptyIsOrderly
empty_orderly limit = record { operators = tt; tables = tt; sets = tt; layout = tt; pending = tt; counts = tt }

pub databases_orderly : DatabasesAreOrderly
databases_orderly k counts pending is counted pends = record {
  operators = is.graph.operators;
  tables = is.graph.tables;
  sets = each_more (λ n. In n (numbers k.graph.edges)) (λ n. n ≤ k.graph.last_operator) (λ n i. each_at (λ m. m ≤ k.graph.last_operator) (numbers k.graph.edges) n i is.graph.operators) _ is.graph.named;
  layout = each_of (λ n. In n (numbers k.graph.edges)) k.layout.operators (λ n i. let l = is.valid.live n i in subst (λ (m : ℕ). In m (numbers k.graph.edges)) (sym l.2) (link_number k.graph.edges l.0 l.1));
  pending = each_of (λ n. In n (numbers k.graph.edges)) pending (λ n i. pends.live n i);
  counts = counted.living;
}
