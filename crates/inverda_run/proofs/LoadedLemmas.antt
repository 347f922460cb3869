-- What is loaded can be begun from.
use Rattle.std.proofs.Common.{ℕ, List, inl, inr, sym, subst}
use Rattle.serde_json.specs.Data.{Data}
use Rattle.op_any.specs.BuiltOn.{AreBuiltOn}
use Rattle.layout_planner.specs.Counts.{AreCounts}
use Rattle.layout_planner.specs.declared.planning.TableCount.{TableCount}
use Rattle.migration.specs.Pending.{IsPending}
use Rattle.migration.proofs.PendingLaws.{none_pending}
use Rattle.dump_formats.specs.Stands.{StandsFor}
use Rattle.dump_formats.specs.declared.loaded.Loaded.{Loaded}

-- its operators are built
pub loaded_built : (d : Data) (l : Loaded) → StandsFor d l → AreBuiltOn l.database.ids.next l.database.graph.edges
loaded_built d l (inl first) = first.database.texts.1
loaded_built d l (inr second) = second.database.texts.1

-- what is pending leads on from its layout
pub loaded_leads : (d : Data) (l : Loaded) → StandsFor d l → IsPending l.database.graph.edges l.database.layout.operators l.pending
loaded_leads d l (inl first) =
    let is = first.database.database in
    subst (λ (p : List ℕ). IsPending l.database.graph.edges l.database.layout.operators p) (sym first.pending) (none_pending l.database.graph.edges is.graph.edges l.database.layout.operators is.ascending is.valid)
loaded_leads d l (inr second) = second.leads

-- what is counted are tables that live
pub loaded_counted : (d : Data) (l : Loaded) → StandsFor d l → AreCounts l.database.graph.edges l.counts
loaded_counted d l (inl first) = subst (λ (c : List TableCount). AreCounts l.database.graph.edges c) (sym first.counts) (record { ascending = tt; living = tt; accessed = tt })
loaded_counted d l (inr second) = second.counted
