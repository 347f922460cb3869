-- What moves leave.
use Rattle.std.specs.Prelude.{Ok, Err}
use Rattle.std.proofs.Common.{◌≡◌, ℕ, List, [], ◌∷◌, refl, sym, ap, ◌∙◌, subst}
use Rattle.par_base.specs.declared.limits.Target.{Target}
use Rattle.version_graph.specs.Sets.{Each}
use Rattle.par_base.specs.Checked.{Checked, ◌then◌}
use Rattle.op_any.specs.Operators.{AnyView, any_meaning}
use Rattle.layout_rules.specs.Closed.{IsClosing, closing}
use Rattle.layout_rules.specs.Closing.{StoresTarget}
use Rattle.layout_rules.specs.Laws.{ClosingIsRight}
use Rattle.db_state.specs.Fields.{database_for}
use Rattle.db_state.specs.Laws.{StoredOnce}
use Rattle.engine_layouts.specs.Laid.{Laid, laid_of, materialized, moved_count}
use Rattle.engine_core.specs.Laws.{MovesRestore, MovesStoreTargets, laid_after, moved_by}

-- what a move leaves, where its closing gives this
leaves : (s : Laid) (named : List Target) (answer : ℕ × Laid) (closed : Checked (List ℕ)) → IsClosing s.database.graph s.layout named closed
    → (closed then λ new. Ok (moved_count s new, record s { layout = new })) ≡ Ok answer
    → (answer.1.database ≡ s.database) × Each (StoresTarget s.database.graph answer.1.layout) named
leaves s named answer (Err refusal) closes e = absurd cc
leaves s named answer (Ok new) closes e =
    let same : (moved_count s new, record s { layout = new }) ≡ answer = cc in
    subst (λ (a : ℕ × Laid). (a.1.database ≡ s.database) × Each (StoresTarget s.database.graph a.1.layout) named) same (refl, closes.3)

pub stores_targets : ClosingIsRight AnyView → MovesStoreTargets
stores_targets right s named answer edges is =
    leaves s named answer (closing s.database.graph s.layout named) (right s.database.graph edges s.layout named) is

-- a move changes no data
data_stays : (s : Laid) (named : List Target) (closed : Checked (List ℕ))
    → (laid_after s (closed then λ new. Ok (moved_count s new, record s { layout = new }))).database ≡ s.database
data_stays s named (Ok new) = refl
data_stays s named (Err refusal) = refl

moves_leave_data : (s : Laid) (moves : List (List Target)) → (moved_by s moves).database ≡ s.database
unfolding moved_by
moves_leave_data s [] = refl
moves_leave_data s (named ∷ moves) =
    moves_leave_data (laid_after s (materialized s named)) moves ∙ data_stays s named (closing s.database.graph s.layout named)

pub restores : StoredOnce any_meaning → MovesRestore
restores once old new moves was is led layouts =
    let kept : database_for any_meaning new ≡ database_for any_meaning old = ap (λ (l : Laid). l.database) led ∙ moves_leave_data (laid_of old) moves in
    once old new was is (sym kept) (sym layouts)
