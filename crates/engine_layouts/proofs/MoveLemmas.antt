-- A move is what the model says of MATERIALIZE.
use Rattle.std.specs.Prelude.{Result, Ok, Err}
use Rattle.std.proofs.Common.{◌≡◌, ℕ, List, refl, sym, ap, ◌∙◌}
use Rattle.par_base.specs.declared.fault.Fault.{Fault}
use Rattle.par_base.specs.declared.fault.Fault.TheVariants.{Refused, Memory}
use Rattle.par_base.specs.declared.limits.Target.{Target}
use Rattle.par_base.specs.declared.refusal.Refusal.{Refusal}
use Rattle.layout_rules.specs.declared.layout.Layout.{Layout}
use Rattle.par_base.specs.Checked.{◌then◌}
use Rattle.engine_state.specs.Operators.{AnyView, any_meaning}
use Rattle.db_state.specs.Fields.{database_for}
use Rattle.db_state.specs.declared.parts.Parts.{Parts}
use Rattle.migration.specs.MoveAnswers.{ComputesMove}
use Rattle.migration.specs.Sides.{flip_count}
use Rattle.migration.specs.declared.moved.Moved.{Moved}
use Rattle.engine_state.specs.AnyDatabase.{AnyDatabase}
use Rattle.engine_layouts.specs.Laid.{Laid, Materializes, laid_of, moved_count}

-- what follows the closing
abbrev then_laid : Laid → Result (List ℕ) Refusal → Result (ℕ × Laid) Refusal
then_laid s closed = closed then λ new. Ok (moved_count s new, record s { layout = new })

pub move_refused : (p : Parts AnyView) (named : List Target) (fault : Fault Refusal) → ComputesMove p named (Err fault) → Materializes (laid_of p) named (Err fault) (laid_of p)
move_refused p named (Refused r) computes = (ap (then_laid (laid_of p)) computes, refl)
move_refused p named (Memory memory) computes = refl

pub move_made : (p n : Parts AnyView) (named : List Target) (moved : Moved) (count : ℕ) → ComputesMove p named (Ok moved) → moved.flips ≡ flip_count p.graph.edges p.layout.operators moved.layout.operators
    → database_for any_meaning n ≡ database_for any_meaning p → n.layout ≡ moved.layout → count ≡ moved.flips → Materializes (laid_of p) named (Ok count) (laid_of n)
move_made p n named moved count computes flips same layout told =
    ap (then_laid (laid_of p)) computes
    ∙ ap (λ (k : ℕ). Ok (k, record (laid_of p) { layout = moved.layout.operators })) (sym (told ∙ flips))
    ∙ ap (λ (d : AnyDatabase). Ok (count, record { database = d; layout = moved.layout.operators })) (sym same)
    ∙ ap (λ (l : Layout). Ok (count, record { database = database_for any_meaning n; layout = l.operators })) (sym layout)
