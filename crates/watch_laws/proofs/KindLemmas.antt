-- Which statements are of watches.
use Rattle.std.proofs.Common.{◌≡◌, ℕ, List, false, refl}
use Rattle.statements.specs.Views.{StatementView, CreateVersion, DropVersion, Insert, Import, Update, Delete, Select, Materialize, Step, ShowLayout, Use, Session, Advise, Watch, Unwatch, Begin, Commit, Rollback}
use Rattle.engine_feeds.specs.Act.{act, acted_by}
use Rattle.engine_feeds.specs.Standing.{Standing}
use Rattle.watch_laws.specs.Beside.{is_of_watches}

-- a statement is WATCH, UNWATCH, or acts beside watches
pub data Kind (x : StatementView) : Type 0 where
  watching : (name : List ℕ) → x ≡ Watch name → Kind x
  unwatching : (number : ℕ) → x ≡ Unwatch number → Kind x
  acting : is_of_watches x ≡ false → ((s : Standing) → act s x ≡ acted_by s x) → Kind x

pub kind_of : (x : StatementView) → Kind x
kind_of (CreateVersion name from operators) = acting refl (λ s. refl)
kind_of (DropVersion name) = acting refl (λ s. refl)
kind_of (Insert table rows) = acting refl (λ s. refl)
kind_of (Import table bytes) = acting refl (λ s. refl)
kind_of (Update table assignments filter) = acting refl (λ s. refl)
kind_of (Delete table filter) = acting refl (λ s. refl)
kind_of (Select table items filter csv) = acting refl (λ s. refl)
kind_of (Materialize named in_steps) = acting refl (λ s. refl)
kind_of Step = acting refl (λ s. refl)
kind_of ShowLayout = acting refl (λ s. refl)
kind_of (Use name) = acting refl (λ s. refl)
kind_of (Session number) = acting refl (λ s. refl)
kind_of (Advise name) = acting refl (λ s. refl)
kind_of (Watch name) = watching name refl
kind_of (Unwatch number) = unwatching number refl
kind_of Begin = acting refl (λ s. refl)
kind_of Commit = acting refl (λ s. refl)
kind_of Rollback = acting refl (λ s. refl)
