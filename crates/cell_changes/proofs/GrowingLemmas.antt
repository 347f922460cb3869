-- The changes of some tables grow, table by table and identifier by identifier.
use Rattle.std.proofs.Common.{◌≡◌, ◌⊎◌, ℕ, zero, suc, ◌+◌, ◌<◌, ◌≤◌, List, [], ◌∷◌, ◌++◌, Option, take, drop, set, get_or, length, refl, ap, sym, ◌∙◌, subst, arith}
use mathlib.Core.Logic.{inl, inr}
use Rattle.par_base.specs.declared.value.Value.{Value}
use Rattle.row_store.specs.declared.change.Change.{Change}
use Rattle.row_store.specs.Changes.{IsAbove}
use Rattle.op_rows.specs.Cells.{Cells, first_cell, other_cells, nth_cell}
use Rattle.op_rows.specs.inner.CellLemmas.{IdsRise}
use Rattle.row_changes.specs.Changed.{TableChanges}
use Rattle.row_changes.specs.Picked.{Lookup, Picks, change_between}
use Rattle.row_changes.proofs.PickLaws.{picks_more, picks_push, picks_same}
use Rattle.cell_changes.specs.Growing.{no_changes, AddsCell, AddsCells, AllAbove, PicksCells}

-- one table more without changes
pub no_changes_next : (k : ℕ) → no_changes k ++ [] ∷ [] ≡ no_changes (k + 1)
no_changes_next zero = refl
no_changes_next (suc k) = let e : suc k + 1 ≡ suc (k + 1) = omega arith in rw e (ap (λ (cs : TableChanges). [] ∷ cs) (no_changes_next k))

pub no_changes_long : (k : ℕ) → length (no_changes k) ≡ k
no_changes_long zero = refl
no_changes_long (suc k) = ap suc (no_changes_long k)

-- ---- table by table

-- the first tables have their change, and the others are as they were
abbrev pub AddsUpTo : ℕ → ℕ → Cells → Cells → TableChanges → TableChanges → Type 0
AddsUpTo zero id old new before now = now ≡ before
AddsUpTo (suc i) id old new [] now = now ≡ []
AddsUpTo (suc i) id old new (c ∷ cs) [] = ⊥
AddsUpTo (suc i) id old new (c ∷ cs) (d ∷ ds) = AddsCell id (first_cell old) (first_cell new) c d × AddsUpTo i id (other_cells old) (other_cells new) cs ds

nth_first : (cells : Cells) → nth_cell zero cells ≡ first_cell cells
nth_first [] = refl
nth_first (c ∷ cs) = refl

nth_other : (i : ℕ) (cells : Cells) → nth_cell (suc i) cells ≡ nth_cell i (other_cells cells)
nth_other i [] = refl
nth_other i (c ∷ cs) = refl

-- one table more
pub adds_next : (i id : ℕ) (old new : Cells) (before now : TableChanges) (d x : List Change) → i < length now → AddsUpTo i id old new before now
    → AddsCell id (nth_cell i old) (nth_cell i new) (get_or now i d) x → AddsUpTo (i + 1) id old new before (set now i x)
adds_next zero id old new before [] d x h up one = absurd (omega arith)
adds_next zero id old new [] (n ∷ ns) d x h up one = absurd (cc)
adds_next zero id old new (c ∷ cs) (n ∷ ns) d x h up one =
    let same : n ≡ c = ap (λ (l : TableChanges). get_or l 0 d) up in
    let rest : ns ≡ cs = ap (λ (l : TableChanges). drop 1 l) up in (
      subst (λ (b : List Change). AddsCell id (first_cell old) (first_cell new) b x) same
          (subst (λ (o : Option (List Value)). AddsCell id o (first_cell new) n x) (nth_first old)
          (subst (λ (w : Option (List Value)). AddsCell id (nth_cell zero old) w n x) (nth_first new) one)),
      rest,
    )
adds_next (suc i) id old new [] now d x h up one = absurd (let e = ap length up in omega (arith, e))
adds_next (suc i) id old new (c ∷ cs) [] d x h up one = absurd up
adds_next (suc i) id old new (c ∷ cs) (n ∷ ns) d x h up one =
    let e : suc i + 1 ≡ suc (i + 1) = omega arith in
    rw e (
      up.0,
      adds_next i id (other_cells old) (other_cells new) cs ns d x (omega arith) up.1
          (subst (λ (o : Option (List Value)). AddsCell id o (nth_cell i (other_cells new)) (get_or ns i d) x) (nth_other i old)
          (subst (λ (w : Option (List Value)). AddsCell id (nth_cell (suc i) old) w (get_or ns i d) x) (nth_other i new) one)),
    )

-- the next table is as it was
pub still_above : (i id : ℕ) (old new : Cells) (before now : TableChanges) (d : List Change) → i < length now → AllAbove before id → AddsUpTo i id old new before now → IsAbove (get_or now i d) id
still_above zero id old new before [] d h above up = absurd (omega arith)
still_above zero id old new [] (n ∷ ns) d h above up = absurd (cc)
still_above zero id old new (c ∷ cs) (n ∷ ns) d h above up = subst (λ (l : List Change). IsAbove l id) (sym (ap (λ (l : TableChanges). get_or l 0 d) up)) above.0
still_above (suc i) id old new [] now d h above up = absurd (let e = ap length up in omega (arith, e))
still_above (suc i) id old new (c ∷ cs) [] d h above up = absurd up
still_above (suc i) id old new (c ∷ cs) (n ∷ ns) d h above up = still_above i id (other_cells old) (other_cells new) cs ns d (omega arith) above.1 up.1

-- all tables
pub adds_all : (i id : ℕ) (old new : Cells) (before now : TableChanges) → length now ≤ i → AddsUpTo i id old new before now → AddsCells id old new before now
adds_all zero id old new [] [] h up = tt
adds_all zero id old new (c ∷ cs) [] h up = absurd (cc)
adds_all zero id old new before (n ∷ ns) h up = absurd (omega arith)
adds_all (suc i) id old new [] [] h up = tt
adds_all (suc i) id old new [] (n ∷ ns) h up = absurd (cc)
adds_all (suc i) id old new (c ∷ cs) [] h up = absurd up
adds_all (suc i) id old new (c ∷ cs) (n ∷ ns) h up = (up.0, adds_all i id (other_cells old) (other_cells new) cs ns (omega arith) up.1)

-- ---- identifier by identifier

pub picks_none : (f g : ℕ → Cells) (k : ℕ) → PicksCells f g [] (no_changes k)
picks_none f g zero = tt
picks_none f g (suc k) = (refl, picks_none (λ id. other_cells (f id)) (λ id. other_cells (g id)) k)

pub cells_above : (f g : ℕ → Cells) (ids : List ℕ) (i : ℕ) (cs : TableChanges) → IdsRise 0 ids → i < length ids → PicksCells f g (take i ids) cs → AllAbove cs (get_or ids i 0)
cells_above f g ids i [] rise h p = tt
cells_above f g ids i (c ∷ cs) rise h p = (
  picks_push (λ id. first_cell (f id)) (λ id. first_cell (g id)) ids i c rise h p.0,
  cells_above (λ id. other_cells (f id)) (λ id. other_cells (g id)) ids i cs rise h p.1,
)

one_more : (f g : Lookup) (ids : List ℕ) (i : ℕ) (c d : List Change) → i < length ids → Picks f g (take i ids) c → AddsCell (get_or ids i 0) (f (get_or ids i 0)) (g (get_or ids i 0)) c d → Picks f g (take (i + 1) ids) d
one_more f g ids i c d h p (inl same) = subst (λ (l : List Change). Picks f g (take (i + 1) ids) l) (sym same.1) (picks_same f g ids i c h p same.0)
one_more f g ids i c d h p (inr other) = subst (λ (l : List Change). Picks f g (take (i + 1) ids) l) (sym other.1) (picks_more f g ids i c h p other.0)

-- one identifier more
pub cells_more : (f g : ℕ → Cells) (ids : List ℕ) (i : ℕ) (cs ds : TableChanges) → i < length ids → PicksCells f g (take i ids) cs → AddsCells (get_or ids i 0) (f (get_or ids i 0)) (g (get_or ids i 0)) cs ds → PicksCells f g (take (i + 1) ids) ds
cells_more f g ids i [] [] h p adds = tt
cells_more f g ids i [] (d ∷ ds) h p adds = absurd adds
cells_more f g ids i (c ∷ cs) [] h p adds = absurd adds
cells_more f g ids i (c ∷ cs) (d ∷ ds) h p adds = (
  one_more (λ id. first_cell (f id)) (λ id. first_cell (g id)) ids i c d h p.0 adds.0,
  cells_more (λ id. other_cells (f id)) (λ id. other_cells (g id)) ids i cs ds h p.1 adds.1,
)

-- a slice that was written takes the place of what it was taken from
pub written_back : {A : Type 0} (n : ℕ) (new old : List A) → length new ≡ n → length old ≡ n → take n (new ++ drop (length new) old) ≡ new
written_back {A = A} n [] old e h = let k : n ≡ zero = omega (arith, e) in rw k refl
written_back {A = A} n (x ∷ xs) [] e h = absurd (omega arith)
written_back {A = A} n (x ∷ xs) (y ∷ ys) e h = let k : n ≡ suc (length xs) = omega (arith, e) in rw k (ap (λ (rest : List A). x ∷ rest) (written_back (length xs) xs ys refl (omega (arith, h, k))))

-- the changes after one more identifier, where `view` is the slice of those before it
pub pass_more : (f g : ℕ → Cells) (ids : List ℕ) (i n : ℕ) (before view new : TableChanges) (old now : Cells) → i < length ids → view ≡ before → PicksCells f g (take i ids) before → length new ≡ n → length before ≡ n
    → old ≡ f (get_or ids i 0) → now ≡ g (get_or ids i 0) → AddsCells (get_or ids i 0) old now view new → PicksCells f g (take (i + 1) ids) (take n (new ++ drop (length new) before))
pass_more f g ids i n before view new old now h same picks long many o w adds =
    let id = get_or ids i 0 in
    subst (λ (cs : TableChanges). PicksCells f g (take (i + 1) ids) cs) (sym (written_back n new before long many))
    (cells_more f g ids i before new h picks
    (subst (λ (cs : TableChanges). AddsCells id (f id) (g id) cs new) same
    (subst (λ (cells : Cells). AddsCells id cells (g id) view new) o
    (subst (λ (cells : Cells). AddsCells id old cells view new) w adds))))

pub pass_long : (n : ℕ) (new before : TableChanges) → length new ≡ n → length before ≡ n → length (take n (new ++ drop (length new) before)) ≡ length before
pass_long n new before long many = ap length (written_back n new before long many) ∙ long ∙ sym many
