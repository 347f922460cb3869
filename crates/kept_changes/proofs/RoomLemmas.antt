-- Room that is made, table by table.
use Rattle.std.proofs.Common.{◌≡◌, ℕ, zero, suc, ◌≤◌, length, List, [], ◌∷◌, ◌++◌, slice_index_or, slice_set, refl, ap, arith}
use Rattle.row_store.specs.declared.change.Change.{Change}
use Rattle.row_store.specs.Rows.{Rows}
use Rattle.row_store.specs.States.{TableState}
use Rattle.op_law.specs.Tables.{Tables, contents}
use Rattle.row_changes.specs.Changed.{TableChanges}
use Rattle.kept_changes.specs.Room.{HaveRoom, spares, AreAtLeast}
use Rattle.kept_changes.proofs.CapacityLaws.{at_least_same}

-- a table with more room in the place of one
pub at_least_set : (ts : List TableState) (at : ℕ) (t d : TableState) → (slice_index_or ts at d).spare ≤ t.spare → AreAtLeast (spares ts) (spares (slice_set ts at t))
at_least_set [] at t d h = tt
at_least_set (u ∷ ts) zero t d h = (h, at_least_same (spares ts))
at_least_set (u ∷ ts) (suc at) t d h = (omega arith, at_least_set ts at t d h)

-- a table with the same rows in the place of one
pub contents_set : (ts : List TableState) (at : ℕ) (t d : TableState) → t.rows ≡ (slice_index_or ts at d).rows → contents (slice_set ts at t) ≡ contents ts
contents_set [] at t d e = refl
contents_set (u ∷ ts) zero t d e = ap (λ (rows : Rows). rows ∷ contents ts) e
contents_set (u ∷ ts) (suc at) t d e = ap (λ (l : Tables). u.rows ∷ l) (contents_set ts at t d e)

pub no_need : (rs : List ℕ) → HaveRoom rs []
no_need [] = tt
no_need (r ∷ rs) = tt

-- room stays where it grows
pub room_grown : (rs ss : List ℕ) (cs : TableChanges) → AreAtLeast rs ss → HaveRoom rs cs → HaveRoom ss cs
room_grown [] [] cs h room = tt
room_grown [] (s ∷ ss) cs h room = absurd h
room_grown (r ∷ rs) [] cs h room = absurd h
room_grown (r ∷ rs) (s ∷ ss) [] h room = tt
room_grown (r ∷ rs) (s ∷ ss) (c ∷ cs) h room = (omega (arith, h.0, room.0), room_grown rs ss cs h.1 room.1)

-- one table more has room
pub room_more : (ts : List TableState) (cs : TableChanges) (c : List Change) (at : ℕ) (t : TableState) → length cs ≡ at → HaveRoom (spares (slice_set ts at t)) cs → length c ≤ t.spare → HaveRoom (spares (slice_set ts at t)) (cs ++ c ∷ [])
room_more [] cs c at t long room more = tt
room_more (u ∷ ts) [] c zero t long room more = (more, no_need (spares ts))
room_more (u ∷ ts) [] c (suc at) t long room more = absurd (omega (arith, long))
room_more (u ∷ ts) (x ∷ cs) c zero t long room more = absurd (omega (arith, long))
room_more (u ∷ ts) (x ∷ cs) c (suc at) t long room more = (room.0, room_more ts cs c at t (omega (arith, long)) room.1 more)
