-- What R shows of S and T, in the words of the tables.
use Rattle.std.proofs.Common.{◌≡◌, ℕ, ◌-◌, ◌⊎◌, List, Bool, true, false, not, ◌&&◌, Some, None, refl, ap, ◌∙◌}
use mathlib.Core.Logic.{inl, inr}
use Rattle.par_base.specs.declared.value.Value.{Value}
use Rattle.par_base.specs.declared.value.Value.TheVariants.{Null, Int, Text, Reference}
use Rattle.row_store.specs.Rows.{Rows, row_of}
use Rattle.id_memory.specs.Pairs.{pair_of}
use Rattle.row_parts.specs.RowCells.{Cell, is_there, row_or, map_cell, by_test, by_option}
use Rattle.op_tables.specs.SideTables.{first_table, second_table}
use Rattle.op_tables.specs.inner.CellFacts.{is_some}
use Rattle.foreign_keys.specs.KeyParts.{FkParts}
use Rattle.foreign_keys.specs.References.{goal_of, at_goal, referred, far_part}
use Rattle.foreign_keys.specs.inner.ReferenceLemmas.{referred_by, referrer}
use Rattle.op_fk_decompose.specs.Columns.{column_parts, DecomposeFits}
use Rattle.op_fk_decompose.specs.Decompose.{alone, joined_in}
use Rattle.op_fk_decompose.specs.inner.ColumnLemmas.{fits}
use Rattle.op_fk_decompose.specs.inner.DecomposeLaws.{target_of}
use Rattle.op_fk_join.specs.Columns.{side_parts}
use Rattle.op_fk_join.specs.Join.{joined_row}
use Rattle.pair_rows.specs.Shown.{join_cells, IsJoined}
use Rattle.pair_rows.specs.Sides.{table_at}
use Rattle.pair_rows.specs.inner.ShownLaws.{row_for, joined_found, pair_is_there}
use Rattle.key_laws.specs.SidesShown.{ReferringRowIsShown, AloneRowIsShown, JoinedRowIsShown, PairIsShown}
use Rattle.key_laws.proofs.ReferringLemmas.{goal_is_reference}

-- where a foreign key leads, if it does
leads : (t : Rows) (f : Value) (q : ℕ) (u : List Value) → f ≡ Reference q → row_of t q ≡ Some u → at_goal t (goal_of f) ≡ Some u
leads t f q u is at = ap (λ (x : Value). at_goal t (goal_of x)) is ∙ at

-- and if it does not
leads_nowhere : (t : Rows) (f : Value) → ((q : ℕ) (u : List Value) → f ≡ Reference q → row_of t q ≡ Some u → ⊥) → at_goal t (goal_of f) ≡ None
leads_nowhere t Null none = refl
leads_nowhere t (Int i) none = refl
leads_nowhere t (Text x) none = refl
leads_nowhere t (Reference q) none = by_option (row_of t q) (λ e. e) (λ u e. absurd (none q u refl e))

-- where nothing is joined
nothing_joined : (k : FkParts) (c : Cell) (al : Bool) (t : Rows) → al ≡ false → joined_in k None c al t ≡ None
nothing_joined k c true t e = absurd (cc)
nothing_joined k c false t e = refl

-- the alone one is
alone_is : (c : Cell) (b : Cell) (r : Bool) (u : List Value) → c ≡ Some u → b ≡ None → r ≡ false → (is_there c && (not (is_there b) && not r)) ≡ true
alone_is c b r u e f g = rw (e, f, g) refl

-- and one that is none is not
not_there : (c b : Cell) (r : Bool) → (c ≡ None) ⊎ (r ≡ true) → (is_there c && (not (is_there b) && not r)) ≡ false
not_there None b r h = refl
not_there (Some u) (Some v) r h = refl
not_there (Some u) None true h = refl
not_there (Some u) None false (inl e) = absurd (cc)
not_there (Some u) None false (inr e) = absurd (cc)

pub referring_shown : ReferringRowIsShown
referring_shown first second place hs ht sides pair id v own =
    let k = column_parts first second place in
    let s = first_table sides.target in
    let t = second_table sides.target in
    let here : row_of (first_table sides.source) id ≡ Some (k.join (k.part v) (far_part k t (k.key v))) =
    pair.related.1 id ∙ ap (λ (c : Cell). joined_in k c (row_of t id) (alone k s t id) t) own in (
      λ q u lead. here ∙ ap (λ (c : Cell). Some (k.join (k.part v) (row_or k.null_second c))) (leads t (k.key v) q u lead.0 lead.1),
      λ none. here ∙ ap (λ (c : Cell). Some (k.join (k.part v) (row_or k.null_second c))) (leads_nowhere t (k.key v) (λ q u is at. none q u (is, at))),
    )

pub alone_shown : AloneRowIsShown
alone_shown first second place hs ht sides pair id none =
    let k = column_parts first second place in
    let s = first_table sides.target in
    let t = second_table sides.target in
    let rise = (target_of (DecomposeFits first second place) k _ _ _ _ (fits first second place) hs ht sides.target pair.fits pair.target_of).rise0 in
    let here : row_of (first_table sides.source) id ≡ joined_in k None (row_of t id) (alone k s t id) t =
    pair.related.1 id ∙ ap (λ (c : Cell). joined_in k c (row_of t id) (alone k s t id) t) none in (
      λ u at never.
          let unreferred : referred k s id ≡ false = by_test (referred k s id)
          (λ e. let f = referrer k 0 s id rise e in absurd (never (record { id = f.id; row = f.row; at = f.at; key = goal_is_reference (k.key f.row) id f.goal })))
          (λ e. e) in
          here ∙ ap (λ (b : Bool). joined_in k None (row_of t id) b t) (alone_is (row_of t id) (row_of s id) (referred k s id) u at none unreferred)
          ∙ ap (map_cell (k.join k.null_first)) at,
      λ gone. here ∙ nothing_joined k (row_of t id) (alone k s t id) t (elim gone [
        | inl e ↦ not_there (row_of t id) (row_of s id) (referred k s id) (inl e)
        | inr f ↦ not_there (row_of t id) (row_of s id) (referred k s id) (inr (referred_by k s f.id id f.row f.at (ap goal_of f.key)))
      ]),
    )

pub joined_shown : JoinedRowIsShown
joined_shown first second place hs ht sides pair id =
    let k = side_parts (first - 1) second place in
    let s = first_table sides.source in
    let t = second_table sides.source in (
      λ v u q own lead.
          pair.related.1 id ∙ ap (λ (c : Cell). joined_row k c t) own ∙ ap (map_cell (k.join (k.part v))) (leads t (k.key v) q u lead.0 lead.1),
      λ none. pair.related.1 id ∙ by_option (row_of s id)
          (λ e. ap (λ (c : Cell). joined_row k c t) e)
          (λ v e. ap (λ (c : Cell). joined_row k c t) e ∙ ap (map_cell (k.join (k.part v))) (leads_nowhere t (k.key v) (λ q u is at. none v u q e (is, at)))),
    )

pub pair_shown : PairIsShown
pair_shown j hs ht sides pair id =
    let s = table_at 0 sides.source in
    let t = table_at 1 sides.source in
    let m = sides.memory in
    let is : IsJoined j s t (table_at 0 sides.target) m = pair.related in
    let found : row_of (table_at 0 sides.target) id ≡ row_for j s t (pair_of m id) = ap (λ (rows : Rows). row_of rows id) is.rows ∙ joined_found j s t m id is.there in (
      λ a b at.
          let both = pair_is_there j s t m id a b is.there at in
          is_some (row_of s a) both.0 (λ u one. is_some (row_of t b) both.1 (λ v other. record {
            first = u;
            second = v;
            at = one;
            other = other;
            shown = found ∙ ap (row_for j s t) at ∙ ap (λ (c : Cell). join_cells j c (row_of t b)) one ∙ ap (λ (c : Cell). join_cells j (Some u) c) other;
          })),
      λ none. found ∙ ap (row_for j s t) none,
    )
