-- All identifiers together are a footprint.
use Rattle.std.specs.Prelude.{nat_lt}
use Rattle.std.proofs.Common.{◌≡◌, ℕ, zero, suc, ◌≤◌, ◌==◌, List, [], ◌∷◌, Bool, true, false, not, length, Option, Some, None, IsSome, refl, ap, sym, ◌∙◌, subst, arith}
use Rattle.std.proofs.lemmas.Bool.{false≢true, eq-eqb, or_right}
use Rattle.std.proofs.lemmas.Bool.Decides.{nat_tests}
use mathlib.Core.Logic.{inl, inr}
use Rattle.par_base.specs.declared.value.Value.{Value}
use Rattle.row_store.specs.Rows.{Rows, row_of}
use Rattle.op_law.specs.Tables.{Tables}
use Rattle.op_law.specs.Identifiers.{ids_over}
use Rattle.op_law.specs.Laws.{HalfLaws}
use Rattle.op_law.specs.Local.{only, rows_only}
use Rattle.pair_parts.specs.Parts.{memory_only, part_of_pair}
use Rattle.pair_parts.proofs.MemoryLaws.{part_without}
use Rattle.op_law.specs.Meaning.{Mapped, Meaning, PairState}
use Rattle.op_law.specs.Premises.{SomeMap}
use Rattle.op_law.specs.Sound.{HasRow}
use Rattle.op_rows.specs.inner.CellLemmas.{has_id, none_at, rise_ids}
use Rattle.op_rows.specs.Cells.{Cells, cells_at, nones}
use Rattle.op_law.proofs.OnlyLaws.{by_test}
use Rattle.op_rows.specs.inner.Tabulated.{all_rise, tables_long}
use Rattle.row_changes.specs.Changed.{changed_tables}
use Rattle.operator_changes.specs.Footprint.{passes}
use Rattle.operator_changes.specs.Laws.{WholeIsFootprint}
use Rattle.row_changes.specs.Touched.{touched_over}
use Rattle.operator_changes.proofs.FootLemmas.{has_passes}
use Rattle.row_changes.proofs.TouchedLaws.{each_pass, rise_over, stays_over}

first_row : (r : ℕ × List Value) (rs : Rows) → IsSome (row_of (r ∷ rs) r.0)
first_row r rs = let own = eq-eqb r.0 r.0 refl in rw own refl

later_row : (r : ℕ × List Value) (rs : Rows) (id : ℕ) → IsSome (row_of rs id) → IsSome (row_of (r ∷ rs) id)
later_row r rs id has = by_test (r.0 == id) (λ e. rw e refl) (λ e. rw e has)

rows_all : (P : ℕ → Bool) (rows : Rows) → ((id : ℕ) → IsSome (row_of rows id) → P id ≡ true) → rows_only P rows ≡ rows
rows_all P [] h = refl
rows_all P (r ∷ rs) h =
    let own = h r.0 (first_row r rs) in
    let rest = rows_all P rs (λ id has. h id (later_row r rs id has)) in
    rw own (ap (λ (l : Rows). r ∷ l) rest)

rows_none : (P : ℕ → Bool) (rows : Rows) → ((id : ℕ) → IsSome (row_of rows id) → P id ≡ true) → rows_only (λ q. not (P q)) rows ≡ []
rows_none P [] h = refl
rows_none P (r ∷ rs) h =
    let own : not (P r.0) ≡ false = ap not (h r.0 (first_row r rs)) in
    rw own (rows_none P rs (λ id has. h id (later_row r rs id has)))

only_all : (P : ℕ → Bool) (ts : Tables) → ((id : ℕ) → HasRow id ts → P id ≡ true) → only P ts ≡ ts
only_all P [] h = refl
only_all P (t ∷ ts) h = let a = rows_all P t (λ id has. h id (inl has)) in let b = only_all P ts (λ id has. h id (inr has)) in cc

nothing : ℕ → Tables
nothing zero = []
nothing (suc k) = [] ∷ nothing k

only_none : (P : ℕ → Bool) (ts : Tables) → ((id : ℕ) → HasRow id ts → P id ≡ true) → only (λ q. not (P q)) ts ≡ nothing (length ts)
unfolding nothing
only_none P [] h = refl
only_none P (t ∷ ts) h = let a = rows_none P t (λ id has. h id (inl has)) in let b = only_none P ts (λ id has. h id (inr has)) in cc

-- a row's identifier is listed
abbrev first_of : Cells → Option (List Value)
first_of [] = None
first_of (c ∷ cs) = c

abbrev other_of : Cells → Cells
other_of [] = []
other_of (c ∷ cs) = cs

some_none : {A : Type 0} (o : Option A) → IsSome o → o ≡ None → ⊥
some_none None h e = absurd (false≢true h)
some_none (Some x) h e = absurd (cc)

no_row : (ts : Tables) (id : ℕ) → cells_at ts id ≡ nones (length ts) → HasRow id ts → ⊥
no_row [] id e has = absurd has
no_row (t ∷ ts) id e (inl own) = some_none (row_of t id) own (ap first_of e)
no_row (t ∷ ts) id e (inr other) = no_row ts id (ap other_of e) other

listed : (ts : Tables) (ids : List ℕ) (id : ℕ) → HasRow id ts → has_id (ids_over ts ids) id ≡ true
listed ts ids id has = by_test (has_id (ids_over ts ids) id) (λ e. e) (λ e. absurd (no_row ts id (none_at ts ids id e).0 has))

stays : (ts : Tables) (ids : List ℕ) (id : ℕ) → has_id ids id ≡ true → has_id (ids_over ts ids) id ≡ true
stays ts ids id has = by_test (has_id (ids_over ts ids) id) (λ e. e) (λ e. absurd (false≢true (sym (none_at ts ids id e).1 ∙ has)))

not_drawn : (ids : List ℕ) (n id : ℕ) → n ≤ id → passes ids n id ≡ true
not_drawn ids n id h = let no : nat_lt id n ≡ false = grind (arith, nat_tests) in or_right (has_id ids id) (not (nat_lt id n)) (ap not no)

same_sides : (p : PairState) (s t : Tables) → s ≡ p.source → t ≡ p.target → record { source = s; target = t; memory = p.memory } ≡ p
same_sides p s t a b = ap (λ (x : Tables). record { source = x; target = t; memory = p.memory }) a ∙ ap (λ (x : Tables). record { source = p.source; target = x; memory = p.memory }) b

pub whole_footprint : (m : Meaning) → HalfLaws m → WholeIsFootprint m
whole_footprint m laws near p n may none none_new =
    let whole = changed_tables p.source near in
    let base : List ℕ = ids_over whole (ids_over p.source (ids_over p.target [])) in
    let ids : List ℕ = touched_over near base in
    let P : ℕ → Bool = passes (touched_over near (ids_over (changed_tables p.source near) (ids_over p.source (ids_over p.target [])))) n in
    let to : Mapped = m.forward whole p n in
    let pair = may.may.sound.pair in
    let in_base : (id : ℕ) → has_id base id ≡ true → P id ≡ true = λ id has. has_passes ids n id (stays_over near base id has) in
    let in_whole : (id : ℕ) → HasRow id whole → P id ≡ true = λ id has. in_base id (listed whole (ids_over p.source (ids_over p.target [])) id has) in
    let in_source : (id : ℕ) → HasRow id p.source → P id ≡ true = λ id has. in_base id (stays whole (ids_over p.source (ids_over p.target [])) id (listed p.source (ids_over p.target []) id has)) in
    let in_target : (id : ℕ) → HasRow id p.target → P id ≡ true = λ id has. in_base id (stays whole (ids_over p.source (ids_over p.target [])) id (stays p.source (ids_over p.target []) id (listed p.target [] id has))) in
    let in_far : (id : ℕ) → HasRow id to.far → P id ≡ true =
    λ id has. elim ((laws.below may.hs may.ht whole p n may.may).drawn id has) [
      | inl own ↦ in_whole id own
      | inr old ↦ elim old [
        | inl side ↦ elim side [ inl s ↦ in_source id s | inr t ↦ in_target id t ]
        | inr new ↦ not_drawn ids n id new
      ]
    ] in
    let whole_same : only P whole ≡ whole = only_all P whole in_whole in
    let pair_same : part_of_pair P p ≡ p =
    let a = only_all P p.source in_source in let b = only_all P p.target in_target in sym (part_without P p none) ∙ same_sides p (only P p.source) (only P p.target) a b in
    let far_same : only P to.far ≡ to.far = only_all P to.far in_far in
    let forward_same : m.forward (only P whole) (part_of_pair P p) n ≡ to = ap (λ (ts : Tables). m.forward ts (part_of_pair P p) n) whole_same ∙ ap (λ (x : PairState). m.forward whole x n) pair_same in
    let long : length to.far ≡ length p.target = tables_long may.ht to.far (laws.kept may.hs may.ht whole p n may.may).target_of ∙ sym (tables_long may.ht p.target pair.target_of) in
    record {
      rise = rise_over near base (rise_ids whole _ (all_rise may.hs whole may.may.near_of) (rise_ids p.source _ (all_rise may.hs p.source pair.source_of) (rise_ids p.target [] (all_rise may.ht p.target pair.target_of) tt)));
      touches = each_pass near base (has_id ids) (λ id e. e);
      may = subst (λ (x : PairState). SomeMap m (only P whole) x n) (sym pair_same) (subst (λ (ts : Tables). SomeMap m ts p n) (sym whole_same) (record { hs = may.hs; ht = may.ht; may = may.may }));
      far = ap (λ (x : Mapped). x.far) forward_same ∙ sym far_same;
      memory = ap (λ (x : Mapped). x.memory) forward_same ∙ none_new ∙ sym (ap (memory_only P) none_new);
      next = ap (λ (x : Mapped). x.next) forward_same;
      rest = only_none P to.far in_far ∙ ap nothing long ∙ sym (only_none P p.target in_target);
      memory_rest = ap (memory_only (λ q. not (P q))) (none_new ∙ sym none);
    }
