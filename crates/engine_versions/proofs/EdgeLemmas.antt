-- What the operators of an evolution build, one after the other, suits the graph.
use Rattle.std.proofs.Common.{◌≡◌, ℕ, ◌+◌, ◌<◌, ◌≤◌, List, [], ◌∷◌, ◌++◌, length, Bool, true, false, Option, Some, None, Ok, Err, refl, sym, ap, subst, ◌∙◌, arith}
use Rattle.std.specs.Prelude.{◌||◌, nat_le, nat_lt, if◌then◌else◌}
use Rattle.std.proofs.lemmas.Bool.{leb-false, ltb-false, or_parts}
use Rattle.std.proofs.lemmas.List.{append_assoc}
use Rattle.statements.specs.Views.{OpView}
use Rattle.version_graph.specs.Sets.{Each}
use Rattle.version_graph.specs.Tables.{IsHeading, FitInOrder, headings_after}
use Rattle.version_graph.specs.Edges.{operator_limit}
use Rattle.version_graph.specs.Evolve.{limit_at, limit_passed, later, targets_in, number_limit}
use Rattle.version_graph.specs.declared.parts.Heading.{Heading}
use Rattle.version_graph.specs.declared.parts.Edge.{Edge}
use Rattle.version_graph.proofs.HeadingLaws.{headings_stay}
use Rattle.par_base.specs.Checked.{Checked, ◌then◌}
use Rattle.op_any.specs.Operators.{AnyView}
use Rattle.op_any.specs.Build.{built}
use Rattle.op_build.proofs.BuiltLaws.{built_suits}
use Rattle.version_model.specs.Evolving.{HasFewTables}
use Rattle.engine_versions.specs.declared.edges.Counts.{Counts}
use Rattle.engine_versions.specs.Evolve.{edges_on, room_for, target_count, with_one}
use Rattle.engine_versions.proofs.ChainLaws.{both_give, ok_is, then_is}
use Rattle.engine_versions.proofs.TargetLemmas.{targets_counted}

-- ---- limits

neither : (a b : Bool) (m n : ℕ) → (if a then Some m else (if b then Some n else None)) ≡ None → (a ≡ false) × (b ≡ false)
neither true b m n h = absurd (cc)
neither false true m n h = absurd (cc)
neither false false m n h = (refl, refl)

limit_none : (live operator table targets : ℕ) → limit_at live operator table targets ≡ None → (operator < number_limit) × (table + targets ≤ number_limit)
limit_none live operator table targets h =
    let p = neither (nat_le operator_limit live) (nat_le number_limit operator || nat_lt number_limit (table + targets)) operator_limit number_limit h in
    let q = or_parts (nat_le number_limit operator) (nat_lt number_limit (table + targets)) p.1 in
    (leb-false number_limit operator q.0, ltb-false number_limit (table + targets) q.1)

later_none : (now rest : Option ℕ) → later now rest ≡ None → (now ≡ None) × (rest ≡ None)
later_none None rest h = (refl, h)
later_none (Some n) rest h = absurd (cc)

none_later : (now rest : Option ℕ) → now ≡ None → rest ≡ None → later now rest ≡ None
none_later None rest a b = b
none_later (Some n) rest a b = absurd (cc)

-- where no limit is passed, the last numbers don't pass theirs
pub numbers_fit : {O : Type 0} (live operator table : ℕ) (e : Edge O) (edges : List (Edge O)) → limit_passed live operator table (e ∷ edges) ≡ None
    → (operator + length (e ∷ edges) ≤ number_limit) × (table + targets_in (e ∷ edges) ≤ number_limit)
numbers_fit live operator table e [] h =
    let p = later_none (limit_at live operator table (length e.targets)) None h in
    let q = limit_none live operator table (length e.targets) p.0 in
    (omega (arith, q.0), omega (arith, q.1))
numbers_fit live operator table e (f ∷ edges) h =
    let p = later_none (limit_at live operator table (length e.targets)) (limit_passed (live + 1) (operator + 1) (table + length e.targets) (f ∷ edges)) h in
    let r = numbers_fit (live + 1) (operator + 1) (table + length e.targets) f edges p.1 in
    (omega (arith, r.0), omega (arith, r.1))

room_found : (counts : Counts) (text : OpView) (u : Unit {0}) → room_for counts text ≡ Ok u → limit_at counts.live counts.operator counts.table (target_count text) ≡ None
room_found counts text u h = is (limit_at counts.live counts.operator counts.table (target_count text)) h
  where
    is : (o : Option ℕ) → Rattle.engine_versions.specs.Evolve.within_limit o ≡ Ok u → o ≡ None
    is (Some limit) e = absurd (cc)
    is None e = refl

-- ---- one operator after the other

-- the first operator builds an edge, and the others build theirs behind it
pub record Splits (set : List Heading) (counts : Counts) (next : ℕ) (text : OpView) (texts : List OpView) (edges : List (Edge AnyView)) : Type 0 where
  pub edge : Edge AnyView
  pub rest : List (Edge AnyView)
  pub are : edges ≡ edge ∷ rest
  pub room : limit_at counts.live counts.operator counts.table (target_count text) ≡ None
  pub built : built set next text ≡ Ok edge
  pub others : edges_on (headings_after set edge) (with_one counts (target_count text)) next texts ≡ Ok rest

pub splits : (set : List Heading) (counts : Counts) (next : ℕ) (text : OpView) (texts : List OpView) (edges : List (Edge AnyView))
    → edges_on set counts next (text ∷ texts) ≡ Ok edges → Splits set counts next text texts edges
unfolding edges_on
splits set counts next text texts edges h =
    let a = both_give (room_for counts text) _ edges h in
    let b = both_give (built set next text) _ edges a.2 in
    let c = both_give (edges_on (headings_after set b.0) (with_one counts (target_count text)) next texts) _ edges b.2 in
    record {
      edge = b.0;
      rest = c.0;
      are = sym (ok_is (b.0 ∷ c.0) edges c.2);
      room = room_found counts text a.0 a.1;
      built = b.1;
      others = c.1;
    }

-- no text builds no edge
pub none_built : (set : List Heading) (counts : Counts) (next : ℕ) (edges : List (Edge AnyView)) → edges_on set counts next [] ≡ Ok edges → edges ≡ []
unfolding edges_on
none_built set counts next edges h = sym (ok_is [] edges h)

pub limits_kept : (set : List Heading) (counts : Counts) (next : ℕ) (texts : List OpView) (edges : List (Edge AnyView))
    → edges_on set counts next texts ≡ Ok edges → limit_passed counts.live counts.operator counts.table edges ≡ None
limits_kept set counts next [] edges h = rw (none_built set counts next edges h) refl
limits_kept set counts next (text ∷ texts) edges h =
    let s = splits set counts next text texts edges h in
    let many = targets_counted set next text s.edge s.built in
    let room : limit_at counts.live counts.operator counts.table (length s.edge.targets) ≡ None =
    subst (λ n. limit_at counts.live counts.operator counts.table n ≡ None) (sym many) s.room in
    let rest : limit_passed (counts.live + 1) (counts.operator + 1) (counts.table + length s.edge.targets) s.rest ≡ None =
    subst (λ n. limit_passed (counts.live + 1) (counts.operator + 1) (counts.table + n) s.rest ≡ None) (sym many)
    (limits_kept (headings_after set s.edge) (with_one counts (target_count text)) next texts s.rest s.others) in
    rw s.are (none_later (limit_at counts.live counts.operator counts.table (length s.edge.targets)) (limit_passed (counts.live + 1) (counts.operator + 1) (counts.table + length s.edge.targets) s.rest) room rest)

pub fit_in_order : (set : List Heading) (counts : Counts) (next : ℕ) (texts : List OpView) (edges : List (Edge AnyView))
    → Each IsHeading set → edges_on set counts next texts ≡ Ok edges → FitInOrder set edges
fit_in_order set counts next [] edges all h = rw (none_built set counts next edges h) tt
fit_in_order set counts next (text ∷ texts) edges all h =
    let s = splits set counts next text texts edges h in
    let fits = (built_suits set next text s.edge s.built).set_fits all in
    rw s.are (fits, fit_in_order (headings_after set s.edge) (with_one counts (target_count text)) next texts s.rest (headings_stay set s.edge all fits) s.others)

pub few_tables : (set : List Heading) (counts : Counts) (next : ℕ) (texts : List OpView) (edges : List (Edge AnyView))
    → edges_on set counts next texts ≡ Ok edges → Each HasFewTables edges
few_tables set counts next [] edges h = rw (none_built set counts next edges h) tt
few_tables set counts next (text ∷ texts) edges h =
    let s = splits set counts next text texts edges h in
    rw s.are ((built_suits set next text s.edge s.built).few, few_tables (headings_after set s.edge) (with_one counts (target_count text)) next texts s.rest s.others)

-- there are edges where there are texts
pub some_edges : (set : List Heading) (counts : Counts) (next : ℕ) (texts : List OpView) (edges : List (Edge AnyView))
    → 0 < length texts → edges_on set counts next texts ≡ Ok edges → 0 < length edges
some_edges set counts next [] edges some h = absurd (omega (arith, some))
some_edges set counts next (text ∷ texts) edges some h =
    let s = splits set counts next text texts edges h in
    rw s.are (omega arith)

joined : {X : Type 0} (r : Checked (List X)) (done : List X) (x : X)
    → ((r then λ xs. Ok (x ∷ xs)) then λ rest. Ok (done ++ rest)) ≡ (r then λ rest. Ok ((done ++ x ∷ []) ++ rest))
joined (Ok xs) done x = ap (λ l. Ok l) (sym (append_assoc done (x ∷ []) xs))
joined (Err e) done x = refl

-- what is built so far, and one edge more
pub edges_step : (set : List Heading) (counts : Counts) (next : ℕ) (text : OpView) (texts : List OpView) (done : List (Edge AnyView)) (edge : Edge AnyView)
    → room_for counts text ≡ Ok tt → built set next text ≡ Ok edge
    → ((edges_on set counts next (text ∷ texts)) then λ rest. Ok (done ++ rest))
    ≡ ((edges_on (headings_after set edge) (with_one counts (target_count text)) next texts) then λ rest. Ok ((done ++ edge ∷ []) ++ rest))
unfolding edges_on
edges_step set counts next text texts done edge room here =
    ap (λ c. c then λ rest. Ok (done ++ rest))
    (then_is (room_for counts text) _ tt room ∙ then_is (built set next text) _ edge here)
    ∙ joined (edges_on (headings_after set edge) (with_one counts (target_count text)) next texts) done edge
