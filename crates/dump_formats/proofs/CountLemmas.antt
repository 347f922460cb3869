-- Counts, and what a dump tells of them.
use Rattle.std.specs.Prelude.{◌==◌, ◌<◌, ◌≤◌, Some}
use Rattle.std.specs.List.{find}
use Rattle.std.specs.Option.{option_map_or}
use Rattle.std.proofs.Common.{◌≡◌, ℕ, List, [], ◌∷◌, Bool, true, false, not, cond, filter, map, inl, inr, refl, sym, ap, ◌∙◌, subst, arith}
use Rattle.std.proofs.lemmas.Bool.{cond-false, cond-true, eq-eqb, eqb-false, eqb-true, ne_eqb}
use Rattle.version_graph.specs.Edges.{AreEdges, Rises}
use Rattle.version_graph.specs.Sets.{Each, In}
use Rattle.version_graph.specs.declared.parts.Placed.{Placed}
use Rattle.version_graph.proofs.SetLaws.{each_at, each_of, origin}
use Rattle.version_graph.proofs.TableLaws.{in_filter, passes, rises_above}
use Rattle.layout_rules.specs.Lookups.{tables_up}
use Rattle.layout_rules.proofs.PassLaws.{tables_rise}
use Rattle.layout_planner.specs.Costs.{count_of}
use Rattle.layout_planner.specs.Counts.{AreCounts, Ascends, counts_for, counts_told, is_living, tables_counted}
use Rattle.layout_planner.specs.declared.planning.TableCount.{TableCount}
use Rattle.dump_formats.specs.inner.Read.{is_accessed}
use Rattle.dump_formats.proofs.TableLemmas.{maker_up, up_maker}

-- ---- the count of a table

first_count : (c : TableCount) (cs : List TableCount) (t : ℕ) → t ≡ c.table → count_of (c ∷ cs) t ≡ c.count
first_count c cs t is =
    ap (λ (b : Bool). option_map_or (λ (k : TableCount). k.count) (cond b (Some c) (find (λ (k : TableCount). t == k.table) cs)) 0) (eq-eqb t c.table is)

later_count : (c : TableCount) (cs : List TableCount) (t : ℕ) → (t ≡ c.table → ⊥) → count_of (c ∷ cs) t ≡ count_of cs t
later_count c cs t other =
    ap (λ (b : Bool). option_map_or (λ (k : TableCount). k.count) (cond b (Some c) (find (λ (k : TableCount). t == k.table) cs)) 0) (ne_eqb t c.table other)

no_count : (cs : List TableCount) (t : ℕ) → (In t (tables_counted cs) → ⊥) → count_of cs t ≡ 0
no_count [] t none = refl
no_count (c ∷ cs) t none = later_count c cs t (λ same. none (inl same)) ∙ no_count cs t (λ i. none (inr i))

-- ---- which of them were accessed

accessed_some : (c : TableCount) → 1 ≤ c.count → is_accessed c ≡ true
accessed_some c le = ap not (ne_eqb c.count 0 (λ same. omega (arith, same, le)))

accessed_is : (c : TableCount) → is_accessed c ≡ true → 1 ≤ c.count
accessed_is c h = go (c.count == 0) refl h
  where
    go : (b : Bool) → (c.count == 0) ≡ b → not b ≡ true → 1 ≤ c.count
    go true is n = absurd (let no : ⊥ = cc in no)
    go false is n = let other : c.count ≡ 0 → ⊥ = eqb-false c.count 0 is in omega (arith, other)

never : (c : TableCount) → is_accessed c ≡ false → c.count ≡ 0
never c h = go (c.count == 0) refl h
  where
    go : (b : Bool) → (c.count == 0) ≡ b → not b ≡ false → c.count ≡ 0
    go true is n = eqb-true c.count 0 is
    go false is n = absurd (let no : ⊥ = cc in no)

kept_here : (x : TableCount) (xs : List TableCount) → is_accessed x ≡ true → filter is_accessed (x ∷ xs) ≡ x ∷ filter is_accessed xs
kept_here x xs is = cond-true (is_accessed x) (x ∷ filter is_accessed xs) (filter is_accessed xs) is

skipped : (x : TableCount) (xs : List TableCount) → is_accessed x ≡ false → filter is_accessed (x ∷ xs) ≡ filter is_accessed xs
skipped x xs is = cond-false (is_accessed x) (x ∷ filter is_accessed xs) (filter is_accessed xs) is

unaccessed : (t count : ℕ) → count ≡ 0 → is_accessed (record { table = t; count = count }) ≡ false
unaccessed t count is = ap not (eq-eqb count 0 is)

-- ---- what was told gives the counts back

-- the others are in the rest
in_rest : (t u : ℕ) (ts : List ℕ) → t < u → In u (t ∷ ts) → In u ts
in_rest t u ts lt (inl same) = absurd (omega (arith, same, lt))
in_rest t u ts lt (inr i) = i

counts_kept : (f : ℕ → ℕ) (ts : List ℕ) (n : ℕ) (cs : List TableCount) → Rises n ts → Rises n (tables_counted cs) → ((u : ℕ) → In u (tables_counted cs) → In u ts)
    → Each (λ (c : TableCount). 1 ≤ c.count) cs → ((u : ℕ) → In u ts → f u ≡ count_of cs u) → filter is_accessed (map (λ (t : ℕ). record { table = t; count = f t }) ts) ≡ cs
counts_kept f [] n [] rise up sub each same = refl
counts_kept f [] n (c ∷ cs) rise up sub each same = absurd (sub c.table (inl refl))
counts_kept f (t ∷ ts) n [] rise up sub each same =
    skipped (record { table = t; count = f t }) (map (λ (u : ℕ). record { table = u; count = f u }) ts) (unaccessed t (f t) (same t (inl refl)))
    ∙ counts_kept f ts t [] rise.1 tt (λ u i. absurd i) tt (λ u i. same u (inr i))
counts_kept f (t ∷ ts) n (c ∷ cs) rise up sub each same = elim (sub c.table (inl refl)) as (λ _. filter is_accessed (map (λ (u : ℕ). record { table = u; count = f u }) (t ∷ ts)) ≡ c ∷ cs) [
  | inl here ↦ (
      let x : TableCount = record { table = t; count = f t } in
      let count : f t ≡ c.count = same t (inl refl) ∙ first_count c cs t (sym here) in
      let x_is : x ≡ c = λ i. record { table = sym here i; count = count i } in
      let le = each.0 in
      let rise_cs : Rises t (tables_counted cs) = subst (λ (k : ℕ). Rises k (tables_counted cs)) here up.1 in
      let above : (u : ℕ) → In u (tables_counted cs) → t < u = λ u i. rises_above t (tables_counted cs) rise_cs u i in
      kept_here x (map (λ (u : ℕ). record { table = u; count = f u }) ts) (accessed_some x (subst (λ (k : TableCount). 1 ≤ k.count) (sym x_is) le))
      ∙ ap (λ (l : List TableCount). x ∷ l) (counts_kept f ts t cs rise.1 rise_cs (λ u i. in_rest t u ts (above u i) (sub u (inr i))) each.1 (λ u i.
      same u (inr i) ∙ later_count c cs u (λ is. (let lt = rises_above t ts rise.1 u i in omega (arith, lt, is, here)))))
      ∙ ap (λ (k : TableCount). k ∷ cs) x_is)
  | inr i ↦ (
      let lt : t < c.table = rises_above t ts rise.1 c.table i in
      let up_t : Rises t (tables_counted (c ∷ cs)) = (lt, up.1) in
      let none : In t (tables_counted (c ∷ cs)) → ⊥ = λ j. (let less = rises_above t (tables_counted (c ∷ cs)) up_t t j in omega (arith, less)) in
      skipped (record { table = t; count = f t }) (map (λ (u : ℕ). record { table = u; count = f u }) ts) (unaccessed t (f t) (same t (inl refl) ∙ no_count (c ∷ cs) t none))
      ∙ counts_kept f ts t (c ∷ cs) rise.1 up_t (λ u j. in_rest t u ts (rises_above t (tables_counted (c ∷ cs)) up_t u j) (sub u j)) each (λ u j. same u (inr j)))
]

-- ---- the counts that were told are told again

count_kept : (told : List TableCount) (n : ℕ) → Rises n (tables_counted told) → (c : TableCount) → In c told → count_of (filter is_accessed told) c.table ≡ c.count
count_kept [] n rise c i = absurd i
count_kept (d ∷ ds) n rise c i = go (λ j. count_kept ds d.table rise.1 c j) (is_accessed d) refl i
  where
    later : (e : TableCount) → In e ds → d.table < e.table
    later e j = rises_above d.table (tables_counted ds) rise.1 e.table (listed e ds j)
      where
        listed : (e : TableCount) (es : List TableCount) → In e es → In e.table (tables_counted es)
        listed e [] j = j
        listed e (x ∷ xs) (inl same) = inl (ap (λ (k : TableCount). k.table) same)
        listed e (x ∷ xs) (inr j) = inr (listed e xs j)

    go : (In c ds → count_of (filter is_accessed ds) c.table ≡ c.count) → (b : Bool) → is_accessed d ≡ b → In c (d ∷ ds) → count_of (filter is_accessed (d ∷ ds)) c.table ≡ c.count
    go rest true is (inl same) =
        ap (λ (l : List TableCount). count_of l c.table) (kept_here d ds is)
        ∙ first_count d (filter is_accessed ds) c.table (ap (λ (k : TableCount). k.table) same) ∙ ap (λ (k : TableCount). k.count) (sym same)
    go rest true is (inr j) =
        let lt = later c j in
        ap (λ (l : List TableCount). count_of l c.table) (kept_here d ds is)
        ∙ later_count d (filter is_accessed ds) c.table (λ same. omega (arith, same, lt)) ∙ rest j
    go rest false is (inl same) =
        ap (λ (l : List TableCount). count_of l c.table) (skipped d ds is)
        ∙ no_count (filter is_accessed ds) c.table (λ j.
        let o = origin (λ (k : TableCount). k.table) c.table (filter is_accessed ds) j in
        let lt = later o.0 (in_filter is_accessed o.0 ds o.1) in
        let is_d = ap (λ (k : TableCount). k.table) same in
        let is_o = o.2 in
        omega (arith, lt, is_d, is_o))
        ∙ sym (ap (λ (k : TableCount). k.count) same ∙ never d is)
    go rest false is (inr j) = ap (λ (l : List TableCount). count_of l c.table) (skipped d ds is) ∙ rest j

for_each : (g : ℕ → ℕ) (told : List TableCount) → ((c : TableCount) → In c told → g c.table ≡ c.count) → map (λ (t : ℕ). record { table = t; count = g t }) (tables_counted told) ≡ told
for_each g [] same = refl
for_each g (c ∷ cs) same = λ i. record { table = c.table; count = same c (inl refl) i } ∷ for_each g cs (λ d j. same d (inr j)) i

rises_kept : (told : List TableCount) (n : ℕ) → Rises n (tables_counted told) → Rises n (tables_counted (filter is_accessed told))
rises_kept [] n rise = tt
rises_kept (d ∷ ds) n rise = go (rises_kept ds d.table rise.1) (is_accessed d) refl
  where
    lower : (xs : List ℕ) (m k : ℕ) → m < k → Rises k xs → Rises m xs
    lower [] m k lt r = tt
    lower (x ∷ xs) m k lt r = (let first = r.0 in omega (arith, lt, first), r.1)

    go : Rises d.table (tables_counted (filter is_accessed ds)) → (b : Bool) → is_accessed d ≡ b → Rises n (tables_counted (filter is_accessed (d ∷ ds)))
    go rest true is = subst (λ (l : List TableCount). Rises n (tables_counted l)) (sym (kept_here d ds is)) (rise.0, rest)
    go rest false is = subst (λ (l : List TableCount). Rises n (tables_counted l)) (sym (skipped d ds is)) (lower (tables_counted (filter is_accessed ds)) n d.table rise.0 rest)

-- ---- beside a graph

rises_none : (ts us : List ℕ) → Rises 0 us → ((t : ℕ) → In t ts → In t us) → Ascends ts → Rises 0 ts
rises_none [] us rise sub up = tt
rises_none (t ∷ ts) us rise sub up = (rises_above 0 us rise t (sub t (inl refl)), up)

ascends : (ts : List ℕ) → Rises 0 ts → Ascends ts
ascends [] rise = tt
ascends (t ∷ ts) rise = rise.1

module _ {O : Type 0} (es : List (Placed O)) (edges : AreEdges es) where
  counted_lives : (counts : List TableCount) → AreCounts es counts → (u : ℕ) → In u (tables_counted counts) → In u (tables_up es)
  counted_lives counts are u i =
      let o = origin (λ (k : TableCount). k.table) u counts i in
      subst (λ (t : ℕ). In t (tables_up es)) (sym o.2) (maker_up es o.0.table (each_at (λ (c : TableCount). is_living es c ≡ true) counts o.0 o.1 are.living))

  -- COUNTS ARE THOSE OF WHAT IS TOLD that aren't 0
  pub counts_back : (counts : List TableCount) → AreCounts es counts → filter is_accessed (counts_told es counts) ≡ counts
  counts_back counts are =
      counts_kept (count_of counts) (tables_up es) 0 counts (tables_rise es edges) (rises_none (tables_counted counts) (tables_up es) (tables_rise es edges) (counted_lives counts are) are.ascending)
      (counted_lives counts are) are.accessed (λ u i. refl)

  -- so what is told tells the counts
  pub same_counts : (counts other : List TableCount) → AreCounts es counts → AreCounts es other → counts_told es counts ≡ counts_told es other → counts ≡ other
  same_counts counts other are is same = sym (counts_back counts are) ∙ ap (λ (l : List TableCount). filter is_accessed l) same ∙ counts_back other is

  module _ (told : List TableCount) (all : tables_counted told ≡ tables_up es) where
    rise_told : Rises 0 (tables_counted told)
    rise_told = subst (λ (l : List ℕ). Rises 0 l) (sym all) (tables_rise es edges)

    -- what is told of all tables that live gives counts
    pub told_counts : AreCounts es (filter is_accessed told)
    told_counts = record {
      ascending = ascends (tables_counted (filter is_accessed told)) (rises_kept told 0 rise_told);
      living = each_of (λ (c : TableCount). is_living es c ≡ true) (filter is_accessed told) (λ c i. up_maker es edges c.table (subst (λ (l : List ℕ). In c.table l) all (listed c told (in_filter is_accessed c told i))));
      accessed = each_of (λ (c : TableCount). 1 ≤ c.count) (filter is_accessed told) (λ c i. accessed_is c (passes is_accessed c told i));
    }
      where
        listed : (c : TableCount) (cs : List TableCount) → In c cs → In c.table (tables_counted cs)
        listed c [] j = j
        listed c (x ∷ xs) (inl same) = inl (ap (λ (k : TableCount). k.table) same)
        listed c (x ∷ xs) (inr j) = inr (listed c xs j)

    -- of which just that is told
    pub told_again : counts_told es (filter is_accessed told) ≡ told
    told_again =
        ap (λ (l : List ℕ). counts_for (filter is_accessed told) l) (sym all)
        ∙ for_each (count_of (filter is_accessed told)) told (λ c i. count_kept told 0 rise_told c i)
