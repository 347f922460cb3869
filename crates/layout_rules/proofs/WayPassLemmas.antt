-- The way to storage by edges, and what it lists.
use Rattle.std.specs.Prelude.{◌&&◌, ◌||◌, ◌↔◌, if◌then◌else◌, Option, Some, None, option_to_list, slice_get}
use Rattle.std.proofs.Common.{◌≡◌, ℕ, ◌+◌, ◌-◌, ◌<◌, ◌≤◌, List, [], ◌∷◌, ◌++◌, Bool, true, false, not, cond, map, length, take, inl, inr, refl, sym, ap, ◌∙◌, subst, arith}
use Rattle.std.proofs.lemmas.List.{append_assoc, append-nil, reverse-reverse, take_all}
use Rattle.std.proofs.lemmas.Bool.{and_from, and_parts, or_cases, or_left, or_right}
use mathlib.Core.List.{reverse}
use Rattle.version_graph.specs.Sets.{In}
use Rattle.version_graph.specs.Edges.{AreEdges, Rises, is_in}
use Rattle.version_graph.specs.Forest.{Link, forest, link}
use Rattle.version_graph.specs.declared.parts.Placed.{Placed}
use Rattle.version_graph.proofs.SetLaws.{in_append, in_left, in_of_test, in_right, is_in_true}
use Rattle.version_graph.proofs.WalkLaws.{is_forest}
use Rattle.version_graph.proofs.WalkStepLaws.{in_reverse}
use Rattle.layout_rules.specs.Layouts.{IsValid}
use Rattle.layout_rules.specs.Passes.{meet}
use Rattle.layout_rules.specs.Ways.{IsOnWay, ReadsOver}
use Rattle.layout_rules.specs.Lookups.{sources_or_none}
use Rattle.layout_rules.specs.inner.Reached.{down_from, down_with, goes_down, goes_up, up_from, up_with, way_along, way_with}
use Rattle.layout_rules.proofs.NeededLaws.{meet_at, meet_true}
use Rattle.layout_rules.proofs.LookupLaws.{not_off, not_on, sources_link}
use Rattle.layout_rules.proofs.PassLaws.{map_reverse, rises_lower, take_next}
use Rattle.layout_rules.proofs.DownLaws.{Beside, SameSides, below, below_next, beside, link_listed}
use Rattle.layout_rules.proofs.CloseLaws.{numbers_rise}
use Rattle.layout_rules.proofs.WayLaws.{all_reached, reached, reached_read}

as_cond : {X : Type 0} (b : Bool) (x y : X) → (if b then x else y) ≡ cond b x y
as_cond true x y = refl
as_cond false x y = refl

over_cond : {X Y : Type 0} (f : X → Y) (b : Bool) (x y : X) → f (if b then x else y) ≡ cond b (f x) (f y)
over_cond f true x y = refl
over_cond f false x y = refl

module _ {O : Type 0} (es : List (Placed O)) (edges : AreEdges es) (layout : List ℕ) where
  -- ---- one step up

  up_one : (i : ℕ) (ts : List ℕ) (o : Option (Placed O)) (q : Option (Link O)) → Beside o q → q ≡ slice_get (reverse (forest es)) i → up_from layout (below es i) (up_with es layout ts o) ≡ up_from layout (below es (i + 1)) ts
  up_one i ts None None both got = ap (λ (l : List (Link O)). up_from layout l ts) (sym (below_next es i None got))
  up_one i ts None (Some f) both got = absurd both
  up_one i ts (Some e) None both got = absurd both
  up_one i ts (Some e) (Some f) both got =
      let rest = below es i in
      let G : ℕ → List ℕ → List ℕ → List ℕ = λ n s tg. cond (not (is_in n layout) && meet tg ts) (up_from layout rest (ts ++ s)) (up_from layout rest ts) in
      let sources : sources_or_none es e.number ≡ f.sources = ap (sources_or_none es) both.0 ∙ sources_link es edges f (link_listed es i f got) in
      let same : G e.number (sources_or_none es e.number) e.tables ≡ G f.number f.sources f.targets =
      ap (λ (n : ℕ). G n (sources_or_none es e.number) e.tables) both.0 ∙ ap (λ (s : List ℕ). G f.number s e.tables) sources ∙ ap (λ (tg : List ℕ). G f.number f.sources tg) both.2 in
      over_cond (up_from layout rest) (goes_up layout ts e) (ts ++ sources_or_none es e.number) ts ∙ same ∙ ap (λ (l : List (Link O)). up_from layout l ts) (sym (below_next es i (Some f) got))

  pub up_step : (left : ℕ) (ts more : List ℕ) → 0 < left → more ≡ up_with es layout ts (slice_get (reverse es) (left - 1)) → up_from layout (below es (left - 1)) more ≡ up_from layout (below es left) ts
  up_step left ts more some m =
      let one : left - 1 + 1 ≡ left = omega arith in
      ap (up_from layout (below es (left - 1))) m ∙ up_one (left - 1) ts (slice_get (reverse es) (left - 1)) (slice_get (reverse (forest es)) (left - 1)) (beside es (left - 1)) refl
      ∙ ap (λ (k : ℕ). up_from layout (below es k) ts) one

  -- ---- one step down

  down_one : (i : ℕ) (ts : List ℕ) (o : Option (Placed O)) (q : Option (Link O)) → Beside o q → q ≡ slice_get (reverse (forest es)) i → down_with es layout (down_from layout (below es i) ts) o ≡ down_from layout (below es (i + 1)) ts
  down_one i ts None None both got = ap (λ (l : List (Link O)). down_from layout l ts) (sym (below_next es i None got))
  down_one i ts None (Some f) both got = absurd both
  down_one i ts (Some e) None both got = absurd both
  down_one i ts (Some e) (Some f) both got =
      let r = down_from layout (below es i) ts in
      let G : ℕ → List ℕ → List ℕ → List ℕ = λ n s tg. cond (is_in n layout && meet s r) (r ++ tg) r in
      let sources : sources_or_none es e.number ≡ f.sources = ap (sources_or_none es) both.0 ∙ sources_link es edges f (link_listed es i f got) in
      let same : G e.number (sources_or_none es e.number) e.tables ≡ G f.number f.sources f.targets =
      ap (λ (n : ℕ). G n (sources_or_none es e.number) e.tables) both.0 ∙ ap (λ (s : List ℕ). G f.number s e.tables) sources ∙ ap (λ (tg : List ℕ). G f.number f.sources tg) both.2 in
      as_cond (goes_down es layout r e) (r ++ e.tables) r ∙ same ∙ ap (λ (l : List (Link O)). down_from layout l ts) (sym (below_next es i (Some f) got))

  pub down_next : (i : ℕ) (ts so_far more : List ℕ) → so_far ≡ down_from layout (below es i) ts → more ≡ down_with es layout so_far (slice_get (reverse es) i) → more ≡ down_from layout (below es (i + 1)) ts
  down_next i ts so_far more done m =
      m ∙ ap (λ (l : List ℕ). down_with es layout l (slice_get (reverse es) i)) done ∙ down_one i ts (slice_get (reverse es) i) (slice_get (reverse (forest es)) i) (beside es i) refl

  -- ---- the list

  module _ (ts : List ℕ) where
    way_both : (xs ys : List (Placed O)) → way_along es layout ts (xs ++ ys) ≡ way_along es layout ts xs ++ way_along es layout ts ys
    way_both [] ys = refl
    way_both (x ∷ xs) ys = ap (λ (l : List ℕ). way_with es layout ts (Some x) ++ l) (way_both xs ys) ∙ sym (append_assoc (way_with es layout ts (Some x)) (way_along es layout ts xs) (way_along es layout ts ys))

    way_one : (o : Option (Placed O)) → way_along es layout ts (option_to_list o) ≡ way_with es layout ts o
    way_one None = refl
    way_one (Some e) = append-nil (way_with es layout ts (Some e))

    pub way_next : (xs : List (Placed O)) (i : ℕ) (so_far more : List ℕ) → so_far ≡ way_along es layout ts (take i xs) → more ≡ so_far ++ way_with es layout ts (slice_get xs i) → more ≡ way_along es layout ts (take (i + 1) xs)
    way_next xs i so_far more done m =
        m ∙ ap (λ (l : List ℕ). l ++ way_with es layout ts (slice_get xs i)) done
        ∙ sym (ap (λ (l : List (Placed O)). way_along es layout ts l) (take_next xs i (slice_get xs i) refl) ∙ way_both (take i xs) (option_to_list (slice_get xs i))
        ∙ ap (λ (l : List ℕ). way_along es layout ts (take i xs) ++ l) (way_one (slice_get xs i)))

    pub way_all : (xs : List (Placed O)) (i : ℕ) (so_far : List ℕ) → length xs ≤ i → so_far ≡ way_along es layout ts (take i xs) → so_far ≡ way_along es layout ts xs
    way_all xs i so_far past done = done ∙ ap (λ (l : List (Placed O)). way_along es layout ts l) (take_all i xs past)

    abbrev goes : Placed O → Bool
    goes e = goes_up layout ts e || goes_down es layout ts e

    in_way : (xs : List (Placed O)) (e : Placed O) → In e xs → goes e ≡ true → In e.number (way_along es layout ts xs)
    in_way [] e i h = i
    in_way (x ∷ xs) e (inl same) h =
        in_left e.number (way_with es layout ts (Some x)) (way_along es layout ts xs)
        (subst (λ (b : Bool). In e.number (if b then x.number ∷ [] else [])) (sym (ap goes (sym same) ∙ h)) (inl (ap (λ (y : Placed O). y.number) same)))
    in_way (x ∷ xs) e (inr i) h = in_right e.number (way_with es layout ts (Some x)) (way_along es layout ts xs) (in_way xs e i h)

    way_in : (xs : List (Placed O)) (n : ℕ) → In n (way_along es layout ts xs) → (e : Placed O) × In e xs × (n ≡ e.number) × (goes e ≡ true)
    way_in [] n i = absurd i
    way_in (x ∷ xs) n i =
        elim (in_append n (way_with es layout ts (Some x)) (way_along es layout ts xs) i) as (λ _. (e : Placed O) × In e (x ∷ xs) × (n ≡ e.number) × (goes e ≡ true)) [
          | inl j ↦ here (goes x) refl j
          | inr j ↦ (let m = way_in xs n j in (m.0, inr m.1, m.2, m.3))
        ]
      where
        here : (b : Bool) → goes x ≡ b → In n (if b then x.number ∷ [] else []) → (e : Placed O) × In e (x ∷ xs) × (n ≡ e.number) × (goes e ≡ true)
        here true is (inl same) = (x, inl refl, same, is)
        here true is (inr none) = absurd none
        here false is j = absurd j

    way_rises : (xs : List (Placed O)) (n : ℕ) → Rises n (map (λ (e : Placed O). e.number) xs) → Rises n (way_along es layout ts xs)
    way_rises [] n r = tt
    way_rises (x ∷ xs) n r =
        elim (goes x) as (λ b. Rises n ((if b then x.number ∷ [] else []) ++ way_along es layout ts xs)) [
          | true ↦ (r.0, way_rises xs x.number r.1)
          | false ↦ rises_lower n x.number (way_along es layout ts xs) (let a = r.0 in omega arith) (way_rises xs x.number r.1)
        ]

    pub way_rise : Rises 0 (way_along es layout ts (reverse es))
    way_rise = way_rises (reverse es) 0 (subst (λ (l : List ℕ). Rises 0 l) (map_reverse es) (numbers_rise es edges))

  -- ---- edges and links

  edge_link : (fs : List (Placed O)) (e : Placed O) → In e fs → (f : Link O) × In f (forest fs) × SameSides e f
  edge_link [] e i = absurd i
  edge_link (x ∷ fs) e (inl same) = (link fs x, inl refl, subst (λ (y : Placed O). SameSides y (link fs x)) (sym same) (refl, refl, refl))
  edge_link (x ∷ fs) e (inr i) = let m = edge_link fs e i in (m.0, inr m.1, m.2)

  link_edge : (fs : List (Placed O)) (f : Link O) → In f (forest fs) → (e : Placed O) × In e fs × SameSides e f
  link_edge [] f i = absurd i
  link_edge (x ∷ fs) f (inl same) = (x, inl refl, subst (λ (y : Link O). SameSides x y) (sym same) (refl, refl, refl))
  link_edge (x ∷ fs) f (inr i) = let m = link_edge fs f i in (m.0, inr m.1, m.2)

  sources_beside : (e : Placed O) (f : Link O) → In f (forest es) → SameSides e f → sources_or_none es e.number ≡ f.sources
  sources_beside e f i same = ap (sources_or_none es) same.0 ∙ sources_link es edges f i

  module _ (valid : IsValid (forest es) layout) (t : ℕ) where
    abbrev found : List ℕ
    found = reached (forest es) (is_forest es edges) layout valid t

    over_edge : (e : Placed O) (f : Link O) → In f (forest es) → SameSides e f → goes found e ≡ true → (u : ℕ) × In u found × ReadsOver (forest es) layout u f
    over_edge e f i same h =
        elim (or_cases (goes_up layout found e) (goes_down es layout found e) h) as (λ _. (u : ℕ) × In u found × ReadsOver (forest es) layout u f) [
          | inl a ↦ (
              let p = and_parts (not (is_in e.number layout)) (meet e.tables found) a in
              let m = meet_at e.tables found p.1 in
              (m.0, m.2, inl (subst (λ (l : List ℕ). In m.0 l) same.2 m.1, (λ has. not_off (is_in e.number layout) p.0 (is_in_true e.number layout (subst (λ (k : ℕ). In k layout) (sym same.0) has))))))
          | inr a ↦ (
              let p = and_parts (is_in e.number layout) (meet (sources_or_none es e.number) found) a in
              let m = meet_at (sources_or_none es e.number) found p.1 in
              let takes = subst (λ (l : List ℕ). In m.0 l) (sources_beside e f i same) m.1 in
              let has = subst (λ (k : ℕ). In k layout) same.0 (in_of_test e.number layout p.0) in
              (m.0, m.2, inr (valid.makers f i has m.0 takes, takes, has)))
        ]

    edge_over : (e : Placed O) (f : Link O) (u : ℕ) → In f (forest es) → SameSides e f → In u found → ReadsOver (forest es) layout u f → goes found e ≡ true
    edge_over e f u i same j (inl up) =
        or_left (goes_up layout found e) (goes_down es layout found e)
        (and_from (not (is_in e.number layout)) (meet e.tables found) (not_on (is_in e.number layout) (λ h. up.1 (subst (λ (k : ℕ). In k layout) same.0 (in_of_test e.number layout h))))
        (meet_true u e.tables found (subst (λ (l : List ℕ). In u l) (sym same.2) up.0) j))
    edge_over e f u i same j (inr down) =
        or_right (goes_up layout found e) (goes_down es layout found e)
        (and_from (is_in e.number layout) (meet (sources_or_none es e.number) found) (is_in_true e.number layout (subst (λ (k : ℕ). In k layout) (sym same.0) down.2))
        (meet_true u (sources_or_none es e.number) found (subst (λ (l : List ℕ). In u l) (sym (sources_beside e f i same)) down.1) j))

    pub way_listed : (n : ℕ) → In n (way_along es layout (reached (forest es) (is_forest es edges) layout valid t) (reverse es)) ↔ IsOnWay (forest es) layout t n
    way_listed n = (
      (λ i.
          let w = way_in found (reverse es) n i in
          let f = edge_link es w.0 (subst (λ (l : List (Placed O)). In w.0 l) (reverse-reverse es) (in_reverse w.0 (reverse es) w.1)) in
          let over = over_edge w.0 f.0 f.1 f.2 w.3 in
          let read = reached_read (forest es) (is_forest es edges) layout valid t over.0 over.1 in
          (read.0, over.0, f.0, read.1, f.1, over.2, w.2 ∙ f.2.0)),
      (λ h.
          let e = link_edge es h.2 h.4 in
          let j = all_reached (forest es) (is_forest es edges) layout valid t h.0 h.1 h.3 in
          subst (λ (k : ℕ). In k (way_along es layout found (reverse es))) (e.2.0 ∙ sym h.6) (in_way found (reverse es) e.0 (in_reverse e.0 es e.1) (edge_over e.0 h.2 h.1 h.4 e.2 j h.5))),
    )

-- the passes over equal lists
pub way_is : {O : Type 0} (es : List (Placed O)) (layout ops start up ts all made : List ℕ) → made ≡ way_along es ops all (reverse es) → all ≡ ts → ts ≡ down_from ops (forest es) up → up ≡ up_from ops (forest es) start → (t : ℕ) → start ≡ t ∷ [] → ops ≡ layout
    → made ≡ way_along es layout (down_from layout (forest es) (up_from layout (forest es) (t ∷ []))) (reverse es)
way_is es layout ops start up ts all made is a b c t d same =
    is ∙ ap (λ (l : List ℕ). way_along es ops l (reverse es)) (a ∙ b ∙ ap (down_from ops (forest es)) (c ∙ ap (up_from ops (forest es)) d))
    ∙ ap (λ (l : List ℕ). way_along es l (down_from l (forest es) (up_from l (forest es) (t ∷ []))) (reverse es)) same
