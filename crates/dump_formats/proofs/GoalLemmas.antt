-- The goal to which pending operators lead, and what JSON spells of it.
use Rattle.std.specs.Prelude.{◌==◌, ◌<◌, ◌≤◌, ◌^◌, Option, Some, None, Result, Ok, Err, IfOk}
use Rattle.std.proofs.Common.{◌≡◌, ℕ, suc, List, [], ◌∷◌, Bool, true, false, cond, filter, length, map, refl, sym, ap, ◌∙◌, subst, arith}
use Rattle.std.proofs.lemmas.Bool.{eqb-true}
use Rattle.std.proofs.lemmas.List.{reverse-reverse}
use Rattle.serde_json.specs.Data.{Data, array, Items}
use Rattle.serde_json.specs.Find.{as_array}
use Rattle.serde_json.specs.View.{items_of, items_view}
use Rattle.serde_json.specs.declared.value.Value.{Value as Json}
use Rattle.version_graph.specs.Edges.{AreEdges, Rises, numbers}
use Rattle.version_graph.specs.Forest.{forest}
use Rattle.version_graph.specs.Sets.{Each, In}
use Rattle.version_graph.proofs.SetLaws.{each_at, each_of}
use Rattle.version_graph.proofs.TableLaws.{in_filter}
use Rattle.version_graph.proofs.WalkStepLaws.{in_reverse}
use Rattle.layout_rules.specs.Layouts.{IsValid}
use Rattle.layout_rules.specs.Lookups.{numbers_up}
use Rattle.layout_rules.proofs.ChangeLaws.{number_lives}
use Rattle.layout_rules.proofs.CloseLaws.{numbers_rise}
use Rattle.layout_rules.proofs.PassLaws.{past_numbers, rises_filter}
use Rattle.migration.specs.Pending.{IsPending, goal_of}
use Rattle.migration.specs.Sides.{changes_side, changing}
use Rattle.migration.proofs.PendingLaws.{start_leads, start_pending}
use Rattle.version_graph.specs.declared.parts.Placed.{Placed}
use Rattle.dump_values.specs.Members.{number_json}
use Rattle.dump_formats.specs.Formats.{goal_json, goal_told}
use Rattle.dump_formats.specs.inner.Read.{FindsPending, LeadsTo, ReadsNumbers}
use Rattle.dump_formats.proofs.SpelledLemmas.{numbers_same, spelled_many}

some_is : {A : Type 0} (a b : A) → Some a ≡ Some b → a ≡ b
some_is a b e = cc

-- the goal that JSON spells, where it is an array
spelled_goal : (d : Data) (ds : Items) → as_array d ≡ Some ds → (o : Option (List ℕ)) → d ≡ goal_json o → (g : List ℕ) × (o ≡ Some g) × (ds ≡ items_of (map number_json g))
spelled_goal d ds is None same = absurd (let clash : None ≡ Some ds = sym (ap as_array same) ∙ is in let no : ⊥ = cc in no)
spelled_goal d ds is (Some g) same = (g, refl, some_is ds (items_of (map number_json g)) (sym is ∙ ap as_array same))

fewer : (test : ℕ → Bool) (xs : List ℕ) → length (filter test xs) ≤ length xs
fewer test [] = omega arith
fewer test (x ∷ xs) = go (fewer test xs) (test x)
  where
    go : length (filter test xs) ≤ length xs → (b : Bool) → length (cond b (x ∷ filter test xs) (filter test xs)) ≤ suc (length xs)
    go rest true = omega (arith, rest)
    go rest false = omega (arith, rest)

-- a list that is empty by its length
pub none_of : (xs : List ℕ) (b : Bool) → b ≡ (length xs == 0) → b ≡ true → xs ≡ []
none_of [] b is on = refl
none_of (x ∷ xs) b is on = absurd (omega (arith, eqb-true (length (x ∷ xs)) 0 (sym is ∙ on)))

module _ {O : Type 0} (es : List (Placed O)) (edges : AreEdges es) (layout : List ℕ) where
  goal_is : (pending goal : List ℕ) → goal_told es layout pending ≡ Some goal → goal_of es layout pending ≡ goal
  goal_is [] goal told = absurd (let no : ⊥ = cc in no)
  goal_is (n ∷ pending) goal told = some_is (goal_of es layout (n ∷ pending)) goal told

  told_goal : (pending goal : List ℕ) → (pending ≡ [] → ⊥) → goal_of es layout pending ≡ goal → goal_told es layout pending ≡ Some goal
  told_goal [] goal some is = absurd (some refl)
  told_goal (n ∷ pending) goal some is = ap (λ (l : List ℕ). Some l) is

  -- what is pending is what its goal changes
  goal_changes : (pending : List ℕ) → IsPending es layout pending → changing es layout (goal_of es layout pending) ≡ pending
  goal_changes pending p = start_leads es edges layout pending p.ascending (λ n i. number_lives es n (p.live n i))

  -- so a goal tells what is pending
  pub same_pending : (p q : List ℕ) → IsPending es layout p → IsPending es layout q → goal_told es layout p ≡ goal_told es layout q → p ≡ q
  same_pending [] [] a b same = refl
  same_pending [] (n ∷ q) a b same = absurd (let no : ⊥ = cc in no)
  same_pending (n ∷ p) [] a b same = absurd (let no : ⊥ = cc in no)
  same_pending (n ∷ p) (m ∷ q) a b same =
      sym (goal_changes (n ∷ p) a) ∙ ap (changing es layout) (some_is (goal_of es layout (n ∷ p)) (goal_of es layout (m ∷ q)) same) ∙ goal_changes (m ∷ q) b

  module _ (goal : List ℕ) where
    -- the operators that change sides lead to a valid layout
    pub changes_lead : Rises 0 goal → IsValid (forest es) goal → (pending : List ℕ) → pending ≡ changing es layout goal → (pending ≡ [] → ⊥) → LeadsTo es layout goal (Some pending)
    changes_lead rise valid pending is some = (
      subst (λ (p : List ℕ). IsPending es layout p) (sym is) (start_pending es edges layout goal rise valid),
      told_goal pending goal some (ap (λ (p : List ℕ). goal_of es layout p) is ∙ start_leads es edges layout goal rise valid.live),
    )

    -- nothing leads to what doesn't ascend
    pub none_rises : (Rises 0 goal → ⊥) → LeadsTo es layout goal None
    none_rises none pending p told = none (subst (λ (l : List ℕ). Rises 0 l) (goal_is pending goal told) (rises_filter (changes_side layout pending) 0 (numbers_up es) (numbers_rise es edges)))

    -- nor to the layout itself
    pub none_changes : changing es layout goal ≡ [] → LeadsTo es layout goal None
    none_changes none pending p told =
        let empty : pending ≡ [] = sym (goal_changes pending p) ∙ ap (changing es layout) (goal_is pending goal told) ∙ none in
        let clash : None ≡ Some goal = ap (goal_told es layout) (sym empty) ∙ told in
        cc

  -- ---- what JSON spells

  module _ (d : Data) (xs : List Json) (is : as_array d ≡ Some (items_view xs)) where
    goal_found : (goal pending : List ℕ) → items_view xs ≡ items_of (map number_json goal) → d ≡ array (items_view xs) → LeadsTo es layout goal (Some pending) → FindsPending es layout d (Some pending)
    goal_found goal pending same whole leads = (leads.0, whole ∙ ap (λ (ds : Items). array ds) same ∙ ap goal_json (sym leads.1))

    goal_none : (goal : List ℕ) → items_view xs ≡ items_of (map number_json goal) → LeadsTo es layout goal None → FindsPending es layout d None
    goal_none goal same none pending p spelled =
        let g = spelled_goal d (items_view xs) is (goal_told es layout pending) spelled in
        none pending p (g.1 ∙ ap (λ (l : List ℕ). Some l) (numbers_same g.0 goal (sym g.2 ∙ same)))

    -- what leads to the goal that was read
    goal_any : (goal : List ℕ) → items_view xs ≡ items_of (map number_json goal) → d ≡ array (items_view xs) → (o : Option (List ℕ)) → LeadsTo es layout goal o → FindsPending es layout d o
    goal_any goal same whole (Some pending) leads = goal_found goal pending same whole leads
    goal_any goal same whole None none = goal_none goal same none

    pub goal_read : {E : Type 0} (goal : List ℕ) → items_view xs ≡ items_of (map number_json goal) → d ≡ array (items_view xs) → (r : Result (Option (List ℕ)) E) → IfOk r (LeadsTo es layout goal) → IfOk r (FindsPending es layout d)
    goal_read goal same whole (Ok o) leads = goal_any goal same whole o leads
    goal_read goal same whole (Err e) leads = leads

    -- a goal has no more operators than live
    pub goal_long : (live : ℕ) → live ≡ length es → live < length xs → FindsPending es layout d None
    goal_long live count lt pending p spelled =
        let g = spelled_goal d (items_view xs) is (goal_told es layout pending) spelled in
        let many = spelled_many number_json xs g.0 g.2 in
        let is_goal = ap length (goal_is pending g.0 g.1) in
        let few = fewer (changes_side layout pending) (numbers_up es) in
        let all = past_numbers es live live count (omega arith) in
        omega (arith, many, is_goal, few, all, lt)

    -- nor others than those of 32 bits
    pub goal_wide : (last : ℕ) → Each (λ n. n ≤ last) (numbers es) → last < 2 ^ 32 → ReadsNumbers (items_view xs) None → FindsPending es layout d None
    goal_wide last each bits none pending p spelled =
        let g = spelled_goal d (items_view xs) is (goal_told es layout pending) spelled in
        none g.0
        (each_of (λ n. n < 2 ^ 32) g.0 (λ n i.
        let listed : In n (numbers_up es) = in_filter (changes_side layout pending) n (numbers_up es) (subst (λ (l : List ℕ). In n l) (sym (goal_is pending g.0 g.1)) i) in
        let le = each_at (λ k. k ≤ last) (numbers es) n (lives n listed) each in
        omega (arith, le, bits)))
        g.2
      where
        lives : (n : ℕ) → In n (numbers_up es) → In n (numbers es)
        lives n i = subst (λ (l : List ℕ). In n l) (reverse-reverse (numbers es)) (in_reverse n (numbers_up es) i)
