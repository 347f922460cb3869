-- What closing gives is what its passes find.
use Rattle.std.specs.Prelude.{◌&&◌, Option, Some, None, is_some, option_map, option_and_then, Result, Ok, Err}
use Rattle.std.specs.List.{find, list_all}
use Rattle.std.specs.Option.{IsSome}
use Rattle.std.proofs.Common.{◌≡◌, ℕ, List, [], ◌∷◌, ◌++◌, Bool, true, false, not, cond, filter, refl, sym, ap, ◌∙◌, subst}
use Rattle.std.proofs.lemmas.Bool.{false≢true}
use Rattle.par_base.specs.declared.fault.Fault.{Fault}
use Rattle.par_base.specs.declared.fault.Fault.TheVariants.{Refused, Memory}
use Rattle.par_base.specs.declared.limits.Target.{Target}
use Rattle.par_base.specs.declared.refusal.Refusal.{Refusal}
use Rattle.par_base.specs.declared.refusal.Refusal.TheVariants.{InvalidLayout}
use Rattle.version_graph.specs.declared.parts.Heading.{Heading}
use Rattle.version_graph.specs.Edges.{AreEdges, Drawn, heading_of}
use Rattle.version_graph.proofs.NodeLaws.{find_past}
use Rattle.layout_rules.specs.Closing.{first_unknown, named_trees}
use Rattle.layout_rules.specs.Calls.{KnowsTables, SharesNone, StoresAll}
use Rattle.layout_rules.specs.Lookups.{is_shared, numbers_up, stays, stores_found, tables_up}
use Rattle.layout_rules.specs.Closed.{GivesLayout, IsClosing, closed_layout, closing, closing_refusal, first_shared, first_unstored, or_else, tells_table, tells_target, unless, wanted}
use Rattle.layout_rules.specs.declared.layout.Layout.{Layout}
use Rattle.layout_rules.proofs.CloseLaws.{close_done, close_shared, close_unknown, close_unstored, heading_known}

-- where all pass, none is found that fails
none_fails : {X : Type 0} (test : X → Bool) (xs : List X) → list_all test xs ≡ true → find (λ x. not (test x)) xs ≡ None
none_fails test [] h = refl
none_fails {X} test (x ∷ xs) h =
    (elim (test x) as (λ b. (b && list_all test xs) ≡ true → cond (not b) (Some x) (find (λ x. not (test x)) xs) ≡ None) [
      | true ↦ λ k. none_fails test xs k
      | false ↦ λ k. absurd (false≢true k)
    ]) h

-- the first that fails
first_fails : {X : Type 0} (test : X → Bool) (before after : List X) (x : X) → list_all test before ≡ true → test x ≡ false → find (λ y. not (test y)) (before ++ x ∷ after) ≡ Some x
first_fails {X} test before after x all fails =
    find_past (λ (y : X). not (test y)) before (x ∷ after) (none_fails test before all) ∙ ap (λ (b : Bool). cond (not b) (Some x) (find (λ (y : X). not (test y)) after)) fails

module _ {O : Type 0} (g : Drawn O) (layout : List ℕ) (named : List Target) where
  refused_by : (r : Refusal) → closing_refusal g layout named ≡ Some r → closing g layout named ≡ Err r
  refused_by r is = ap (λ (o : Option Refusal). unless o (closed_layout g layout named)) is

  pub computed_unknown : (fault : Fault Refusal) → KnowsTables g named (Err fault) → GivesLayout (closing g layout named) (Err fault)
  computed_unknown (Refused r) knows =
      refused_by r (ap (λ (o : Option Target). or_else (option_map tells_target o) (or_else (option_and_then (tells_table g) (first_shared g named)) (option_map tells_target (first_unstored g layout named)))) knows.1 ∙ ap (λ (x : Refusal). Some x) (sym knows.2))
  computed_unknown (Memory memory) knows = tt

  module _ (known : first_unknown g named ≡ None) (w : List ℕ) (is : w ≡ wanted g named) where
    past_unknown : closing_refusal g layout named ≡ or_else (option_and_then (tells_table g) (first_shared g named)) (option_map tells_target (first_unstored g layout named))
    past_unknown = ap (λ (o : Option Target). or_else (option_map tells_target o) (or_else (option_and_then (tells_table g) (first_shared g named)) (option_map tells_target (first_unstored g layout named)))) known

    pub computed_shared : (fault : Fault Refusal) → SharesNone g w (Err fault) → GivesLayout (closing g layout named) (Err fault)
    computed_shared (Refused r) shares =
        let found : first_shared g named ≡ Some shares.0 = subst (λ (l : List ℕ). find (is_shared g.edges l) (tables_up g.edges) ≡ Some shares.0) is shares.1 in
        let told : tells_table g shares.0 ≡ Some r = ap (λ (o : Option Heading). option_map (λ (h : Heading). InvalidLayout h.name) o) shares.2.1 ∙ ap (λ (x : Refusal). Some x) (sym shares.2.2) in
        refused_by r (past_unknown ∙ ap (λ (o : Option ℕ). or_else (option_and_then (tells_table g) o) (option_map tells_target (first_unstored g layout named))) found ∙ ap (λ (o : Option Refusal). or_else o (option_map tells_target (first_unstored g layout named))) told)
    computed_shared (Memory memory) shares = tt

    module _ (alone : find (is_shared g.edges w) (tables_up g.edges) ≡ None) (new : List ℕ) (made : new ≡ filter (stays g.edges (named_trees g named) w layout) (numbers_up g.edges)) where
      new_closed : new ≡ closed_layout g layout named
      new_closed = made ∙ ap (λ (l : List ℕ). filter (stays g.edges (named_trees g named) l layout) (numbers_up g.edges)) is

      past_shared : closing_refusal g layout named ≡ option_map tells_target (first_unstored g layout named)
      past_shared =
          let none : first_shared g named ≡ None = subst (λ (l : List ℕ). find (is_shared g.edges l) (tables_up g.edges) ≡ None) is alone in
          past_unknown ∙ ap (λ (o : Option ℕ). or_else (option_and_then (tells_table g) o) (option_map tells_target (first_unstored g layout named))) none

      unstored_is : (o : Option Target) → find (λ target. not (stores_found g new target)) named ≡ o → first_unstored g layout named ≡ o
      unstored_is o found = subst (λ (l : List ℕ). find (λ target. not (stores_found g l target)) named ≡ o) new_closed found

      pub computed_unstored : (fault : Fault Refusal) → StoresAll g new named (Err fault) → GivesLayout (closing g layout named) (Err fault)
      computed_unstored (Refused r) stores =
          let found = ap (find (λ target. not (stores_found g new target))) stores.3 ∙ first_fails (stores_found g new) stores.0 stores.2 stores.1 stores.4 stores.5 in
          refused_by r (past_shared ∙ ap (option_map tells_target) (unstored_is (Some stores.1) found) ∙ ap (λ (x : Refusal). Some x) (sym stores.6))
      computed_unstored (Memory memory) stores = tt

      pub computed_done : (told : Layout) → told.operators ≡ new → list_all (stores_found g new) named ≡ true → GivesLayout (closing g layout named) (Ok told)
      computed_done told same stores =
          let none = past_shared ∙ ap (option_map tells_target) (unstored_is None (none_fails (stores_found g new) named stores)) in
          ap (λ (o : Option Refusal). unless o (closed_layout g layout named)) none ∙ ap (λ (l : List ℕ). Ok l) (sym (same ∙ new_closed))

-- ---- what closing gives is told by sets

-- the first that fails, with those before it
fails_at : {X : Type 0} (test : X → Bool) (xs : List X) (x : X) → find (λ y. not (test y)) xs ≡ Some x → (before : List X) × (after : List X) × (xs ≡ before ++ x ∷ after) × (list_all test before ≡ true) × (test x ≡ false)
fails_at test [] x found = absurd (cc)
fails_at {X} test (y ∷ ys) x found =
    (elim (test y) as (λ b. test y ≡ b → cond (not b) (Some y) (find (λ z. not (test z)) ys) ≡ Some x → (before : List X) × (after : List X) × (y ∷ ys ≡ before ++ x ∷ after) × (list_all test before ≡ true) × (test x ≡ false)) [
      | true ↦ λ is f.
          let r = fails_at test ys x f in
          (y ∷ r.0, r.1, ap (λ (l : List X). y ∷ l) r.2, ap (λ (b : Bool). b && list_all test r.0) is ∙ r.3, r.4)
      | false ↦ λ is f.
          let same : y ≡ x = cc in
          ([], ys, ap (λ (z : X). z ∷ ys) same, refl, ap test (sym same) ∙ is)
    ]) refl found

none_fail : {X : Type 0} (test : X → Bool) (xs : List X) → find (λ y. not (test y)) xs ≡ None → list_all test xs ≡ true
none_fail test [] none = refl
none_fail {X} test (y ∷ ys) none =
    (elim (test y) as (λ b. cond (not b) (Some y) (find (λ z. not (test z)) ys) ≡ None → (b && list_all test ys) ≡ true) [
      | true ↦ λ n. none_fail test ys n
      | false ↦ λ n. absurd (let no : ⊥ = cc in no)
    ]) none

module _ {O : Type 0} (g : Drawn O) (edges : AreEdges g.edges) (layout : List ℕ) (named : List Target) where
  abbrev Right : Result (List ℕ) Refusal → Type 0
  Right = IsClosing g layout named

  right_unstored : (known : first_unknown g named ≡ None) → (alone : first_shared g named ≡ None) → (o : Option Target) → first_unstored g layout named ≡ o → Right (closing g layout named)
  right_unstored known alone None is =
      let model : closing g layout named ≡ Ok (closed_layout g layout named) = computed_done g layout named known (wanted g named) refl alone (closed_layout g layout named) refl (record { operators = closed_layout g layout named }) refl (none_fail (stores_found g (closed_layout g layout named)) named is) in
      subst (λ (r : Result (List ℕ) Refusal). Right r) (sym model)
      (close_done g layout named edges known (wanted g named) refl alone (closed_layout g layout named) refl (record { operators = closed_layout g layout named }) refl (none_fail (stores_found g (closed_layout g layout named)) named is))
  right_unstored known alone (Some target) is =
      let at = fails_at (stores_found g (closed_layout g layout named)) named target is in
      let stores : StoresAll g (closed_layout g layout named) named (Err (Refused (tells_target target))) = (at.0, target, at.1, at.2, at.3, at.4, refl) in
      let model : closing g layout named ≡ Err (tells_target target) = computed_unstored g layout named known (wanted g named) refl alone (closed_layout g layout named) refl (Refused (tells_target target)) stores in
      subst (λ (r : Result (List ℕ) Refusal). Right r) (sym model)
      (close_unstored g layout named edges known (wanted g named) refl alone (closed_layout g layout named) refl (Refused (tells_target target)) stores)

  right_heading : (known : first_unknown g named ≡ None) → (t : ℕ) → first_shared g named ≡ Some t → (o : Option Heading) → heading_of g.edges t ≡ o → Right (closing g layout named)
  right_heading known t is None none =
      let some : IsSome (heading_of g.edges t) = heading_known g.edges edges (is_shared g.edges (wanted g named)) t (sym is) in
      absurd (false≢true (subst (λ (o : Option Heading). is_some o ≡ true) none some))
  right_heading known t is (Some h) found =
      let shares : SharesNone g (wanted g named) (Err (Refused (InvalidLayout h.name))) = (t, is, (h, found, refl)) in
      let model : closing g layout named ≡ Err (InvalidLayout h.name) = computed_shared g layout named known (wanted g named) refl (Refused (InvalidLayout h.name)) shares in
      subst (λ (r : Result (List ℕ) Refusal). Right r) (sym model)
      (close_shared g layout named edges known (wanted g named) refl (Refused (InvalidLayout h.name)) shares)

  right_shared : (known : first_unknown g named ≡ None) → (o : Option ℕ) → first_shared g named ≡ o → Right (closing g layout named)
  right_shared known None is = right_unstored known is (first_unstored g layout named) refl
  right_shared known (Some t) is = right_heading known t is (heading_of g.edges t) refl

  right_unknown : (o : Option Target) → first_unknown g named ≡ o → Right (closing g layout named)
  right_unknown None is = right_shared is (first_shared g named) refl
  right_unknown (Some target) is =
      let knows : KnowsTables g named (Err (Refused (tells_target target))) = (target, is, refl) in
      let model : closing g layout named ≡ Err (tells_target target) = computed_unknown g layout named (Refused (tells_target target)) knows in
      subst (λ (r : Result (List ℕ) Refusal). Right r) (sym model) (close_unknown g layout named (Refused (tells_target target)) knows)

  -- WHAT CLOSING GIVES IS TOLD BY SETS
  pub closing_right : IsClosing g layout named (closing g layout named)
  closing_right = right_unknown (first_unknown g named) refl
