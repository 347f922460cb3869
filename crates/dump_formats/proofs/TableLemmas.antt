-- The tables of a graph.
use Rattle.std.specs.Prelude.{◌≤◌, Option, Some, None, is_some, option_map, option_to_list, slice_get}
use Rattle.std.specs.List.{find}
use Rattle.std.proofs.Common.{◌≡◌, ℕ, ◌+◌, List, [], ◌∷◌, ◌++◌, Bool, true, false, cond, length, take, inl, inr, refl, sym, ap, ◌∙◌, subst}
use Rattle.std.proofs.lemmas.Bool.{false≢true}
use Rattle.std.proofs.lemmas.List.{map-append, take_all}
use Rattle.version_graph.specs.Edges.{AreEdges, is_in, made, made_by_edge, maker_of}
use Rattle.version_graph.specs.Sets.{In}
use Rattle.version_graph.specs.Tables.{TableVersion, table_numbers}
use Rattle.version_graph.specs.declared.parts.Placed.{Placed}
use Rattle.version_graph.proofs.SetLaws.{in_append, is_in_true}
use Rattle.version_graph.proofs.TableLaws.{numbers_made}
use Rattle.layout_rules.specs.Lookups.{tables_along, tables_up}
use Rattle.layout_rules.proofs.LookupLaws.{link_maker}
use Rattle.layout_rules.proofs.PassLaws.{along_both, take_next, target_up, up_made}

module _ {O : Type 0} where
  -- the tables of one operator more
  pub tables_step : (xs : List (Placed O)) (i : ℕ) (so_far more : List ℕ) → so_far ≡ tables_along (take i xs) → more ≡ so_far ++ tables_along (option_to_list (slice_get xs i)) → more ≡ tables_along (take (i + 1) xs)
  tables_step xs i so_far more is m =
      m ∙ ap (λ (l : List ℕ). l ++ tables_along (option_to_list (slice_get xs i))) is
      ∙ sym (ap (λ (l : List (Placed O)). tables_along l) (take_next xs i (slice_get xs i) refl) ∙ along_both (take i xs) (option_to_list (slice_get xs i)))

  -- those of all
  pub tables_end : (xs : List (Placed O)) (i : ℕ) (so_far : List ℕ) → length xs ≤ i → so_far ≡ tables_along (take i xs) → so_far ≡ tables_along xs
  tables_end xs i so_far past is = is ∙ ap (λ (l : List (Placed O)). tables_along l) (take_all i xs past)

  -- a table that has a maker lives
  pub maker_up : (es : List (Placed O)) (t : ℕ) → is_some (maker_of es t) ≡ true → In t (tables_up es)
  maker_up es t some = go (maker_of es t) refl some
    where
      go : (o : Option ℕ) → maker_of es t ≡ o → is_some o ≡ true → In t (tables_up es)
      go (Some n) is h = let f = link_maker es t n is in target_up es f.0 t f.1 f.3
      go None is h = absurd (false≢true h)

  -- what is found of the operators
  maker_at : Placed O → List (Placed O) → ℕ → Bool → Option ℕ
  maker_at e es t b = option_map (λ (x : Placed O). x.number) (cond b (Some e) (find (λ (x : Placed O). is_in t x.tables) es))

  made_maker : (es : List (Placed O)) → AreEdges es → (t : ℕ) → In t (table_numbers (made es)) → is_some (maker_of es t) ≡ true
  unfolding maker_at
  made_maker [] edges t i = absurd i
  made_maker (e ∷ es) edges t i = go (made_maker es edges.1 t) (is_in t e.tables) refl
    where
      all : table_numbers (made (e ∷ es)) ≡ e.tables ++ table_numbers (made es)
      all =
          map-append (λ (v : TableVersion). v.number) (made_by_edge e) (made es)
          ∙ ap (λ (l : List ℕ). l ++ table_numbers (made es)) (numbers_made e.tables e.edge.targets edges.0.counted)

      go : (In t (table_numbers (made es)) → is_some (maker_of es t) ≡ true) → (b : Bool) → is_in t e.tables ≡ b → is_some (maker_at e es t (is_in t e.tables)) ≡ true
      go rest true is = ap (λ (b : Bool). is_some (maker_at e es t b)) is
      go rest false is =
          ap (λ (b : Bool). is_some (maker_at e es t b)) is
          ∙ rest (elim (in_append t e.tables (table_numbers (made es)) (subst (λ (l : List ℕ). In t l) all i)) as (λ _. In t (table_numbers (made es))) [
            | inl j ↦ absurd (false≢true (sym is ∙ is_in_true t e.tables j))
            | inr j ↦ j
          ])

  -- and one that lives has one
  pub up_maker : (es : List (Placed O)) → AreEdges es → (t : ℕ) → In t (tables_up es) → is_some (maker_of es t) ≡ true
  up_maker es edges t i = made_maker es edges t (up_made es edges t i)
