-- A write leaves a sound state.
use Rattle.std.proofs.Common.{◌+◌, ◌<◌, take, drop, get_or, ◌≡◌, ℕ, ◌≤◌, List, [], ◌∷◌, ◌++◌, Bool, true, false, inl, inr, refl, sym, ap, ◌∙◌, subst, map, length, arith}
use Rattle.std.specs.Prelude.{◌==◌}
use Rattle.std.proofs.lemmas.List.{take-append-drop}
use Rattle.std.proofs.lemmas.Bool.{eq-eqb, eqb-true}
use Rattle.row_store.specs.Rows.{Rows, RiseFrom}
use Rattle.version_graph.specs.Sets.{In, Apart, Distinct, Each}
use Rattle.version_graph.specs.Tables.{TableVersion, table_numbers}
use Rattle.version_graph.specs.Edges.{AreEdges, numbers, made, working}
use Rattle.version_graph.specs.Forest.{Link, link, Crossing, crossing, forest, tree, walk}
use Rattle.version_graph.specs.Laws.{Leaves}
use Rattle.version_graph.specs.declared.parts.Placed.{Placed}
use Rattle.op_law.specs.Tables.{RowsWide}
use Rattle.op_law.specs.Sound.{RowsSound}
use Rattle.op_law.specs.Meaning.{Meaning, PairState}
use Rattle.op_law.specs.Premises.{IsPair}
use Rattle.op_law.specs.Laws.{Laws}
use Rattle.op_law.proofs.SoundLaws.{rows_more, pairs_more}
use Rattle.version_graph.proofs.SetLaws.{each_at, each_more, each_of, in_map, origin}
use Rattle.version_graph.proofs.TableLaws.{working_made}
use Rattle.version_graph.proofs.TakenLaws.{same_item}
use Rattle.version_graph.proofs.WalkLaws.{IsForest, is_forest, link_numbers, sets_linked, walk_in_order, walk_leaves_set}
use Rattle.version_graph.proofs.TreeLaws.{tree_in_walk, walk_in_tree}
use Rattle.version_model.specs.States.{State, headings, IsWell}
use Rattle.version_model.specs.Sound.{IsSound}
use Rattle.version_model.specs.Steps.{pair_in, IsRelated, run}
use Rattle.version_model.specs.Writes.{write, written, MayWrite}
use Rattle.version_model.specs.Laws.{StaysAt, WriteIsOrdinary}
use Rattle.version_model.proofs.PutLaws.{put_apart, put_holds, put_one, put_else}
use Rattle.version_model.proofs.RunLaws.{MayCross, IsReady, run_leaves, run_may_cross, run_memory, run_related, run_rises, run_rises_on, parted, run_table, run_well}
use Rattle.version_model.proofs.CrossingLaws.{GoesOver, IsWithin, numbers_linked, walk_each, walk_goes_over, walk_within}
use Rattle.version_model.proofs.TreeLaws.{MadeIn, one_tree, sources_in_tree, tables_in_tree, targets_in_tree, trees_together}

-- the state of a write after so many crossings
abbrev pub write_so_far : {O : Type 0} → (O → Meaning) → List (Placed O) → State → ℕ → ℕ → Rows → ℕ → ℕ → State
write_so_far meaning es s w t rows next i = run meaning s (written s t rows next) (take i (walk (forest es) w))

-- ---- links

module _ {O : Type 0} where
  -- an edge has a link
  linked : (es : List (Placed O)) (e : Placed O) → In e es → (f : Link O) × In f (forest es) × (f.number ≡ e.number) × (f.targets ≡ e.tables)
  linked [] e i = absurd i
  linked (g ∷ es) e (inl same) = (link es g, inl refl, ap (λ (x : Placed O). x.number) (sym same), ap (λ (x : Placed O). x.tables) (sym same))
  linked (g ∷ es) e (inr i) = let more = linked es e i in (more.0, inr more.1, more.2, more.3)

  link_listed : (es : List (Link O)) (f : Link O) → In f es → In f.number (link_numbers es)
  link_listed [] f i = i
  link_listed (e ∷ es) f (inl same) = inl (ap (λ (x : Link O). x.number) same)
  link_listed (e ∷ es) f (inr i) = inr (link_listed es f i)

  link_numbers_are : (es : List (Link O)) → link_numbers es ≡ map (λ (e : Link O). e.number) es
  link_numbers_are [] = refl
  link_numbers_are (e ∷ es) = ap (λ (l : List ℕ). e.number ∷ l) (link_numbers_are es)

  links_once : (es : List (Link O)) → IsForest es → Distinct (link_numbers es)
  links_once [] forest = tt
  links_once (e ∷ es) forest = ((λ i. let less = forest.0.newest e.number (inr i) in omega arith), links_once es forest.1)

  -- a number is that of one link
  one_link : (es : List (Link O)) → IsForest es → (f g : Link O) → In f es → In g es → f.number ≡ g.number → f ≡ g
  one_link es forest f g i j same = same_item (λ (e : Link O). e.number) es f g (subst (λ (l : List ℕ). Distinct l) (link_numbers_are es) (links_once es forest)) i j same

-- ---- a sound state may be written

module _ {O : Type 0} (meaning : O → Meaning) (es : List (Placed O)) (s : State) (sound : IsSound meaning es s) where
  turned : (x : State) (e : Link O) → IsRelated meaning (headings es) x (crossing false e) → IsRelated meaning (headings es) x (crossing true e)
  turned x e r = record { fits = r.fits; related = r.related; source_of = r.target_of; target_of = r.source_of }

  turned_back : (x : State) (e : Link O) → IsRelated meaning (headings es) x (crossing true e) → IsRelated meaning (headings es) x (crossing false e)
  turned_back x e r = record { fits = r.fits; related = r.related; source_of = r.target_of; target_of = r.source_of }

  -- either way
  pub either_way : (x : State) (e : Link O) (b : Bool) → IsRelated meaning (headings es) x (crossing b e) → IsRelated meaning (headings es) x (crossing false e)
  either_way x e true r = turned_back x e r
  either_way x e false r = r

  -- each crossing of a walk has a related pair
  pub walk_is_ready : (w : ℕ) → Each (IsReady meaning (headings es) s) (walk (forest es) w)
  walk_is_ready w =
      walk_each (IsReady meaning (headings es) s) (forest es) w
      (each_of (λ (e : Link O). IsReady meaning (headings es) s (crossing true e) × IsReady meaning (headings es) s (crossing false e)) (forest es) (λ e i.
      let related = each_at (λ (f : Link O). IsRelated meaning (headings es) s (crossing false f)) (forest es) e i sound.related in
      let closed = each_at (λ (f : Link O). (meaning f.operator).Closed s.next) (forest es) e i sound.closed in (
        record { related = turned s e related; closed = closed },
        record { related = related; closed = closed },
      )))

  module _ (w t : ℕ) (rows : Rows) (next : ℕ) (may : MayWrite es s w t rows next) where
    pub written_well : IsWell (headings es) (written s t rows next)
    written_well = record {
      tables = put_holds (λ n x. RiseFrom 0 x × RowsWide (length (headings es n).columns) x) s.tables (t ∷ []) (rows ∷ []) ((may.rise, may.wide), tt) sound.well.tables;
      rows = put_holds (λ n x. RowsSound next x) s.tables (t ∷ []) (rows ∷ []) (may.sound, tt) (λ n. rows_more s.next next may.more (s.tables n) (sound.well.rows n));
      memories = λ n. pairs_more s.next next may.more (s.memory n) (sound.well.memories n);
    }

    written_else : (ks : List ℕ) → (In t ks → ⊥) → map (written s t rows next).tables ks ≡ map s.tables ks
    written_else ks none = put_apart s.tables (t ∷ []) (rows ∷ []) ks (λ n i j. elim j as (λ _. ⊥) [ inl same ↦ none (subst (λ (x : ℕ). In x ks) same i) | inr k ↦ k ])

    module _ (laws : (o : O) → Laws (meaning o)) (edges : AreEdges es) where
      abbrev pub end : State
      end = write meaning es s w t rows next

      -- EACH MAPPING OF A WRITE MAY BE MADE: that over p after the crossings before it
      pub write_may_cross : (ps qs : List (Crossing O)) (p : Crossing O) → walk (forest es) w ≡ ps ++ p ∷ qs → MayCross meaning (headings es) s (run meaning s (written s t rows next) ps) p
      write_may_cross ps qs p is =
          run_may_cross meaning laws (headings es) s sound.well ps qs p (written s t rows next) written_well may.more
          (subst (λ (l : List (Crossing O)). Each (IsReady meaning (headings es) s) l) is (walk_is_ready w))

      -- ---- the same by places

      pub write_at : (i : ℕ) (d : Crossing O) → i < length (walk (forest es) w) → MayCross meaning (headings es) s (write_so_far meaning es s w t rows next i) (get_or (walk (forest es) w) i d)
      write_at i d within = write_may_cross (take i (walk (forest es) w)) (drop (i + 1) (walk (forest es) w)) (get_or (walk (forest es) w) i d) (parted (walk (forest es) w) i d within)

      -- the next identifier on the way isn't above that at the end
      pub write_rises : (i : ℕ) → (write_so_far meaning es s w t rows next i).next ≤ end.next
      write_rises i =
          let ps = walk (forest es) w in
          let parts = take-append-drop i ps in
          subst (λ (l : List (Crossing O)). (write_so_far meaning es s w t rows next i).next ≤ (run meaning s (written s t rows next) l).next) parts
          (run_rises_on meaning laws (headings es) s sound.well (take i ps) (drop i ps) (written s t rows next) written_well may.more
          (subst (λ (l : List (Crossing O)). Each (IsReady meaning (headings es) s) l) (sym parts) (walk_is_ready w)))

      end_rises : next ≤ end.next
      end_rises = run_rises meaning laws (headings es) s sound.well (walk (forest es) w) (written s t rows next) written_well may.more (walk_is_ready w)

      -- ---- operators of the written tree are related again

      of_number : (f : Link O) → In f (forest es) → In f.number (numbers es)
      of_number f i = subst (λ (l : List ℕ). In f.number l) (numbers_linked es) (link_listed (forest es) f i)

      crossed_again : (f : Link O) → In f (forest es) → tree (forest es) f.number ≡ tree (forest es) w → IsRelated meaning (headings es) end (crossing false f)
      crossed_again f i same =
          let ps = walk (forest es) w in
          let all = run_related meaning laws (headings es) s sound.well ps (written s t rows next) written_well may.more (walk_is_ready w) (walk_in_order es edges w) in
          let o = origin (λ (p : Crossing O). p.number) f.number ps (tree_in_walk es w f.number (of_number f i) same) in
          let over = each_at (GoesOver (forest es)) ps o.0 o.1 (walk_goes_over (forest es) w) in
          let number : f.number ≡ over.over.number = o.2 ∙ ap (λ (p : Crossing O). p.number) over.is in
          let link : f ≡ over.over = one_link (forest es) (is_forest es edges) f over.over i over.among number in
          let here : IsRelated meaning (headings es) end (crossing over.back over.over) = subst (λ (p : Crossing O). IsRelated meaning (headings es) end p) over.is (each_at (IsRelated meaning (headings es) end) ps o.0 o.1 all) in
          subst (λ (g : Link O). IsRelated meaning (headings es) end (crossing false g)) (sym link) (either_way end over.over over.back here)

      -- ---- those of other trees are left

      module _ (f : Link O) (i : In f (forest es)) (other : tree (forest es) f.number ≡ tree (forest es) w → ⊥) where
        abbrev OfTree : ℕ → ℕ → Type 0
        OfTree r n = MadeIn (tree (forest es)) (forest es) r n

        own_source : (n : ℕ) → In n f.sources → OfTree (tree (forest es) f.number) n
        own_source n j = sources_in_tree (tree (forest es)) (forest es) f (is_forest es edges) (trees_together es edges) i n j

        own_target : (n : ℕ) → In n f.targets → OfTree (tree (forest es) f.number) n
        own_target n j = targets_in_tree (tree (forest es)) (forest es) f i n j

        not_there : (n : ℕ) → OfTree (tree (forest es) f.number) n → OfTree (tree (forest es) w) n → ⊥
        not_there n a b = other (one_tree (tree (forest es)) (forest es) (is_forest es edges) (tree (forest es) f.number) (tree (forest es) w) n a b)

        -- the far side of a crossing is of its tree
        far_in_tree : (g : Link O) → In g (forest es) → (b : Bool) (n : ℕ) → In n (crossing b g).far → OfTree (tree (forest es) g.number) n
        far_in_tree g j true n k = sources_in_tree (tree (forest es)) (forest es) g (is_forest es edges) (trees_together es edges) j n k
        far_in_tree g j false n k = targets_in_tree (tree (forest es)) (forest es) g j n k

        leaves_it : (p : Crossing O) → In p (walk (forest es) w) → Leaves (crossing false f) p
        leaves_it p j =
            let over = each_at (GoesOver (forest es)) (walk (forest es) w) p j (walk_goes_over (forest es) w) in
            let in_tree = walk_in_tree es edges w p.number (in_map (λ (q : Crossing O). q.number) p (walk (forest es) w) j) in
            let same : tree (forest es) over.over.number ≡ tree (forest es) w = ap (λ (q : Crossing O). tree (forest es) q.number) (sym over.is) ∙ in_tree in
            let far : (n : ℕ) → In n p.far → OfTree (tree (forest es) w) n = λ n k. subst (λ (r : ℕ). OfTree r n) same (far_in_tree over.over over.among over.back n (subst (λ (q : Crossing O). In n q.far) over.is k)) in
            record {
              near = λ n a b. not_there n (own_source n a) (far n b);
              far = λ n a b. not_there n (own_target n a) (far n b);
              memory = λ number. other (ap (λ (r : ℕ). tree (forest es) r) number ∙ in_tree);
            }

        held_there : OfTree (tree (forest es) w) t
        held_there = tables_in_tree (tree (forest es)) (forest es) (is_forest es edges) (trees_together es edges) (tree (forest es) w) w (inr refl) t (subst (λ (l : List ℕ). In t l) (sym (sets_linked es edges w)) may.held)

        left : IsRelated meaning (headings es) end (crossing false f)
        left =
            let near = written_else f.sources (λ j. not_there t (own_source t j) held_there) in
            let far = written_else f.targets (λ j. not_there t (own_target t j) held_there) in
            let first : pair_in (written s t rows next) (crossing false f) ≡ pair_in s (crossing false f) = cc in
            let same : pair_in end (crossing false f) ≡ pair_in s (crossing false f) = run_leaves meaning s (walk (forest es) w) (written s t rows next) (crossing false f) (each_of (Leaves (crossing false f)) (walk (forest es) w) leaves_it) ∙ first in
            subst (λ (x : PairState). IsPair (meaning f.operator) (map (headings es) f.sources) (map (headings es) f.targets) x) (sym same)
            (each_at (λ (e : Link O). IsRelated meaning (headings es) s (crossing false e)) (forest es) f i sound.related)

        left_table : (n : ℕ) → In n f.targets → end.tables n ≡ s.tables n
        left_table n j =
            run_table meaning s (walk (forest es) w) (written s t rows next) n (each_of (λ (p : Crossing O). In n p.far → ⊥) (walk (forest es) w) (λ p k here. (leaves_it p k).far n j here))
            ∙ put_else s.tables t rows n (λ same. not_there n (own_target n j) (subst (λ (k : ℕ). OfTree (tree (forest es) w) k) (sym same) held_there))

        left_memory : end.memory f.number ≡ s.memory f.number
        left_memory = run_memory meaning s (walk (forest es) w) (written s t rows next) f.number (each_of (λ (p : Crossing O). f.number ≡ p.number → ⊥) (walk (forest es) w) (λ p k. (leaves_it p k).memory))

      left_edge : (e : Placed O) → In e es → (tree (forest es) e.number ≡ tree (forest es) w → ⊥) → StaysAt e s end
      left_edge e i other =
          let f = linked es e i in
          let own : tree (forest es) f.0.number ≡ tree (forest es) w → ⊥ = λ same. other (ap (λ (n : ℕ). tree (forest es) n) (sym f.2) ∙ same) in
          record {
            tables = λ n j. left_table f.0 f.1 own n (subst (λ (l : List ℕ). In n l) (sym f.3) j);
            memory = subst (λ (n : ℕ). end.memory n ≡ s.memory n) f.2 (left_memory f.0 f.1 own);
          }

      related_again : (f : Link O) → In f (forest es) → IsRelated meaning (headings es) end (crossing false f)
      related_again f i =
          (elim (tree (forest es) f.number == tree (forest es) w) as (λ b. (tree (forest es) f.number == tree (forest es) w) ≡ b → IsRelated meaning (headings es) end (crossing false f)) [
            | true ↦ λ is. crossed_again f i (eqb-true (tree (forest es) f.number) (tree (forest es) w) is)
            | false ↦ λ is. left f i (λ same. let clash : true ≡ false = sym (eq-eqb (tree (forest es) f.number) (tree (forest es) w) same) ∙ is in cc)
          ]) refl

      -- a table that isn't written, and on no far side of the walk
      table_stays : (n : ℕ) → Each (λ (q : Crossing O). In n q.far → ⊥) (walk (forest es) w) → end.tables n ≡ (written s t rows next).tables n
      table_stays n none = run_table meaning s (walk (forest es) w) (written s t rows next) n none

      own_table : (n : ℕ) → In n (table_numbers (working es w)) → end.tables n ≡ (written s t rows next).tables n
      own_table n i = table_stays n (each_more (λ (q : Crossing O). Apart q.far (table_numbers (working es w))) (λ (q : Crossing O). In n q.far → ⊥) (λ q apart k. apart n k i) (walk (forest es) w) (walk_leaves_set es edges w))

      written_lives : In t (table_numbers (made es))
      written_lives =
          let o = origin (λ (v : TableVersion). v.number) t (working es w) may.held in
          subst (λ (n : ℕ). In n (table_numbers (made es))) (sym o.2) (in_map (λ (v : TableVersion). v.number) o.0 (made es) (working_made es w o.0 o.1))

      write_sound : IsSound meaning es end
      write_sound =
          let low = sound.drawn in
          let more = may.more in
          let rises = end_rises in
          let up : s.next ≤ end.next = omega arith in
          record {
            related = each_of (λ (f : Link O). IsRelated meaning (headings es) end (crossing false f)) (forest es) related_again;
            closed = each_more (λ (f : Link O). (meaning f.operator).Closed s.next) (λ (f : Link O). (meaning f.operator).Closed end.next) (λ f c. (laws f.operator).0.closed_more s.next end.next up c) (forest es) sound.closed;
            well = run_well meaning laws (headings es) s sound.well (walk (forest es) w) (written s t rows next) written_well may.more (walk_is_ready w);
            alone = record {
              tables = λ n none.
                  table_stays n (each_more (IsWithin es) (λ (q : Crossing O). In n q.far → ⊥) (λ q within k. none (within.far n k)) (walk (forest es) w) (walk_within es edges w))
                  ∙ put_else s.tables t rows n (λ same. none (subst (λ (k : ℕ). In k (table_numbers (made es))) (sym same) written_lives)) ∙ sound.alone.tables n none;
              memories = λ n none.
                  run_memory meaning s (walk (forest es) w) (written s t rows next) n
                  (each_more (IsWithin es) (λ (q : Crossing O). n ≡ q.number → ⊥) (λ q within same. none (subst (λ (k : ℕ). In k (numbers es)) (sym same) within.number)) (walk (forest es) w) (walk_within es edges w))
                  ∙ sound.alone.memories n none;
            };
            drawn = omega arith;
          }

      -- A WRITE IS THAT OF AN ORDINARY DATABASE
      pub write_is_ordinary : WriteIsOrdinary meaning es s w t rows next
      write_is_ordinary = record {
        sound = write_sound;
        table = own_table t may.held ∙ put_one s.tables t rows;
        others = λ n i other. own_table n i ∙ put_else s.tables t rows n other;
        trees = left_edge;
        rises = end_rises;
      }
