-- What a write can't reach stays as it is, so the crossings that it can reach make the write.
use Rattle.std.specs.Prelude.{◌==◌, ◌⊎◌, if◌then◌else◌}
use Rattle.std.proofs.Common.{◌≡◌, ℕ, zero, suc, ◌+◌, ◌≤◌, ◌<◌, List, [], ◌∷◌, ◌++◌, Bool, true, false, length, map, take, get_or, inl, inr, refl, sym, ap, ◌∙◌, subst, arith}
use Rattle.std.proofs.Math.Path.{fun_ext}
use Rattle.std.proofs.lemmas.Bool.{cond-false, cond-true, eqb-true, false≢true}
use Rattle.std.proofs.lemmas.List.{take_more}
use Rattle.row_store.specs.Rows.{Rows}
use Rattle.op_law.specs.Laws.{Laws}
use Rattle.op_law.specs.Meaning.{Mapped, Meaning}
use Rattle.op_law.specs.Premises.{MayMap}
use Rattle.op_law.specs.Tables.{Heading, Tables}
use Rattle.version_graph.specs.Edges.{is_in}
use Rattle.version_graph.specs.Forest.{Crossing, Link, crossing, forest, walk}
use Rattle.version_graph.specs.Sets.{Apart, Each, In, Within}
use Rattle.version_graph.specs.declared.parts.Placed.{Placed}
use Rattle.version_graph.proofs.SetLaws.{each_more, in_of_test, is_in_true}
use Rattle.version_model.specs.Put.{put}
use Rattle.version_model.specs.Sound.{IsSound}
use Rattle.version_model.specs.States.{IsWell, State, headings}
use Rattle.version_model.specs.Steps.{after, directed, mapped, pair_in, run}
use Rattle.version_model.specs.Writes.{MayWrite, write, written}
use Rattle.version_model.proofs.CrossingLaws.{GoesOver, walk_goes_over}
use Rattle.version_model.proofs.ProgressLaws.{state_is}
use Rattle.version_model.proofs.PutLaws.{map_same, put_else, put_other}
use Rattle.version_model.proofs.RunLaws.{IsReady, MayCross, after_rises, after_well, may_cross, way_laws}
use Rattle.version_model.proofs.WriteLaws.{walk_is_ready, written_well}
use Rattle.changes_walk.specs.Reach.{IsReach, reached}

-- values that are put where they stand already leave all
put_back : {A : Type 0} (f g : ℕ → A) (ks : List ℕ) → ((t : ℕ) → In t ks → g t ≡ f t) → (t : ℕ) → put f ks (map g ks) t ≡ f t
put_back f g [] same t = refl
put_back {A} f g (k ∷ ks) same t =
    elim (t == k) as (λ b. (t == k) ≡ b → (if b then g k else put f ks (map g ks) t) ≡ f t) [
      | true ↦ λ e. same k (inl refl) ∙ ap f (sym (eqb-true t k e))
      | false ↦ λ e. put_back f g ks (λ u i. same u (inr i)) t
    ]
    refl

-- ---- what is reached of some crossings

module _ {O : Type 0} (operators : List ℕ) where
  pub reaches : (p : Crossing O) (ps : List (Crossing O)) → is_in p.number operators ≡ true → reached operators (p ∷ ps) ≡ p ∷ reached operators ps
  reaches p ps own = cond-true (is_in p.number operators) (p ∷ reached operators ps) (reached operators ps) own

  pub passes_by : (p : Crossing O) (ps : List (Crossing O)) → is_in p.number operators ≡ false → reached operators (p ∷ ps) ≡ reached operators ps
  passes_by p ps other = cond-false (is_in p.number operators) (p ∷ reached operators ps) (reached operators ps) other

  reached_append : (ps qs : List (Crossing O)) → reached operators (ps ++ qs) ≡ reached operators ps ++ reached operators qs
  reached_append [] qs = refl
  reached_append (p ∷ ps) qs =
      elim (is_in p.number operators) as (λ b. (if b then p ∷ reached operators (ps ++ qs) else reached operators (ps ++ qs)) ≡ (if b then p ∷ reached operators ps else reached operators ps) ++ reached operators qs) [
        | true ↦ ap (λ (l : List (Crossing O)). p ∷ l) (reached_append ps qs)
        | false ↦ reached_append ps qs
      ]

  -- a crossing more
  pub reached_more : (ps : List (Crossing O)) (i : ℕ) (d : Crossing O) → i < length ps → is_in (get_or ps i d).number operators ≡ true → reached operators (take (i + 1) ps) ≡ reached operators (take i ps) ++ get_or ps i d ∷ []
  reached_more ps i d within own =
      ap (reached operators) (take_more ps i d within) ∙ reached_append (take i ps) (get_or ps i d ∷ []) ∙ ap (λ (l : List (Crossing O)). reached operators (take i ps) ++ l) (reaches (get_or ps i d) [] own)

  pub in_reached : (p : Crossing O) (ps : List (Crossing O)) → In p ps → is_in p.number operators ≡ true → In p (reached operators ps)
  in_reached p [] i own = i
  in_reached p (q ∷ ps) i own =
      elim (is_in q.number operators) as (λ b. is_in q.number operators ≡ b → In p (if b then q ∷ reached operators ps else reached operators ps)) [
        | true ↦ λ e. (elim i as (λ _. In p (q ∷ reached operators ps)) [ inl same ↦ inl same | inr j ↦ inr (in_reached p ps j own) ])
        | false ↦ λ e. (elim i as (λ _. In p (reached operators ps)) [ inl same ↦ absurd (false≢true (sym e ∙ ap (λ (x : Crossing O). is_in x.number operators) (sym same) ∙ own)) | inr j ↦ in_reached p ps j own ])
      ]
      refl

  -- what is true of all is true of these
  pub each_reached : (P : Crossing O → Type 0) (ps : List (Crossing O)) → Each P ps → Each P (reached operators ps)
  each_reached P [] all = tt
  each_reached P (p ∷ ps) all = elim (is_in p.number operators) as (λ b. Each P (if b then p ∷ reached operators ps else reached operators ps)) [ true ↦ (all.0, each_reached P ps all.1) | false ↦ each_reached P ps all.1 ]

  -- there are no more of them
  pub reached_few : (ps : List (Crossing O)) → length (reached operators ps) ≤ length ps
  reached_few [] = omega arith
  reached_few (p ∷ ps) =
      let less = reached_few ps in
      elim (is_in p.number operators) as (λ b. length (if b then p ∷ reached operators ps else reached operators ps) ≤ length (p ∷ ps)) [ true ↦ omega (arith, less) | false ↦ omega (arith, less) ]

  pub reached_rises : (ps : List (Crossing O)) (i j : ℕ) → i ≤ j → length (reached operators (take i ps)) ≤ length (reached operators (take j ps))
  reached_rises ps zero j h = omega arith
  reached_rises ps (suc i) zero h = absurd (omega (arith, h))
  reached_rises [] (suc i) (suc j) h = omega arith
  reached_rises (p ∷ ps) (suc i) (suc j) h =
      let more = reached_rises ps i j (omega (arith, h)) in
      elim (is_in p.number operators) as (λ b. length (if b then p ∷ reached operators (take i ps) else reached operators (take i ps)) ≤ length (if b then p ∷ reached operators (take j ps) else reached operators (take j ps))) [ true ↦ omega (arith, more) | false ↦ omega (arith, more) ]

  pub reached_first : (ps : List (Crossing O)) (i : ℕ) → length (reached operators (take i ps)) ≤ length (reached operators ps)
  reached_first ps zero = omega arith
  reached_first [] (suc i) = omega arith
  reached_first (p ∷ ps) (suc i) =
      let less = reached_first ps i in
      elim (is_in p.number operators) as (λ b. length (if b then p ∷ reached operators (take i ps) else reached operators (take i ps)) ≤ length (if b then p ∷ reached operators ps else reached operators ps)) [ true ↦ omega (arith, less) | false ↦ omega (arith, less) ]

-- ---- crossings inside and outside

-- a crossing is over these tables, and over one of these operators
pub record IsInside {O : Type 0} (operators tables : List ℕ) (p : Crossing O) : Type 0 where
  pub near : Within p.near tables
  pub far : Within p.far tables
  pub number : In p.number operators

-- or has nothing to do with them
pub record IsOutside {O : Type 0} (operators tables : List ℕ) (p : Crossing O) : Type 0 where
  pub near : Apart p.near tables
  pub far : Apart p.far tables
  pub number : is_in p.number operators ≡ false

abbrev pub IsParted : {O : Type 0} → List ℕ → List ℕ → Crossing O → Type 0
IsParted operators tables p = IsInside operators tables p ⊎ IsOutside operators tables p

-- the other tables and memories are the old ones
pub record Keeps (ns ts : List ℕ) (old now : State) : Type 0 where
  pub tables : (t : ℕ) → (In t ts → ⊥) → now.tables t ≡ old.tables t
  pub memory : (n : ℕ) → (In n ns → ⊥) → now.memory n ≡ old.memory n

not_among : (n : ℕ) (ns : List ℕ) → is_in n ns ≡ false → In n ns → ⊥
not_among n ns other i = false≢true (sym other ∙ is_in_true n ns i)

module _ {O : Type 0} (meaning : O → Meaning) (operators tables : List ℕ) where
  module _ (old : State) where
    keeps_on : (now : State) (p : Crossing O) → Keeps operators tables old now → IsInside operators tables p → Keeps operators tables old (after meaning old now p)
    keeps_on now p keeps inside = record {
      tables = λ t none. put_other now.tables p.far (mapped meaning old now p).far t (λ i. none (inside.far t i)) ∙ keeps.tables t none;
      memory = λ n none. put_else now.memory p.number (mapped meaning old now p).memory n (λ same. none (subst (λ (k : ℕ). In k operators) (sym same) inside.number)) ∙ keeps.memory n none;
    }

    module _ (laws : (o : O) → Laws (meaning o)) (heading : ℕ → Heading) where
      -- A CROSSING OUTSIDE CHANGES NOTHING
      pub after_outside : (now : State) (p : Crossing O) → Keeps operators tables old now → IsOutside operators tables p → MayCross meaning heading old now p → after meaning old now p ≡ now
      after_outside now p keeps out may =
          let m = directed p.backward (meaning p.operator) in
          let hs = map heading p.near in
          let ht = map heading p.far in
          let near : map now.tables p.near ≡ map old.tables p.near = map_same now.tables old.tables p.near (λ t i. keeps.tables t (out.near t i)) in
          let still = (way_laws p.backward (meaning p.operator) (laws p.operator)).still hs ht (pair_in old p) now.next (subst (λ (ts : Tables). MayMap m hs ht ts (pair_in old p) now.next) near may) in
          let to : mapped meaning old now p ≡ record { far = map old.tables p.far; memory = old.memory p.number; next = now.next } = ap (λ (ts : Tables). m.forward ts (pair_in old p) now.next) near ∙ still in
          state_is _ _ _ _ _ _
          (fun_ext (λ t. ap (λ (x : Mapped). put now.tables p.far x.far t) to ∙ put_back now.tables old.tables p.far (λ u i. sym (keeps.tables u (out.far u i))) t))
          (fun_ext (λ n. ap (λ (x : Mapped). put now.memory (p.number ∷ []) (x.memory ∷ []) n) to ∙ put_back now.memory old.memory (p.number ∷ []) (λ k i. sym (keeps.memory k (others k i))) n))
          (ap (λ (x : Mapped). x.next) to)
        where
          others : (k : ℕ) → In k (p.number ∷ []) → In k operators → ⊥
          others k (inl same) j = not_among p.number operators out.number (subst (λ (x : ℕ). In x operators) same j)
          others k (inr i) j = i

      module _ (sound : IsWell heading old) where
        -- so a run leaves what is outside
        pub run_keeps : (ps : List (Crossing O)) (now : State) → Keeps operators tables old now → IsWell heading now → old.next ≤ now.next → Each (IsReady meaning heading old) ps → Each (IsParted operators tables) ps → Keeps operators tables old (run meaning old now ps)
        run_keeps [] now keeps well more ready parted = keeps
        run_keeps (p ∷ ps) now keeps well more ready parted =
            let up = after_rises meaning laws heading old sound now p well more ready.0 in
            let next = after_well meaning laws heading old sound now p well more ready.0 in
            let may = may_cross meaning laws heading old sound now p well more ready.0 in
            let on : Keeps operators tables old (after meaning old now p) = elim parted.0 as (λ _. Keeps operators tables old (after meaning old now p)) [
              | inl inside ↦ keeps_on now p keeps inside
              | inr out ↦ subst (λ (s : State). Keeps operators tables old s) (sym (after_outside now p keeps out may)) keeps
            ] in
            run_keeps ps (after meaning old now p) on next (omega arith) ready.1 parted.1

        -- and the crossings inside make all of it
        pub run_reached : (ps : List (Crossing O)) (now : State) → Keeps operators tables old now → IsWell heading now → old.next ≤ now.next → Each (IsReady meaning heading old) ps → Each (IsParted operators tables) ps
            → run meaning old now ps ≡ run meaning old now (reached operators ps)
        run_reached [] now keeps well more ready parted = refl
        run_reached (p ∷ ps) now keeps well more ready parted =
            let up = after_rises meaning laws heading old sound now p well more ready.0 in
            let next = after_well meaning laws heading old sound now p well more ready.0 in
            let may = may_cross meaning laws heading old sound now p well more ready.0 in
            elim parted.0 as (λ _. run meaning old (after meaning old now p) ps ≡ run meaning old now (reached operators (p ∷ ps))) [
              | inl inside ↦
                  run_reached ps (after meaning old now p) (keeps_on now p keeps inside) next (omega arith) ready.1 parted.1
                  ∙ ap (λ (l : List (Crossing O)). run meaning old now l) (sym (reaches operators p ps (is_in_true p.number operators inside.number)))
              | inr out ↦
                  ap (λ (s : State). run meaning old s ps) (after_outside now p keeps out may) ∙ run_reached ps now keeps well more ready.1 parted.1
                  ∙ ap (λ (l : List (Crossing O)). run meaning old now l) (sym (passes_by operators p ps out.number))
            ]

-- ---- the walk of a write

module _ {O : Type 0} (es : List (Placed O)) (set table : ℕ) (operators tables : List ℕ) (reach : IsReach es set table operators tables) where
  over : (e : Link O) → In e (forest es) → (back : Bool) → IsParted operators tables (crossing back e)
  over e i back =
      elim (is_in e.number operators) as (λ b. is_in e.number operators ≡ b → IsParted operators tables (crossing back e)) [
        | true ↦ λ own. inl (inside_of back (in_of_test e.number operators own))
        | false ↦ λ other. inr (outside_of back other)
      ]
      refl
    where
      inside_of : (back : Bool) → In e.number operators → IsInside operators tables (crossing back e)
      inside_of true j = record { near = λ t k. reach.whole.tables e i j t (inr k); far = λ t k. reach.whole.tables e i j t (inl k); number = j }
      inside_of false j = record { near = λ t k. reach.whole.tables e i j t (inl k); far = λ t k. reach.whole.tables e i j t (inr k); number = j }

      outside_of : (back : Bool) → is_in e.number operators ≡ false → IsOutside operators tables (crossing back e)
      outside_of true other = record {
        near = λ t k l. not_among e.number operators other (reach.whole.operators e i t l (inr k));
        far = λ t k l. not_among e.number operators other (reach.whole.operators e i t l (inl k));
        number = other;
      }
      outside_of false other = record {
        near = λ t k l. not_among e.number operators other (reach.whole.operators e i t l (inl k));
        far = λ t k l. not_among e.number operators other (reach.whole.operators e i t l (inr k));
        number = other;
      }

  pub walk_parted : Each (IsParted operators tables) (walk (forest es) set)
  walk_parted =
      each_more (GoesOver (forest es)) (IsParted operators tables) (λ p g. subst (λ (q : Crossing O). IsParted operators tables q) (sym g.is) (over g.over g.among g.back)) (walk (forest es) set) (walk_goes_over (forest es) set)

  -- all that is reached is inside
  pub reached_inside : Each (IsInside operators tables) (reached operators (walk (forest es) set))
  reached_inside = only_inside (walk (forest es) set) walk_parted
    where
      only_inside : (ps : List (Crossing O)) → Each (IsParted operators tables) ps → Each (IsInside operators tables) (reached operators ps)
      only_inside [] all = tt
      only_inside (p ∷ ps) (inl inside, all) = subst (λ (l : List (Crossing O)). Each (IsInside operators tables) l) (sym (reaches operators p ps (is_in_true p.number operators inside.number))) (inside, only_inside ps all)
      only_inside (p ∷ ps) (inr out, all) = subst (λ (l : List (Crossing O)). Each (IsInside operators tables) l) (sym (passes_by operators p ps out.number)) (only_inside ps all)

  module _ (meaning : O → Meaning) (s : State) where
    pub start_keeps : (rows : Rows) (next : ℕ) → Keeps operators tables s (written s table rows next)
    start_keeps rows next = record {
      tables = λ t none. put_else s.tables table rows t (λ same. none (subst (λ (k : ℕ). In k tables) (sym same) reach.held));
      memory = λ n none. refl;
    }

    -- THE CROSSINGS THAT A WRITE CAN REACH MAKE THE WRITE
    pub write_reached : (laws : (o : O) → Laws (meaning o)) → IsSound meaning es s → (rows : Rows) (next : ℕ) → MayWrite es s set table rows next
        → write meaning es s set table rows next ≡ run meaning s (written s table rows next) (reached operators (walk (forest es) set))
    write_reached laws sound rows next may =
        run_reached meaning operators tables s laws (headings es) sound.well (walk (forest es) set) (written s table rows next) (start_keeps rows next)
        (written_well meaning es s sound set table rows next may) may.more (walk_is_ready meaning es s sound set) walk_parted
