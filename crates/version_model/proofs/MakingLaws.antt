-- New operators are made one after the other.
use Rattle.std.specs.Prelude.{slice_get}
use Rattle.std.proofs.Common.{◌≡◌, ℕ, zero, suc, ◌+◌, ◌<◌, ◌≤◌, ◌==◌, ◌⊎◌, inl, inr, Bool, true, false, cond, List, [], ◌∷◌, ◌++◌, Option, Some, None, Ok, Err, length, drop, refl, sym, ap, ◌∙◌, subst, arith}
use Rattle.std.specs.Option.{option_map_or, IsSome}
use Rattle.std.proofs.lemmas.Bool.{eq-eqb}
use Rattle.std.proofs.lemmas.List.{append-nil, append_assoc}
use Rattle.par_base.specs.declared.fault.Fault.{Fault}
use Rattle.par_base.specs.declared.fault.Fault.TheVariants.{Refused, Memory as OutOfMemory}
use Rattle.par_base.specs.declared.refusal.IdsSpent.{IdsSpent}
use Rattle.row_store.specs.Rows.{Rows}
use Rattle.row_store.specs.States.{TableState}
use Rattle.id_memory.specs.Pairs.{Pairs}
use Rattle.id_memory.specs.States.{CounterState, MemoryState}
use Rattle.version_graph.specs.Sets.{In, Each}
use Rattle.version_graph.specs.Edges.{AreEdges}
use Rattle.version_graph.specs.Forest.{Link, crossing}
use Rattle.version_graph.specs.declared.parts.Placed.{Placed}
use Rattle.version_graph.proofs.SetLaws.{each_append, each_more, each_of}
use Rattle.op_law.specs.Meaning.{Meaning}
use Rattle.op_law.specs.Calls.{first_refused}
use Rattle.version_model.specs.Put.{put}
use Rattle.version_model.specs.States.{State}
use Rattle.version_model.specs.Evolving.{with_link}
use Rattle.version_model.specs.Kept.{latest_of, value_of, rows_at, pairs_at, rows_now, pairs_now, newer_rows, newer_pairs}
use Rattle.version_model.specs.Calls.{before_state, made_state}
use Rattle.version_model.specs.Making.{ascending, newer, with_links, HasMore, Has, WasMade, Makes, MakesAt, MayMake, MayMakeAt}
use Rattle.version_model.specs.declared.numbered.Numbered.{Numbered}
use Rattle.version_model.specs.declared.progress.Before.{Before}
use Rattle.version_model.specs.declared.progress.Made.{Made}
use Rattle.version_model.proofs.NumberedLaws.{either, looked, value_of_first}
use Rattle.version_model.proofs.PutLaws.{AsMany}
use Rattle.version_model.proofs.ToldLaws.{same_refused}

-- ---- what was put is there

module _ {A : Type 0} where
  pub many_long : (ks : List ℕ) (vs : List A) → length vs ≡ length ks → AsMany ks vs
  many_long [] [] h = tt
  many_long [] (v ∷ vs) h = absurd (omega arith)
  many_long (k ∷ ks) [] h = absurd (omega arith)
  many_long (k ∷ ks) (v ∷ vs) h = many_long ks vs (omega arith)

  put_next : (f g : ℕ → A) (k : ℕ) (ks : List ℕ) (v : A) (vs : List A) (t : ℕ) → ((t ≡ k → ⊥) → put f ks vs t ≡ put g ks vs t) → put f (k ∷ ks) (v ∷ vs) t ≡ put g (k ∷ ks) (v ∷ vs) t
  put_next f g k ks v vs t rest =
      (elim (t == k) as (λ b. (t == k) ≡ b → cond b v (put f ks vs t) ≡ cond b v (put g ks vs t)) [
        | true ↦ λ is. refl
        | false ↦ λ is. rest (λ same. let clash : true ≡ false = sym (eq-eqb t k same) ∙ is in cc)
      ]) refl

  -- what is put at a number hangs on no value before
  put_any : (f g : ℕ → A) (ks : List ℕ) (vs : List A) (t : ℕ) → AsMany ks vs → In t ks ⊎ (f t ≡ g t) → put f ks vs t ≡ put g ks vs t
  put_any f g [] vs t many (inl i) = absurd i
  put_any f g [] vs t many (inr same) = same
  put_any f g (k ∷ ks) [] t many h = absurd many
  put_any f g (k ∷ ks) (v ∷ vs) t many (inl (inl here)) = put_next f g k ks v vs t (λ other. absurd (other here))
  put_any f g (k ∷ ks) (v ∷ vs) t many (inl (inr i)) = put_next f g k ks v vs t (λ other. put_any f g ks vs t many (inl i))
  put_any f g (k ∷ ks) (v ∷ vs) t many (inr same) = put_next f g k ks v vs t (λ other. put_any f g ks vs t many (inr same))

module _ {T V : Type 0} (over : Option T → V → V) (none : (v : V) → over None v ≡ v) (some : (x : T) (v w : V) → over (Some x) v ≡ over (Some x) w) where
  told : (o : Option T) (v w : V) → (v ≡ w → ⊥) → over o v ≡ over o w → IsSome o
  told None v w differ same = absurd (differ (sym (none v) ∙ same ∙ none w))
  told (Some x) v w differ same = refl

  hides : (o : Option T) (v w : V) → IsSome o → over o v ≡ over o w
  hides None v w h = let clash : false ≡ true = h in cc
  hides (Some x) v w h = some x v w

  -- a value that hides what was before, whatever that was, was made
  has_by : (old new : List (Numbered T)) (ks : List ℕ) (vs : List V) (low high : ℕ → V) (t : ℕ) → (low t ≡ high t → ⊥)
      → over (latest_of new t) (low t) ≡ put (λ n. over (latest_of old n) (low n)) ks vs t → over (latest_of new t) (high t) ≡ put (λ n. over (latest_of old n) (high n)) ks vs t
      → AsMany ks vs → In t ks ⊎ Has old t → Has new t
  has_by old new ks vs low high t differ a b many h =
      let same = put_any (λ n. over (latest_of old n) (low n)) (λ n. over (latest_of old n) (high n)) ks vs t many
      (elim h as (λ _. In t ks ⊎ (over (latest_of old t) (low t) ≡ over (latest_of old t) (high t))) [ inl i ↦ inl i | inr was ↦ inr (hides (latest_of old t) (low t) (high t) was) ]) in
      told (latest_of new t) (low t) (high t) differ (a ∙ same ∙ sym b)

one_there : {T : Type 0} (t : ℕ) (x : T) → value_of (record { number = t; value = x } ∷ []) t ≡ Some x
one_there {T} t x = value_of_first (record { number = t; value = x }) [] t ∙ ap (λ (b : Bool). looked b (record { number = t; value = x }) None) (eq-eqb t t refl)

-- values that aren't empty
abbrev a_table : TableState
a_table = record { rows = (1, []) ∷ []; spare = 0 }

abbrev a_memory : MemoryState
a_memory = record { entries = (1, 1, 1) ∷ []; room = 0 }

pub has_tables : (old new : List (Numbered TableState)) (ks : List ℕ) (vs : List Rows) → length vs ≡ length ks → ((kept : List (Numbered TableState)) → rows_now kept new ≡ put (rows_now kept old) ks vs) → (t : ℕ) → In t ks ⊎ Has old t → Has new t
has_tables old new ks vs long is t h =
    let one : List (Numbered TableState) = record { number = t; value = a_table } ∷ [] in
    let there : rows_at one t ≡ (1, []) ∷ [] = ap (λ (o : Option TableState). option_map_or (λ (x : TableState). x.rows) o []) (one_there t a_table) in
    has_by newer_rows (λ v. refl) (λ x v w. refl) old new ks vs (rows_at []) (rows_at one) t (λ same. let clash : [] ≡ (1, []) ∷ [] = same ∙ there in cc)
    (ap (λ (f : ℕ → Rows). f t) (is [])) (ap (λ (f : ℕ → Rows). f t) (is one)) (many_long ks vs long) h

pub has_memories : (old new : List (Numbered MemoryState)) (k : ℕ) (v : Pairs) → ((kept : List (Numbered MemoryState)) → pairs_now kept new ≡ put (pairs_now kept old) (k ∷ []) (v ∷ [])) → (n : ℕ) → (n ≡ k) ⊎ Has old n → Has new n
has_memories old new k v is n h =
    let one : List (Numbered MemoryState) = record { number = n; value = a_memory } ∷ [] in
    let there : pairs_at one n ≡ (1, 1, 1) ∷ [] = ap (λ (o : Option MemoryState). option_map_or (λ (x : MemoryState). x.entries) o []) (one_there n a_memory) in
    has_by newer_pairs (λ v. refl) (λ x v w. refl) old new (k ∷ []) (v ∷ []) (pairs_at []) (pairs_at one) n (λ same. let clash : [] ≡ (1, 1, 1) ∷ [] = same ∙ there in cc)
    (ap (λ (f : ℕ → Pairs). f n) (is [])) (ap (λ (f : ℕ → Pairs). f n) (is one)) tt
    (elim h as (λ _. In n (k ∷ []) ⊎ Has old n) [ inl same ↦ inl (inl same) | inr was ↦ inr was ])

-- ---- one operator after the other

-- what stands at a place of a list
pub stands_at : {X : Type 0} (xs : List X) (i : ℕ) → i < length xs → (x : X) × (slice_get xs i ≡ Some x) × (drop i xs ≡ x ∷ drop (i + 1) xs)
stands_at [] i within = absurd (omega arith)
stands_at (x ∷ xs) zero within = (x, refl, refl)
stands_at (x ∷ xs) (suc i) within =
    let rest = stands_at xs i (omega arith) in
    let next : suc i + 1 ≡ suc (i + 1) = omega arith in
    (rest.0, rest.1, rest.2 ∙ ap (λ (k : ℕ). rest.0 ∷ drop k (x ∷ xs)) (sym next))

module _ {O : Type 0} (meaning : O → Meaning) where
  -- the next identifier doesn't fall
  pub makes_rise : (s : State) (fs : List (Link O)) → MayMake meaning s fs → s.next ≤ (with_links meaning s fs).next
  makes_rise s [] may = omega arith
  makes_rise s (f ∷ fs) may =
      let here = may.2 in
      let rest = makes_rise (with_link meaning s f) fs may.3 in
      omega arith

  -- the operators before a place were made, and the others may be
  pub record SoFar (es : List (Placed O)) (b : Before) (ids : CounterState) (first place : ℕ) (made : Made) : Type 0 where
    pub state : with_links meaning (made_state b made) (drop place (ascending es)) ≡ with_links meaning (before_state b) (newer es first)
    pub may : MayMake meaning (made_state b made) (drop place (ascending es))
    pub rises : ids.next ≤ made.ids.next
    pub within : made.ids.next ≤ first_refused ids
    pub limit : made.ids.limit ≡ ids.limit
    pub done : List (Link O)
    pub parted : newer es first ≡ done ++ drop place (ascending es)
    pub are_made : Each (WasMade made) done

  module _ (es : List (Placed O)) (b : Before) (ids : CounterState) (first place : ℕ) (old : Made) (so_far : SoFar es b ids first place old) (inside : place < length (ascending es)) where
    abbrev here : (x : Link O) × (slice_get (ascending es) place ≡ Some x) × (drop place (ascending es) ≡ x ∷ drop (place + 1) (ascending es))
    here = stands_at (ascending es) place inside

    abbrev f : Link O
    f = here.0

    may_here : MayMake meaning (made_state b old) (f ∷ drop (place + 1) (ascending es))
    may_here = subst (λ (l : List (Link O)). MayMake meaning (made_state b old) l) here.2 so_far.may

    pub may_make_at : AreEdges es → MayMakeAt meaning es b old place
    may_make_at edges = record { edges = edges; over = f; here = here.1; sides = may_here.0; may = may_here.1 }

    refuses_same : first_refused old.ids ≡ first_refused ids
    refuses_same = same_refused ids old.ids so_far.rises so_far.within so_far.limit

    state_here : with_links meaning (with_link meaning (made_state b old) f) (drop (place + 1) (ascending es)) ≡ with_links meaning (before_state b) (newer es first)
    state_here = sym (ap (λ (l : List (Link O)). with_links meaning (made_state b old) l) here.2) ∙ so_far.state

    still_made : (new : Made) → HasMore (crossing false f) old new → (g : Link O) → WasMade old g → WasMade new g
    still_made new more g is = (each_more (Has old.tables) (Has new.tables) (λ t h. more.tables t (inr h)) g.targets is.0, more.memories g.number (inr is.1))

    -- one operator more
    pub one_made : (new : Made) → MakesAt meaning es b place old new (Ok tt) → ((g : Link O) → slice_get (ascending es) place ≡ Some g → HasMore (crossing false g) old new) → SoFar es b ids first (place + 1) new
    one_made new makes has =
        let c = makes f here.1 in
        let more = has f here.1 in
        let rise = may_here.2 in
        let next : (made_state b new).next ≡ (with_link meaning (made_state b old) f).next = ap (λ (s : State). s.next) c.1 in
        record {
          state = ap (λ (s : State). with_links meaning s (drop (place + 1) (ascending es))) c.1 ∙ state_here;
          may = subst (λ (s : State). MayMake meaning s (drop (place + 1) (ascending es))) (sym c.1) may_here.3;
          rises = omega (arith, so_far.rises, rise, next);
          within = subst (λ (n : ℕ). new.ids.next ≤ n) refuses_same (subst (λ (n : ℕ). n ≤ first_refused old.ids) (sym next) c.0);
          limit = c.2 ∙ so_far.limit;
          done = so_far.done ++ f ∷ [];
          parted = so_far.parted ∙ ap (λ (l : List (Link O)). so_far.done ++ l) here.2 ∙ sym (append_assoc so_far.done (f ∷ []) (drop (place + 1) (ascending es)));
          are_made = each_append (WasMade new) so_far.done (f ∷ []) (each_more (WasMade old) (WasMade new) (still_made new more) so_far.done so_far.are_made)
              ((each_of (Has new.tables) f.targets (λ t i. more.tables t (inl i)), more.memories f.number (inl refl)), tt);
        }

    -- an operator is refused, and so are they all
    pub one_refused : (new : Made) (fault : Fault IdsSpent) → MakesAt meaning es b place old new (Err fault) → Makes meaning b ids (newer es first) (Err fault)
    one_refused new (Refused spent) makes =
        let c = makes f here.1 in
        let rest = makes_rise (with_link meaning (made_state b old) f) (drop (place + 1) (ascending es)) may_here.3 in
        let end : (with_links meaning (with_link meaning (made_state b old) f) (drop (place + 1) (ascending es))).next ≡ (with_links meaning (before_state b) (newer es first)).next = ap (λ (s : State). s.next) state_here in
        let below = c.0 in (
          subst (λ (n : ℕ). n < (with_links meaning (before_state b) (newer es first)).next) refuses_same (subst (λ (n : ℕ). first_refused old.ids < n) end (omega (arith, below, rest))),
          c.1 ∙ refuses_same,
          c.2 ∙ so_far.limit,
          refl,
        )
    one_refused new (OutOfMemory memory) makes = tt

  drop_past : {X : Type 0} (xs : List X) (i : ℕ) → length xs ≤ i → drop i xs ≡ []
  drop_past [] zero h = refl
  drop_past [] (suc i) h = refl
  drop_past (x ∷ xs) zero h = absurd (omega arith)
  drop_past (x ∷ xs) (suc i) h = drop_past xs i (omega arith)

  -- nothing was made yet
  pub none_made : (es : List (Placed O)) (b : Before) (ids : CounterState) (first : ℕ) (made : Made) → made_state b made ≡ before_state b → made.ids ≡ ids → MayMake meaning (before_state b) (newer es first) → SoFar es b ids first first made
  none_made es b ids first made same drawn may =
      let next : made.ids.next ≡ ids.next = ap (λ (c : CounterState). c.next) drawn in
      record {
        state = ap (λ (s : State). with_links meaning s (newer es first)) same;
        may = subst (λ (s : State). MayMake meaning s (newer es first)) (sym same) may;
        rises = omega (arith, next);
        within = omega (arith, next);
        limit = ap (λ (c : CounterState). c.limit) drawn;
        done = [];
        parted = refl;
        are_made = tt;
      }

  -- all were made
  pub all_made : (es : List (Placed O)) (b : Before) (ids : CounterState) (first place : ℕ) (made : Made) → SoFar es b ids first place made → length (ascending es) ≤ place → Makes meaning b ids (newer es first) (Ok made)
  all_made es b ids first place made so_far past =
      let none = drop_past (ascending es) place past in
      let end : made_state b made ≡ with_links meaning (before_state b) (newer es first) = ap (λ (l : List (Link O)). with_links meaning (made_state b made) l) (sym none) ∙ so_far.state in
      let all : newer es first ≡ so_far.done = so_far.parted ∙ ap (λ (l : List (Link O)). so_far.done ++ l) none ∙ append-nil so_far.done in
      (subst (λ (s : State). s.next ≤ first_refused ids) end so_far.within, end, so_far.limit, subst (λ (l : List (Link O)). Each (WasMade made) l) (sym all) so_far.are_made)

-- ---- one list in front of another

-- the first of two values that is there
pub value_over : {T : Type 0} (xs ys : List (Numbered T)) (n : ℕ) → value_of (xs ++ ys) n ≡ either (value_of xs n) (value_of ys n)
value_over [] ys n = refl
value_over {T} (x ∷ xs) ys n =
    let M : Bool → Type 0 = λ b. looked b x (either (value_of xs n) (value_of ys n)) ≡ either (looked b x (value_of xs n)) (value_of ys n) in
    let both : M (n == x.number) = elim (n == x.number) as (λ b. M b) [ true ↦ refl | false ↦ refl ] in
    value_of_first x (xs ++ ys) n ∙ ap (λ (o : Option T). looked (n == x.number) x o) (value_over xs ys n) ∙ both ∙ ap (λ (o : Option T). either o (value_of ys n)) (sym (value_of_first x xs n))
