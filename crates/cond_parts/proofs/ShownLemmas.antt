-- The pairs that a new source shows, of a part and of the whole.
use Rattle.std.proofs.Common.{◌≡◌, ℕ, ◌+◌, ◌≤◌, List, [], ◌∷◌, ◌++◌, filter, Bool, true, false, not, ◌||◌, IsSome, is_some, refl, ap, sym, ◌∙◌}
use Rattle.std.proofs.lemmas.Bool.{false≢true}
use Rattle.row_store.specs.Rows.{Rows, row_of}
use Rattle.id_memory.specs.Pairs.{Pairs}
use Rattle.op_law.specs.Local.{rows_only}
use Rattle.row_parts.specs.RowCells.{Cell, by_test}
use Rattle.pair_rows.specs.Shown.{IsJoined, Joining, all_pairs, has, holds_in, is_shown, joined, kept_pairs, new_pairs, numbered, row_at, shown_pairs}
use Rattle.pair_rows.specs.inner.Lookups.{filter_append}
use Rattle.pair_rows.specs.inner.PairLemmas.{all_in}
use Rattle.pair_rows.specs.inner.ShownLaws.{still_shown, there_cells}
use Rattle.pair_parts.specs.Parts.{memory_only}
use Rattle.cond_parts.specs.Forward.{BringsShown}
use Rattle.cond_parts.proofs.FilterLemmas.{each_append, each_filter, filter_part, filter_rest, in_part, in_whole, numbered_part, numbered_rest, pairs_part}
use Rattle.cond_parts.proofs.JoinedLemmas.{joined_memory, joined_part, joined_same, row_part}
use Rattle.cond_parts.proofs.MatchLemmas.{is_new, is_new_part, new_alike, new_inside, row_same, shown_by}
use Rattle.cond_parts.proofs.MemoryLemmas.{Brings, Each, each_both, each_brings, each_map, each_of, each_rest, each_there}

module _ (j : Joining) (C P : ℕ → Bool) (s t r : Rows) (m : Pairs) (ns nt : Rows) (n : ℕ) (is : IsJoined j s t r m)
    (in_part_of : (q : ℕ) → C q ≡ true → P q ≡ true) (high : (q : ℕ) → n ≤ q → P q ≡ true)
    (same_s : (q : ℕ) → C q ≡ false → row_of ns q ≡ row_of s q) (same_t : (q : ℕ) → C q ≡ false → row_of nt q ≡ row_of t q)
    (c : BringsShown j C P m ns nt) where
  -- THE PART SHOWS THE SAME NEW PAIRS
  pub new_part : new_pairs j (rows_only P s) (rows_only P t) (memory_only P m) (rows_only P ns) (rows_only P nt) ≡ new_pairs j s t m ns nt
  new_part = pairs_part P (λ x. is_new j C P s t m ns nt is.rises in_part_of same_s same_t c x.0 x.1) (λ x. is_new_part j C P s t m ns nt is.rises in_part_of same_s same_t c x.0 x.1) (new_alike j C P s t m ns nt is.rises in_part_of same_s same_t c) (new_inside j C P s t m ns nt is.rises in_part_of same_s same_t c) ns nt

  -- the entries that pass bring their rows
  brings : Each (Brings P) m
  brings = each_brings P m is.rises c.rows

  -- an entry that passes is kept in the part where it is kept in the whole
  kept_alike : Each (λ e. P e.0 ≡ true → is_shown j (rows_only P s) (rows_only P t) (memory_only P m) (rows_only P ns) (rows_only P nt) e.1 e.2 ≡ is_shown j s t m ns nt e.1 e.2) m
  kept_alike =
      each_map (λ e. Brings P e × ((P e.0 ≡ true → has (memory_only P m) e.1 e.2 ≡ true) × (has m e.1 e.2 ≡ true))) _ m
      (λ e all q.
      let both = all.0 q in
      let row = row_part j P s t e.1 e.2 both.0 both.1 in
      let new = row_part j P ns nt e.1 e.2 both.0 both.1 in
      let was = all.1.0 q ∙ sym all.1.1 in
      ap (λ (x : Cell). shown_by j x (row_at j (rows_only P s) (rows_only P t) e.1 e.2) (has (memory_only P m) e.1 e.2)) new
      ∙ ap (λ (x : Cell). shown_by j (row_at j ns nt e.1 e.2) x (has (memory_only P m) e.1 e.2)) row
      ∙ ap (λ (h : Bool). shown_by j (row_at j ns nt e.1 e.2) (row_at j s t e.1 e.2) h) was)
      (each_both (Brings P) _ m brings (each_both (λ e. P e.0 ≡ true → has (memory_only P m) e.1 e.2 ≡ true) (λ e. has m e.1 e.2 ≡ true) m (in_part P m) (in_whole m m (all_in m))))

  -- THE PART KEEPS THE ENTRIES THAT PASS
  pub kept_part : kept_pairs j (rows_only P s) (rows_only P t) (memory_only P m) (rows_only P ns) (rows_only P nt) ≡ memory_only P (kept_pairs j s t m ns nt)
  kept_part = filter_part P (λ e. is_shown j s t m ns nt e.1 e.2) (λ e. is_shown j (rows_only P s) (rows_only P t) (memory_only P m) (rows_only P ns) (rows_only P nt) e.1 e.2) m kept_alike

  -- an entry of which no row is changed is kept
  pub kept_still : Each (λ e. (C e.1 || C e.2) ≡ false → is_shown j s t m ns nt e.1 e.2 ≡ true) m
  kept_still =
      each_map (λ e. (IsSome (row_of s e.1) × IsSome (row_of t e.2)) × (has m e.1 e.2 ≡ true)) _ m
      (λ e all out.
      let old = row_at j s t e.1 e.2 in
      let there : is_some old ≡ true = there_cells j (row_of s e.1) (row_of t e.2) all.0.0 all.0.1 in
      ap (λ (x : Cell). shown_by j x old (has m e.1 e.2)) (row_same j C P s t m ns nt is.rises in_part_of same_s same_t c e.1 e.2 out) ∙ still_shown j (is_some old) (has m e.1 e.2) (holds_in j.condition old) there all.1)
      (each_both (λ e. IsSome (row_of s e.1) × IsSome (row_of t e.2)) (λ e. has m e.1 e.2 ≡ true) m (each_there s t m is.there) (in_whole m m (all_in m)))

  -- none of an entry that doesn't pass is changed
  rest_still : Each (λ e. P e.0 ≡ false → (C e.1 || C e.2) ≡ false) m
  rest_still = each_of _ m is.rises (λ e at out. by_test (C e.1 || C e.2) (λ u. let pass = c.entries e.0 e.1 e.2 at u in absurd (false≢true (sym out ∙ pass))) (λ u. u))

  -- so its rows are as they were
  rows_rest : Each (λ e. P e.0 ≡ false → row_at j ns nt e.1 e.2 ≡ row_at j s t e.1 e.2) m
  rows_rest = each_map (λ e. P e.0 ≡ false → (C e.1 || C e.2) ≡ false) _ m (λ e still out. row_same j C P s t m ns nt is.rises in_part_of same_s same_t c e.1 e.2 (still out)) rest_still

  -- and it is kept
  kept_others : Each (λ e. P e.0 ≡ false → is_shown j s t m ns nt e.1 e.2 ≡ true) m
  kept_others =
      each_map (λ e. (P e.0 ≡ false → (C e.1 || C e.2) ≡ false) × ((C e.1 || C e.2) ≡ false → is_shown j s t m ns nt e.1 e.2 ≡ true)) _ m (λ e both out. both.1 (both.0 out))
      (each_both _ _ m rest_still kept_still)

  -- THE NEW MEMORY OF THE PART IS THE PART OF THE NEW MEMORY
  pub shown_part : shown_pairs j (rows_only P s) (rows_only P t) (memory_only P m) (rows_only P ns) (rows_only P nt) n ≡ memory_only P (shown_pairs j s t m ns nt n)
  shown_part =
      let kept = kept_pairs j s t m ns nt in
      let new = new_pairs j s t m ns nt in
      ap (λ (es : Pairs). es ++ numbered n (new_pairs j (rows_only P s) (rows_only P t) (memory_only P m) (rows_only P ns) (rows_only P nt))) kept_part
      ∙ ap (λ (xs : List (ℕ × ℕ)). memory_only P kept ++ numbered n xs) new_part
      ∙ ap (λ (es : Pairs). memory_only P kept ++ es) (sym (numbered_part P n new high))
      ∙ sym (filter_append (λ e. P e.0) kept (numbered n new))

  -- elsewhere the memory is as it was
  pub shown_rest : memory_only (λ q. not (P q)) (shown_pairs j s t m ns nt n) ≡ memory_only (λ q. not (P q)) m
  shown_rest =
      let kept = kept_pairs j s t m ns nt in
      let new = new_pairs j s t m ns nt in
      filter_append (λ e. not (P e.0)) kept (numbered n new)
      ∙ ap (λ (es : Pairs). memory_only (λ q. not (P q)) kept ++ es) (numbered_rest P n new high)
      ∙ append_none (memory_only (λ q. not (P q)) kept)
      ∙ filter_rest P (λ e. is_shown j s t m ns nt e.1 e.2) m kept_others
    where
      append_none : (es : Pairs) → es ++ [] ≡ es
      append_none [] = refl
      append_none (e ∷ es) = ap (λ (fs : Pairs). e ∷ fs) (append_none es)

  -- the drawn entries bring their rows
  new_brings : (k : ℕ) (xs : List (ℕ × ℕ)) → Each (Brings P) (numbered k (filter (λ x. is_new j C P s t m ns nt is.rises in_part_of same_s same_t c x.0 x.1) xs))
  new_brings k [] = tt
  new_brings k (x ∷ xs) =
      by_test (is_new j C P s t m ns nt is.rises in_part_of same_s same_t c x.0 x.1)
      (λ e. rw e ((λ pass. new_inside j C P s t m ns nt is.rises in_part_of same_s same_t c x.0 x.1 e), new_brings (k + 1) xs))
      (λ e. rw e (new_brings k xs))

  -- so do all
  pub shown_brings : Each (Brings P) (shown_pairs j s t m ns nt n)
  shown_brings = each_append (Brings P) (kept_pairs j s t m ns nt) (numbered n (new_pairs j s t m ns nt)) (each_filter (Brings P) (λ e. is_shown j s t m ns nt e.1 e.2) m brings) (new_brings n (all_pairs ns nt))

  -- THE NEW TARGET OF THE PART IS THE PART OF THE NEW TARGET
  pub target_part : joined j (rows_only P ns) (rows_only P nt) (shown_pairs j (rows_only P s) (rows_only P t) (memory_only P m) (rows_only P ns) (rows_only P nt) n) ≡ rows_only P (joined j ns nt (shown_pairs j s t m ns nt n))
  target_part = ap (joined j (rows_only P ns) (rows_only P nt)) shown_part ∙ sym (joined_part j P ns nt (shown_pairs j s t m ns nt n) shown_brings)

  -- elsewhere it is as it was
  pub target_rest : rows_only (λ q. not (P q)) (joined j ns nt (shown_pairs j s t m ns nt n)) ≡ rows_only (λ q. not (P q)) r
  target_rest =
      let Q : ℕ → Bool = λ q. not (P q) in
      joined_memory j Q ns nt (shown_pairs j s t m ns nt n)
      ∙ ap (joined j ns nt) shown_rest
      ∙ joined_same j s t ns nt (memory_only Q m) (each_rest P (λ e. row_at j ns nt e.1 e.2 ≡ row_at j s t e.1 e.2) m rows_rest)
      ∙ sym (joined_memory j Q s t m)
      ∙ ap (rows_only Q) (sym is.rows)
