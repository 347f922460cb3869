-- The rows of both tables while entries are placed.
use Rattle.std.proofs.Common.{◌≡◌, ℕ, ◌≤◌, List, [], ◌∷◌, ◌++◌, if◌then◌else◌, Option, Some, None, refl, ap, sym, ◌∙◌, subst}
use Rattle.par_base.specs.declared.value.Value.{Value}
use Rattle.row_store.specs.Rows.{Rows, AreBelow}
use Rattle.row_store.specs.inner.FoundRows.{below_more}
use Rattle.id_memory.specs.Pairs.{Pairs}
use Rattle.id_memory.specs.States.{CounterState}
use Rattle.pair_rows.specs.Shown.{has}
use Rattle.pair_rows.specs.Given.{got}
use Rattle.pair_rows.specs.inner.Knowing.{IsIndexed}
use Rattle.pair_rows.proofs.GivenLaws.{got_rises, got_below}
use Rattle.outer_law.specs.Placed.{Parts, Placing, first_both, first_got, second_both, place_both, first_alone, second_alone, place_first, place_second}
use Rattle.outer_entries.specs.declared.half_rows.HalfRows.{HalfRows}
use Rattle.outer_entries.specs.Placings.{AreReady}

-- what was found or drawn has one next identifier for any rows
same_next : (choice : Option ℕ) (xs ys : Rows) (x : List Value) (n : ℕ) → (got choice xs x n).next ≡ (got choice ys x n).next
same_next (Some id) xs ys x n = refl
same_next None xs ys x n = refl

-- what was found or drawn leaves the rows ready
pub shared_ready : (choice : Option ℕ) (rows shared : Rows) (x : List Value) (n : ℕ) (it : HalfRows) → it.all.rows ≡ (got choice rows x n).rows → it.shared.table.rows ≡ (got choice shared x n).rows → IsIndexed it.shared
    → AreBelow rows n → AreBelow shared n → AreReady it (got choice rows x n).next
shared_ready choice rows shared x n it all may indexed below shared_below = record {
  all = subst (λ (rs : Rows). AreBelow rs (got choice rows x n).next) (sym all) (got_below choice rows x n below);
  shared = subst (λ (rs : Rows). AreBelow rs (got choice rows x n).next) (sym may)
      (subst (λ (k : ℕ). AreBelow (got choice shared x n).rows k) (same_next choice shared rows x n) (got_below choice shared x n shared_below));
  indexed = indexed;
}

-- the same where a drawn row isn't shared
pub alone_ready : (choice : Option ℕ) (rows shared : Rows) (x : List Value) (n : ℕ) (it : HalfRows) → it.all.rows ≡ (got choice rows x n).rows → it.shared.table.rows ≡ shared → IsIndexed it.shared
    → AreBelow rows n → AreBelow shared n → AreReady it (got choice rows x n).next
alone_ready choice rows shared x n it all may indexed below shared_below = record {
  all = subst (λ (rs : Rows). AreBelow rs (got choice rows x n).next) (sym all) (got_below choice rows x n below);
  shared = subst (λ (rs : Rows). AreBelow rs (got choice rows x n).next) (sym may) (below_more shared n (got choice rows x n).next (got_rises choice rows x n) shared_below);
  indexed = indexed;
}

-- what is ready stays so while identifiers are drawn
pub later_ready : (it : HalfRows) (n k : ℕ) → n ≤ k → AreReady it n → AreReady it k
later_ready it n k h ready = record {
  all = below_more it.all.rows n k h ready.all;
  shared = below_more it.shared.table.rows n k h ready.shared;
  indexed = ready.indexed;
}

-- an entry with both halves from the calls that find or draw them
pub record IsBoth (parts : Parts) (d : Placing) (p : ℕ) (entry : ℕ × ℕ) (now : Placing) : Type 0 where
  pub both : entry ≡ ((place_both parts d p).first, (place_both parts d p).second)
  pub after : now ≡ (place_both parts d p).after

pub both_is : (parts : Parts) (d : Placing) (p a n b k c l : ℕ) (found : Option ℕ) (first first_shared second second_shared last last_shared : Rows) (taken : Pairs)
    → a ≡ (first_got parts d).id → first ≡ (first_got parts d).rows → first_shared ≡ (got (first_both parts d) d.first_shared parts.first.values d.next).rows → n ≡ (first_got parts d).next
    → b ≡ (got (second_both parts d) d.second parts.second.values n).id → second ≡ (got (second_both parts d) d.second parts.second.values n).rows → second_shared ≡ (got (second_both parts d) d.second_shared parts.second.values n).rows → k ≡ (got (second_both parts d) d.second parts.second.values n).next
    → found ≡ (if has d.taken a b then None else Some a)
    → c ≡ (got found first parts.first.values k).id → last ≡ (got found first parts.first.values k).rows → last_shared ≡ (got found first_shared parts.first.values k).rows → l ≡ (got found first parts.first.values k).next
    → taken ≡ d.taken ++ (p, c, b) ∷ []
    → IsBoth parts d p (c, b) (record { first = last; second = second; first_shared = last_shared; second_shared = second_shared; taken = taken; next = l })
both_is parts d p a n b k c l found first first_shared second second_shared last last_shared taken a_is first_is shared_is n_is b_is second_is second_shared_is k_is found_is c_is last_is last_shared_is l_is taken_is = record {
  both = rw (c_is, found_is, b_is, first_is, k_is, n_is, a_is) refl;
  after = rw (taken_is, c_is, last_is, last_shared_is, l_is, second_is, second_shared_is, found_is, b_is, first_is, shared_is, k_is, n_is, a_is) refl;
}

-- a counter that was raised
pub raised_by : (old now : CounterState) (n : ℕ) → now.next ≡ n → now.limit ≡ old.limit → now ≡ record old { next = n }
raised_by old now n next limit = ap (λ (k : ℕ). record { next = k; limit = now.limit }) next ∙ ap (λ (l : ℕ). record { next = n; limit = l }) limit

-- an entry with the first half alone
pub first_is : (m : Pairs) (parts : Parts) (d : Placing) (p a : ℕ) (rows shared : Rows) (taken : Pairs) → a ≡ (first_alone m parts d).id → rows ≡ (first_alone m parts d).rows → shared ≡ d.first_shared → taken ≡ d.taken ++ (p, a, 0) ∷ []
    → ◌≡◌ {A = Placing} (record { first = rows; second = d.second; first_shared = shared; second_shared = d.second_shared; taken = taken; next = (first_alone m parts d).next }) (place_first m parts d p).after
first_is m parts d p a rows shared taken a_is rows_is shared_is taken_is = rw (taken_is, a_is, rows_is, shared_is) refl

-- an entry with the second half alone
pub second_is : (m : Pairs) (parts : Parts) (d : Placing) (p b : ℕ) (rows shared : Rows) (taken : Pairs) → b ≡ (second_alone m parts d).id → rows ≡ (second_alone m parts d).rows → shared ≡ d.second_shared → taken ≡ d.taken ++ (p, 0, b) ∷ []
    → ◌≡◌ {A = Placing} (record { first = d.first; second = rows; first_shared = d.first_shared; second_shared = shared; taken = taken; next = (second_alone m parts d).next }) (place_second m parts d p).after
second_is m parts d p b rows shared taken b_is rows_is shared_is taken_is = rw (taken_is, b_is, rows_is, shared_is) refl
