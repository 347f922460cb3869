-- Rows that are kept, found or drawn, one after the other.
use Rattle.std.proofs.Common.{◌≡◌, ℕ, ◌+◌, ◌<◌, ◌≤◌, List, [], ◌∷◌, ◌++◌, length, take, slice_index_or, Option, Some, None, refl, ap, sym, ◌∙◌, subst, arith}
use Rattle.std.proofs.lemmas.List.{take_more}
use Rattle.par_base.specs.declared.fault.Fault.{Fault}
use Rattle.par_base.specs.declared.fault.Fault.TheVariants.{Refused, Memory as OutOfMemory}
use Rattle.par_base.specs.declared.refusal.IdsSpent.{IdsSpent}
use Rattle.par_base.specs.declared.value.Value.{Value}
use Rattle.row_store.specs.Rows.{Rows, AreBelow, row_of}
use Rattle.row_store.specs.inner.FoundRows.{below_more, below_push}
use Rattle.id_memory.specs.Pairs.{Pairs, pair_of}
use Rattle.id_memory.specs.States.{CounterState}
use Rattle.op_law.specs.Calls.{first_refused}
use Rattle.pair_rows.specs.inner.Draws.{WasRefused}
use Rattle.pair_rows.specs.Given.{unchanged, kept_entry, kept_in, Got, got}

-- an entry in front of two lists
entry_append : (p : ℕ) (o : Option (ℕ × ℕ)) (es fs : Pairs) → kept_entry p o (es ++ fs) ≡ kept_entry p o es ++ fs
entry_append p None es fs = refl
entry_append p (Some pair) es fs = refl

-- kept pairs of two lists of rows
kept_append : (r : Rows) (m : Pairs) (xs ys : Rows) → kept_in r m (xs ++ ys) ≡ kept_in r m xs ++ kept_in r m ys
kept_append r m [] ys = refl
kept_append r m (x ∷ xs) ys =
    let o = unchanged (row_of r x.0) (pair_of m x.0) x.1 in
    ap (kept_entry x.0 o) (kept_append r m xs ys) ∙ entry_append x.0 o (kept_in r m xs) (kept_in r m ys)

-- kept pairs of one row more
pub kept_more : (r : Rows) (m : Pairs) (near : Rows) (i : ℕ) (row : ℕ × List Value) (made new : Pairs) → i < length near → row ≡ slice_index_or near i row
    → made ≡ kept_in r m (take i near) → new ≡ made ++ kept_entry row.0 (unchanged (row_of r row.0) (pair_of m row.0) row.1) []
    → new ≡ kept_in r m (take (i + 1) near)
kept_more r m near i row made new h at is made_new =
    let last = kept_entry row.0 (unchanged (row_of r row.0) (pair_of m row.0) row.1) [] in
    let more : kept_in r m (take (i + 1) near) ≡ kept_in r m (take i near) ++ last =
    ap (kept_in r m) (take_more near i row h ∙ ap (λ (x : ℕ × List Value). take i near ++ x ∷ []) (sym at)) ∙ kept_append r m (take i near) (row ∷ []) in
    made_new ∙ ap (λ (es : Pairs). es ++ last) is ∙ sym more

-- what was found or drawn leaves rows below the next identifier
pub got_rises : (choice : Option ℕ) (rows : Rows) (x : List Value) (n : ℕ) → n ≤ (got choice rows x n).next
got_rises (Some id) rows x n = omega arith
got_rises None rows x n = omega arith

-- and so does what is below
pub got_below : (choice : Option ℕ) (rows : Rows) (x : List Value) (n : ℕ) → AreBelow rows n → AreBelow (got choice rows x n).rows (got choice rows x n).next
got_below (Some id) rows x n below = below
got_below None rows x n below = below_push rows n x below

-- other rows are below a later number
pub later_below : (rows : Rows) (n next : ℕ) (to : Got) → next ≡ to.next → n ≤ to.next → AreBelow rows n → AreBelow rows next
later_below rows n next to is rises below = below_more rows n next (omega (arith, is, rises)) below

-- the same of the rows that were found or drawn
pub same_below : (rows : Rows) (next : ℕ) (to : Got) → rows ≡ to.rows → next ≡ to.next → AreBelow to.rows to.next → AreBelow rows next
same_below rows next to is at below = subst (λ (k : ℕ). AreBelow rows k) (sym at) (subst (λ (all : Rows). AreBelow all to.next) (sym is) below)

-- the first refused identifier stays while identifiers are drawn
pub refused_later : (next last : ℕ) (old before : CounterState) (e : Fault IdsSpent) → before.limit ≡ old.limit → old.next ≤ before.next → before.next ≤ first_refused old → next ≤ last
    → WasRefused next before e → WasRefused last old e
refused_later next last old before (Refused spent) limit rises within h drawn =
    let low = drawn.0 in
    let needed = drawn.1 in
    let most = drawn.2 in
    (omega (arith, limit, rises, within, h, low), omega (arith, limit, rises, within, needed), most ∙ limit)
refused_later next last old before (OutOfMemory memory) limit rises within h drawn = tt
