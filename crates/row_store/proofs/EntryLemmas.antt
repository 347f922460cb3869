-- What pages say of their entries, said of rows.
use Rattle.std.specs.Option.{option_map}
use Rattle.std.specs.Ordering.{is_eq, nat_cmp}
use Rattle.std.proofs.Common.{◌≡◌, ℕ, ◌+◌, ◌==◌, List, [], ◌∷◌, Bool, true, false, Option, Some, None, if◌then◌else◌, Ordering, Less, Equal, Greater, refl, sym, ap, ◌∙◌, arith}
use Rattle.std.proofs.lemmas.Bool.Decides.{nat_tests}
use Rattle.std.specs.Cmp.{nat_cmp_is}
use Rattle.std.proofs.lemmas.Cmp.{ranked}
use Rattle.par_base.proofs.TestLaws.{apart_below, apart_above}
use Rattle.par_base.specs.declared.value.Value.{Value}
use Rattle.ordered_pages.specs.Entries.{AreBefore, AreBehind, Rise, entry_of, PutsAt as PutsEntry}
use Rattle.row_store.specs.Rows.{Rows, AreBelow, RiseFrom, row_of}
use Rattle.row_store.specs.inner.Entries.{id_order}
use Rattle.row_store.specs.inner.Passes.{PutsAt}

-- entries whose keys rise are rows whose identifiers rise
behind_rises : (id : ℕ) (rows : Rows) → AreBehind id_order id rows → Rise id_order rows → RiseFrom (id + 1) rows
behind_rises id [] behind rise = tt
behind_rises id (r ∷ rs) behind rise = (omega (arith, ranked id r.0 Less (sym behind.0)), behind_rises r.0 rs rise.0 rise.1)

pub rises : (rows : Rows) → Rise id_order rows → RiseFrom 0 rows
rises [] rise = tt
rises (r ∷ rs) rise = (omega arith, behind_rises r.0 rs rise.0 rise.1)

-- rows below an identifier come before it
pub come_before : (rows : Rows) (id : ℕ) → AreBelow rows id → AreBefore id_order rows id
come_before [] id below = tt
come_before (r ∷ rs) id below = (sym (nat_cmp_is r.0 id Less below.0), come_before rs id below.1)

-- keys are equal where the identifiers are
same_by : (r : Ordering) (a b : ℕ) → r ≡ nat_cmp a b → is_eq r ≡ (a == b)
same_by Less a b is = sym (apart_below a b (omega (arith, ranked a b Less is)))
same_by Equal a b is = let same : a ≡ b = ranked a b Equal is in let yes : (a == b) ≡ true = grind (arith, nat_tests) in sym yes
same_by Greater a b is = sym (apart_above a b (omega (arith, ranked a b Greater is)))

same_ids : (a b : ℕ) → is_eq (nat_cmp a b) ≡ (a == b)
same_ids a b = same_by (nat_cmp a b) a b refl

-- the row of an entry
abbrev pub row_in : Option (ℕ × List Value) → Option (List Value)
row_in own = option_map (λ (e : ℕ × List Value). e.1) own

row_if : (t : Bool) (some other : Option (ℕ × List Value)) → row_in (if t then some else other) ≡ (if t then row_in some else row_in other)
row_if true some other = refl
row_if false some other = refl

-- the entry of an identifier has its row
pub row_is : (rows : Rows) (id : ℕ) → row_in (entry_of id_order rows id) ≡ row_of rows id
row_is [] id = refl
row_is (r ∷ rs) id =
    row_if (is_eq (nat_cmp r.0 id)) (Some r) (entry_of id_order rs id)
    ∙ ap (λ (t : Bool). if t then Some r.1 else row_in (entry_of id_order rs id)) (same_ids r.0 id)
    ∙ ap (λ (rest : Option (List Value)). if r.0 == id then Some r.1 else rest) (row_is rs id)

pub no_row : (rows : Rows) (id : ℕ) → entry_of id_order rows id ≡ None → row_of rows id ≡ None
no_row rows id none = sym (row_is rows id) ∙ ap row_in none

-- an entry that is put is a row that is put
pub row_put : (before now : Rows) (id : ℕ) (slot : Option (ℕ × List Value)) → PutsEntry id_order id slot before now → PutsAt id (row_in slot) before now
row_put before now id slot puts q =
    sym (row_is now q)
    ∙ ap row_in (puts q)
    ∙ row_if (is_eq (nat_cmp id q)) slot (entry_of id_order before q)
    ∙ ap (λ (t : Bool). if t then row_in slot else row_in (entry_of id_order before q)) (same_ids id q)
    ∙ ap (λ (rest : Option (List Value)). if id == q then row_in slot else rest) (row_is before q)
