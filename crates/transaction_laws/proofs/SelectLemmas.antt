-- A SELECT is answered the same where its table is found the same with the same rows, and no identifier is free again.
use Rattle.std.specs.Prelude.{◌==◌, ◌||◌, nat_le, Option, Some, None, Ok}
use Rattle.std.specs.List.{find}
use Rattle.std.proofs.Common.{◌≡◌, ◌≤◌, ℕ, Bool, true, false, cond, List, [], ◌∷◌, refl, sym, ap, ◌∙◌, arith}
use Rattle.std.proofs.lemmas.Bool.{leb-false, lt-leb}
use Rattle.par_base.specs.Checked.{Checked, ◌then◌}
use Rattle.expr_lang.specs.Resolved.{first_unknown_id, is_unknown}
use Rattle.expr_lang.specs.Terms.{references_in}
use Rattle.row_store.specs.Rows.{Rows}
use Rattle.statements.specs.Views.{Tree}
use Rattle.statements.specs.declared.statement.TableName.{TableName}
use Rattle.op_checks.specs.NameChecks.{known_id}
use Rattle.ordinary_table.specs.Selected.{selected}
use Rattle.engine_state.specs.AnyDatabase.{AnyDatabase}
use Rattle.engine_state.specs.declared.reply.Reply.{Reply}
use Rattle.engine_state.specs.declared.reply.Reply.TheVariants.{Rows as Shown}
use Rattle.engine_transactions.specs.Found.{Found, condition_list, first_of, found, known_condition, known_references, unknown_in}
use Rattle.engine_transactions.specs.Statements.{acted_select, columns_of, listed_names, listed_places, rows_of}
use Rattle.engine_transactions.proofs.ChainLaws.{both_give, ok_is, then_is}

-- ---- identifiers that were known are known

none_first : (a b : Option ℕ) → first_of a b ≡ None → (a ≡ None) × (b ≡ None)
none_first None b e = (refl, e)
none_first (Some id) b e = absurd (let no : ⊥ = cc in no)

not_unknown : (next later id : ℕ) (low upper : Bool) → next ≤ later → (id == 0) ≡ low → nat_le next id ≡ upper → (low || upper) ≡ false → (low || nat_le later id) ≡ false
not_unknown next later id true upper le is over e = absurd (let no : ⊥ = cc in no)
not_unknown next later id false true le is over e = absurd (let no : ⊥ = cc in no)
not_unknown next later id false false le is over e = let less = leb-false next id over in lt-leb later id (omega (arith, less, le))

find_free : (b : Bool) (id : ℕ) (rest : Option ℕ) → cond b (Some id) rest ≡ None → (b ≡ false) × (rest ≡ None)
find_free true id rest e = absurd (let no : ⊥ = cc in no)
find_free false id rest e = (refl, e)

known_later : (next later : ℕ) (ids : List ℕ) → next ≤ later → find (is_unknown next) ids ≡ None → find (is_unknown later) ids ≡ None
known_later next later [] le e = refl
known_later next later (id ∷ ids) le e =
    let both = find_free (is_unknown next id) id (find (is_unknown next) ids) e in
    let here : is_unknown later id ≡ false = not_unknown next later id (id == 0) (nat_le next id) le refl refl both.0 in
    ap (λ (b : Bool). cond b (Some id) (find (is_unknown later) ids)) here ∙ known_later next later ids le both.1

term_later : (next later : ℕ) (value : Tree) → next ≤ later → first_unknown_id next value ≡ None → first_unknown_id later value ≡ None
unfolding first_unknown_id
term_later next later value le e = known_later next later (references_in value) le e

terms_later : (next later : ℕ) (values : List Tree) → next ≤ later → unknown_in next values ≡ None → unknown_in later values ≡ None
unfolding unknown_in
terms_later next later [] le e = refl
terms_later next later (value ∷ values) le e =
    let both = none_first (first_unknown_id next value) (unknown_in next values) e in
    ap (λ (o : Option ℕ). first_of o (unknown_in later values)) (term_later next later value le both.0) ∙ terms_later next later values le both.1

known_none : (next : ℕ) (o : Option ℕ) (u : Unit {0}) → known_id next o ≡ Ok u → o ≡ None
known_none next (Some id) u e = absurd (let no : ⊥ = cc in no)
known_none next None u e = refl

references_later : (next later : ℕ) (values : List Tree) (u : Unit {0}) → next ≤ later → known_references next values ≡ Ok u → known_references later values ≡ Ok tt
references_later next later values u le e = ap (λ (o : Option ℕ). known_id later o) (terms_later next later values le (known_none next (unknown_in next values) u e))

-- ---- what is shown

-- what a SELECT shows of a table that was found
abbrev shown : AnyDatabase → Found → Option (List (List ℕ)) → Option Tree → Checked (Reply × AnyDatabase)
shown d f items filter =
    listed_places (columns_of f) items then λ places.
    known_condition (columns_of f) filter then λ condition.
    known_references d.state.next (condition_list filter) then λ _.
    Ok (Shown (listed_names (columns_of f) items) (selected (rows_of d f) places condition), d)

module _ (d later : AnyDatabase) (f : Found) (items : Option (List (List ℕ))) (filter : Option Tree) (reply : Reply) (rows : later.state.tables f.table.number ≡ d.state.tables f.table.number) (next : d.state.next ≤ later.state.next) where
  shown_later : shown d f items filter ≡ Ok (reply, d) → shown later f items filter ≡ Ok (reply, later)
  shown_later h =
      let a = both_give (listed_places (columns_of f) items) _ (reply, d) h in
      let b = both_give (known_condition (columns_of f) filter) _ (reply, d) a.2 in
      let c = both_give (known_references d.state.next (condition_list filter)) _ (reply, d) b.2 in
      let told : Shown (listed_names (columns_of f) items) (selected (rows_of d f) a.0 b.0) ≡ reply = ap (λ (r : Reply × AnyDatabase). r.0) (ok_is _ (reply, d) c.2) in
      then_is (listed_places (columns_of f) items) _ a.0 a.1
      ∙ then_is (known_condition (columns_of f) filter) _ b.0 b.1
      ∙ then_is (known_references later.state.next (condition_list filter)) _ tt (references_later d.state.next later.state.next (condition_list filter) c.0 next c.1)
      ∙ ap (λ (rs : Rows). Ok (Shown (listed_names (columns_of f) items) (selected rs a.0 b.0), later)) rows
      ∙ ap (λ (r : Reply). Ok (r, later)) told

  pub select_later : (name : TableName) → found d name ≡ Ok f → found later name ≡ Ok f → acted_select d name items filter ≡ Ok (reply, d) → acted_select later name items filter ≡ Ok (reply, later)
  select_later name here there h =
      let was : shown d f items filter ≡ Ok (reply, d) = sym (then_is (found d name) _ f here) ∙ h in
      then_is (found later name) _ f there ∙ shown_later was
