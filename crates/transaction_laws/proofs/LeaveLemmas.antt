-- What statements leave of what was read, and which number they give it.
use Rattle.std.specs.Prelude.{Ok, not, ◌<◌}
use Rattle.std.specs.List.{list_any}
use Rattle.std.specs.Str.{bytes_eq}
use Rattle.std.proofs.Common.{◌≡◌, ◌≤◌, ◌==◌, ◌&&◌, ℕ, max, Bool, true, false, cond, List, [], ◌∷◌, inl, inr, refl, sym, ap, ◌∙◌, subst, arith}
use Rattle.std.proofs.lemmas.Bool.{eqb-true, false≢true, or_parts}
use Rattle.par_base.specs.SameRows.{same_row}
use Rattle.par_base.specs.inner.SameLaws.{row_equal}
use Rattle.par_base.specs.declared.value.Value.{Value}
use Rattle.row_store.specs.Rows.{Rows}
use Rattle.version_graph.specs.Sets.{Each, In}
use Rattle.version_graph.specs.Tables.{TableVersion, table_numbers}
use Rattle.version_graph.specs.Edges.{Drawn, made, version_sets}
use Rattle.version_graph.specs.declared.parts.Edge.{Edge}
use Rattle.version_graph.proofs.SetLaws.{in_map}
use Rattle.op_any.specs.Operators.{AnyView}
use Rattle.session_tx.specs.Calls.{last_number, next_number}
use Rattle.version_model.specs.Databases.{dropped_database}
use Rattle.engine_state.specs.AnyDatabase.{AnyDatabase}
use Rattle.engine_transactions.specs.Found.{Found, found}
use Rattle.engine_transactions.specs.Evolve.{state_after}
use Rattle.tx_history.specs.History.{History, last_change, same_rows, with_changes, with_drop, with_version}
use Rattle.engine_transactions.specs.Changed.{has_changed, with_writes}
use Rattle.tx_history.specs.declared.table_read.TableRead.{TableRead}
use Rattle.transaction_laws.proofs.FoundLemmas.{found_by, found_dropped, found_grown, found_made, full, grown_table, rows_dropped, table_low}
use Rattle.transaction_laws.proofs.RiseLemmas.{evolution_rises}

-- the history number doesn't fall, and no identifier is free again; and what has not changed since it was read, at most at this number, had not changed before, is found the same and has the same rows, unless the history is spent
pub record Leaves (d : AnyDatabase) (h : History) (later : AnyDatabase) (now : History) : Type 0 where
  pub rises : h.last ≤ now.last
  pub within : now.last ≤ last_number
  pub next : d.state.next ≤ later.state.next
  pub since : (read : TableRead) (at : ℕ) → at ≤ h.last → now.last < last_number → last_change now read ≤ at → (h.last < last_number) × (last_change h read ≤ at)
  pub stays : (read : TableRead) (at : ℕ) (table : List ℕ) (f : Found) → found d (full read.version table) ≡ Ok f → f.table.number ≡ read.table → at ≤ h.last → now.last < last_number → last_change now read ≤ at
      → (found later (full read.version table) ≡ Ok f) × (later.state.tables f.table.number ≡ d.state.tables f.table.number)

-- ---- numbers

not_less : (n : ℕ) → n ≤ last_number → n ≤ next_number n
not_less n h = grind (arith, h)

at_most : (n : ℕ) → next_number n ≤ last_number
at_most n = grind arith

not_spent : (n : ℕ) → next_number n < last_number → n < last_number
not_spent n h = grind (arith, h)

greater : (n : ℕ) → next_number n < last_number → n < next_number n
greater n h = grind (arith, h)

first_most : (a b at : ℕ) → max a b ≤ at → a ≤ at
first_most a b at h = grind (arith, h)

second_most : (a b at : ℕ) → max a b ≤ at → b ≤ at
second_most a b at h = grind (arith, h)

-- a number after it isn't at most a number at which something was read
no_later : (n at : ℕ) → at ≤ n → next_number n < last_number → next_number n ≤ at → ⊥
no_later n at past below reach = let up = greater n below in omega (arith, past, up, reach)

-- ---- nothing changes

pub same_leave : (d : AnyDatabase) (h : History) → h.last ≤ last_number → Leaves d h d h
same_leave d h within = record {
  rises = omega arith;
  within = within;
  next = omega arith;
  since = λ read at past below unchanged. (below, unchanged);
  stays = λ read at table f is number past below unchanged. (is, refl);
}

-- ---- a new version

pub evolution_leaves : (d : AnyDatabase) (h : History) (name : List ℕ) (set : ℕ) (edges : List (Edge AnyView)) → h.last ≤ last_number → Each (λ n. n ≤ d.graph.last_operator) (version_sets d.graph.versions) → Each (λ t. t ≤ d.graph.last_table) (table_numbers (made d.graph.edges))
    → Leaves d h (state_after d name set edges) (with_version h)
evolution_leaves d h name set edges within sets tables = record {
  rises = not_less h.last within;
  within = at_most h.last;
  next = evolution_rises d.graph.edges set d.graph.last_operator d.graph.last_table edges d.state;
  since = λ read at past below unchanged. (not_spent h.last below, unchanged);
  stays = λ read at table f is number past below unchanged. (
    found_grown d read.version table f is name set edges (state_after d name set edges) sets tables refl refl,
    grown_table d.graph.edges set d.graph.last_operator d.graph.last_table edges d.state f.table.number (table_low d read.version table f is name set edges (state_after d name set edges) sets tables refl refl),
  );
}

-- ---- a drop

-- where it isn't the dropped name's number, the name isn't the dropped one
not_dropped : (b : Bool) (c n dr at : ℕ) → (n ≤ at → ⊥) → max c (cond b n dr) ≤ at → (b ≡ false) × (max c dr ≤ at)
not_dropped true c n dr at never h = absurd (never (second_most c n at h))
not_dropped false c n dr at never h = (refl, h)

pub drop_leaves : (d : AnyDatabase) (h : History) (name : List ℕ) → h.last ≤ last_number → Leaves d h (dropped_database d name) (with_drop h name)
drop_leaves d h name within = record {
  rises = not_less h.last within;
  within = at_most h.last;
  next = omega arith;
  since = λ read at past below unchanged. (not_spent h.last below, (apart read at past below unchanged).1);
  stays = λ read at table f is number past below unchanged. (
    found_dropped d read.version table f is name (apart read at past below unchanged).0,
    rows_dropped d read.version table f is name (apart read at past below unchanged).0,
  );
}
  where
    apart : (read : TableRead) (at : ℕ) → at ≤ h.last → next_number h.last < last_number → last_change (with_drop h name) read ≤ at → (bytes_eq name read.version ≡ false) × (last_change h read ≤ at)
    apart read at past below unchanged =
        not_dropped (bytes_eq name read.version) (h.changed read.table) (next_number h.last) (h.dropped read.version) at (no_later h.last at past below) unchanged

-- ---- writes

not_changed : (b : Bool) (c n dr at : ℕ) → (n ≤ at → ⊥) → max (cond b n c) dr ≤ at → (b ≡ false) × (max c dr ≤ at)
not_changed true c n dr at never h = absurd (never (first_most n dr at h))
not_changed false c n dr at never h = (refl, h)

none_of : (test : ℕ → Bool) (ts : List ℕ) (t : ℕ) → list_any test ts ≡ false → In t ts → test t ≡ false
none_of test [] t e i = absurd i
none_of test (u ∷ ts) t e (inl same) = ap test same ∙ (or_parts (test u) (list_any test ts) e).0
none_of test (u ∷ ts) t e (inr i) = none_of test ts t (or_parts (test u) (list_any test ts) e).1 i

-- the numbers once these tables got other rows, be there any or not
abbrev numbered : Bool → History → (ℕ → Bool) → History
numbered b h test = cond b (with_changes h test) h

module _ (d later : AnyDatabase) (h : History) (test : ℕ → Bool) (within : h.last ≤ last_number) (graph : later.graph ≡ d.graph) (next : d.state.next ≤ later.state.next) (rows : (t : ℕ) → test t ≡ false → later.state.tables t ≡ d.state.tables t) where
  -- what was read was not written
  unwritten : (b : Bool) → list_any test (table_numbers (made d.graph.edges)) ≡ b → (read : TableRead) (at : ℕ) → In read.table (table_numbers (made d.graph.edges)) → at ≤ h.last → (numbered b h test).last < last_number → last_change (numbered b h test) read ≤ at → test read.table ≡ false
  unwritten true is read at i past below unchanged = (not_changed (test read.table) (h.changed read.table) (next_number h.last) (h.dropped read.version) at (no_later h.last at past below) unchanged).0
  unwritten false is read at i past below unchanged = none_of test (table_numbers (made d.graph.edges)) read.table is i

  before : (b : Bool) (read : TableRead) (at : ℕ) → at ≤ h.last → (numbered b h test).last < last_number → last_change (numbered b h test) read ≤ at → (h.last < last_number) × (last_change h read ≤ at)
  before true read at past below unchanged = (not_spent h.last below, (not_changed (test read.table) (h.changed read.table) (next_number h.last) (h.dropped read.version) at (no_later h.last at past below) unchanged).1)
  before false read at past below unchanged = (below, unchanged)

  up : (b : Bool) → h.last ≤ (numbered b h test).last
  up true = not_less h.last within
  up false = omega arith

  low : (b : Bool) → (numbered b h test).last ≤ last_number
  low true = at_most h.last
  low false = within

  made_number : (version table : List ℕ) (f : Found) → found d (full version table) ≡ Ok f → In f.table.number (table_numbers (made d.graph.edges))
  made_number version table f is = in_map (λ (v : TableVersion). v.number) f.table (made d.graph.edges) (found_made d version f (found_by d version table f is))

  leave_by : (b : Bool) → list_any test (table_numbers (made d.graph.edges)) ≡ b → Leaves d h later (numbered b h test)
  leave_by b is = record {
    rises = up b;
    within = low b;
    next = next;
    since = before b;
    stays = λ read at table f there number past below unchanged. (
      ap (λ (g : Drawn AnyView). found (record d { graph = g }) (full read.version table)) graph ∙ there,
      rows f.table.number
          (ap test number
          ∙ unwritten b is read at (subst (λ (t : ℕ). In t (table_numbers (made d.graph.edges))) number (made_number read.version table f there)) past below unchanged),
    );
  }

  pub writes_leave : Leaves d h later (with_writes h d test)
  writes_leave = leave_by (list_any test (table_numbers (made d.graph.edges))) refl

-- ---- which tables have other rows

both_true : (a b : Bool) → a && b ≡ true → (a ≡ true) × (b ≡ true)
both_true true b h = (refl, h)
both_true false b h = absurd (false≢true h)

pair_is : (a b : ℕ × List Value) → a.0 ≡ b.0 → a.1 ≡ b.1 → a ≡ b
pair_is a b e f = ap (λ (n : ℕ). (n, a.1)) e ∙ ap (λ (v : List Value). (b.0, v)) f

rows_equal : (rows others : Rows) → same_rows rows others ≡ true → rows ≡ others
rows_equal [] [] h = refl
rows_equal [] (t ∷ ts) h = absurd (false≢true h)
rows_equal (r ∷ rs) [] h = absurd (false≢true h)
rows_equal (r ∷ rs) (t ∷ ts) h =
    let outer = both_true ((r.0 == t.0) && same_row r.1 t.1) (same_rows rs ts) h in
    let inner = both_true (r.0 == t.0) (same_row r.1 t.1) outer.0 in
    let same : r ≡ t = pair_is r t (eqb-true r.0 t.0 inner.0) (row_equal r.1 t.1 inner.1) in
    ap (λ (x : ℕ × List Value). x ∷ rs) same ∙ ap (λ (l : Rows). t ∷ l) (rows_equal rs ts outer.1)

told_same : (b : Bool) → not b ≡ false → b ≡ true
told_same true e = refl
told_same false e = absurd (let no : ⊥ = cc in no)

-- a table that has no other rows
pub unchanged_rows : (d later : AnyDatabase) (t : ℕ) → has_changed d later t ≡ false → later.state.tables t ≡ d.state.tables t
unchanged_rows d later t e = sym (rows_equal (d.state.tables t) (later.state.tables t) (told_same (same_rows (d.state.tables t) (later.state.tables t)) e))
