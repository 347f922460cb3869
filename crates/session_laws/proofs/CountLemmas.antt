-- What is counted are tables that live, each once and ascending.
use Rattle.std.specs.Prelude.{◌<◌, ◌≤◌, nat_le, nat_lt, Option, Some, None, Ok, Err}
use Rattle.std.proofs.Common.{◌≡◌, ℕ, ◌+◌, List, [], ◌∷◌, ◌++◌, Bool, true, false, cond, filter, inl, inr, refl, sym, ap, ◌∙◌, subst, arith}
use Rattle.std.proofs.lemmas.Bool.{cond-false, cond-true, ltb-false, ltb-true, false_from_ne_true}
use Rattle.par_base.specs.Checked.{Checked, ◌then◌}
use Rattle.par_base.specs.declared.limits.Target.{Target}
use Rattle.version_graph.specs.Edges.{Rises, set_named}
use Rattle.version_graph.specs.Sets.{Each, In}
use Rattle.version_graph.specs.declared.parts.Placed.{Placed}
use Rattle.version_graph.proofs.SetLaws.{each_at, each_of, in_append}
use Rattle.version_graph.proofs.TableLaws.{in_filter, passes}
use Rattle.statements.specs.Views.{StatementView, CreateVersion, DropVersion, Insert, Import, Update, Delete, Select, Materialize, Step, ShowLayout, Use, Session, Advise, Watch, Unwatch, Begin, Commit, Rollback}
use Rattle.layout_rules.specs.Closed.{closing}
use Rattle.layout_planner.specs.Costs.{count_of}
use Rattle.layout_planner.specs.Counts.{AreCounts, Ascends, counts_in, is_living, tables_counted}
use Rattle.layout_planner.specs.declared.planning.TableCount.{TableCount}
use Rattle.op_any.specs.Operators.{AnyView}
use Rattle.engine_state.specs.AnyDatabase.{AnyDatabase}
use Rattle.engine_state.specs.SharedChecks.{known_version}
use Rattle.engine_state.specs.declared.reply.Reply.{Reply}
use Rattle.engine_state.specs.declared.reply.Reply.TheVariants.{Done, Moved}
use Rattle.engine_moves.proofs.ChainLaws.{both_give, ok_is}
use Rattle.engine_moves.specs.EngineCoreAct.{act as act_at_once}
use Rattle.engine_moves.specs.Laid.{Laid, materialized, moved_count}
use Rattle.engine_moves.specs.Act.{act as act_in_full, pending_behind}
use Rattle.engine_moves.specs.Moving.{Moving}
use Rattle.engine_moves.proofs.ActLaws.{started_stays, stepped_stays}
use Rattle.engine_sessions.specs.declared.answer.Answer.{Answer}
use Rattle.engine_sessions.specs.declared.answer.Answer.TheVariants.{Plain}
use Rattle.engine_sessions.specs.Standing.{Standing, moving_in, used_by, with_use}
use Rattle.engine_sessions.specs.InFull.{in_full}
use Rattle.engine_sessions.specs.Accesses.{accessed, greatest_count, is_move, kept_behind, one_more, raised, raised_by}
use Rattle.engine_sessions.specs.Act.{advice_on, answer_of, behind, counted}
use Rattle.session_laws.specs.Sessions.{CountsStay, HasCounts}

-- ---- lists of counts that ascend

module _ (p : TableCount → Bool) where
  kept : (c : TableCount) (cs : List TableCount) → p c ≡ true → filter p (c ∷ cs) ≡ c ∷ filter p cs
  kept c cs is = cond-true (p c) (c ∷ filter p cs) (filter p cs) is

  gone : (c : TableCount) (cs : List TableCount) → p c ≡ false → filter p (c ∷ cs) ≡ filter p cs
  gone c cs is = cond-false (p c) (c ∷ filter p cs) (filter p cs) is

  rises_kept : (cs : List TableCount) (n : ℕ) → Rises n (tables_counted cs) → Rises n (tables_counted (filter p cs))
  rises_kept [] n rise = tt
  rises_kept (c ∷ cs) n rise = go (rises_kept cs c.table rise.1) (p c) refl
    where
      lower : (xs : List ℕ) (m k : ℕ) → m < k → Rises k xs → Rises m xs
      lower [] m k lt r = tt
      lower (x ∷ xs) m k lt r = (let first = r.0 in omega (arith, lt, first), r.1)

      go : Rises c.table (tables_counted (filter p cs)) → (b : Bool) → p c ≡ b → Rises n (tables_counted (filter p (c ∷ cs)))
      go rest true is = subst (λ (l : List TableCount). Rises n (tables_counted l)) (sym (kept c cs is)) (rise.0, rest)
      go rest false is = subst (λ (l : List TableCount). Rises n (tables_counted l)) (sym (gone c cs is)) (lower (tables_counted (filter p cs)) n c.table rise.0 rest)

  pub ascends_kept : (cs : List TableCount) → Ascends (tables_counted cs) → Ascends (tables_counted (filter p cs))
  ascends_kept [] up = tt
  ascends_kept (c ∷ cs) up = go (ascends_kept cs) (p c) refl
    where
      weaken : (xs : List ℕ) (k : ℕ) → Rises k xs → Ascends xs
      weaken [] k r = tt
      weaken (x ∷ xs) k r = r.1

      go : (Ascends (tables_counted cs) → Ascends (tables_counted (filter p cs))) → (b : Bool) → p c ≡ b → Ascends (tables_counted (filter p (c ∷ cs)))
      go rest true is = subst (λ (l : List TableCount). Ascends (tables_counted l)) (sym (kept c cs is)) (rises_kept cs c.table up)
      go rest false is = subst (λ (l : List TableCount). Ascends (tables_counted l)) (sym (gone c cs is)) (rest (weaken (tables_counted cs) c.table up))

-- one more between those below and those above it
module _ (new : TableCount) where
  abbrev below : TableCount → Bool
  below c = nat_lt c.table new.table

  abbrev above : TableCount → Bool
  above c = nat_lt new.table c.table

  abbrev put : List TableCount → List TableCount
  put cs = filter below cs ++ new ∷ filter above cs

  none_below : (cs : List TableCount) (n : ℕ) → new.table ≤ n → Rises n (tables_counted cs) → filter below cs ≡ []
  none_below [] n le rise = refl
  none_below (c ∷ cs) n le rise =
      let first = rise.0 in
      gone below c cs (false_from_ne_true (below c) (λ h. (let lt = ltb-true c.table new.table h in omega (arith, lt, first, le))))
      ∙ none_below cs c.table (omega (arith, first, le)) rise.1

  rises_above_it : (cs : List TableCount) (n : ℕ) → Rises n (tables_counted cs) → Rises new.table (tables_counted (filter above cs))
  rises_above_it [] n rise = tt
  rises_above_it (c ∷ cs) n rise = go (rises_above_it cs c.table rise.1) (above c) refl
    where
      go : Rises new.table (tables_counted (filter above cs)) → (b : Bool) → above c ≡ b → Rises new.table (tables_counted (filter above (c ∷ cs)))
      go rest true is = subst (λ (l : List TableCount). Rises new.table (tables_counted l)) (sym (kept above c cs is)) (ltb-true new.table c.table is, rises_kept above cs c.table rise.1)
      go rest false is = subst (λ (l : List TableCount). Rises new.table (tables_counted l)) (sym (gone above c cs is)) rest

  -- the first stands below it
  put_later : (c : TableCount) (cs : List TableCount) → below c ≡ true → put (c ∷ cs) ≡ c ∷ put cs
  put_later c cs is =
      let lt = ltb-true c.table new.table is in
      let off : above c ≡ false = false_from_ne_true (above c) (λ h. (let more = ltb-true new.table c.table h in omega (arith, lt, more))) in
      (λ i. kept below c cs is i ++ new ∷ gone above c cs off i)

  -- or doesn't
  put_first : (c : TableCount) (cs : List TableCount) → below c ≡ false → Rises c.table (tables_counted cs) → put (c ∷ cs) ≡ new ∷ filter above (c ∷ cs)
  put_first c cs is rise =
      let le = ltb-false c.table new.table is in
      ap (λ (l : List TableCount). l ++ new ∷ filter above (c ∷ cs)) (gone below c cs is ∙ none_below cs c.table (omega (arith, le)) rise)

  rises_put : (cs : List TableCount) (n : ℕ) → n < new.table → Rises n (tables_counted cs) → Rises n (tables_counted (put cs))
  rises_put [] n lt rise = (lt, tt)
  rises_put (c ∷ cs) n lt rise = go (λ less. rises_put cs c.table less rise.1) (below c) refl
    where
      go : (c.table < new.table → Rises c.table (tables_counted (put cs))) → (b : Bool) → below c ≡ b → Rises n (tables_counted (put (c ∷ cs)))
      go rest true is = subst (λ (l : List TableCount). Rises n (tables_counted l)) (sym (put_later c cs is)) (rise.0, rest (ltb-true c.table new.table is))
      go rest false is = subst (λ (l : List TableCount). Rises n (tables_counted l)) (sym (put_first c cs is rise.1)) (lt, rises_above_it (c ∷ cs) n rise)

  -- those above it, be the first one of them
  rises_behind : (c : TableCount) (cs : List TableCount) → Rises c.table (tables_counted cs) → Rises new.table (tables_counted (filter above (c ∷ cs)))
  rises_behind c cs up = go (above c) refl
    where
      go : (b : Bool) → above c ≡ b → Rises new.table (tables_counted (filter above (c ∷ cs)))
      go true on = subst (λ (l : List TableCount). Rises new.table (tables_counted l)) (sym (kept above c cs on)) (ltb-true new.table c.table on, rises_kept above cs c.table up)
      go false off = subst (λ (l : List TableCount). Rises new.table (tables_counted l)) (sym (gone above c cs off)) (rises_above_it cs c.table up)

  pub ascends_put : (cs : List TableCount) → Ascends (tables_counted cs) → Ascends (tables_counted (put cs))
  ascends_put [] up = tt
  ascends_put (c ∷ cs) up = go (below c) refl
    where
      go : (b : Bool) → below c ≡ b → Ascends (tables_counted (put (c ∷ cs)))
      go true is = subst (λ (l : List TableCount). Ascends (tables_counted l)) (sym (put_later c cs is)) (rises_put cs c.table (ltb-true c.table new.table is) up)
      go false is = subst (λ (l : List TableCount). Ascends (tables_counted l)) (sym (put_first c cs is up)) (rises_behind c cs up)

-- ---- one access more

some_more : (count : ℕ) → 1 ≤ one_more count
some_more count = go (nat_le greatest_count count)
  where
    go : (b : Bool) → 1 ≤ cond b greatest_count (count + 1)
    go true = omega arith
    go false = omega arith

pub each_raised : (counts : List TableCount) (t : ℕ) → Each (λ (c : TableCount). 1 ≤ c.count) counts → (c : TableCount) → In c (raised counts t) → 1 ≤ c.count
each_raised counts t each c i =
    let new : TableCount = record { table = t; count = one_more (count_of counts t) } in
    elim (in_append c (filter (below new) counts) (new ∷ filter (above new) counts) i) as (λ _. 1 ≤ c.count) [
      | inl j ↦ each_at (λ (k : TableCount). 1 ≤ k.count) counts c (in_filter (below new) c counts j) each
      | inr (inl same) ↦ subst (λ (k : TableCount). 1 ≤ k.count) (sym same) (some_more (count_of counts t))
      | inr (inr j) ↦ each_at (λ (k : TableCount). 1 ≤ k.count) counts c (in_filter (above new) c counts j) each
    ]

-- those of tables that live, with the access of a statement
living_counts : (old es : List (Placed AnyView)) (counts : List TableCount) (table : Option ℕ) → AreCounts old counts → AreCounts es (counts_in es (raised_by counts table))
living_counts old es counts table are = record {
  ascending = ascends_kept (is_living es) (raised_by counts table) (up table);
  living = each_of (λ (c : TableCount). is_living es c ≡ true) (counts_in es (raised_by counts table)) (λ c i. passes (is_living es) c (raised_by counts table) i);
  accessed = each_of (λ (c : TableCount). 1 ≤ c.count) (counts_in es (raised_by counts table)) (λ c i. some table c (in_filter (is_living es) c (raised_by counts table) i));
}
  where
    up : (table : Option ℕ) → Ascends (tables_counted (raised_by counts table))
    up None = are.ascending
    up (Some t) = ascends_put (record { table = t; count = one_more (count_of counts t) }) counts are.ascending

    some : (table : Option ℕ) (c : TableCount) → In c (raised_by counts table) → 1 ≤ c.count
    some None c i = each_at (λ (k : TableCount). 1 ≤ k.count) counts c i are.accessed
    some (Some t) c i = each_raised counts t are.accessed c i

-- ---- one statement

-- what isn't a move
counted_stay : (s : Standing) (csv : Bool) (x : StatementView) (answer : Answer × Standing) → is_move x ≡ false → HasCounts s → counted s csv x ≡ Ok answer → HasCounts answer.1
counted_stay s csv x answer off are h =
    let a = both_give (act_in_full (moving_in s) x) (λ r. Ok (answer_of csv r.0, behind s (is_move x) (accessed s.laid.database x) r.1)) answer h in
    let es = a.0.1.laid.database.graph.edges in
    let living : AreCounts es (kept_behind (is_move x) es (raised_by s.counts (accessed s.laid.database x))) =
    subst (λ (b : Bool). AreCounts es (kept_behind b es (raised_by s.counts (accessed s.laid.database x)))) (sym off)
    (living_counts s.laid.database.graph.edges es s.counts (accessed s.laid.database x) are) in
    subst (λ (r : Answer × Standing). HasCounts r.1) (ok_is (answer_of csv a.0.0, behind s (is_move x) (accessed s.laid.database x) a.0.1) answer a.2) living

-- a move, which leaves the data
moved_stay : (s : Standing) (x : StatementView) (answer : Answer × Standing) → is_move x ≡ true → accessed s.laid.database x ≡ None → HasCounts s
    → ((r : Reply × Moving) → act_in_full (moving_in s) x ≡ Ok r → r.1.laid.database ≡ s.laid.database) → counted s false x ≡ Ok answer → HasCounts answer.1
moved_stay s x answer on none are same h =
    let a = both_give (act_in_full (moving_in s) x) (λ r. Ok (answer_of false r.0, behind s (is_move x) (accessed s.laid.database x) r.1)) answer h in
    let es = a.0.1.laid.database.graph.edges in
    let kept_are : s.counts ≡ kept_behind (is_move x) es (raised_by s.counts (accessed s.laid.database x)) =
    λ i. kept_behind (sym on i) es (raised_by s.counts (sym none i)) in
    let stays : AreCounts es (kept_behind (is_move x) es (raised_by s.counts (accessed s.laid.database x))) =
    subst (λ (k : AnyDatabase × List TableCount). AreCounts k.0.graph.edges k.1) (λ i. (sym (same a.0 a.1) i, kept_are i)) are in
    subst (λ (r : Answer × Standing). HasCounts r.1) (ok_is (answer_of false a.0.0, behind s (is_move x) (accessed s.laid.database x) a.0.1) answer a.2) stays

-- a MATERIALIZE leaves the data
once_same : (s : Moving) (named : List Target) (r : Reply × Moving) → act_in_full s (Materialize named false) ≡ Ok r → r.1.laid.database ≡ s.laid.database
once_same s named r h =
    let a = both_give (act_at_once s.laid (Materialize named false)) (λ answer. Ok (answer.0, record { laid = answer.1; pending = pending_behind true answer.1 s.pending })) r h in
    let b = both_give (materialized s.laid named) (λ m. Ok (Moved m.0, m.1)) a.0 a.1 in
    let c = both_give (closing s.laid.database.graph s.laid.layout named) (λ new. Ok (moved_count s.laid new, record s.laid { layout = new })) b.0 b.1 in
    ap (λ (q : Reply × Moving). q.1.laid.database) (sym (ok_is _ r a.2))
    ∙ ap (λ (q : Reply × Laid). q.1.database) (sym (ok_is (Moved b.0.0, b.0.1) a.0 b.2))
    ∙ ap (λ (q : ℕ × Laid). q.1.database) (sym (ok_is (moved_count s.laid c.0, record s.laid { layout = c.0 }) b.0 c.2))

move_same : (s : Moving) (named : List Target) (in_steps : Bool) (r : Reply × Moving) → act_in_full s (Materialize named in_steps) ≡ Ok r → r.1.laid.database ≡ s.laid.database
move_same s named true r h = ap (λ (l : Laid). l.database) (started_stays s named r h)
move_same s named false r h = once_same s named r h

used_stay : (s : Standing) (name : List ℕ) (answer : Answer × Standing) (m : Checked ℕ) → HasCounts s → (m then λ set. Ok (Plain Done, record s { uses = with_use s.uses s.session name })) ≡ Ok answer → HasCounts answer.1
used_stay s name answer (Ok set) are h = subst (λ (r : Answer × Standing). HasCounts r.1) (ok_is (Plain Done, record s { uses = with_use s.uses s.session name }) answer h) are
used_stay s name answer (Err r) are h = absurd (let no : ⊥ = cc in no)

advised_stay : (s : Standing) (told : Answer) (answer : Answer × Standing) (m : Checked ℕ) → HasCounts s → (m then λ set. Ok (told, s)) ≡ Ok answer → HasCounts answer.1
advised_stay s told answer (Ok set) are h = subst (λ (r : Answer × Standing). HasCounts r.1) (ok_is (told, s) answer h) are
advised_stay s told answer (Err r) are h = absurd (let no : ⊥ = cc in no)

pub counts_stay : CountsStay
counts_stay s (CreateVersion name from operators) answer are h = counted_stay s false (CreateVersion name from operators) answer refl are h
counts_stay s (DropVersion name) answer are h = counted_stay s false (DropVersion name) answer refl are h
counts_stay s (Insert name rows) answer are h = counted_stay s false (in_full (used_by s.uses s.session) (Insert name rows)) answer refl are h
counts_stay s (Import name text) answer are h = counted_stay s false (in_full (used_by s.uses s.session) (Import name text)) answer refl are h
counts_stay s (Update name assignments filter) answer are h = counted_stay s false (in_full (used_by s.uses s.session) (Update name assignments filter)) answer refl are h
counts_stay s (Delete name filter) answer are h = counted_stay s false (in_full (used_by s.uses s.session) (Delete name filter)) answer refl are h
counts_stay s (Select name items filter csv) answer are h = counted_stay s csv (in_full (used_by s.uses s.session) (Select name items filter csv)) answer refl are h
counts_stay s (Materialize named in_steps) answer are h = moved_stay s (Materialize named in_steps) answer refl refl are (move_same (moving_in s) named in_steps) h
counts_stay s Step answer are h = moved_stay s Step answer refl refl are (stepped_stays (moving_in s)) h
counts_stay s ShowLayout answer are h = counted_stay s false ShowLayout answer refl are h
counts_stay s (Use name) answer are h = used_stay s name answer (known_version name (set_named s.laid.database.graph.versions name)) are h
counts_stay s (Session number) answer are h = subst (λ (r : Answer × Standing). HasCounts r.1) (ok_is (Plain Done, record s { session = number }) answer h) are
counts_stay s (Advise name) answer are h = advised_stay s (advice_on s name) answer (known_version name (set_named s.laid.database.graph.versions name)) are h
counts_stay s (Watch name) answer are h = counted_stay s false (Watch name) answer refl are h
counts_stay s (Unwatch number) answer are h = counted_stay s false (Unwatch number) answer refl are h
counts_stay s Begin answer are h = counted_stay s false Begin answer refl are h
counts_stay s Commit answer are h = counted_stay s false Commit answer refl are h
counts_stay s Rollback answer are h = counted_stay s false Rollback answer refl are h
