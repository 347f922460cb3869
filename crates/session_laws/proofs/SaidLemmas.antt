-- Statements that don't depend on what stood in use before them.
use Rattle.std.specs.Prelude.{Option, Some, None, Ok, Err}
use Rattle.std.proofs.Common.{◌≡◌, ◌==◌, inl, inr, ℕ, List, [], ◌∷◌, Bool, true, false, refl, sym, ap, subst, ◌∙◌}
use Rattle.std.proofs.lemmas.Bool.{eqb-true, eqb-false}
use Rattle.par_base.specs.Checked.{Checked, ◌then◌}
use Rattle.par_base.specs.declared.refusal.Refusal.{Refusal}
use Rattle.version_graph.specs.Sets.{In}
use Rattle.version_graph.specs.Edges.{set_named}
use Rattle.statements.specs.Views.{StatementView, CreateVersion, DropVersion, Insert, Import, Update, Delete, Select, Materialize, Step, ShowLayout, Use, Session, Advise, Watch, Unwatch, Begin, Commit, Rollback}
use Rattle.statements.specs.declared.statement.TableName.{TableName}
use Rattle.csv_io.specs.Tables.{csv_rows}
use Rattle.layout_planner.specs.declared.planning.TableCount.{TableCount}
use Rattle.engine_state.specs.SharedChecks.{known_version}
use Rattle.engine_state.specs.declared.reply.Reply.{Reply}
use Rattle.engine_state.specs.declared.reply.Reply.TheVariants.{Done}
use Rattle.engine_sessions.specs.Laid.{Laid}
use Rattle.engine_sessions.specs.EngineMovesAct.{act as act_in_full}
use Rattle.engine_sessions.specs.Moving.{Moving}
use Rattle.engine_sessions.specs.declared.answer.Answer.{Answer}
use Rattle.engine_sessions.specs.declared.answer.Answer.TheVariants.{Plain}
use Rattle.engine_sessions.specs.declared.uses.VersionInUse.{VersionInUse}
use Rattle.engine_sessions.specs.Standing.{DifferInSessions, Standing, begun_again, moving_in, used_by, with_use}
use Rattle.engine_sessions.specs.InFull.{in_full, name_in_full, version_of}
use Rattle.engine_sessions.specs.Accesses.{accessed, is_move}
use Rattle.engine_sessions.specs.Act.{act, advice_on, answer_of, behind, counted}
use Rattle.session_laws.specs.Sessions.{UsesAreOwn}
use Rattle.session_laws.specs.Beside.{next_state, replies, state_after, text_of}
use Rattle.session_laws.specs.Said.{AreSaid, IsKnown, IsSaid, Said, SaidNeedNoSession, nothing_said, said_after, said_use}

-- two standings that are one but for sessions, in which a session that has said USE uses the same
pub record Alike (s t : Standing) (said : Said) : Type 0 where
  pub differ : DifferInSessions s t
  pub at : (n : ℕ) → said.session ≡ Some n → (s.session ≡ n) × (t.session ≡ n)
  pub none : said.session ≡ None → (n : ℕ) → In (Some n) said.using → ⊥
  pub first : said.session ≡ None → In None said.using → used_by s.uses s.session ≡ used_by t.uses t.session
  pub named : (n : ℕ) → In (Some n) said.using → used_by s.uses n ≡ used_by t.uses n

-- a statement is answered the same, and leaves the same, and what is in use
pub record Goes (s t : Standing) (a b : Checked (Answer × Standing)) : Type 0 where
  pub text : text_of a ≡ text_of b
  pub differ : DifferInSessions (next_state s a) (next_state t b)
  pub mine : ((next_state s a).uses ≡ s.uses) × ((next_state s a).session ≡ s.session)
  pub other : ((next_state t b).uses ≡ t.uses) × ((next_state t b).session ≡ t.session)

-- what an answer of the engine makes of a standing
abbrev pub answered : Standing → Bool → Bool → Option ℕ → Checked (Reply × Moving) → Checked (Answer × Standing)
answered s csv move table m = m then λ answer. Ok (answer_of csv answer.0, behind s move table answer.1)

-- where what is in use and the session are the same, so is the version in use
same_used : (u v : Standing) → (u.uses ≡ v.uses) × (u.session ≡ v.session) → used_by u.uses u.session ≡ used_by v.uses v.session
same_used u v same = λ j. used_by (same.0 j) (same.1 j)

module _ (s t : Standing) (said : Said) (alike : Alike s t said) where
  abbrev used_s : Option (List ℕ)
  used_s = used_by s.uses s.session

  abbrev used_t : Option (List ℕ)
  used_t = used_by t.uses t.session

  -- a session that has said USE uses the same
  same_use : (session : Option ℕ) → said.session ≡ session → In session said.using → used_s ≡ used_t
  same_use None is i = alike.first is i
  same_use (Some n) is i =
      let here = alike.at n is in
      ap (λ (k : ℕ). used_by s.uses k) here.0 ∙ alike.named n i ∙ ap (λ (k : ℕ). used_by t.uses k) (sym here.1)

  same_version : (version : Option (List ℕ)) → IsKnown said version → version_of used_s version ≡ version_of used_t version
  same_version (Some name) known = refl
  same_version None (inl some) = absurd (let none : ⊥ = cc in none)
  same_version None (inr i) = same_use said.session refl i

  same_name : (name : TableName) → IsKnown said name.version → name_in_full used_s name ≡ name_in_full used_t name
  same_name name known = ap (λ (v : Option (List ℕ)). record { version = v; table = name.table }) (same_version name.version known)

  -- one answer of the engine
  goes_answered : (csv move : Bool) (table : Option ℕ) (m : Checked (Reply × Moving)) → Goes s t (answered s csv move table m) (answered t csv move table m)
  goes_answered csv move table (Ok a) = record {
    text = refl;
    differ = record { laid = refl; pending = refl; counts = ap (λ (c : List TableCount). (behind (record s { counts = c }) move table a.1).counts) alike.differ.counts };
    mine = (refl, refl);
    other = (refl, refl);
  }
  goes_answered csv move table (Err r) = record { text = refl; differ = alike.differ; mine = (refl, refl); other = (refl, refl) }

  -- of the same statement in full
  goes_counted : (csv : Bool) (x y : StatementView) → x ≡ y → Goes s t (counted s csv x) (counted t csv y)
  goes_counted csv x y same =
      let P : StatementView × Moving × Option ℕ → Type 0 = λ (k : StatementView × Moving × Option ℕ). Goes s t (counted s csv x) (answered t csv (is_move k.0) k.2 (act_in_full k.1 k.0)) in
      subst P (λ i. (same i, record { laid = alike.differ.laid i; pending = alike.differ.pending i }, accessed (alike.differ.laid i).database (same i)))
      (goes_answered csv (is_move x) (accessed s.laid.database x) (act_in_full (moving_in s) x))

  -- what is in use is alike then
  stay_alike : (a b : Checked (Answer × Standing)) → Goes s t a b → Alike (next_state s a) (next_state t b) said
  stay_alike a b goes = record {
    differ = goes.differ;
    at = λ n is. (goes.mine.1 ∙ (alike.at n is).0, goes.other.1 ∙ (alike.at n is).1);
    none = alike.none;
    first = λ is i. same_used (next_state s a) s goes.mine ∙ alike.first is i ∙ sym (same_used (next_state t b) t goes.other);
    named = λ n i. ap (λ (u : List VersionInUse). used_by u n) goes.mine.0 ∙ alike.named n i ∙ sym (ap (λ (u : List VersionInUse). used_by u n) goes.other.0);
  }

  -- one statement: what is alike behind it, and its reply
  pub record Steps (x : StatementView) : Type 0 where
    pub next : Alike (next_state s (act s x)) (next_state t (act t x)) (said_after t.laid said x)
    pub text : text_of (act t x) ≡ text_of (act s x)

  told : (x : StatementView) → said_after t.laid said x ≡ said → Goes s t (act s x) (act t x) → Steps x
  told x same goes = record {
    next = subst (Alike (next_state s (act s x)) (next_state t (act t x))) (sym same) (stay_alike (act s x) (act t x) goes);
    text = sym goes.text;
  }

  -- ---- USE

  module _ (own : UsesAreOwn) (name : List ℕ) where
    abbrev new_s : Standing
    new_s = record s { uses = with_use s.uses s.session name }

    abbrev new_t : Standing
    new_t = record t { uses = with_use t.uses t.session name }

    -- a session that isn't at hand uses what it did
    other_use : (n m : ℕ) → s.session ≡ m → t.session ≡ m → In (Some n) said.using → (b : Bool) → (n == m) ≡ b → used_by new_s.uses n ≡ used_by new_t.uses n
    other_use n m here there i true is =
        let same = eqb-true n m is in
        ap (λ (k : ℕ). used_by new_s.uses k) (same ∙ sym here) ∙ own.own s.uses s.session name ∙ sym (own.own t.uses t.session name) ∙ ap (λ (k : ℕ). used_by new_t.uses k) (there ∙ sym same)
    other_use n m here there i false is =
        own.others s.uses s.session n name (λ same. eqb-false n m is (same ∙ here)) ∙ alike.named n i ∙ sym (own.others t.uses t.session n name (λ same. eqb-false n m is (same ∙ there)))

    named_use : (n : ℕ) (session : Option ℕ) → said.session ≡ session → In (Some n) (session ∷ said.using) → used_by new_s.uses n ≡ used_by new_t.uses n
    named_use n None is (inl same) = absurd (let none : ⊥ = cc in none)
    named_use n None is (inr i) = absurd (alike.none is n i)
    named_use n (Some m) is (inl same) =
        let one : n ≡ m = cc in
        let here = alike.at m is in
        ap (λ (k : ℕ). used_by new_s.uses k) (one ∙ sym here.0) ∙ own.own s.uses s.session name ∙ sym (own.own t.uses t.session name) ∙ ap (λ (k : ℕ). used_by new_t.uses k) (here.1 ∙ sym one)
    named_use n (Some m) is (inr i) = let here = alike.at m is in other_use n m here.0 here.1 i (n == m) refl

    no_name : (n : ℕ) → said.session ≡ None → In (Some n) (said.session ∷ said.using) → ⊥
    no_name n is (inl same) = let no : ⊥ = cc in no
    no_name n is (inr i) = alike.none is n i

    uses_alike : Alike new_s new_t (record said { using = said.session ∷ said.using })
    uses_alike = record {
      differ = record { laid = alike.differ.laid; pending = alike.differ.pending; counts = alike.differ.counts };
      at = alike.at;
      none = λ is n i. no_name n is i;
      first = λ is i. own.own s.uses s.session name ∙ sym (own.own t.uses t.session name);
      named = λ n i. named_use n said.session refl i;
    }

    -- what a USE answers of the working set that is found
    abbrev using : Standing → Option ℕ → Checked (Answer × Standing)
    using u set = known_version name set then λ w. Ok (Plain Done, record u { uses = with_use u.uses u.session name })

    use_next : (set : Option ℕ) → Alike (next_state s (using s set)) (next_state t (using t set)) (said_use said set)
    use_next (Some w) = uses_alike
    use_next None = alike

    use_text : (set : Option ℕ) → text_of (using t set) ≡ text_of (using s set)
    use_text (Some w) = refl
    use_text None = refl

    same_set : set_named s.laid.database.graph.versions name ≡ set_named t.laid.database.graph.versions name
    same_set = ap (λ (l : Laid). set_named l.database.graph.versions name) alike.differ.laid

    use_steps : Steps (Use name)
    use_steps = record {
      next = subst (λ (o : Option ℕ). Alike (next_state s (using s o)) (next_state t (using t (set_named t.laid.database.graph.versions name))) (said_use said (set_named t.laid.database.graph.versions name))) (sym same_set)
          (use_next (set_named t.laid.database.graph.versions name));
      text = use_text (set_named t.laid.database.graph.versions name) ∙ ap (λ (o : Option ℕ). text_of (using s o)) (sym same_set);
    }

  -- ---- ADVISE, which leaves all

  advice_goes : (answer other : Answer) → answer ≡ other → (m n : Checked ℕ) → m ≡ n → Goes s t (m then λ set. Ok (answer, s)) (n then λ set. Ok (other, t))
  advice_goes answer other same (Ok a) (Ok b) is = record { text = ap (λ (x : Answer). text_of (Ok (x, s))) same; differ = alike.differ; mine = (refl, refl); other = (refl, refl) }
  advice_goes answer other same (Err r) (Err q) is = record { text = (let one : r ≡ q = cc in ap (λ (x : Refusal). text_of (Err x)) one); differ = alike.differ; mine = (refl, refl); other = (refl, refl) }
  advice_goes answer other same (Ok a) (Err r) is = absurd (let no : ⊥ = cc in no)
  advice_goes answer other same (Err r) (Ok a) is = absurd (let no : ⊥ = cc in no)

  -- it tells of the same data and the same counts
  goes_advised : (name : List ℕ) → Goes s t (act s (Advise name)) (act t (Advise name))
  goes_advised name =
      advice_goes (advice_on s name) (advice_on t name) (λ i. advice_on (record t { laid = alike.differ.laid i; counts = alike.differ.counts i }) name) _ _
      (ap (λ (l : Laid). known_version name (set_named l.database.graph.versions name)) alike.differ.laid)

  -- ---- SESSION

  session_next : (number : ℕ) → Alike (record s { session = number }) (record t { session = number }) (record said { session = Some number })
  session_next number = record {
    differ = record { laid = alike.differ.laid; pending = alike.differ.pending; counts = alike.differ.counts };
    at = λ n is. (let same : number ≡ n = cc in (same, same));
    none = λ is n i. (let no : ⊥ = cc in no);
    first = λ is i. absurd (let no : ⊥ = cc in no);
    named = alike.named;
  }

  steps : UsesAreOwn → (x : StatementView) → IsSaid said x → Steps x
  steps own (CreateVersion name from operators) is = told (CreateVersion name from operators) refl (goes_counted false (CreateVersion name from operators) (CreateVersion name from operators) refl)
  steps own (DropVersion name) is = told (DropVersion name) refl (goes_counted false (DropVersion name) (DropVersion name) refl)
  steps own (Insert name rows) is = told (Insert name rows) refl (goes_counted false (in_full used_s (Insert name rows)) (in_full used_t (Insert name rows)) (ap (λ (n : TableName). Insert n rows) (same_name name is)))
  steps own (Import name text) is = told (Import name text) refl (goes_counted false (in_full used_s (Import name text)) (in_full used_t (Import name text)) (ap (λ (n : TableName). Insert n (csv_rows text)) (same_name name is)))
  steps own (Update name assignments filter) is = told (Update name assignments filter) refl (goes_counted false (in_full used_s (Update name assignments filter)) (in_full used_t (Update name assignments filter)) (ap (λ (n : TableName). Update n assignments filter) (same_name name is)))
  steps own (Delete name filter) is = told (Delete name filter) refl (goes_counted false (in_full used_s (Delete name filter)) (in_full used_t (Delete name filter)) (ap (λ (n : TableName). Delete n filter) (same_name name is)))
  steps own (Select name items filter csv) is = told (Select name items filter csv) refl (goes_counted csv (in_full used_s (Select name items filter csv)) (in_full used_t (Select name items filter csv)) (ap (λ (n : TableName). Select n items filter false) (same_name name is)))
  steps own (Materialize named in_steps) is = told (Materialize named in_steps) refl (goes_counted false (Materialize named in_steps) (Materialize named in_steps) refl)
  steps own Step is = told Step refl (goes_counted false Step Step refl)
  steps own ShowLayout is = told ShowLayout refl (goes_counted false ShowLayout ShowLayout refl)
  steps own (Use name) is = use_steps own name
  steps own (Session number) is = record { next = session_next number; text = refl }
  steps own (Advise name) is = told (Advise name) refl (goes_advised name)
  steps own (Watch name) is = told (Watch name) refl (goes_counted false (Watch name) (Watch name) refl)
  steps own (Unwatch number) is = told (Unwatch number) refl (goes_counted false (Unwatch number) (Unwatch number) refl)
  steps own Begin is = absurd is
  steps own Commit is = absurd is
  steps own Rollback is = absurd is

-- all of them, one after the other
all_alike : UsesAreOwn → (xs : List StatementView) (s t : Standing) (said : Said) → Alike s t said → AreSaid t said xs → (replies t xs ≡ replies s xs) × DifferInSessions (state_after t xs) (state_after s xs)
unfolding AreSaid replies state_after
all_alike own [] s t said alike are = (refl, record { laid = sym alike.differ.laid; pending = sym alike.differ.pending; counts = sym alike.differ.counts })
all_alike own (x ∷ xs) s t said alike are =
    let step = steps s t said alike own x are.0 in
    let rest = all_alike own xs (next_state s (act s x)) (next_state t (act t x)) (said_after t.laid said x) step.next are.1 in
    ((λ i. step.text i ∷ rest.0 i), rest.1)

-- nothing was said yet
none_alike : (s : Standing) → Alike s (begun_again s) nothing_said
none_alike s = record {
  differ = record { laid = refl; pending = refl; counts = refl };
  at = λ n is. absurd (let no : ⊥ = cc in no);
  none = λ is n i. i;
  first = λ is i. absurd i;
  named = λ n i. absurd i;
}

pub said_need : UsesAreOwn → SaidNeedNoSession
said_need own s statements are = all_alike own statements s (begun_again s) nothing_said (none_alike s) are
