-- How the run of a source ends.
use Rattle.std.proofs.Common.{◌≡◌, ◌⊎◌, ℕ, List, [], ◌++◌, Option, None, Some, Bool, true, false, inl, inr, refl, sym, ap, subst, ◌∙◌, append-nil, take, length, arith}
use Rattle.std.specs.Prelude.{nat_le, codes}
use Rattle.std.proofs.lemmas.List.{append_cancel_right, take_all}
use Rattle.std.proofs.lemmas.Bool.{le-leb}
use Rattle.std.specs.Io.KnownBytes.{Appends}
use Rattle.std.proofs.KnownBytes.{Appends-trans}
use Rattle.outside.specs.Causes.{Rose}
use Rattle.statements.specs.Views.{StatementView}
use Rattle.bidel_script.specs.Places.{Place}
use Rattle.bidel_script.specs.Script.{IsScript, Comes, Outcome, Over, Fault, Long, Open}
use Rattle.bidel_script.proofs.ScriptLaws.{over_is_script}
use Rattle.bidel_script.proofs.UniqueLaws.{one_comes}
use Rattle.script_run.specs.Reading as reading
use Rattle.engine_feeds.specs.EngineCoreTexts.{line}
use Rattle.engine_feeds.specs.Standing.{Standing}
use Rattle.engine_feeds.specs.Replies.{out}
use Rattle.script_run.specs.Statuses as statuses
use Rattle.script_run.specs.Statuses.{limit, Taken, whole, early, fault_line, last_line, WritesScript, Had, PutsFront, AnswersScript, Begun, CutShort}
use Rattle.script_run.specs.Calls.{RunsTo, RunsFront, PutsLine, last_text, end_of, Ends}
use Rattle.script_run.specs.declared.turn.Last.{Last}
use Rattle.script_run.specs.declared.turn.Last.TheVariants as last
use Rattle.script_run.specs.declared.run.Ran.{Ran}
use Rattle.script_run.specs.declared.run.Ran.TheVariants as ran
use Rattle.script_run.proofs.FrontLaws.{out_more, puts_behind, puts_more, puts_none}
use Rattle.script_run.proofs.CutLaws.{fault_comes, long_comes, place_stays, taken_cut}
use Rattle.script_run.proofs.ToldLemmas.{CountsAll, above_counts, whole_counts, whole_told}

module _ (from to : Standing) where
  -- the bytes that were taken, without a failed call
  taken_of : (left left' : Option (List ℕ)) (was is : ℕ) (bytes : List ℕ) (ended : Bool) → reading.Taken left left' was is bytes ended → Taken left left' was is bytes ended
  taken_of left left' was is bytes true t = whole t.consumed (t.end refl) t.within t.same refl
  taken_of left left' was is bytes false t = early t.consumed t.within t.same refl

  -- ---- where memory or the sink ended the run

  -- before its last line
  pub cut_front : (left left' : Option (List ℕ)) (read read' : ℕ) (held held' : Option (List ℕ)) → read' ≡ read → RunsFront from left held held' → CutShort from left left' read read' held held'
  cut_front None left' read read' held held' same r = inl (same, tt)
  cut_front (Some told) left' read read' held held' same r = inl (
    same,
    λ text w.
        let first = r.first w.statements w.outcome w.comes in
        subst (PutsFront held held') (sym w.same) (puts_more held held' (out from w.statements) (last_line (take limit told) (line (codes "too long")) w.outcome)
        (out_more from held held' r.statements w.statements first.0 first.1 r.put)),
  )

  -- the run of bytes puts what was put, and a line
  text_is : (bytes : List ℕ) (ended : Bool) (stopped : List ℕ) (sts : List StatementView) (o : Outcome) (last text : List ℕ) → Comes bytes ended sts o → last_line bytes stopped o ≡ last
      → WritesScript from bytes ended stopped text → out from sts ++ last ≡ text
  text_is bytes ended stopped sts o last text c e w =
      let same = one_comes bytes ended sts w.statements o w.outcome c w.comes in
      ap (λ (l : List ℕ). out from sts ++ l) (sym e) ∙ ap (λ (l : List ℕ). out from sts ++ l) (ap (last_line bytes stopped) same.1)
      ∙ ap (λ (l : List StatementView). out from l ++ last_line bytes stopped w.outcome) same.0 ∙ sym w.same

  -- a front of all of it was put
  begun_by : (told : List ℕ) (held held' : Option (List ℕ)) (sts : List StatementView) (o : Outcome) (last : List ℕ) → Comes (take limit told) (nat_le (length told) limit) sts o
      → last_line (take limit told) (line (codes "too long")) o ≡ last → PutsFront held held' (out from sts ++ last) → Begun from (Some told) held held'
  begun_by told held held' sts o last c e p = λ text w.
      subst (PutsFront held held') (text_is (take limit told) (nat_le (length told) limit) (line (codes "too long")) sts o last text c e w) p

  -- what comes of the bytes that count comes of those that the source told
  counted : (told bytes : List ℕ) (ended : Bool) (sts : List StatementView) (o : Outcome) → CountsAll told bytes ended → Comes bytes ended sts o → Comes (take limit told) (nat_le (length told) limit) sts o
  counted told bytes ended sts o k c =
      subst (λ (b : Bool). Comes (take limit told) b sts o) (sym k.1) (subst (λ (l : List ℕ). Comes l ended sts o) (sym k.0) c)

  -- behind the last statement
  cut_line : (left left' : Option (List ℕ)) (read read' : ℕ) (held mid held' : Option (List ℕ)) (l : Last) → RunsTo from to left left' read read' held mid l → PutsFront mid held' (last_text l)
      → CutShort from left left' read read' held held'
  cut_line None left' read read' held mid held' last.Over r p = inl (r.reached.taken.same, tt)
  cut_line None left' read read' held mid held' (last.Fault a b) r p = inl (r.reached.taken.same, tt)
  cut_line None left' read read' held mid held' last.Long r p = inl (r.reached.taken.same, tt)
  cut_line None left' read read' held mid held' last.TooMany r p = inl (r.reached.same, tt)
  cut_line None left' read read' held mid held' last.Unread r p = inr (r.reached.cause, tt)
  cut_line (Some told) left' read read' held mid held' last.Over r p =
      let t = r.reached in inl (
        t.taken.same,
        begun_by told held held' r.statements Over []
            (counted told t.bytes true r.statements Over (whole_counts (Some told) left' told t.bytes true refl t.taken.consumed (t.taken.end refl) t.taken.within refl) t.comes) refl
            (puts_behind held mid held' (out from r.statements) [] r.put p),
      )
  cut_line (Some told) left' read read' held mid held' (last.Fault a b) r p =
      let t = r.reached in
      let cut = taken_cut told left' read read' t.bytes t.ended (taken_of (Some told) left' read read' t.bytes t.ended t.taken) in inl (
        t.taken.same,
        begun_by told held held' r.statements (Fault t.at) (last_text (last.Fault a b)) (fault_comes told t.bytes t.ended r.statements t.at cut t.comes)
            (ap fault_line (place_stays told t.bytes t.ended r.statements t.at cut t.comes ∙ t.place))
            (puts_behind held mid held' (out from r.statements) (last_text (last.Fault a b)) r.put p),
      )
  cut_line (Some told) left' read read' held mid held' last.Long r p =
      let t = r.reached in
      let cut = taken_cut told left' read read' t.bytes t.ended (taken_of (Some told) left' read read' t.bytes t.ended t.taken) in inl (
        t.taken.same,
        begun_by told held held' r.statements Long (line (codes "too long")) (long_comes told t.bytes t.ended r.statements cut t.comes) refl
            (puts_behind held mid held' (out from r.statements) (line (codes "too long")) r.put p),
      )
  cut_line (Some told) left' read read' held mid held' last.TooMany r p =
      let t = r.reached in inl (
        t.same,
        begun_by told held held' r.statements Open (line (codes "too long"))
            (counted told (take limit t.more) false r.statements Open (above_counts (Some told) left' told t.more (take limit t.more) false refl t.consumed (omega (arith, t.above)) refl refl) t.comes) refl
            (puts_behind held mid held' (out from r.statements) (line (codes "too long")) r.put p),
      )
  cut_line (Some told) None read read' held mid held' last.Unread r p = absurd r.reached.consumed
  cut_line (Some told) (Some rest) read read' held mid held' last.Unread r p =
      let t = r.reached in inr (
        t.cause,
        λ bytes text c w.
            let same : t.bytes ≡ bytes = append_cancel_right t.bytes bytes rest (sym t.consumed ∙ c) in
            subst (PutsFront held held')
            (text_is bytes false (line (codes "read fault")) r.statements Open (line (codes "read fault")) text (subst (λ (l : List ℕ). Comes l false r.statements Open) same t.comes) refl w)
            (puts_behind held mid held' (out from r.statements) (line (codes "read fault")) r.put p),
      )

  -- ---- the ends

  ends_as : (left left' : Option (List ℕ)) (read read' : ℕ) (held mid held' : Option (List ℕ)) (was is : ℕ) (l : Last) → RunsTo from to left left' read read' held mid l
      → Appends mid held' (last_text l) → Ends from to left left' read read' held held' was is (end_of (ran.Stops l))
  ends_as left left' read read' held mid held' was is last.Over r p =
      let t = r.reached in (
        record {
          bytes = t.bytes;
          statements = r.statements;
          taken = t.taken.consumed;
          whole = t.taken.end refl;
          within = t.taken.within;
          script = over_is_script t.bytes r.statements t.comes;
          comes = t.comes;
          put = subst (Appends held held') (append-nil (out from r.statements)) (Appends-trans held mid held' (out from r.statements) [] r.put p);
          next = r.next;
        },
        t.taken.same,
      )
  ends_as left left' read read' held mid held' was is (last.Fault a b) r p =
      let t = r.reached in
      record {
        bytes = t.bytes;
        ended = t.ended;
        before = r.statements;
        at = t.at;
        taken = taken_of left left' read read' t.bytes t.ended t.taken;
        soon = t.soon;
        fault = t.comes;
        put = subst (λ (q : Place). Appends held held' (out from r.statements ++ fault_line q)) (sym t.place) (Appends-trans held mid held' (out from r.statements) (last_text (last.Fault a b)) r.put p);
      }
  ends_as left left' read read' held mid held' was is last.Long r p =
      let t = r.reached in
      record {
        bytes = t.bytes;
        ended = t.ended;
        before = r.statements;
        taken = taken_of left left' read read' t.bytes t.ended t.taken;
        long = inl (t.comes, t.soon);
        put = Appends-trans held mid held' (out from r.statements) (line (codes "too long")) r.put p;
      }
  ends_as left left' read read' held mid held' was is last.Unread r p =
      let t = r.reached in
      record {
        bytes = t.bytes;
        before = r.statements;
        taken = t.consumed;
        within = t.within;
        cause = t.cause;
        rest = t.comes;
        put = Appends-trans held mid held' (out from r.statements) (line (codes "read fault")) r.put p;
      }
  ends_as left left' read read' held mid held' was is last.TooMany r p =
      let t = r.reached in
      record {
        bytes = take limit t.more;
        ended = false;
        before = r.statements;
        taken = statuses.above t.more t.consumed (omega (arith, t.above)) refl t.same refl;
        long = inr (t.comes, t.more, t.consumed, t.above, refl, t.same);
        put = Appends-trans held mid held' (out from r.statements) (line (codes "too long")) r.put p;
      }

  -- the last line was put, or a front of it
  pub ends_line : (left left' : Option (List ℕ)) (read read' : ℕ) (held mid held' : Option (List ℕ)) (was between is : ℕ) (l : Last) (r : Ran) → RunsTo from to left left' read read' held mid l → between ≡ was
      → PutsLine l (last_text l) mid held' between is r → Ends from to left left' read read' held held' was is (end_of r)
  ends_line left left' read read' held mid held' was between is l (ran.Stops same) h stays p =
      subst (λ (x : Last). Ends from to left left' read read' held held' was is (end_of (ran.Stops x))) (sym p.0) (ends_as left left' read read' held mid held' was is l h p.1)
  ends_line left left' read read' held mid held' was between is l ran.Memory h stays p = cut_line left left' read read' held mid held' l h (puts_none mid held' (last_text l) p)
  ends_line left left' read read' held mid held' was between is l ran.Unwritten h stays p =
      (subst (λ (n : ℕ). Rose n is) stays p.0, cut_line left left' read read' held mid held' l h p.1)

  -- ---- what the source told decides the status

  -- what comes of the bytes that count comes of those that the source told
  had_comes : (left : Option (List ℕ)) (o p : Outcome) (bytes : List ℕ) (ended : Bool) (sts : List StatementView) → (had : Had left o) → CountsAll had.bytes bytes ended → Comes bytes ended sts p → o ≡ p
  had_comes left o p bytes ended sts had told c =
      (one_comes bytes ended had.statements sts o p
      (subst (λ (b : Bool). Comes bytes b had.statements o) told.1 (subst (λ (l : List ℕ). Comes l (nat_le (length had.bytes) limit) had.statements o) told.0 had.comes)) c).1

  pub had_done : (left left' held held' : Option (List ℕ)) (o : Outcome) → Had left o → statuses.Done from to left left' held held' → o ≡ Over
  had_done left left' held held' o had d =
      had_comes left o Over d.bytes true d.statements had (whole_counts left left' had.bytes d.bytes true had.told d.taken d.whole d.within refl) d.comes

  had_same : (left : Option (List ℕ)) (o p : Outcome) (sts : List StatementView) → (had : Had left o) → Comes (take limit had.bytes) (nat_le (length had.bytes) limit) sts p → o ≡ p
  had_same left o p sts had c = (one_comes (take limit had.bytes) (nat_le (length had.bytes) limit) had.statements sts o p had.comes c).1

  pub had_stopped : (left left' held held' : Option (List ℕ)) (was is : ℕ) (o : Outcome) → Had left o → ¬ Rose was is → statuses.Stopped from left left' was is held held' → (at : ℕ) × (o ≡ Fault at)
  had_stopped left left' held held' was is o had safe s =
      let cut = taken_cut had.bytes left' was is s.bytes s.ended (subst (λ (l : Option (List ℕ)). Taken l left' was is s.bytes s.ended) had.told s.taken) in
      (s.at, had_same left o (Fault s.at) s.before had (fault_comes had.bytes s.bytes s.ended s.before s.at cut s.fault))

  pub had_passed : (left left' held held' : Option (List ℕ)) (was is : ℕ) (o : Outcome) → Had left o → ¬ Rose was is → statuses.Passed from left left' was is held held' → (o ≡ Long) ⊎ (o ≡ Open)
  had_passed left left' held held' was is o had safe p = elim p.long [
    | inl long ↦ (let cut = taken_cut had.bytes left' was is p.bytes p.ended (subst (λ (l : Option (List ℕ)). Taken l left' was is p.bytes p.ended) had.told p.taken) in
        inl (had_same left o Long p.before had (long_comes had.bytes p.bytes p.ended p.before cut long.0)))
    | inr open' ↦ inr (had_comes left o Open p.bytes false p.before had (above_counts left left' had.bytes open'.1 p.bytes false had.told open'.2 (omega (arith, open'.3)) open'.4 refl) open'.0)
  ]

  -- ---- a run that is done

  -- where the source told its bytes, they are the statements that were carried out
  pub done_told : (left left' held held' : Option (List ℕ)) (bytes : List ℕ) → left ≡ Some bytes → (d : statuses.Done from to left left' held held')
      → Comes (take limit bytes) (nat_le (length bytes) limit) d.statements Over
  done_told left left' held held' bytes told d =
      let same : bytes ≡ d.bytes = whole_told left left' bytes d.bytes told d.taken d.whole in
      let within = d.within in
      let all : d.bytes ≡ take limit bytes = sym (ap (take limit) same ∙ take_all limit d.bytes within) in
      let ended : true ≡ nat_le (length bytes) limit = sym (le-leb (length bytes) limit (omega (arith, ap length same, within))) in
      subst (λ (b : Bool). Comes (take limit bytes) b d.statements Over) ended (subst (λ (l : List ℕ). Comes l true d.statements Over) all d.comes)

  pub done_answers : (left left' held held' : Option (List ℕ)) → statuses.Done from to left left' held held' → AnswersScript from left held held'
  done_answers None left' held held' d = tt
  done_answers (Some bytes) left' held held' d =
      (d.statements, subst (λ (l : List ℕ). IsScript l d.statements) (sym (whole_told (Some bytes) left' bytes d.bytes refl d.taken d.whole)) d.script, d.put)
