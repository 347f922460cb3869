-- What a stream holds as pieces come and statements are answered.
use Rattle.std.proofs.Common.{◌≡◌, ◌+◌, ◌-◌, ◌≤◌, ◌<◌, ◌++◌, ◌∷◌, ℕ, List, [], Bool, true, false, Ok, Err, IfOk, OnOk, inl, inr, refl, sym, ap, subst, ◌∙◌, take, length, arith, append-nil, length-append}
use Rattle.std.specs.Prelude.{nat_lt, not, ◌&&◌, min, Result}
use Rattle.std.proofs.lemmas.Bool.{lt-ltb, ltb-false, ltb-true, ltb_from_iff}
use Rattle.std.proofs.lemmas.List.{length-take, take_all, take_min}
use Rattle.std.proofs.Math.Seq.{take-append-add}
use Rattle.statements.specs.Views.{StatementView}
use Rattle.bidel_lex.specs.declared.tokens.Lexed.TheVariants as lexed
use Rattle.bidel_script.specs.Script.{Comes, Open, Outcome, Over}
use Rattle.script_stream.specs.declared.input.Input.{Input}
use Rattle.script_stream.specs.declared.input.Next.{Next as Found}
use Rattle.script_stream.specs.declared.input.Next.TheVariants as found
use Rattle.script_stream.specs.Calls.{Refilled}
use Rattle.script_stream.specs.Giving as input
use Rattle.script_stream.specs.Holding.{Holds, IsInput, limit}
use Rattle.script_stream.proofs.HoldLaws.{fed_size}
use Rattle.par_base.specs.declared.fault.Memory.{Memory}
use Rattle.engine_feeds.specs.Kept.{WatchedView as Watched}
use Rattle.engine_feeds.specs.Standing.{Standing}
use Rattle.engine_feeds.specs.Kept.{kept_in}
use Rattle.engine_feeds.specs.Calls.{standing_of}
use Rattle.engine_feeds.specs.Act.{act}
use Rattle.script_run.specs.declared.stream.Stream.{Stream}
use Rattle.script_run.specs.declared.stream.Next.{Next}
use Rattle.script_run.specs.declared.stream.Next.TheVariants as next
use Rattle.script_run.specs.declared.stream.Stop.TheVariants as stop
use Rattle.engine_feeds.specs.Replies.{next_state, state_after, text_of}
use Rattle.script_run.specs.Kept.{Keeps}
use Rattle.script_run.specs.Streams.{Gives, IsStream, Stands, is_open_behind, is_refused}
use Rattle.script_run.specs.Calls.{FindsNext, FindsNone, FindsStatement, IsReplyTo}
use Rattle.script_run.proofs.OutputLaws.{state_after-more}

-- ---- nothing was fed

pub stands_new : {W : Type 0} → (s : Stream W) → Holds [] [] s.input → s.input.ended ≡ false → s.passed ≡ false → Stands (standing_of s.watched) [] [] s
unfolding state_after
stands_new s holds going within = record {
  holds = holds;
  passed = within;
  ends = λ e. let clash : true ≡ false = sym e ∙ going in cc;
  standing = refl;
}

module _ {W : Type 0} (from : Standing) (fed : List ℕ) (answered : List StatementView) (s : Stream W) (h : Stands from fed answered s) where
  -- the input holds bytes within the limit
  pub its_input : IsInput s.input
  its_input = (take limit fed, answered, h.holds, omega (arith, length-take limit fed))

  -- where the limit wasn't passed all bytes count
  pub all_within : s.passed ≡ false → length fed ≤ limit
  all_within e = ltb-false limit (length fed) (sym h.passed ∙ e)

  pub all_count : s.passed ≡ false → take limit fed ≡ fed
  all_count e = take_all limit fed (all_within e)

  -- ---- a piece was fed

  module _ (within : s.passed ≡ false) (piece : List ℕ) (count : ℕ) (counts : count ≡ min (limit - (s.input.before + length s.input.bytes.items)) (length piece)) where
    abbrev room : ℕ
    room = limit - length fed

    size : length fed ≡ s.input.before + length s.input.bytes.items
    size = sym (ap length (all_count within)) ∙ fed_size (take limit fed) answered s.input h.holds

    is_count : count ≡ min room (length piece)
    is_count = counts ∙ ap (λ (n : ℕ). min (limit - n) (length piece)) (sym size)

    -- those of its bytes that count
    counted : take limit (fed ++ piece) ≡ fed ++ take count piece
    counted =
        let fits = all_within within in
        let sum : limit ≡ length fed + room = omega (arith, fits) in
        ap (λ (n : ℕ). take n (fed ++ piece)) sum ∙ take-append-add fed piece room ∙ ap (λ (l : List ℕ). fed ++ l) (sym (take_min room piece) ∙ ap (λ (n : ℕ). take n piece) (sym is_count))

    -- whether some don't
    passes : nat_lt count (length piece) ≡ nat_lt limit (length (fed ++ piece))
    passes =
        let fits = all_within within in
        let sum = length-append fed piece in
        let least : count ≡ min (limit - length fed) (length piece) = is_count in
        ltb_from_iff (
          λ e. (let lt = ltb-true count (length piece) e in omega (arith, fits, sum, lt, least)),
          λ lt. lt-ltb count (length piece) (omega (arith, fits, sum, lt, least)),
        )

    pub stands_fed : (new : Input) → s.input.tail.last ≡ lexed.More → Refilled s.input (take count piece) false new → Stands from (fed ++ piece) answered (record s { input = new; passed = nat_lt count (length piece) })
    stands_fed new wants fed' = record {
      holds = subst (λ (l : List ℕ). Holds l answered new) (ap (λ (l : List ℕ). l ++ take count piece) (all_count within) ∙ sym counted) (fed'.holds wants (take limit fed) answered h.holds);
      passed = passes;
      ends = λ e. let clash : true ≡ false = sym e ∙ fed'.ends in cc;
      standing = h.standing;
    }

-- ---- what the input gives

module _ (fed : List ℕ) (answered : List StatementView) where
  none_found : {W : Type 0} → (from : Standing) (old : Stream W) (new : Input) (f : Found) → Stands from fed answered old → (new ≡ old.input) × input.Stands (take limit fed) answered old.input f
      → FindsNone fed answered old (record old { input = new }) f
  none_found from old new f h g = record {
    holds = subst (λ (x : Input). Holds (take limit fed) answered x) (sym g.0) h.holds;
    ends = λ e. h.ends (sym (ap (λ (x : Input). x.ended) g.0) ∙ e);
    there = subst (λ (x : Input). input.Stands (take limit fed) answered x f) (sym g.0) g.1;
  }

  -- where it wasn't told its end, or the end doesn't count
  pub finds_next : {W : Type 0} → (from : Standing) (old : Stream W) (new : Input) (f : Found) → Stands from fed answered old → old.ended && not old.passed ≡ false → new ≡ record old.input { used = new.used }
      → input.Gives (take limit fed) answered old.input new f → FindsNext fed answered old (record old { input = new }) f
  finds_next from old new (found.Statement statement) h open' same g = record { given = g; ends = λ e. h.ends (sym (ap (λ (x : Input). x.ended) same) ∙ e) }
  finds_next from old new found.More h open' same g = (none_found from old new found.More h g, ap (λ (x : Input). record old { input = x }) g.0, open')
  finds_next from old new found.End h open' same g = none_found from old new found.End h g
  finds_next from old new (found.Fault line column) h open' same g = none_found from old new (found.Fault line column) h g
  finds_next from old new found.Long h open' same g = none_found from old new found.Long h g

  -- where it was told its end before
  pub finds_told : {W : Type 0} → (from : Standing) (old : Stream W) (new : Input) (f : Found) → Stands from fed answered old → (f ≡ found.More → ⊥) → new ≡ record old.input { used = new.used }
      → input.Gives (take limit fed) answered old.input new f → FindsNext fed answered old (record old { input = new }) f
  finds_told from old new (found.Statement statement) h some same g = record { given = g; ends = λ e. h.ends (sym (ap (λ (x : Input). x.ended) same) ∙ e) }
  finds_told from old new found.More h some same g = absurd (some refl)
  finds_told from old new found.End h some same g = none_found from old new found.End h g
  finds_told from old new (found.Fault line column) h some same g = none_found from old new (found.Fault line column) h g
  finds_told from old new found.Long h some same g = none_found from old new found.Long h g

  -- where it is told its end
  module _ {W : Type 0} (from : Standing) (old : Stream W) (mid new : Input) (h : Stands from fed answered old) (ended : old.ended ≡ true) (within : old.passed ≡ false) (wants : old.input.tail.last ≡ lexed.More)
      (told : Refilled old.input [] true mid) where
    holds_told : Holds (take limit fed) answered mid
    holds_told = subst (λ (l : List ℕ). Holds l answered mid) (append-nil (take limit fed)) (told.holds wants (take limit fed) answered h.holds)

    none_last : (f : Found) → (new ≡ mid) × input.Stands (take limit fed) answered mid f → FindsNone fed answered old (record old { input = new }) f
    none_last f g = record {
      holds = subst (λ (x : Input). Holds (take limit fed) answered x) (sym g.0) holds_told;
      ends = λ e. (ended, within);
      there = subst (λ (x : Input). input.Stands (take limit fed) answered x f) (sym g.0) g.1;
    }

    pub finds_last : (f : Found) → ((all : List ℕ) (given : List StatementView) → Holds all given mid → input.Gives all given mid new f) → FindsNext fed answered old (record old { input = new }) f
    finds_last (found.Statement statement) gives =
        let g = gives (take limit fed) answered holds_told in
        record {
          given = record { holds = g.holds; written = g.written; texts = g.texts; on = (let on = g.on in let place = told.place in omega (arith, on, place)) };
          ends = λ e. (ended, within);
        }
    finds_last found.More gives = let clash : true ≡ false = sym told.ends ∙ (gives (take limit fed) answered holds_told).1.2 in cc
    finds_last found.End gives = none_last found.End (gives (take limit fed) answered holds_told)
    finds_last (found.Fault line column) gives = none_last (found.Fault line column) (gives (take limit fed) answered holds_told)
    finds_last found.Long gives = none_last found.Long (gives (take limit fed) answered holds_told)

-- ---- what the stream gives

module _ {W : Type 0} (from : Standing) (fed : List ℕ) (answered : List StatementView) (old new : Stream W) (h : Stands from fed answered old) where
  -- the next statement was carried out
  pub gives_reply : (statement : StatementView) (n : Next) → FindsStatement fed answered old new statement → new.passed ≡ old.passed → new.ended ≡ old.ended
      → standing_of new.watched ≡ next_state (standing_of old.watched) (act (standing_of old.watched) statement) → IsReplyTo (act (standing_of old.watched) statement) n
      → Gives from fed answered old new n
  gives_reply statement (next.Reply text refused) found passed ended stands reply =
      record {
        statement = statement;
        stands = record {
          holds = found.given.holds;
          passed = passed ∙ h.passed;
          ends = λ e. (let f = found.ends e in (ended ∙ f.0, passed ∙ f.1));
          standing = stands ∙ ap (λ (s : Standing). next_state s (act s statement)) h.standing ∙ sym (state_after-more from answered statement);
        };
        text_is = reply.0 ∙ ap (λ (s : Standing). text_of (act s statement)) h.standing;
        refused_is = reply.1 ∙ ap (λ (s : Standing). is_refused (act s statement)) h.standing;
        on = found.given.on;
      }
  gives_reply statement next.More found passed ended stands reply = absurd reply
  gives_reply statement next.End found passed ended stands reply = absurd reply
  gives_reply statement (next.Stop reason) found passed ended stands reply = absurd reply

  -- nothing more comes: the stream differs in its input alone
  module _ (f : Found) (none : FindsNone fed answered old new f) (passed : new.passed ≡ old.passed) (ended : new.ended ≡ old.ended) (same : new.watched ≡ old.watched) where
    pub stands_behind : Stands from fed answered new
    stands_behind = record {
      holds = none.holds;
      passed = passed ∙ h.passed;
      ends = λ e. (let x = none.ends e in (ended ∙ x.0, passed ∙ x.1));
      standing = ap standing_of same ∙ h.standing;
    }

  -- all bytes that were fed count
  pub comes_all : (was : Bool) (o : Outcome) → old.passed ≡ false → Comes (take limit fed) was answered o → Comes fed was answered o
  comes_all was o within c = subst (λ (l : List ℕ). Comes l was answered o) (all_count from fed answered old h within) c

  -- more bytes were fed than count
  pub passes_limit : old.passed ≡ true → limit < length fed
  passes_limit e = ltb-true limit (length fed) (sym h.passed ∙ e)

-- ---- what the calls give

if_open : (a b : Bool) → b ≡ false → a && not b ≡ false → a ≡ false
if_open false b e h = refl
if_open true b e h = let clash : true ≡ false = sym (ap not e) ∙ h in cc

pub over_within : (a b : Bool) → a && not b ≡ true → b ≡ false
over_within a false h = refl
over_within true true h = cc
over_within false true h = cc

-- the input of a stream, where it wasn't told its end before
pub found_by : {W : Type 0} → (old : Stream W) (new : Input) (r : Result Found Memory) → old.ended && not old.passed ≡ false → new ≡ record old.input { used = new.used }
    → IfOk r (λ f. (all : List ℕ) (given : List StatementView) → Holds all given old.input → input.Gives all given old.input new f)
    → IfOk r (λ f. (from : Standing) (fed : List ℕ) (answered : List StatementView) → Stands from fed answered old → FindsNext fed answered old (record old { input = new }) f)
found_by old new (Ok f) open' same gives = λ from fed answered h. finds_next fed answered from old new f h open' same (gives (take limit fed) answered h.holds)
found_by old new (Err e) open' same gives = tt

-- where it is told its end
module _ {W : Type 0} (old : Stream W) (mid new : Input) (ended : old.ended ≡ true) (within : old.passed ≡ false) (wants : old.input.tail.last ≡ lexed.More) (told : Refilled old.input [] true mid) where
  pub input_told : IsStream old → IsInput mid
  input_told s = (take limit s.1, s.2, holds_told s.1 s.2 s.0 old mid mid s.3 ended within wants told, omega (arith, length-take limit s.1))

  pub last_found : (r : Result Found Memory) → IfOk r (λ f. (all : List ℕ) (given : List StatementView) → Holds all given mid → input.Gives all given mid new f)
      → IfOk r (λ f. (from : Standing) (fed : List ℕ) (answered : List StatementView) → Stands from fed answered old → FindsNext fed answered old (record old { input = new }) f)
  last_found (Ok f) gives = λ from fed answered h. finds_last fed answered from old mid new h ended within wants told f gives
  last_found (Err e) gives = tt

module _ {W : Type 0} (old mid : Stream W) (same : mid ≡ record old { input = mid.input }) where
  abbrev pub watched_same : mid.watched ≡ old.watched
  watched_same = ap (λ (x : Stream W). x.watched) same

  abbrev passed_same : mid.passed ≡ old.passed
  passed_same = ap (λ (x : Stream W). x.passed) same

  abbrev ended_same : mid.ended ≡ old.ended
  ended_same = ap (λ (x : Stream W). x.ended) same

  pub keeps_still : Keeps (kept_in old.watched) (kept_in mid.watched)
  keeps_still = subst (λ (s : Watched). Keeps (kept_in old.watched) (kept_in s)) (sym watched_same) (record { limit = refl; spelled = λ is. is })

  -- a statement was carried out
  pub replies_given : (statement : StatementView) (watched : Watched) (r : Result Next Memory)
      → ((from : Standing) (fed : List ℕ) (answered : List StatementView) → Stands from fed answered old → FindsStatement fed answered old mid statement)
      → OnOk r (standing_of watched ≡ next_state (standing_of mid.watched) (act (standing_of mid.watched) statement)) → IfOk r (IsReplyTo (act (standing_of mid.watched) statement))
      → IfOk r (λ n. (from : Standing) (fed : List ℕ) (answered : List StatementView) → Stands from fed answered old → Gives from fed answered old (record mid { watched = watched }) n)
  replies_given statement watched (Ok n) found next reply = λ from fed answered h.
      let f = found from fed answered h in
      gives_reply from fed answered old (record mid { watched = watched }) h statement n (record { given = f.given; ends = f.ends }) passed_same ended_same
      (subst (λ (s : Watched). standing_of watched ≡ next_state (standing_of s) (act (standing_of s) statement)) watched_same next)
      (subst (λ (s : Watched). IsReplyTo (act (standing_of s) statement) n) watched_same reply)
  replies_given statement watched (Err e) found next reply = tt

  module _ (from : Standing) (fed : List ℕ) (answered : List StatementView) (h : Stands from fed answered old) where
    behind : (f : Found) → FindsNone fed answered old mid f → Stands from fed answered mid
    behind f none = stands_behind from fed answered old mid h f none passed_same ended_same watched_same

    pub gives_passed : FindsNone fed answered old mid found.More → old.passed ≡ true → Gives from fed answered old mid (next.Stop stop.TooLong)
    gives_passed none passed = (behind found.More none, inr (passes_limit from fed answered old mid h passed, none.there.0))

    pub gives_more : FindsNone fed answered old mid found.More × (mid ≡ old) × (old.ended && not old.passed ≡ false) → old.passed ≡ false → old.going ≡ true → Gives from fed answered old mid next.More
    gives_more more within going =
        let none = more.0 in
        let open' = if_open old.ended old.passed within more.2 in (
          behind found.More none,
          (
            more.1,
            comes_all from fed answered old mid h false Open within none.there.0,
            record { wants = none.there.1; within = passed_same ∙ within; unended = ended_same ∙ open'; going = ap (λ (x : Stream W). x.going) same ∙ going },
          ),
        )

    pub gives_end : FindsNone fed answered old mid found.End → Gives from fed answered old mid next.End
    gives_end none =
        let e = none.ends none.there.1 in
        (behind found.End none, (comes_all from fed answered old mid h true Over e.1 none.there.0, e.0))

    pub gives_fault : (line column : ℕ) → FindsNone fed answered old mid (found.Fault line column) → Gives from fed answered old mid (next.Stop (stop.Syntax line column))
    gives_fault line column none = (behind (found.Fault line column) none, none.there)

    pub gives_long : FindsNone fed answered old mid found.Long → Gives from fed answered old mid (next.Stop stop.TooLong)
    gives_long none = (behind found.Long none, inl none.there)

-- ---- whether it is still open

going_stands : {W : Type 0} → (from : Standing) (fed : List ℕ) (answered : List StatementView) (s : Stream W) (b : Bool) → Stands from fed answered s → Stands from fed answered (record s { going = b })
going_stands from fed answered s b h = record { holds = h.holds; passed = h.passed; ends = h.ends; standing = h.standing }

pub gives_going : {W : Type 0} → (old mid : Stream W) (r : Result Next Memory) → old.going ≡ true → IfOk r (λ n. (from : Standing) (fed : List ℕ) (answered : List StatementView) → Stands from fed answered old → Gives from fed answered old mid n)
    → IfOk r (λ n. (from : Standing) (fed : List ℕ) (answered : List StatementView) → Stands from fed answered old → Gives from fed answered old (record mid { going = is_open_behind r }) n)
gives_going old mid (Ok (next.Reply text refused)) going gives = λ from fed answered h.
    let g = gives from fed answered h in
    record { statement = g.statement; stands = going_stands from fed (answered ++ g.statement ∷ []) mid true g.stands; text_is = g.text_is; refused_is = g.refused_is; on = g.on }
gives_going old mid (Ok next.More) going gives = λ from fed answered h.
    let g = gives from fed answered h in
    let awaits = g.1.2 in (
      going_stands from fed answered mid true g.0,
      (
        ap (λ (x : Stream _). record x { going = true }) g.1.0 ∙ ap (λ (b : Bool). record old { going = b }) (sym going),
        g.1.1,
        record { wants = awaits.wants; within = awaits.within; unended = awaits.unended; going = refl },
      ),
    )
gives_going old mid (Ok next.End) going gives = λ from fed answered h. (let g = gives from fed answered h in (going_stands from fed answered mid false g.0, g.1))
gives_going old mid (Ok (next.Stop (stop.Syntax line column))) going gives = λ from fed answered h. (let g = gives from fed answered h in (going_stands from fed answered mid false g.0, g.1))
gives_going old mid (Ok (next.Stop stop.TooLong)) going gives = λ from fed answered h. (let g = gives from fed answered h in (going_stands from fed answered mid false g.0, g.1))
gives_going old mid (Err e) going gives = tt
