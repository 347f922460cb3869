-- The statements that were run so far.
use Rattle.std.proofs.Common.{◌≡◌, ℕ, List, [], ◌∷◌, ◌++◌, Option, Bool, true, sym, ap, subst, ◌∙◌}
use Rattle.std.specs.Io.KnownBytes.{Appends}
use Rattle.std.proofs.KnownBytes.{Appends-nil, Appends-trans}
use Rattle.engine_feeds.specs.Standing.{Standing}
use Rattle.engine_feeds.specs.Calls.{standing_of}
use Rattle.script_run.specs.declared.stream.Stream.{Stream}
use Rattle.engine_feeds.specs.Replies.{out, replies}
use Rattle.script_run.specs.Statuses.{PutsFront}
use Rattle.script_run.specs.Streams.{Replies}
use Rattle.script_run.specs.Reading.{First, Reads}
use Rattle.script_run.specs.Calls.{Feeds, PutsReply, RanSoFar, Reached, RunsFront, RunsTo, Turns}
use Rattle.script_run.specs.declared.turn.Last.{Last}
use Rattle.script_run.specs.declared.turn.Turn.{Turn}
use Rattle.script_run.specs.declared.turn.Turn.TheVariants as turn
use Rattle.script_run.proofs.FrontLaws.{puts_all, puts_behind}
use Rattle.script_run.proofs.OutputLaws.{out-more}
use Rattle.script_run.proofs.ReadLemmas.{less_next, reads_first, reads_next}

module _ {W : Type 0} (from : Standing) (left : Option (List ℕ)) (read : ℕ) where
  -- before the first statement
  pub ran_none : (stream : Stream W) (held : Option (List ℕ)) → Reads from left left read read [] stream → RanSoFar from left left read read held held stream
  unfolding replies
  ran_none stream held reads = record { statements = []; reads = reads; put = Appends-nil held }

  module _ (left' : Option (List ℕ)) (read' : ℕ) (old new : Stream W) (held mid : Option (List ℕ)) (r : RanSoFar from left left' read read' held mid old) where
    -- ---- a statement was answered

    module _ (same : new.ended ≡ old.ended) (text : List ℕ) (refused : Bool) (g : Replies from r.reads.bytes r.statements old new text refused) where
      abbrev more : out from r.statements ++ text ≡ out from (r.statements ++ g.statement ∷ [])
      more = ap (λ (l : List ℕ). out from r.statements ++ l) g.text_is ∙ sym (out-more from r.statements g.statement)

      -- and its lines were put
      pub ran_more : (held' : Option (List ℕ)) → Appends mid held' text → RanSoFar from left left' read read' held held' new
      ran_more held' put = record {
        statements = r.statements ++ g.statement ∷ [];
        reads = reads_next from left read left' read' r.statements old new r.reads same text refused g;
        put = subst (Appends held held') more (Appends-trans held mid held' (out from r.statements) text r.put put);
      }

      -- or a front of them
      pub ran_part : (held' : Option (List ℕ)) → PutsFront mid held' text → RunsFront from left held held'
      ran_part held' put = record {
        statements = r.statements ++ g.statement ∷ [];
        first = reads_first from left read left' read' (r.statements ++ g.statement ∷ []) new (reads_next from left read left' read' r.statements old new r.reads same text refused g);
        put = subst (PutsFront held held') more (puts_behind held mid held' (out from r.statements) text r.put put);
      }

    -- ---- nothing was put

    -- at what stands behind the statements
    pub ran_stops : (left2 : Option (List ℕ)) (read2 : ℕ) (l : Last) → Reached left left2 read read2 r.statements l → standing_of new.watched ≡ standing_of old.watched
        → RunsTo from (standing_of new.watched) left left2 read read2 held mid l
    ran_stops left2 read2 l reached same = record { statements = r.statements; reached = reached; put = r.put; next = same ∙ r.reads.stands.standing }

    -- where memory ran out
    pub ran_memory : First left r.statements → RunsFront from left held mid
    ran_memory first = record { statements = r.statements; first = first; put = puts_all held mid (out from r.statements) r.put }

    -- a piece was fed
    pub ran_fed : (left2 : Option (List ℕ)) (read2 : ℕ) → Reads from left left2 read read2 r.statements new → RanSoFar from left left2 read read2 held mid new
    ran_fed left2 read2 reads = record { statements = r.statements; reads = reads; put = r.put }

    -- ---- one turn

    -- the lines that answer a statement were put, or a front of them
    pub turn_reply : (same : new.ended ≡ old.ended) (text : List ℕ) (refused : Bool) → Replies from r.reads.bytes r.statements old new text refused → new.going ≡ true → (held' : Option (List ℕ)) (was is : ℕ) (t : Turn)
        → PutsReply text mid held' was is t → Turns from left left' read read' held held' was is old new t
    turn_reply same text refused g going held' was is turn.Goes p =
        (ran_more same text refused g held' p.0, less_next from left read left' read' r.statements old new r.reads same text refused g, going)
    turn_reply same text refused g going held' was is (turn.Stops l) p = absurd p
    turn_reply same text refused g going held' was is turn.Memory p = absurd p
    turn_reply same text refused g going held' was is turn.Unwritten p = (p.0, r.reads.taken.same, ran_part same text refused g held' p.1)

    -- a piece was taken
    pub turn_piece : (left2 : Option (List ℕ)) (read2 : ℕ) (was is : ℕ) (t : Turn) → standing_of new.watched ≡ standing_of old.watched → Feeds from left left2 read read2 r.statements old new t
        → Turns from left left2 read read2 held mid was is old new t
    turn_piece left2 read2 was is turn.Goes same f = (ran_fed left2 read2 f.0, f.1, f.2)
    turn_piece left2 read2 was is (turn.Stops l) same f = ran_stops left2 read2 l f same
    turn_piece left2 read2 was is turn.Memory same f = (f.0, ran_memory f.1)
    turn_piece left2 read2 was is turn.Unwritten same f = absurd f
