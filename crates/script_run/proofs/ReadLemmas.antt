-- The statements of a source.
use Rattle.std.proofs.Common.{◌≡◌, ◌+◌, ◌-◌, ◌*◌, ◌≤◌, ◌<◌, ◌++◌, ◌∷◌, ℕ, List, [], Option, None, Some, Bool, true, false, inl, inr, refl, sym, ap, cond, subst, ◌∙◌, take, length, arith, append_assoc, append-nil, length-append}
use Rattle.std.specs.Prelude.{nat_le}
use Rattle.std.proofs.lemmas.Bool.{le-leb}
use Rattle.std.proofs.lemmas.List.{take_all, take_at}
use Rattle.std.proofs.Math.Seq.{take-append-add}
use Rattle.std.specs.Io.KnownBytes.{Consumes, IsAtEnd, Keeps}
use Rattle.std.proofs.KnownBytes.{Consumes-kept, Consumes-nil, Consumes-trans}
use Rattle.outside.specs.Causes.{Rose}
use Rattle.statements.specs.Views.{StatementView}
use Rattle.bidel_script.specs.Script.{Comes, Open}
use Rattle.script_stream.specs.Holding.{Holds, limit, place_in}
use Rattle.script_stream.proofs.HoldLaws.{fed_size, first_ended, first_going, place_inside}
use Rattle.engine_feeds.specs.Standing.{Standing}
use Rattle.script_run.specs.declared.stream.Stream.{Stream}
use Rattle.script_run.specs.declared.stream.Next.TheVariants as next
use Rattle.script_run.specs.declared.stream.Stop.{Stop}
use Rattle.script_run.specs.declared.stream.Stop.TheVariants as stop
use Rattle.script_run.specs.Streams.{Gives, IsStream, Replies, Stands}
use Rattle.script_run.specs.Reading.{First, Reads, ReachesEnd, ReachesFault, ReachesLong, ReachesTooMany, ReachesUnread, SeenSoon, Taken, Waits, at_first, behind, piece_limit}
use Rattle.script_run.specs.Calls.{Reached, last_of, room_in}

-- what was given stays given
soon_more : (bytes : List ℕ) (sts : List StatementView) (st : StatementView) → SeenSoon bytes sts → SeenSoon bytes (sts ++ st ∷ [])
soon_more bytes sts st (at_first short) = at_first short
soon_more bytes sts st (behind front piece before rest split short open' same) =
    behind front piece before (rest ++ st ∷ []) split short open' (ap (λ (l : List StatementView). l ++ st ∷ []) same ∙ append_assoc before rest (st ∷ []))

module _ {W : Type 0} (from : Standing) (left : Option (List ℕ)) (was : ℕ) where
  -- nothing was taken
  pub reads_none : (s : Stream W) → Stands from [] [] s → s.ended ≡ false → Reads from left left was was [] s
  reads_none s stands going = record {
    bytes = [];
    taken = record { consumed = Consumes-nil left; within = omega arith; same = refl; end = λ e. let clash : true ≡ false = sym e ∙ going in cc };
    stands = stands;
    soon = at_first (omega arith);
  }

  module _ (left' : Option (List ℕ)) (is : ℕ) (sts : List StatementView) (s : Stream W) (r : Reads from left left' was is sts s) where
    abbrev whole : take limit r.bytes ≡ r.bytes
    whole = take_all limit r.bytes r.taken.within

    pub holds_all : Holds r.bytes sts s.input
    holds_all = subst (λ (l : List ℕ). Holds l sts s.input) whole r.stands.holds

    pub reads_stream : IsStream s
    reads_stream = (from, r.bytes, sts, r.stands)

    size : length r.bytes ≡ s.input.before + length s.input.bytes.items
    size = fed_size r.bytes sts s.input holds_all

  -- the statements that were answered are the first ones of the source
  pub reads_first : (left' : Option (List ℕ)) (is : ℕ) (sts : List StatementView) (s : Stream W) → Reads from left left' was is sts s → First left sts
  reads_first left' is sts s r = by left left' refl refl
    where
      by : (l l' : Option (List ℕ)) → left ≡ l → left' ≡ l' → First l sts
      by None l' e e' = tt
      by (Some told) None e e' = absurd (subst (λ (x : Option (List ℕ)). Consumes x None r.bytes) e (subst (λ (x : Option (List ℕ)). Consumes left x r.bytes) e' r.taken.consumed))
      by (Some told) (Some rest) e e' = over s.input.ended refl
        where
          consumed : told ≡ r.bytes ++ rest
          consumed = subst (λ (x : Option (List ℕ)). Consumes x (Some rest) r.bytes) e (subst (λ (x : Option (List ℕ)). Consumes left x r.bytes) e' r.taken.consumed)

          holds : Holds r.bytes sts s.input
          holds = holds_all left' is sts s r

          over : (b : Bool) → s.input.ended ≡ b → First (Some told) sts
          over true f = λ all o c.
              let none : rest ≡ [] = subst IsAtEnd e' (r.taken.end (r.stands.ends f).0) in
              let same : told ≡ r.bytes = consumed ∙ ap (λ (l : List ℕ). r.bytes ++ l) none ∙ append-nil r.bytes in
              let within = r.taken.within in
              let whole' : take limit told ≡ r.bytes = ap (take limit) same ∙ take_all limit r.bytes within in
              let ends : nat_le (length told) limit ≡ s.input.ended = le-leb (length told) limit (omega (arith, ap length same, within)) ∙ sym f in
              first_ended r.bytes sts s.input holds all o (subst (λ (b : Bool). Comes r.bytes b all o) ends (subst (λ (l : List ℕ). Comes l (nat_le (length told) limit) all o) whole' c))
          over false f = λ all o c.
              let n = limit - length r.bytes in
              let within = r.taken.within in
              let sum : limit ≡ length r.bytes + n = omega (arith, within) in
              let front : take limit told ≡ r.bytes ++ take n rest = ap (take limit) consumed ∙ ap (λ (i : ℕ). take i (r.bytes ++ rest)) sum ∙ take-append-add r.bytes rest n in
              first_going r.bytes sts s.input holds f (take n rest) (nat_le (length told) limit) all o (subst (λ (l : List ℕ). Comes l (nat_le (length told) limit) all o) front c)

  -- ---- what comes of the stream

  module _ (left' : Option (List ℕ)) (is : ℕ) (sts : List StatementView) (old new : Stream W) (r : Reads from left left' was is sts old) (same : new.ended ≡ old.ended) where
    taken_by : Taken left left' was is r.bytes new.ended
    taken_by = subst (λ (b : Bool). Taken left left' was is r.bytes b) (sym same) r.taken

    -- by what the input was told
    taken_in : Stands from r.bytes sts new → Taken left left' was is r.bytes new.input.ended
    taken_in stands = record {
      consumed = r.taken.consumed;
      within = r.taken.within;
      same = r.taken.same;
      end = λ e. r.taken.end (sym same ∙ (stands.ends e).0);
    }

    -- a statement was answered
    pub reads_next : (text : List ℕ) (refused : Bool) (g : Replies from r.bytes sts old new text refused) → Reads from left left' was is (sts ++ g.statement ∷ []) new
    reads_next text refused g = record { bytes = r.bytes; taken = taken_by; stands = g.stands; soon = soon_more r.bytes sts g.statement r.soon }

    pub less_next : (text : List ℕ) (refused : Bool) → Replies from r.bytes sts old new text refused → room_in new < room_in old
    less_next text refused g = less new.ended old.ended same
      where
        less : (a b : Bool) → a ≡ b
            → 2 * (limit - (new.input.before + length new.input.bytes.items)) + cond a 0 1 + (limit - place_in new.input) < 2 * (limit - (old.input.before + length old.input.bytes.items)) + cond b 0 1 + (limit - place_in old.input)
        less a b e =
            let on = g.on in
            let within = r.taken.within in
            let whole = take_all limit r.bytes r.taken.within in
            let holds : Holds r.bytes (sts ++ g.statement ∷ []) new.input = subst (λ (l : List ℕ). Holds l (sts ++ g.statement ∷ []) new.input) whole g.stands.holds in
            let inside = place_inside r.bytes (sts ++ g.statement ∷ []) new.input holds in
            let here = fed_size r.bytes (sts ++ g.statement ∷ []) new.input holds in
            let there = size left' is sts old r in
            rw e (omega (arith, on, within, inside, here, there))

    pub reaches_end : Gives from r.bytes sts old new next.End → ReachesEnd left left' was is sts
    reaches_end g = record { bytes = r.bytes; taken = subst (λ (b : Bool). Taken left left' was is r.bytes b) g.1.1 r.taken; comes = g.1.0 }

    reaches_fault : (line column : ℕ) → Gives from r.bytes sts old new (next.Stop (stop.Syntax line column)) → ReachesFault left left' was is sts line column
    reaches_fault line column g =
        let whole = take_all limit r.bytes r.taken.within in
        record {
          bytes = r.bytes;
          ended = new.input.ended;
          at = g.1.0;
          taken = taken_in g.0;
          comes = rw whole at g.1.1;
          place = rw whole at g.1.2;
          soon = r.soon;
        }

    reaches_long : Gives from r.bytes sts old new (next.Stop stop.TooLong) → ReachesLong left left' was is sts
    reaches_long g =
        let whole = take_all limit r.bytes r.taken.within in
        let within = r.taken.within in
        elim g.1 [
          | inl long ↦ record { bytes = r.bytes; ended = new.input.ended; taken = taken_in g.0; comes = rw whole at long; soon = r.soon }
          | inr above ↦ (let over = above.0 in absurd (omega (arith, over, within)))
        ]

    pub reaches_stop : (reason : Stop) → Gives from r.bytes sts old new (next.Stop reason) → Reached left left' was is sts (last_of reason)
    reaches_stop (stop.Syntax line column) g = reaches_fault line column g
    reaches_stop stop.TooLong g = reaches_long g

    -- a stream that stops differs in nothing that it stands for
    pub stop_stands : (reason : Stop) → Gives from r.bytes sts old new (next.Stop reason) → Stands from r.bytes sts new
    stop_stands (stop.Syntax line column) g = g.0
    stop_stands stop.TooLong g = g.0

    -- more is wanted
    pub waits_more : Gives from r.bytes sts old new next.More → Waits from left left' was is sts new
    waits_more g = record { reads = record { bytes = r.bytes; taken = taken_by; stands = g.0; soon = r.soon }; open' = g.1.1 }

  -- ---- a piece

  module _ (mid left' : Option (List ℕ)) (between is : ℕ) (sts : List StatementView) where
    -- the source failed
    pub reaches_unread : (s : Stream W) → Waits from left mid was between sts s → Keeps mid left' → Rose between is → ReachesUnread left left' was is sts
    reaches_unread s w keeps rose =
        let r = w.reads in
        record {
          bytes = r.bytes;
          consumed = Consumes-kept left mid left' r.bytes r.taken.consumed keeps;
          within = r.taken.within;
          cause = subst (λ (n : ℕ). Rose n is) r.taken.same rose;
          comes = w.open';
        }

    -- one byte behind the limit was taken
    pub reaches_too_many : (s : Stream W) (piece : List ℕ) → Waits from left mid was between sts s → Consumes mid left' piece → is ≡ between → length piece ≡ 1
        → limit ≤ s.input.before + length s.input.bytes.items → ReachesTooMany left left' was is sts
    reaches_too_many s piece w taken same one above =
        let r = w.reads in
        let within = r.taken.within in
        let all : length r.bytes ≡ limit = omega (arith, within, above, size mid between sts s r) in
        record {
          more = r.bytes ++ piece;
          consumed = Consumes-trans left mid left' r.bytes piece r.taken.consumed taken;
          above = omega (arith, all, one, length-append r.bytes piece);
          same = same ∙ r.taken.same;
          comes = subst (λ (l : List ℕ). Comes l false sts Open) (sym (take_at r.bytes piece limit all)) w.open';
        }

    module _ (old new : Stream W) (w : Waits from left mid was between sts old) (going : old.ended ≡ false) (same : is ≡ between) where
      -- a piece was taken and fed
      pub reads_fed : (piece : List ℕ) → Consumes mid left' piece → length piece ≤ piece_limit → old.input.before + length old.input.bytes.items + length piece ≤ limit → new.ended ≡ old.ended
          → Stands from (w.reads.bytes ++ piece) sts new → Reads from left left' was is sts new
      reads_fed piece taken short room ended stands =
          let r = w.reads in
          record {
            bytes = r.bytes ++ piece;
            taken = record {
              consumed = Consumes-trans left mid left' r.bytes piece r.taken.consumed taken;
              within = omega (arith, room, length-append r.bytes piece, size mid between sts old r);
              same = same ∙ r.taken.same;
              end = λ e. let clash : true ≡ false = sym e ∙ ended ∙ going in cc;
            };
            stands = stands;
            soon = behind r.bytes piece sts [] refl short w.open' (sym (append-nil sts));
          }

      -- and less may come
      pub less_fed : (piece : List ℕ) → 0 < length piece → old.input.before + length old.input.bytes.items + length piece ≤ limit → Stands from (w.reads.bytes ++ piece) sts new → place_in old.input ≤ place_in new.input
          → new.ended ≡ old.ended → room_in new < room_in old
      less_fed piece some room stands on ended = less new.ended old.ended ended
        where
          less : (a b : Bool) → a ≡ b
              → 2 * (limit - (new.input.before + length new.input.bytes.items)) + cond a 0 1 + (limit - place_in new.input) < 2 * (limit - (old.input.before + length old.input.bytes.items)) + cond b 0 1 + (limit - place_in old.input)
          less a b e =
              let bytes = w.reads.bytes ++ piece in
              let before = size mid between sts old w.reads in
              let sum = length-append w.reads.bytes piece in
              let all : take limit bytes ≡ bytes = take_all limit bytes (omega (arith, room, before, sum)) in
              let after = fed_size (take limit bytes) sts new.input stands.holds in
              rw e (omega (arith, on, some, room, before, after, sum, ap length all))

      -- the end was told
      pub reads_ended : Consumes mid left' [] → IsAtEnd left' → new ≡ record old { ended = true } → Reads from left left' was is sts new
      reads_ended taken end told =
          let r = w.reads in
          record {
            bytes = r.bytes;
            taken = record {
              consumed = subst (Consumes left left') (append-nil r.bytes) (Consumes-trans left mid left' r.bytes [] r.taken.consumed taken);
              within = r.taken.within;
              same = same ∙ r.taken.same;
              end = λ e. end;
            };
            stands = subst (λ (x : Stream W). Stands from r.bytes sts x) (sym told)
                (record { holds = r.stands.holds; passed = r.stands.passed; ends = λ e. (refl, (r.stands.ends e).1); standing = r.stands.standing });
            soon = r.soon;
          }

      pub less_ended : new ≡ record old { ended = true } → room_in new < room_in old
      less_ended told = subst (λ (x : Stream W). room_in x < room_in old) (sym told) (less old.ended going)
        where
          less : (b : Bool) → b ≡ false
              → 2 * (limit - (old.input.before + length old.input.bytes.items)) + 0 + (limit - place_in old.input) < 2 * (limit - (old.input.before + length old.input.bytes.items)) + cond b 0 1 + (limit - place_in old.input)
          less b e = rw e (omega arith)
