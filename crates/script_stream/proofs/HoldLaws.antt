-- What an input holds, as pieces come and statements go.
use Rattle.std.proofs.Common.{◌≡◌, ◌+◌, ◌-◌, ◌≤◌, ◌<◌, ◌≢◌, ◌++◌, ℕ, zero, suc, List, [], ◌∷◌, Bool, true, false, refl, sym, ap, subst, ◌∙◌, take, drop, length, arith, append_assoc, append-nil, length-append, length-drop}
use Rattle.std.specs.Prelude.{slice_index_or}
use Rattle.std.proofs.Math.Seq.{take-append-add}
use Rattle.bidel_lex.specs.declared.tokens.Token.{Token}
use Rattle.bidel_lex.specs.declared.tokens.Lexed.{Lexed}
use Rattle.bidel_lex.specs.declared.tokens.Lexed.TheVariants as lexed
use Rattle.bidel_lex.specs.Tokens.{AreTokens, HasTokens}
use Rattle.bidel_lex.proofs.WithinLaws.{within_along}
use Rattle.bidel_script.specs.declared.tokens.Tail.{Tail}
use Rattle.bidel_expr.specs.Lexemes.{lexemes}
use Rattle.statements.specs.Views.{StatementView}
use Rattle.bidel_script.specs.Places.{Place, behind_all, place_of, start}
use Rattle.bidel_script.specs.Tails.{AreAll, first_byte, is_over, last_end}
use Rattle.bidel_parser.specs.Parsing.{IsFront}
use Rattle.bidel_script.specs.Lengths.{IsLong}
use Rattle.bidel_script.specs.Script.{Leads, Comes, Outcome, Over, Fault, Long, Open, StandsBehind}
use Rattle.bidel_script.specs.Moved.{ComesBehind, end_behind, moved}
use Rattle.bidel_script.specs.Calls.{place_view}
use Rattle.bidel_script.specs.declared.place.Place as code
use Rattle.bidel_script.proofs.TokenLaws.{all_are_one, all_are_tokens, are_tokens_drop, ends_not, wants_none}
use Rattle.bidel_script.proofs.ScriptLaws.{at_within, front_some, front_within, leads_more, leads_within, stands_up}
use Rattle.bidel_script.proofs.TextLimitsLaws.{texts_within}
use Rattle.bidel_script.proofs.UniqueLaws.{blocked, leads_first, one_comes}
use Rattle.bidel_script.proofs.ComesLaws.{something_comes}
use Rattle.bidel_script.proofs.MovedLaws.{used_bytes_go}
use Rattle.bidel_script.proofs.BlanksLaws.{blanks_go, comes_behind_blanks}
use Rattle.bidel_script.proofs.PlaceLaws.{behind_all-append, behind_all-near}
use Rattle.script_stream.specs.declared.input.Input.{Input}
use Rattle.script_stream.specs.declared.input.Next.{Next}
use Rattle.script_stream.specs.declared.input.Next.TheVariants as next
use Rattle.script_stream.specs.Holding.{Holds, place_in}
use Rattle.script_stream.proofs.PassedLemmas.{comes_here, front_behind, moved_none}
use Rattle.script_stream.specs.Giving.{Gives, GivesStatement, Stands}

-- ---- tokens

-- no bytes have no tokens
no_tokens : (ended : Bool) (ts : List Token) (last : Lexed) → HasTokens ended [] 0 ts last → ts ≡ []
no_tokens ended [] last h = refl
no_tokens ended (t ∷ ts) last h = let w = within_along [] 0 ended (lexed.Token t) h.0 in absurd (omega (arith, w.0, w.1, w.2))

-- so many first tokens end within the bytes
ends_inside : (ended : Bool) (bytes : List ℕ) (from : ℕ) (ts : List Token) (last : Lexed) (n : ℕ) → from ≤ length bytes → HasTokens ended bytes from ts last → last_end from (take n ts) ≤ length bytes
ends_inside ended bytes from ts last zero le h = le
ends_inside ended bytes from [] last (suc n) le h = le
ends_inside ended bytes from (t ∷ ts) last (suc n) le h = ends_inside ended bytes t.end ts last n (within_along bytes from ended (lexed.Token t) h.0).2 h.1

-- more first tokens end later
ends_on : (ended : Bool) (bytes : List ℕ) (from : ℕ) (ts : List Token) (last : Lexed) (m n : ℕ) → HasTokens ended bytes from ts last → m < n → n ≤ length ts
    → last_end from (take m ts) < last_end from (take n ts)
ends_on ended bytes from ts last m zero h lt le = absurd (omega (arith, lt))
ends_on ended bytes from [] last m (suc n) h lt le = absurd (omega (arith, le))
ends_on ended bytes from (t ∷ ts) last zero (suc n) h lt le =
    let w = within_along bytes from ended (lexed.Token t) h.0 in omega (arith, w.0, w.1, ends_past ended bytes t.end ts last n h.1)
  where
    ends_past : (ended : Bool) (bytes : List ℕ) (from : ℕ) (ts : List Token) (last : Lexed) (n : ℕ) → HasTokens ended bytes from ts last → from ≤ last_end from (take n ts)
    ends_past ended bytes from ts last zero h = omega arith
    ends_past ended bytes from [] last (suc n) h = omega arith
    ends_past ended bytes from (t ∷ ts) last (suc n) h =
        let w = within_along bytes from ended (lexed.Token t) h.0 in omega (arith, w.0, w.1, ends_past ended bytes t.end ts last n h.1)
ends_on ended bytes from (t ∷ ts) last (suc m) (suc n) h lt le = ends_on ended bytes t.end ts last m n h.1 (omega (arith, lt)) (omega (arith, le))

module _ (fed : List ℕ) (given : List StatementView) (s : Input) (h : Holds fed given s) where
  pub used_within : s.used ≤ length s.tokens.items
  used_within = leads_within s.bytes.items s.tail s.tokens.items h.later s.used h.leads

  pub end_within : end_behind s.tokens.items s.used ≤ length s.bytes.items
  end_within = ends_inside s.ended s.bytes.items 0 s.tokens.items s.tail.last s.used (omega arith) h.all.found

  pub fed_size : length fed ≡ s.before + length s.bytes.items
  fed_size = omega (arith, ap length h.bytes, length-append h.before s.bytes.items, h.size)

  pub place_inside : place_in s ≤ length fed
  place_inside = omega (arith, end_within, fed_size)

  -- lines and columns are no more than bytes
  pub place_near : (s.place.line ≤ s.before + 1) × (s.place.column ≤ s.before + 1)
  place_near =
      let near = behind_all-near start h.before in
      (omega (arith, near.0, ap (λ (p : Place). p.line) h.place, h.size), omega (arith, near.1, ap (λ (p : Place). p.column) h.place, h.size))

  -- what wants more hasn't ended
  pub going_on : s.tail.last ≡ lexed.More → s.ended ≡ false
  going_on e = go s.ended refl
    where
      go : (b : Bool) → s.ended ≡ b → b ≡ false
      go false f = refl
      go true f = absurd (wants_none s.bytes.items 0 s.tokens.items s.tail.last (subst (λ (b : Bool). HasTokens b s.bytes.items 0 s.tokens.items s.tail.last) f h.all.found) e)

  -- where a comment is open nothing is left, and no statement of it was given
  none_later : s.inside ≡ true → h.later ≡ []
  none_later e = by h.later h.leads
    where
      none : s.tokens.items ≡ []
      none = no_tokens s.ended s.tokens.items s.tail.last (subst (λ (l : List ℕ). HasTokens s.ended l 0 s.tokens.items s.tail.last) (h.none e) h.all.found)

      by : (sts : List StatementView) → Leads s.bytes.items s.tail s.tokens.items sts s.used → sts ≡ []
      by [] l = refl
      by (st ∷ sts) l =
          let over = is_over s.tail.last in
          absurd (omega (arith, front_some over (lexemes s.bytes.items s.tokens.items) st l.0 l.3, front_within s.bytes.items over s.tokens.items st l.0 l.3, ap length none))

  -- what comes of the bytes that are left comes of all
  pub comes_fed : (ended : Bool) (rest : List StatementView) (o : Outcome) → Comes s.bytes.items ended rest o → Comes fed ended (h.early ++ rest) (moved (length h.before) o)
  comes_fed ended rest o c =
      let none = append-nil s.bytes.items in
      subst (λ (l : List ℕ). Comes l ended (h.early ++ rest) (moved (length h.before) o)) (ap (λ (l : List ℕ). h.before ++ l) none ∙ sym h.bytes)
      (h.follows [] ended rest o (subst (λ (l : List ℕ). ComesBehind s.inside l ended rest o) (sym none) (comes_here s.inside s.bytes.items h.none ended rest o c)))

  -- what comes of the bytes behind the statements that were given comes of all that are left
  pub comes_used : (more : List ℕ) → s.ended ≡ false → s.tail.last ≡ lexed.More → (ended : Bool) (rest : List StatementView) (o : Outcome)
      → ComesBehind s.inside (drop (end_behind s.tokens.items s.used) s.bytes.items ++ more) ended rest o
      → ComesBehind s.inside (s.bytes.items ++ more) ended (h.later ++ rest) (moved (end_behind s.tokens.items s.used) o)
  comes_used more open' wants ended rest o = by s.inside refl
    where
      b : List ℕ
      b = s.bytes.items

      k : ℕ
      k = end_behind s.tokens.items s.used

      by : (i : Bool) → s.inside ≡ i → ComesBehind s.inside (drop k b ++ more) ended rest o → ComesBehind s.inside (b ++ more) ended (h.later ++ rest) (moved k o)
      by false e c =
          let own = blanks_go (drop k b ++ more) ended rest o (subst (λ (x : Bool). ComesBehind x (drop k b ++ more) ended rest o) e c) in
          let all = used_bytes_go b more s.tokens.items s.tail h.later s.used (subst (λ (x : Bool). AreAll b x s.tokens.items s.tail) open' h.all) wants h.leads ended rest o own in
          subst (λ (x : Bool). ComesBehind x (b ++ more) ended (h.later ++ rest) (moved k o)) (sym e) (comes_behind_blanks (b ++ more) ended (h.later ++ rest) (moved k o) all)
      by true e c =
          let none = h.none e in
          let n : k ≡ 0 = omega (arith, ends_inside s.ended b 0 s.tokens.items s.tail.last s.used (omega arith) h.all.found, ap length none) in
          subst (λ (l : List StatementView). ComesBehind s.inside (b ++ more) ended (l ++ rest) (moved k o)) (sym (none_later e))
          (subst (λ (x : Outcome). ComesBehind s.inside (b ++ more) ended rest x) (sym (ap (λ (i : ℕ). moved i o) n ∙ moved_none o))
          (subst (λ (i : ℕ). ComesBehind s.inside (drop i b ++ more) ended rest o) n c))

  -- what stands behind the statements that were given
  pub comes_behind : (o : Outcome) → StandsBehind s.bytes.items s.tail (drop s.used s.tokens.items) 0 o → Comes fed s.ended given (moved (length h.before) o)
  comes_behind o stop =
      subst (λ (l : List StatementView). Comes fed s.ended l (moved (length h.before) o)) (sym h.statements)
      (comes_fed s.ended h.later o (record {
        tokens = s.tokens.items;
        tail = s.tail;
        all = h.all;
        used = s.used;
        leads = h.leads;
        behind = stands_up s.bytes.items s.tail s.tokens.items h.later s.used o used_within h.leads stop;
      }))

  -- the place of a fault
  pub place_is : (at : ℕ) → at ≤ length s.bytes.items → place_of fed (length h.before + at) ≡ behind_all (place_view s.place) (take at s.bytes.items)
  place_is at le =
      ap (λ (l : List ℕ). behind_all start (take (length h.before + at) l)) h.bytes ∙ ap (behind_all start) (take-append-add h.before s.bytes.items at)
      ∙ behind_all-append start h.before (take at s.bytes.items) ∙ ap (λ (p : Place). behind_all p (take at s.bytes.items)) (sym h.place)

-- ---- the statements that were given are the first ones

-- in the bytes that are left
own_first : (fed : List ℕ) (given : List StatementView) (s : Input) (h : Holds fed given s) (all : List StatementView) (o : Outcome) → Comes s.bytes.items s.ended all o
    → (rest : List StatementView) × (all ≡ h.later ++ rest)
own_first fed given s h all o c =
    let b = s.bytes.items in
    let same = all_are_one b s.ended c.tokens s.tokens.items c.tail s.tail c.all h.all in
    let leads = subst (λ (t : Tail). Leads b t s.tokens.items all c.used) same.1 (subst (λ (l : List Token). Leads b c.tail l all c.used) same.0 c.leads) in
    let behind = subst (λ (t : Tail). StandsBehind b t s.tokens.items c.used o) same.1 (subst (λ (l : List Token). StandsBehind b c.tail l c.used o) same.0 c.behind) in
    leads_first b s.tail s.tokens.items h.later all s.used c.used h.leads leads (blocked b s.tail s.tokens.items c.used o behind)

-- where no bytes follow
pub first_ended : (fed : List ℕ) (given : List StatementView) (s : Input) → Holds fed given s → (all : List StatementView) (o : Outcome) → Comes fed s.ended all o
    → (rest : List StatementView) × (all ≡ given ++ rest)
first_ended fed given s h all o c =
    let own = something_comes s.bytes.items s.ended in
    let first = own_first fed given s h own.0 own.1 own.2 in
    let same = one_comes fed s.ended all (h.early ++ own.0) o (moved (length h.before) own.1) c (comes_fed fed given s h s.ended own.0 own.1 own.2) in
    (first.0, same.0 ∙ ap (λ (l : List StatementView). h.early ++ l) first.1 ∙ sym (append_assoc h.early h.later first.0) ∙ ap (λ (l : List StatementView). l ++ first.0) (sym h.statements))

-- however the bytes go on
pub first_going : (fed : List ℕ) (given : List StatementView) (s : Input) → Holds fed given s → s.ended ≡ false → (more : List ℕ) (ended : Bool) (all : List StatementView) (o : Outcome)
    → Comes (fed ++ more) ended all o → (rest : List StatementView) × (all ≡ given ++ rest)
first_going fed given s h open' more ended all o c =
    let b = s.bytes.items in
    let n = first_byte s.inside 0 (b ++ more) in
    let own = something_comes b s.ended in
    let first = own_first fed given s h own.0 own.1 own.2 in
    let on = something_comes (drop n (b ++ more)) ended in
    let on_behind : ComesBehind s.inside (b ++ more) ended on.0 (moved n on.1) = (on.1, refl, on.2) in
    let front = front_behind s.inside b more h.none ended own.0 on.0 own.1 (moved n on.1) (subst (λ (x : Bool). Comes b x own.0 own.1) open' own.2) on_behind in
    let split : fed ++ more ≡ h.before ++ (b ++ more) = ap (λ (l : List ℕ). l ++ more) h.bytes ∙ append_assoc h.before b more in
    let same = one_comes (h.before ++ (b ++ more)) ended all (h.early ++ on.0) o (moved (length h.before) (moved n on.1))
    (subst (λ (l : List ℕ). Comes l ended all o) split c) (h.follows more ended on.0 (moved n on.1) on_behind) in
    let rest : List StatementView = first.0 ++ front.0 in (
      rest,
      same.0 ∙ ap (λ (l : List StatementView). h.early ++ l) (front.1 ∙ ap (λ (l : List StatementView). l ++ front.0) first.1 ∙ append_assoc h.later first.0 front.0)
          ∙ sym (append_assoc h.early h.later rest) ∙ ap (λ (l : List StatementView). l ++ rest) (sym h.statements),
    )

-- ---- the first statement that wasn't given

end_of_one : (d : Token) (from : ℕ) (ts : List Token) (n : ℕ) → n < length ts → (slice_index_or ts n d).end ≡ last_end from (take (suc n) ts)
end_of_one d from [] n lt = absurd (omega (arith, lt))
end_of_one d from (t ∷ ts) zero lt = refl
end_of_one d from (t ∷ ts) (suc n) lt = end_of_one d t.end ts n (omega (arith, lt))

pub end_of_first : (d : Token) (ts : List Token) (used : ℕ) → used ≤ length ts → used ≢ 0 → (slice_index_or ts (used - 1) d).end ≡ end_behind ts used
end_of_first d ts zero le some = absurd (some refl)
end_of_first d ts (suc n) le some =
    let e : suc n - 1 ≡ n = omega arith in
    ap (λ (i : ℕ). (slice_index_or ts i d).end) e ∙ end_of_one d 0 ts n (omega (arith, le))

-- ---- answers of the calls

-- a place by its line and column
pub place_same : (p : code.Place) (q : Place) → p.line ≡ q.line → p.column ≡ q.column → place_view p ≡ q
place_same p q l c = λ i. record { line = l i; column = c i }

module _ (fed : List ℕ) (given : List StatementView) (s : Input) (h : Holds fed given s) where
  pub its_tokens : AreTokens s.bytes.items s.tokens.items
  its_tokens = all_are_tokens s.bytes.items s.ended s.tokens.items s.tail h.all

  pub fault_inside : (at : ℕ) → StandsBehind s.bytes.items s.tail (drop s.used s.tokens.items) 0 (Fault at) → at ≤ length s.bytes.items
  fault_inside at stop =
      at_within s.bytes.items s.tail (drop s.used s.tokens.items) 0 at (are_tokens_drop s.bytes.items s.used s.tokens.items its_tokens) stop

  -- ---- what stands behind the statements

  pub stands_over : StandsBehind s.bytes.items s.tail (drop s.used s.tokens.items) 0 Over → Stands fed given s next.End
  stands_over stop =
      let over : s.ended ≡ true = by s.ended refl in
      (subst (λ (b : Bool). Comes fed b given Over) over (comes_behind fed given s h Over stop), over)
    where
      by : (b : Bool) → s.ended ≡ b → b ≡ true
      by true e = refl
      by false e = absurd (ends_not s.bytes.items 0 s.tokens.items s.tail.last (subst (λ (b : Bool). HasTokens b s.bytes.items 0 s.tokens.items s.tail.last) e h.all.found) stop.1)

  pub stands_fault : (at line column : ℕ) → StandsBehind s.bytes.items s.tail (drop s.used s.tokens.items) 0 (Fault at)
      → behind_all (place_view s.place) (take at s.bytes.items) ≡ record { line = line; column = column } → Stands fed given s (next.Fault line column)
  stands_fault at line column stop place =
      (length h.before + at, comes_behind fed given s h (Fault at) stop, place_is fed given s h at (fault_inside at stop) ∙ place)

  pub stands_long : StandsBehind s.bytes.items s.tail (drop s.used s.tokens.items) 0 Long → Stands fed given s next.Long
  stands_long stop = comes_behind fed given s h Long stop

  pub stands_open : StandsBehind s.bytes.items s.tail (drop s.used s.tokens.items) 0 Open → Stands fed given s next.More
  stands_open stop =
      let going = going_on fed given s h stop.more in
      (subst (λ (b : Bool). Comes fed b given Open) going (comes_behind fed given s h Open stop), stop.more, going)

  -- ---- the next statement

  pub gives_next : (new : Input) (st : StatementView) (n : ℕ) → new ≡ record s { used = s.used + n } → IsFront (is_over s.tail.last) (lexemes s.bytes.items (drop s.used s.tokens.items)) st n
      → ¬ IsLong s.bytes.items s.tail (drop s.used s.tokens.items) → GivesStatement fed given s new st
  gives_next new st n same front short =
      let b = s.bytes.items in
      let rest = drop s.used s.tokens.items in
      let over = is_over s.tail.last in
      let within = front_within b over rest st n front in
      let some = front_some over (lexemes b rest) st n front in
      let left = used_within fed given s h in
      let all : s.used + n ≤ length s.tokens.items = omega (arith, within, length-drop s.used s.tokens.items, left) in
      subst (λ (x : Input). GivesStatement fed given s x st) (sym same) (record {
        holds = record {
          before = h.before;
          early = h.early;
          later = h.later ++ st ∷ [];
          bytes = h.bytes;
          statements = ap (λ (l : List StatementView). l ++ st ∷ []) h.statements ∙ append_assoc h.early h.later (st ∷ []);
          follows = h.follows;
          none = h.none;
          size = h.size;
          place = h.place;
          all = h.all;
          fits = h.fits;
          leads = leads_more b s.tail s.tokens.items h.later s.used st n h.leads front short;
        };
        written = (over, lexemes b rest, n, front);
        texts = texts_within b s.tail rest st n front (are_tokens_drop b s.used s.tokens.items its_tokens) short;
        on = (let later = ends_on s.ended b 0 s.tokens.items s.tail.last s.used (s.used + n) h.all.found (omega (arith, some)) all in omega (arith, later));
      })

-- what stands there is what is given
pub gives_stop : (fed : List ℕ) (given : List StatementView) (s : Input) (n : Next) → Stands fed given s n → Gives fed given s s n
gives_stop fed given s (next.Statement st) h = absurd h
gives_stop fed given s next.More h = (refl, h)
gives_stop fed given s next.End h = (refl, h)
gives_stop fed given s (next.Fault line column) h = (refl, h)
gives_stop fed given s next.Long h = (refl, h)
