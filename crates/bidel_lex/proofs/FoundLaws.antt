-- What stands before an answer.
use Rattle.std.proofs.Common.{◌≡◌, ◌+◌, ◌-◌, ◌==◌, ℕ, Bool, true, false, List, [], ◌∷◌, ◌++◌, length, drop, take, cond, Option, None, Some, refl, sym, ap, ◌∙◌, subst, arith, append_assoc, append-nil, length-append}
use Rattle.std.specs.Prelude.{not, slice_range}
use Rattle.std.specs.List.{AllPass}
use Rattle.std.proofs.Math.Seq.{drop-append_seam, take-append_seam}
use Rattle.std.proofs.lemmas.List.{drop-drop}
use Rattle.std.proofs.lemmas.List.Elements.{All-push, All-nil}
use Rattle.bidel_lex.specs.declared.tokens.Token.{Token}
use Rattle.bidel_lex.specs.declared.tokens.TokenKind.{TokenKind}
use Rattle.bidel_lex.specs.declared.tokens.TokenKind.TheVariants as kind
use Rattle.bidel_lex.specs.declared.tokens.Lexed.{Lexed}
use Rattle.bidel_lex.specs.declared.tokens.Lexed.TheVariants as lexed
use Rattle.bidel_lex.specs.declared.unfinished.Unfinished.{Unfinished}
use Rattle.bidel_lex.specs.declared.unfinished.Step.TheVariants as step
use Rattle.bidel_lex.specs.declared.next.Part.{Part}
use Rattle.bidel_lex.specs.declared.next.Part.TheVariants.{Blank, Comment, Open}
use Rattle.bidel_lex.specs.declared.next.First.TheVariants.{Space, Alone, Opens, Fault}
use Rattle.bidel_lex.specs.declared.next.Turn.TheVariants.{Go}
use Rattle.bidel_lex.specs.Blanks.{Blanks, comment, EndBlanks, finished, is_inner, last_comment, nothing, space}
use Rattle.bidel_lex.specs.Classes.{is_space}
use Rattle.bidel_lex.specs.Spelled.{CanFollow, Spells}
use Rattle.bidel_lex.specs.Next.{after_turn, first_of, first_turn, kind_of, lexed_at, next_of, over_as, step_of, step_turn, turn_at}
use Rattle.bidel_lex.specs.Laws.{HasToken, Spelled}
use Rattle.bidel_lex.proofs.Held.{first_held, FirstHeld, Held, NotOn, over_held, OverHeld, same_byte, step_held, StepHeld}

Blanks-append : (xs ys : List ℕ) → Blanks xs → Blanks ys → Blanks (xs ++ ys)
Blanks-append xs ys nothing k = k
Blanks-append xs ys (space b rest e h) k = space b (rest ++ ys) e (Blanks-append rest ys h k)
Blanks-append xs ys (comment inside rest p h) k =
    subst (λ (l : List ℕ). Blanks (45 ∷ 45 ∷ l)) (sym (append_assoc inside (10 ∷ rest) ys)) (comment inside (rest ++ ys) p (Blanks-append rest ys h k))

-- the bytes from a place on, up to where a part stands
record BlankBefore (from : ℕ) (whole : List ℕ) (at : ℕ) (bytes : List ℕ) : Type 0 where
  gap : List ℕ
  blank : Blanks gap
  split : drop from whole ≡ gap ++ bytes
  size : from + length gap ≡ at

record CommentBefore (from : ℕ) (whole : List ℕ) (at : ℕ) (bytes : List ℕ) : Type 0 where
  gap : List ℕ
  inside : List ℕ
  blank : Blanks gap
  inner : AllPass is_inner inside
  split : drop from whole ≡ gap ++ 45 ∷ 45 ∷ (inside ++ bytes)
  size : from + length gap + 2 + length inside ≡ at

record TokenBefore (from : ℕ) (whole : List ℕ) (start : ℕ) (token : Unfinished) (at : ℕ) (bytes : List ℕ) : Type 0 where
  gap : List ℕ
  text : List ℕ
  blank : Blanks gap
  held : Held token text
  split : drop from whole ≡ gap ++ (text ++ bytes)
  begin : start ≡ from + length gap
  size : start + length text ≡ at

abbrev Before : ℕ → List ℕ → Part → ℕ → List ℕ → Type 0
Before from whole Blank at bytes = BlankBefore from whole at bytes
Before from whole Comment at bytes = CommentBefore from whole at bytes
Before from whole (Open start token) at bytes = TokenBefore from whole start token at bytes

-- what an answer says of the bytes
abbrev AnswerFound : ℕ → List ℕ → Bool → Lexed → Type 0
AnswerFound from whole ended (lexed.Token token) = HasToken whole from ended token
AnswerFound from whole ended (lexed.BadToken at) = Unit {0}
AnswerFound from whole ended lexed.More = Unit {0}
AnswerFound from whole ended lexed.End = (ended ≡ true) × EndBlanks (drop from whole)

push_split : (gap text bytes : List ℕ) (b : ℕ) → gap ++ (text ++ b ∷ bytes) ≡ gap ++ ((text ++ b ∷ []) ++ bytes)
push_split gap text bytes b = ap (λ (l : List ℕ). gap ++ l) (sym (append_assoc text (b ∷ []) bytes))

space_after : (from at b : ℕ) (whole bytes : List ℕ) → is_space b ≡ true → BlankBefore from whole at (b ∷ bytes) → BlankBefore from whole (at + 1) bytes
space_after from at b whole bytes e h =
    record {
      gap = h.gap ++ b ∷ [];
      blank = Blanks-append h.gap (b ∷ []) h.blank (space b [] e nothing);
      split = h.split ∙ sym (append_assoc h.gap (b ∷ []) bytes);
      size = omega (arith, length-append h.gap (b ∷ []), h.size);
    }

opens_after : (from at b : ℕ) (token : Unfinished) (whole bytes : List ℕ) → Held token (b ∷ []) → BlankBefore from whole at (b ∷ bytes)
    → TokenBefore from whole at token (at + 1) bytes
opens_after from at b token whole bytes e h =
    record { gap = h.gap; text = b ∷ []; blank = h.blank; held = e; split = h.split; begin = sym h.size; size = refl }

longer_after : (from start at b : ℕ) (token next : Unfinished) (whole bytes : List ℕ) (h : TokenBefore from whole start token at (b ∷ bytes)) → Held next (h.text ++ b ∷ [])
    → TokenBefore from whole start next (at + 1) bytes
longer_after from start at b token next whole bytes h e =
    record {
      gap = h.gap;
      text = h.text ++ b ∷ [];
      blank = h.blank;
      held = e;
      split = h.split ∙ push_split h.gap h.text bytes b;
      begin = h.begin;
      size = omega (arith, length-append h.text (b ∷ []), h.size);
    }

comment_after : (from start at b : ℕ) (token : Unfinished) (whole bytes : List ℕ) (h : TokenBefore from whole start token at (b ∷ bytes)) → h.text ++ b ∷ [] ≡ 45 ∷ 45 ∷ []
    → CommentBefore from whole (at + 1) bytes
comment_after from start at b token whole bytes h e =
    record {
      gap = h.gap;
      inside = [];
      blank = h.blank;
      inner = All-nil (λ b. is_inner b ≡ true);
      split = h.split ∙ push_split h.gap h.text bytes b ∙ ap (λ (l : List ℕ). h.gap ++ (l ++ bytes)) e;
      size = omega (arith, length-append h.text (b ∷ []), ap length e, h.size, h.begin);
    }

inner_after : (from at b : ℕ) (whole bytes : List ℕ) → b == 10 ≡ false → CommentBefore from whole at (b ∷ bytes) → CommentBefore from whole (at + 1) bytes
inner_after from at b whole bytes e h =
    record {
      gap = h.gap;
      inside = h.inside ++ b ∷ [];
      blank = h.blank;
      inner = All-push (λ b. is_inner b ≡ true) h.inside b h.inner (ap not e);
      split = h.split ∙ push_split h.gap (45 ∷ 45 ∷ h.inside) bytes b;
      size = omega (arith, length-append h.inside (b ∷ []), h.size);
    }

feed_after : (from at b : ℕ) (whole bytes : List ℕ) → b == 10 ≡ true → CommentBefore from whole at (b ∷ bytes) → BlankBefore from whole (at + 1) bytes
feed_after from at b whole bytes e h =
    record {
      gap = h.gap ++ 45 ∷ 45 ∷ (h.inside ++ 10 ∷ []);
      blank = Blanks-append h.gap (45 ∷ 45 ∷ (h.inside ++ 10 ∷ [])) h.blank (comment h.inside [] h.inner nothing);
      split = h.split ∙ push_split h.gap (45 ∷ 45 ∷ h.inside) bytes b ∙ ap (λ n. h.gap ++ ((45 ∷ 45 ∷ (h.inside ++ n ∷ [])) ++ bytes)) (same_byte b 10 e)
          ∙ sym (append_assoc h.gap (45 ∷ 45 ∷ (h.inside ++ 10 ∷ [])) bytes);
      size = omega (arith, length-append h.gap (45 ∷ 45 ∷ (h.inside ++ 10 ∷ [])), length-append h.inside (10 ∷ []), h.size);
    }

-- a token of which nothing more comes
abbrev OverFollows : Option TokenKind → List ℕ → Bool → List ℕ → Type 0
OverFollows None text ended bytes = Unit {0}
OverFollows (Some k) text ended bytes = CanFollow k text ended bytes

over_found : (ended : Bool) (from start at : ℕ) (token : Unfinished) (k : Option TokenKind) (whole bytes : List ℕ) (h : TokenBefore from whole start token at bytes)
    → OverHeld k h.text → OverFollows k h.text ended bytes → AnswerFound from whole ended (over_as k start at)
over_found ended from start at token None whole bytes h s f = tt
over_found ended from start at token (Some k) whole bytes h s f =
    record { gap = h.gap; text = h.text; rest = bytes; split = h.split; blank = h.blank; spells = s; follows = f; start = h.begin; end = sym h.size }

over_at_end : (k : Option TokenKind) (text : List ℕ) → OverFollows k text true []
over_at_end None text = tt
over_at_end (Some k) text = refl

over_at_byte : (ended : Bool) (k : Option TokenKind) (text bytes : List ℕ) (b : ℕ) → NotOn k text b → OverFollows k text ended (b ∷ bytes)
over_at_byte ended None text bytes b h = tt
over_at_byte ended (Some k) text bytes b h = h

last_found : (ended : Bool) (from start at b : ℕ) (token : Unfinished) (whole bytes : List ℕ) (h : TokenBefore from whole start token at (b ∷ bytes))
    → StepHeld (kind_of token) h.text b step.Last → AnswerFound from whole ended (lexed.Token (record { kind = kind.Symbol; start = start; end = at + 1 }))
last_found ended from start at b token whole bytes h s =
    record {
      gap = h.gap;
      text = h.text ++ b ∷ [];
      rest = bytes;
      split = h.split ∙ push_split h.gap h.text bytes b;
      blank = h.blank;
      spells = s.0;
      follows = s.1 ended bytes;
      start = h.begin;
      end = omega (arith, length-append h.text (b ∷ []), h.size);
    }

alone_found : (ended : Bool) (from at b : ℕ) (whole bytes : List ℕ) → BlankBefore from whole at (b ∷ bytes) → FirstHeld b Alone
    → AnswerFound from whole ended (lexed.Token (record { kind = kind.Symbol; start = at; end = at + 1 }))
alone_found ended from at b whole bytes h s =
    record { gap = h.gap; text = b ∷ []; rest = bytes; split = h.split; blank = h.blank; spells = s.0; follows = s.1 ended bytes; start = sym h.size; end = refl }

lexed_found : (ended : Bool) (part : Part) (at from : ℕ) (whole bytes : List ℕ) → Before from whole part at bytes
    → AnswerFound from whole ended (lexed_at ended part at bytes)
unfolding lexed_at turn_at
lexed_found false part at from whole [] h = tt
lexed_found true Blank at from whole [] h = (refl, finished (subst Blanks (sym (h.split ∙ append-nil h.gap)) h.blank))
lexed_found true Comment at from whole [] h =
    (refl, last_comment h.gap h.inside h.blank h.inner (h.split ∙ ap (λ (l : List ℕ). h.gap ++ 45 ∷ 45 ∷ l) (append-nil h.inside)))
lexed_found true (Open start token) at from whole [] h =
    over_found true from start at token (kind_of token) whole [] h (over_held token h.text h.held) (over_at_end (kind_of token) h.text)
lexed_found ended Blank at from whole (b ∷ bytes) h =
    elim (first_of b) as (λ f. FirstHeld b f → AnswerFound from whole ended (after_turn (first_turn at f) (λ next. lexed_at ended next (at + 1) bytes))) [
      | Space ↦ λ g. lexed_found ended Blank (at + 1) from whole bytes (space_after from at b whole bytes g h)
      | Alone ↦ λ g. alone_found ended from at b whole bytes h g
      | Opens token ↦ λ g. lexed_found ended (Open at token) (at + 1) from whole bytes (opens_after from at b token whole bytes g h)
      | Fault ↦ λ g. tt
    ] (first_held b)
lexed_found ended Comment at from whole (b ∷ bytes) h =
    elim (b == 10) as (λ c. b == 10 ≡ c → AnswerFound from whole ended (after_turn (Go (cond c Blank Comment)) (λ next. lexed_at ended next (at + 1) bytes))) [
      | true ↦ λ e. lexed_found ended Blank (at + 1) from whole bytes (feed_after from at b whole bytes e h)
      | false ↦ λ e. lexed_found ended Comment (at + 1) from whole bytes (inner_after from at b whole bytes e h)
    ] refl
lexed_found ended (Open start token) at from whole (b ∷ bytes) h =
    elim (step_of token b) as (λ s. StepHeld (kind_of token) h.text b s → AnswerFound from whole ended (after_turn (step_turn start token at s) (λ next. lexed_at ended next (at + 1) bytes))) [
      | step.Longer next ↦ λ g. lexed_found ended (Open start next) (at + 1) from whole bytes (longer_after from start at b token next whole bytes h g)
      | step.Last ↦ λ g. last_found ended from start at b token whole bytes h g
      | step.Comment ↦ λ g. lexed_found ended Comment (at + 1) from whole bytes (comment_after from start at b token whole bytes h g)
      | step.Over ↦ λ g. over_found ended from start at token (kind_of token) whole (b ∷ bytes) h (over_held token h.text h.held) (over_at_byte ended (kind_of token) h.text bytes b g)
      | step.Fault ↦ λ g. tt
    ] (step_held token b h.text h.held)

answer_found : (bytes : List ℕ) (from : ℕ) (ended : Bool) → AnswerFound from bytes ended (next_of bytes from ended)
unfolding next_of
answer_found bytes from ended =
    lexed_found ended Blank from from bytes (drop from bytes) (record { gap = []; blank = nothing; split = refl; size = omega arith })

pub token_found : (bytes : List ℕ) (from : ℕ) (ended : Bool) (token : Token) → next_of bytes from ended ≡ lexed.Token token → HasToken bytes from ended token
token_found bytes from ended token e = let P : Lexed → Type 0 = λ a. AnswerFound from bytes ended a in subst P e (answer_found bytes from ended)

pub end_found : (bytes : List ℕ) (from : ℕ) (ended : Bool) → next_of bytes from ended ≡ lexed.End → (ended ≡ true) × EndBlanks (drop from bytes)
end_found bytes from ended e = let P : Lexed → Type 0 = λ a. AnswerFound from bytes ended a in subst P e (answer_found bytes from ended)

drop_append : (xs ys : List ℕ) → drop (length xs) (xs ++ ys) ≡ ys
drop_append xs ys = drop-append_seam xs ys

-- the bytes of a token
token_is : (bytes : List ℕ) (from : ℕ) (ended : Bool) (token : Token) (h : HasToken bytes from ended token) → slice_range bytes token.start token.end ≡ h.text
token_is bytes from ended token h =
    let n : token.end - token.start ≡ length h.text = omega (arith, h.end) in
    let d : drop token.start bytes ≡ h.text ++ h.rest =
    ap (λ n. drop n bytes) h.start ∙ sym (drop-drop (length h.gap) from bytes) ∙ ap (drop (length h.gap)) h.split ∙ drop_append h.gap (h.text ++ h.rest) in
    ap (take (token.end - token.start)) d ∙ ap (λ n. take n (h.text ++ h.rest)) n ∙ take-append_seam h.text h.rest

pub spelled : Spelled
spelled bytes from ended token e =
    let h : HasToken bytes from ended token = token_found bytes from ended token e in
    let P : List ℕ → Type 0 = λ l. Spells token.kind l in
    subst P (sym (token_is bytes from ended token h)) h.spells
