-- Which bytes show a token.
use Rattle.std.proofs.Common.{◌≡◌, ◌+◌, ◌-◌, ◌≤◌, ◌<◌, ◌++◌, ℕ, zero, suc, Bool, true, false, List, [], ◌∷◌, take, drop, length, cond, min, inl, inr, refl, ap, sym, ◌∙◌, subst, arith, length-drop, length-take, length-append, take-append-drop}
use Rattle.std.proofs.Math.Seq.{take-append-add}
use Rattle.std.proofs.lemmas.List.{drop-take, take-take, take_all}
use Rattle.std.proofs.lemmas.Bool.Decides.{leb_tells}
use Rattle.bidel_lex.specs.declared.tokens.Token.{Token}
use Rattle.bidel_lex.specs.declared.tokens.TokenKind.{TokenKind}
use Rattle.bidel_lex.specs.declared.tokens.Lexed.TheVariants as lexed
use Rattle.bidel_lex.specs.Blanks.{Blanks}
use Rattle.bidel_lex.specs.Next.{next_of}
use Rattle.bidel_lex.specs.Spelled.{CanFollow}
use Rattle.bidel_lex.specs.Tokens.{is_token}
use Rattle.bidel_lex.proofs.ReadBackLaws.{token_exactly}
use Rattle.bidel_lex.proofs.WithinLaws.{within_along}
use Rattle.bidel_lex.proofs.StableLaws.{stable}
use Rattle.bidel_script.specs.Tails.{shown_end, TokensAreKnown}

-- what some first bytes show, more of them show
stays_shown : (bytes : List ℕ) (start m n : ℕ) (ended : Bool) → m ≤ n → is_token (next_of (take m bytes) start false) ≡ true
    → next_of (take n bytes) start ended ≡ next_of (take m bytes) start false
stays_shown bytes start m n ended le h =
    let front : take m (take n bytes) ≡ take m bytes = take-take m n bytes le in
    let whole : take n bytes ≡ take m bytes ++ drop m (take n bytes) = sym (take-append-drop m (take n bytes)) ∙ ap (λ (l : List ℕ). l ++ drop m (take n bytes)) front in
    ap (λ (l : List ℕ). next_of l start ended) whole
    ∙ stable (take m bytes) (drop m (take n bytes)) start ended (λ more. let clash : false ≡ true = sym (ap is_token more) ∙ h in cc)

-- what may stand behind a token may stand there whatever follows
follows_still : (kind : TokenKind) (text rest : List ℕ) (m : ℕ) → 0 < length rest → 0 < m → CanFollow kind text true rest → CanFollow kind text false (take m rest)
follows_still kind text [] m some more h = absurd (omega (arith, some))
follows_still kind text (b ∷ rest) zero some more h = absurd (omega (arith, more))
follows_still kind text (b ∷ rest) (suc m) some more h = h

no_gap : (gap : List ℕ) → length gap ≡ 0 → gap ≡ []
no_gap [] h = refl
no_gap (b ∷ gap) h = absurd (omega (arith, h))

-- the end of a token is as many bytes as show it, or one fewer
pub by_end : (bytes : List ℕ) (token : Token) (b : Bool) → is_token (next_of (take token.end bytes) token.start false) ≡ b → shown_end bytes token ≡ cond b token.end (min (token.end + 1) (length bytes))
by_end bytes token b e = ap (λ (x : Bool). cond x token.end (min (token.end + 1) (length bytes))) e

module _ (bytes : List ℕ) (token : Token) (n : ℕ) (h : next_of bytes token.start true ≡ lexed.Token token) (inside : token.end < length bytes) (le : n ≤ length bytes) where
  -- the byte behind a token shows it
  next_shows : token.end + 1 ≤ n → next_of (take n bytes) token.start false ≡ lexed.Token token
  next_shows more =
      let t = (token_exactly bytes token.start true token).0 h in
      let w = within_along bytes token.start true (lexed.Token token) h in
      let none : length t.gap ≡ 0 = omega (arith, t.start) in
      let split : drop token.start bytes ≡ t.text ++ t.rest = t.split ∙ ap (λ (l : List ℕ). l ++ (t.text ++ t.rest)) (no_gap t.gap none) in
      let size : length bytes ≡ token.start + (length t.text + length t.rest) = omega (arith, ap length split, length-drop token.start bytes, length-append t.text t.rest, w.1, w.2) in
      let count : n ≡ token.start + (length t.text + (n - token.end)) = omega (arith, t.end, more) in
      let front : drop token.start (take n bytes) ≡ t.text ++ take (n - token.end) t.rest =
      ap (λ (k : ℕ). drop token.start (take k bytes)) count ∙ drop-take token.start (length t.text + (n - token.end)) bytes
      ∙ ap (take (length t.text + (n - token.end))) split ∙ take-append-add t.text t.rest (n - token.end) in
      (token_exactly (take n bytes) token.start false token).1 (record {
        gap = [];
        text = t.text;
        rest = take (n - token.end) t.rest;
        split = front;
        blank = subst Blanks (no_gap t.gap none) t.blank;
        spells = t.spells;
        follows = follows_still token.kind t.text t.rest (n - token.end) (omega (arith, size, t.end, inside)) (omega (arith, more)) t.follows;
        start = omega arith;
        end = t.end;
      })

  at_end : is_token (next_of (take token.end bytes) token.start false) ≡ true → next_of (take token.end bytes) token.start false ≡ lexed.Token token
  at_end e =
      let all : take (length bytes) bytes ≡ bytes = take_all (length bytes) bytes (omega arith) in
      sym (stays_shown bytes token.start token.end (length bytes) true (omega (arith, inside)) e) ∙ ap (λ (l : List ℕ). next_of l token.start true) all ∙ h

  shows_token : (b : Bool) → is_token (next_of (take token.end bytes) token.start false) ≡ b → shown_end bytes token ≤ n → next_of (take n bytes) token.start false ≡ lexed.Token token
  shows_token true e k = stays_shown bytes token.start token.end n false (omega (arith, k, by_end bytes token true e)) e ∙ at_end e
  shows_token false e k = next_shows (omega (arith, k, by_end bytes token false e, inside))

  -- no fewer bytes than its own show it
  not_before : next_of (take n bytes) token.start false ≡ lexed.Token token → token.end ≤ n
  not_before k = let w = within_along (take n bytes) token.start false (lexed.Token token) k in omega (arith, w.2, length-take n bytes)

  shown_by : (b : Bool) → is_token (next_of (take token.end bytes) token.start false) ≡ b → next_of (take n bytes) token.start false ≡ lexed.Token token → shown_end bytes token ≤ n
  shown_by true e k = omega (arith, by_end bytes token true e, not_before k)
  shown_by false e k = elim (leb_tells (token.end + 1) n) [
    | inl lt ↦ omega (arith, by_end bytes token false e, lt.1)
    | inr ge ↦ (let equal : n ≡ token.end = omega (arith, ge.1, not_before k) in
        let clash : true ≡ false = sym (ap is_token (ap (λ (i : ℕ). next_of (take i bytes) token.start false) (sym equal) ∙ k)) ∙ e in cc)
  ]

pub tokens_are_known : TokensAreKnown
tokens_are_known bytes token n h inside le =
    let b = is_token (next_of (take token.end bytes) token.start false) in
    (shown_by bytes token n h inside le b refl, shows_token bytes token n h inside le b refl)
