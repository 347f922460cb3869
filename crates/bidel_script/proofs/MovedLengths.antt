-- Statements of bytes behind others are as long.
use Rattle.std.proofs.Common.{◌≡◌, ◌+◌, ◌-◌, ◌≤◌, ◌<◌, ◌++◌, ℕ, List, Bool, true, false, refl, sym, ap, subst, ◌∙◌, drop, length, arith}
use Rattle.std.specs.Prelude.{◌||◌, nat_lt, if◌then◌else◌}
use Rattle.std.proofs.lemmas.Bool.{ltb-true, ltb-false, lt-ltb, le-ltb}
use Rattle.std.proofs.lemmas.List.{drop-map, length-map}
use Rattle.phrases.specs.Reading.{starts}
use Rattle.bidel_lex.specs.declared.tokens.Token.{Token}
use Rattle.bidel_expr.specs.Lexemes.{Lexeme, lexemes}
use Rattle.statements.specs.Views.{StatementView, CreateVersion, DropVersion, Insert, Import, Update, Delete, Select, Materialize, Step, ShowLayout, Use, Session, Advise, Watch, Unwatch, Begin, Commit, Rollback}
use Rattle.bidel_parser.specs.Parsing.{IsFront, NoFront, FirstFault}
use Rattle.bidel_script.specs.declared.tokens.Tail.{Tail}
use Rattle.bidel_script.specs.Tails.{begin_of, known_end}
use Rattle.bidel_script.specs.Lengths.{IsLong, is_long, is_long_behind, is_long_front, deciding, begins_shared, end_of, whole, part}
use Rattle.bidel_script.proofs.ScriptLaws.{front_some, front_within}
use Rattle.bidel_script.proofs.MovedTokens.{all_moved, begin_moved, end_at_moved, known_moved, lexemes_moved, moved_tail}
use Rattle.bidel_lex.proofs.MovedLaws.{moved_token}

long_moved : (k a b : ℕ) → is_long (k + a) (k + b) ≡ is_long a b
long_moved k a b = go (nat_lt (a + 65536) b) refl
  where
    go : (x : Bool) → nat_lt (a + 65536) b ≡ x → is_long (k + a) (k + b) ≡ is_long a b
    go true e = lt-ltb (k + a + 65536) (k + b) (omega (arith, ltb-true (a + 65536) b e)) ∙ sym e
    go false e = le-ltb (k + a + 65536) (k + b) (omega (arith, ltb-false (a + 65536) b e)) ∙ sym e

module _ (u y : List ℕ) (tail : Tail) where
  deciding_moved : (ts : List Token) → deciding (u ++ y) (all_moved (length u) ts) ≡ deciding y ts
  deciding_moved ts = ap (λ (l : List Lexeme). if starts begins_shared l then 1 else 0) (lexemes_moved u y ts)

  -- the bytes up to where a token is shown are as many
  known_long : (ts : List Token) (i : ℕ) → is_long (begin_of (moved_tail (length u) tail) (all_moved (length u) ts)) (known_end (u ++ y) (moved_tail (length u) tail) (all_moved (length u) ts) i)
      ≡ is_long (begin_of tail ts) (known_end y tail ts i)
  known_long ts i =
      ap (λ (n : ℕ). is_long n (known_end (u ++ y) (moved_tail (length u) tail) (all_moved (length u) ts) i)) (begin_moved (length u) tail ts)
      ∙ ap (is_long (length u + begin_of tail ts)) (known_moved u y tail ts i) ∙ long_moved (length u) (begin_of tail ts) (known_end y tail ts i)

  behind_moved : (s : StatementView) (ts : List Token) → is_long_behind (u ++ y) (moved_tail (length u) tail) (all_moved (length u) ts) s ≡ is_long_behind y tail ts s
  behind_moved (CreateVersion name origin operators) ts =
      ap (λ (n : ℕ). is_long (begin_of (moved_tail (length u) tail) (all_moved (length u) ts)) (known_end (u ++ y) (moved_tail (length u) tail) (all_moved (length u) ts) n)) (deciding_moved ts)
      ∙ known_long ts (deciding y ts)
  behind_moved (DropVersion name) ts = refl
  behind_moved (Insert table rows) ts = refl
  behind_moved (Import table bytes) ts = refl
  behind_moved (Update table assignments filter) ts = refl
  behind_moved (Delete table filter) ts = refl
  behind_moved (Select table items filter csv) ts = refl
  behind_moved (Materialize named in_steps) ts = refl
  behind_moved Step ts = refl
  behind_moved ShowLayout ts = refl
  behind_moved (Use name) ts = refl
  behind_moved (Session n) ts = refl
  behind_moved (Advise name) ts = refl
  behind_moved (Watch name) ts = refl
  behind_moved (Unwatch number) ts = refl
  behind_moved Begin ts = refl
  behind_moved Commit ts = refl
  behind_moved Rollback ts = refl

  front_moved : (ts : List Token) (s : StatementView) (used : ℕ) → 0 < used → used ≤ length ts
      → is_long_front (u ++ y) (moved_tail (length u) tail) (all_moved (length u) ts) s used ≡ is_long_front y tail ts s used
  front_moved ts s used some within =
      let k = length u in
      let mt = moved_tail k tail in
      let own : is_long (begin_of mt (all_moved k ts)) (end_of (all_moved k ts) used) ≡ is_long (begin_of tail ts) (end_of ts used) =
      ap (λ (n : ℕ). is_long n (end_of (all_moved k ts) used)) (begin_moved k tail ts)
      ∙ ap (is_long (k + begin_of tail ts)) (end_at_moved k ts (used - 1) (omega (arith, some, within))) ∙ long_moved k (begin_of tail ts) (end_of ts used) in
      let behind : is_long_behind (u ++ y) mt (drop used (all_moved k ts)) s ≡ is_long_behind y tail (drop used ts) s =
      ap (λ (l : List Token). is_long_behind (u ++ y) mt l s) (drop-map (moved_token k) used ts) ∙ behind_moved s (drop used ts) in
      ap (λ (b : Bool). b || is_long_behind (u ++ y) mt (drop used (all_moved k ts)) s) own ∙ ap (λ (b : Bool). is_long (begin_of tail ts) (end_of ts used) || b) behind

  -- ---- too long, in all bytes and alone

  module _ (ts : List Token) where
    pub long_behind_up : IsLong y tail ts → IsLong (u ++ y) (moved_tail (length u) tail) (all_moved (length u) ts)
    long_behind_up (whole s used f long) =
        whole s used (subst (λ (l : List Lexeme). IsFront true l s used) (sym (lexemes_moved u y ts)) f)
        (front_moved ts s used (front_some true (lexemes y ts) s used f) (front_within y true ts s used f) ∙ long)
    long_behind_up (part at le nf first long) =
        part at (omega (arith, le, length-map ts (moved_token (length u)))) (subst (NoFront true) (sym (lexemes_moved u y ts)) nf)
        (subst (λ (l : List Lexeme). FirstFault l at) (sym (lexemes_moved u y ts)) first) (known_long ts at ∙ long)

    pub long_behind_down : IsLong (u ++ y) (moved_tail (length u) tail) (all_moved (length u) ts) → IsLong y tail ts
    long_behind_down (whole s used f long) =
        let g = subst (λ (l : List Lexeme). IsFront true l s used) (lexemes_moved u y ts) f in
        whole s used g (sym (front_moved ts s used (front_some true (lexemes y ts) s used g) (front_within y true ts s used g)) ∙ long)
    long_behind_down (part at le nf first long) =
        part at (omega (arith, le, length-map ts (moved_token (length u)))) (subst (NoFront true) (lexemes_moved u y ts) nf)
        (subst (λ (l : List Lexeme). FirstFault l at) (lexemes_moved u y ts) first) (sym (known_long ts at) ∙ long)
