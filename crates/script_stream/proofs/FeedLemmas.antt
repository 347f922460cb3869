-- What an input holds as pieces come.
use Rattle.std.proofs.Common.{◌≡◌, ◌+◌, ◌-◌, ◌++◌, ℕ, List, [], Bool, false, refl, sym, ap, subst, ◌∙◌, take, drop, length, arith, append_assoc, append-nil, length-append, length-drop}
use Rattle.std.proofs.lemmas.List.{length-take-le, take-append-drop}
use Rattle.bidel_lex.specs.declared.tokens.Token.{Token}
use Rattle.bidel_lex.specs.declared.tokens.Lexed.TheVariants as lexed
use Rattle.bidel_lex.specs.Next.{lexed_at, next_of}
use Rattle.bidel_script.specs.declared.tokens.Tail.{Tail}
use Rattle.statements.specs.Views.{StatementView}
use Rattle.bidel_script.specs.Places.{Place, behind_all, start}
use Rattle.bidel_script.specs.Tails.{AreAll, Fits, first_byte, is_open_behind}
use Rattle.bidel_script.specs.Script.{Comes, Outcome}
use Rattle.bidel_script.specs.Moved.{ComesBehind, end_behind, moved}
use Rattle.bidel_script.specs.Calls.{place_view}
use Rattle.bidel_script.proofs.BlanksLaws.{blanks_go, passed_all, passed_within}
use Rattle.bidel_script.proofs.PlaceLaws.{behind_all-append}
use Rattle.script_stream.specs.declared.input.Input.{Input}
use Rattle.script_stream.specs.Holding.{Holds, IsInput}
use Rattle.script_stream.specs.declared.input.Kept.{Kept}
use Rattle.script_stream.specs.Calls.{IsKept, Refilled}
use Rattle.script_stream.proofs.PassedLemmas.{comes_passed, moved_again, moved_none}
use Rattle.script_stream.proofs.HoldLaws.{comes_used, end_within, going_on}

-- ---- pieces

-- the bytes behind those of the statements that were given, and a piece more
abbrev pub left_with : Input → List ℕ → List ℕ
left_with old piece = drop (end_behind old.tokens.items old.used) old.bytes.items ++ piece

-- the bytes of the statements that were given went, a piece came, and white space and comments went
pub record Fresh (old : Input) (piece : List ℕ) (kept : Kept) (new : Input) : Type 0 where
  pub behind : Place
  pub gone : behind ≡ behind_all (place_view old.place) (take (end_behind old.tokens.items old.used) old.bytes.items)
  pub is_kept : IsKept (left_with old piece) old.inside behind kept
  pub bytes : new.bytes.items ≡ kept.bytes.items
  pub inside : new.inside ≡ kept.inside
  pub all : AreAll new.bytes.items new.ended new.tokens.items new.tail
  pub fits : Fits new.bytes.items new.tail
  pub used : new.used ≡ 0
  pub before : new.before ≡ old.before + end_behind old.tokens.items old.used + kept.passed
  pub place : place_view new.place ≡ place_view kept.place

module _ (fed : List ℕ) (given : List StatementView) (old new : Input) (piece : List ℕ) (kept : Kept) (f : Fresh old piece kept new) (h : Holds fed given old) (wants : old.tail.last ≡ lexed.More) where
  abbrev k : ℕ
  k = end_behind old.tokens.items old.used

  -- the bytes that are left, with the piece, and how many of them are white space and comments
  abbrev left : List ℕ
  left = left_with old piece

  abbrev n : ℕ
  n = first_byte old.inside 0 left

  abbrev used : List ℕ
  used = take k old.bytes.items

  abbrev blank : List ℕ
  blank = take n left

  abbrev gone : List ℕ
  gone = h.before ++ (used ++ blank)

  kept_bytes : new.bytes.items ≡ drop n left
  kept_bytes = f.bytes ∙ f.is_kept.bytes

  used_size : length used ≡ k
  used_size = length-take-le k old.bytes.items (end_within fed given old h)

  blank_size : length blank ≡ n
  blank_size = length-take-le n left (passed_within old.inside left)

  gone_size : length gone ≡ length h.before + (k + n)
  gone_size = omega (arith, used_size, blank_size, length-append h.before (used ++ blank), length-append used blank)

  -- all bytes, in parts
  parts : (more : List ℕ) → h.before ++ (old.bytes.items ++ (piece ++ more)) ≡ gone ++ (new.bytes.items ++ more)
  parts more =
      let kept : List ℕ = drop k old.bytes.items in
      let own : old.bytes.items ++ (piece ++ more) ≡ used ++ (left ++ more) =
      ap (λ (l : List ℕ). l ++ (piece ++ more)) (sym (take-append-drop k old.bytes.items)) ∙ append_assoc used kept (piece ++ more)
      ∙ ap (λ (l : List ℕ). used ++ l) (sym (append_assoc kept piece more)) in
      let rest : left ++ more ≡ blank ++ (new.bytes.items ++ more) =
      ap (λ (l : List ℕ). l ++ more) (sym (take-append-drop n left)) ∙ append_assoc blank (drop n left) more ∙ ap (λ (l : List ℕ). blank ++ (l ++ more)) (sym kept_bytes) in
      ap (λ (l : List ℕ). h.before ++ l) (own ∙ ap (λ (l : List ℕ). used ++ l) rest ∙ sym (append_assoc used blank (new.bytes.items ++ more)))
      ∙ sym (append_assoc h.before (used ++ blank) (new.bytes.items ++ more))

  follow : (more : List ℕ) (ended : Bool) (rest : List StatementView) (o : Outcome) → ComesBehind new.inside (new.bytes.items ++ more) ended rest o
      → Comes (gone ++ (new.bytes.items ++ more)) ended (given ++ rest) (moved (length gone) o)
  follow more ended rest o c =
      let b = old.bytes.items in
      let open' : new.inside ≡ is_open_behind old.inside left = f.inside ∙ f.is_kept.inside in
      let kept : ComesBehind old.inside (left ++ more) ended rest (moved n o) =
      comes_passed old.inside left new.bytes.items more kept_bytes ended rest o (subst (λ (x : Bool). ComesBehind x (new.bytes.items ++ more) ended rest o) open' c) in
      let one : ComesBehind old.inside (b ++ (piece ++ more)) ended (h.later ++ rest) (moved k (moved n o)) =
      comes_used fed given old h (piece ++ more) (going_on fed given old h wants) wants ended rest (moved n o)
      (subst (λ (l : List ℕ). ComesBehind old.inside l ended rest (moved n o)) (append_assoc (drop k b) piece more) kept) in
      let two = h.follows (piece ++ more) ended (h.later ++ rest) (moved k (moved n o)) one in
      let sts : h.early ++ (h.later ++ rest) ≡ given ++ rest = sym (append_assoc h.early h.later rest) ∙ ap (λ (l : List StatementView). l ++ rest) (sym h.statements) in
      let out : moved (length h.before) (moved k (moved n o)) ≡ moved (length gone) o =
      ap (moved (length h.before)) (moved_again k n (k + n) o refl) ∙ moved_again (length h.before) (k + n) (length gone) o (sym gone_size) in
      subst (λ (x : Outcome). Comes (gone ++ (new.bytes.items ++ more)) ended (given ++ rest) x) out
      (subst (λ (l : List StatementView). Comes (gone ++ (new.bytes.items ++ more)) ended l (moved (length h.before) (moved k (moved n o)))) sts
      (subst (λ (l : List ℕ). Comes l ended (h.early ++ (h.later ++ rest)) (moved (length h.before) (moved k (moved n o)))) (parts more) two))

  refill : Holds (fed ++ piece) given new
  refill = record {
    before = gone;
    early = given;
    later = [];
    bytes = ap (λ (l : List ℕ). l ++ piece) h.bytes ∙ append_assoc h.before old.bytes.items piece
        ∙ ap (λ (l : List ℕ). h.before ++ (old.bytes.items ++ l)) (sym (append-nil piece)) ∙ parts [] ∙ ap (λ (l : List ℕ). gone ++ l) (append-nil new.bytes.items);
    statements = sym (append-nil given);
    follows = follow;
    none = λ e. kept_bytes ∙ passed_all old.inside left (sym (f.inside ∙ f.is_kept.inside) ∙ e);
    size = omega (arith, f.before, f.is_kept.passed, h.size, gone_size);
    place = f.place ∙ f.is_kept.place ∙ ap (λ (p : Place). behind_all p blank) (f.gone ∙ ap (λ (p : Place). behind_all p used) h.place)
        ∙ sym (ap (λ (p : Place). behind_all p blank) (behind_all-append start h.before used)) ∙ sym (behind_all-append start (h.before ++ used) blank)
        ∙ ap (behind_all start) (append_assoc h.before used blank);
    all = f.all;
    fits = f.fits;
    leads = f.used;
  }

pub refills : (old new : Input) (piece : List ℕ) (kept : Kept) → IsInput old → Fresh old piece kept new → Refilled old piece new.ended new
refills old new piece kept is f =
    let k = end_behind old.tokens.items old.used in
    let n = first_byte old.inside 0 (left_with old piece) in
    let none : end_behind new.tokens.items new.used ≡ 0 = ap (end_behind new.tokens.items) f.used in
    let size : length new.bytes.items ≡ length (left_with old piece) - n = ap length (f.bytes ∙ f.is_kept.bytes) ∙ length-drop n (left_with old piece) in
    record {
      holds = λ wants fed given h. refill fed given old new piece kept f h wants;
      ends = refl;
      size = omega (arith, f.before, f.is_kept.passed, size, passed_within old.inside (left_with old piece), length-append (drop k old.bytes.items) piece, length-drop k old.bytes.items, end_within is.0 is.1 old is.2);
      place = omega (arith, f.before, none);
    }

-- ---- nothing was fed

-- the input to which nothing was fed
pub holds_none : (s : Input) → s.bytes.items ≡ [] → s.tokens.items ≡ [] → s.tail ≡ record { last = lexed.More; begun = 0 } → s.used ≡ 0 → s.before ≡ 0 → s.ended ≡ false
    → s.inside ≡ false → place_view s.place ≡ start → Holds [] [] s
unfolding next_of lexed_at first_byte behind_all
holds_none s bytes tokens tail used before ended inside place = record {
  before = [];
  early = [];
  later = [];
  bytes = sym bytes;
  statements = refl;
  follows = λ more e rest o c.
      subst (λ (x : Outcome). Comes (s.bytes.items ++ more) e rest x) (sym (moved_none o))
      (blanks_go (s.bytes.items ++ more) e rest o (subst (λ (x : Bool). ComesBehind x (s.bytes.items ++ more) e rest o) inside c));
  none = λ e. bytes;
  size = before;
  place = place;
  all = subst (λ (l : List ℕ). AreAll l s.ended s.tokens.items s.tail) (sym bytes) (subst (λ (b : Bool). AreAll [] b s.tokens.items s.tail) (sym ended)
      (subst (λ (l : List Token). AreAll [] false l s.tail) (sym tokens) (subst (λ (t : Tail). AreAll [] false [] t) (sym tail) (record { found = (refl, refl); begun = refl }))));
  fits = subst (λ (t : Tail). Fits s.bytes.items t) (sym tail) (record { none = refl; within = λ at e. let bad : lexed.More ≡ lexed.BadToken at = e in cc });
  leads = used;
}
