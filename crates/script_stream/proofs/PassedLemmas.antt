-- What comes of bytes behind white space and comments.
use Rattle.std.proofs.Common.{◌≡◌, ◌+◌, ◌++◌, ℕ, List, [], Bool, true, false, refl, sym, ap, subst, ◌∙◌, take, drop, length, arith, append_assoc}
use Rattle.std.proofs.Math.Seq.{drop-append-add}
use Rattle.std.proofs.lemmas.List.{length-take-le, take-append-drop}
use Rattle.statements.specs.Views.{StatementView}
use Rattle.bidel_script.specs.Tails.{first_byte, is_open_behind}
use Rattle.bidel_script.specs.Script.{Comes, Outcome, Over, Fault, Long, Open}
use Rattle.bidel_script.specs.Moved.{ComesBehind, moved}
use Rattle.bidel_script.proofs.CutLaws.{fronts_come_first}
use Rattle.bidel_script.proofs.BlanksLaws.{blanks_go, comes_behind_blanks, passed_front, passed_within}

pub moved_again : (a b c : ℕ) (o : Outcome) → a + b ≡ c → moved a (moved b o) ≡ moved c o
moved_again a b c Over e = refl
moved_again a b c (Fault at) e = let f : a + (b + at) ≡ c + at = omega (arith, e) in ap (λ (n : ℕ). Fault n) f
moved_again a b c Long e = refl
moved_again a b c Open e = refl

pub moved_none : (o : Outcome) → moved 0 o ≡ o
moved_none Over = refl
moved_none (Fault at) = let e : 0 + at ≡ at = omega arith in ap (λ (n : ℕ). Fault n) e
moved_none Long = refl
moved_none Open = refl

-- ---- white space and comments in front

nothing_first : (inside : Bool) → first_byte inside 0 [] ≡ 0
unfolding first_byte
nothing_first true = refl
nothing_first false = refl

-- what comes of bytes, where they are none if a comment is open before them
pub comes_here : (inside : Bool) (bytes : List ℕ) → (inside ≡ true → bytes ≡ []) → (ended : Bool) (sts : List StatementView) (o : Outcome) → Comes bytes ended sts o → ComesBehind inside bytes ended sts o
comes_here false bytes none ended sts o c = comes_behind_blanks bytes ended sts o c
comes_here true bytes none ended sts o c =
    let e = none refl in
    let n : first_byte true 0 bytes ≡ 0 = ap (first_byte true 0) e ∙ nothing_first true in (
      o,
      sym (ap (λ (k : ℕ). moved k o) n ∙ moved_none o),
      subst (λ (k : ℕ). Comes (drop k bytes) ended sts o) (sym n) c,
    )

-- the statements of bytes are the first of those that come as they go on
pub front_behind : (inside : Bool) (bytes more : List ℕ) → (inside ≡ true → bytes ≡ []) → (ended : Bool) (own all : List StatementView) (o other : Outcome) → Comes bytes false own o
    → ComesBehind inside (bytes ++ more) ended all other → (rest : List StatementView) × (all ≡ own ++ rest)
front_behind false bytes more none ended own all o other c d = fronts_come_first bytes more ended own all o other c (blanks_go (bytes ++ more) ended all other d)
front_behind true bytes more none ended own all o other c d =
    fronts_come_first [] (drop (first_byte true 0 (bytes ++ more)) (bytes ++ more)) ended own all o d.0 (subst (λ (l : List ℕ). Comes l false own o) (none refl) c) d.2

-- what comes of bytes as they go on comes of them before the first byte that counts
pub comes_passed : (inside : Bool) (bytes kept more : List ℕ) → kept ≡ drop (first_byte inside 0 bytes) bytes → (ended : Bool) (sts : List StatementView) (o : Outcome)
    → ComesBehind (is_open_behind inside bytes) (kept ++ more) ended sts o → ComesBehind inside (bytes ++ more) ended sts (moved (first_byte inside 0 bytes) o)
comes_passed inside bytes kept more same ended sts o c =
    let n = first_byte inside 0 bytes in
    let m = first_byte (is_open_behind inside bytes) 0 (kept ++ more) in
    let blank = take n bytes in
    let all : first_byte inside 0 (bytes ++ more) ≡ n + m = passed_front inside bytes more ∙ ap (λ (l : List ℕ). n + first_byte (is_open_behind inside bytes) 0 (l ++ more)) (sym same) in
    let size : length blank ≡ n = length-take-le n bytes (passed_within inside bytes) in
    let split : bytes ++ more ≡ blank ++ (kept ++ more) =
    ap (λ (l : List ℕ). l ++ more) (sym (take-append-drop n bytes)) ∙ append_assoc blank (drop n bytes) more ∙ ap (λ (l : List ℕ). blank ++ (l ++ more)) (sym same) in
    let behind : drop (first_byte inside 0 (bytes ++ more)) (bytes ++ more) ≡ drop m (kept ++ more) =
    ap (λ (k : ℕ). drop k (bytes ++ more)) (all ∙ ap (λ (k : ℕ). k + m) (sym size)) ∙ ap (drop (length blank + m)) split ∙ drop-append-add blank (kept ++ more) m in (
      c.0,
      ap (moved n) c.1 ∙ moved_again n m (first_byte inside 0 (bytes ++ more)) c.0 (sym all),
      subst (λ (l : List ℕ). Comes l ended sts c.0) (sym behind) c.2,
    )
