-- The form of a word that clap reads as a long name.
use Rattle.std.specs.Prelude.{◌==◌, option_and_then}
use Rattle.std.specs.List.{after_first, before_first, list_any, position_or_len}
use Rattle.std.proofs.Common.{◌≡◌, ℕ, suc, ◌+◌, Bool, true, false, [], ◌∷◌, ◌++◌, Option, Some, None, codes, refl, sym, ap, ◌∙◌, arith}
use Rattle.std.proofs.lemmas.Bool.Decides.{nat_tests}
use Rattle.clap.specs.Walk.{Text}
use Rattle.clap.specs.Lexer.{long_of, long_of_rest, name_and_value, strip_byte}

one_more : (n : ℕ) → 1 + n ≡ suc n
one_more n = omega arith

one_behind : (n : ℕ) → suc n + 1 ≡ suc (n + 1)
one_behind n = omega arith

-- a list, parted at the first byte of a kind that it has
parted : (bytes : Text) → list_any (λ x. x == 61) bytes ≡ true → bytes ≡ before_first (λ x. x == 61) bytes ++ 61 ∷ after_first (λ x. x == 61) bytes
parted [] e = cc
parted (b ∷ bytes) e = go (parted bytes) (b == 61) refl
  where
    go : (list_any (λ x. x == 61) bytes ≡ true → bytes ≡ before_first (λ x. x == 61) bytes ++ 61 ∷ after_first (λ x. x == 61) bytes)
        → (t : Bool) → (b == 61) ≡ t → b ∷ bytes ≡ before_first (λ x. x == 61) (b ∷ bytes) ++ 61 ∷ after_first (λ x. x == 61) (b ∷ bytes)
    go behind true is = let here : b ≡ 61 = grind (arith, nat_tests) in rw is (ap (λ n. n ∷ bytes) here)
    go behind false is = rw (is, one_more (position_or_len (λ x. x == 61) bytes), one_behind (position_or_len (λ x. x == 61) bytes)) (ap (λ bs. b ∷ bs) (behind (rw is at e)))

whole : (bytes : Text) → list_any (λ x. x == 61) bytes ≡ false → before_first (λ x. x == 61) bytes ≡ bytes
whole [] e = refl
whole (b ∷ bytes) e = go (whole bytes) (b == 61) refl
  where
    go : (list_any (λ x. x == 61) bytes ≡ false → before_first (λ x. x == 61) bytes ≡ bytes) → (t : Bool) → (b == 61) ≡ t → before_first (λ x. x == 61) (b ∷ bytes) ≡ b ∷ bytes
    go behind true is = let clash : true ≡ false = rw is at e in cc
    go behind false is = rw (is, one_more (position_or_len (λ x. x == 61) bytes)) (ap (λ bs. b ∷ bs) (behind (rw is at e)))

-- a word with a long name begins with two hyphens
long_word : (word : Text) (named : Text × Option Text) → long_of word ≡ Some named → (rest : Text) × (word ≡ 45 ∷ 45 ∷ rest) × (name_and_value rest ≡ named)
long_word [] named long = cc
long_word (a ∷ bytes) named long = go (a == 45) refl bytes long
  where
    go : (t : Bool) → (a == 45) ≡ t → (bs : Text) → long_of (a ∷ bs) ≡ Some named → (rest : Text) × (a ∷ bs ≡ 45 ∷ 45 ∷ rest) × (name_and_value rest ≡ named)
    go false e bs l = let clash : None ≡ Some named = rw e at l in cc
    go true e [] l = let clash : None ≡ Some named = rw e at l in cc
    go true e (b ∷ bs) l = then (b == 45) refl bs (rw e at l)
      where
        then : (t : Bool) → (b == 45) ≡ t → (cs : Text) → option_and_then long_of_rest (strip_byte 45 (b ∷ cs)) ≡ Some named
            → (rest : Text) × (a ∷ b ∷ cs ≡ 45 ∷ 45 ∷ rest) × (name_and_value rest ≡ named)
        then false f cs m = let clash : None ≡ Some named = rw f at m in cc
        then true f [] m = let clash : None ≡ Some named = rw f at m in cc
        then true f (c ∷ cs) m =
            let first : a ≡ 45 = grind (arith, nat_tests) in
            let second : b ≡ 45 = grind (arith, nat_tests) in
            let named_is : Some (name_and_value (c ∷ cs)) ≡ Some named = rw f at m in
            (c ∷ cs, ap (λ n. n ∷ b ∷ c ∷ cs) first ∙ ap (λ n. 45 ∷ n ∷ c ∷ cs) second, cc)

-- `--name`
pub apart_word : (word name : Text) → long_of word ≡ Some (name, None) → word ≡ codes "--" ++ name
apart_word word name long =
    let l = long_word word (name, None) long in
    go (list_any (λ x. x == 61) l.0) l.0 refl l.1 l.2
  where
    go : (t : Bool) → (rest : Text) → list_any (λ x. x == 61) rest ≡ t → word ≡ 45 ∷ 45 ∷ rest → name_and_value rest ≡ (name, None) → word ≡ codes "--" ++ name
    go true rest has is named = let clash : Some (after_first (λ x. x == 61) rest) ≡ None = ap (λ n. n.1) (rw has at named) in cc
    go false rest has is named = is ∙ ap (λ r. 45 ∷ 45 ∷ r) (sym (whole rest has) ∙ ap (λ n. n.0) named)

-- `--name=value`
pub joined_word : (word name value : Text) → long_of word ≡ Some (name, Some value) → word ≡ codes "--" ++ (name ++ (codes "=" ++ value))
joined_word word name value long =
    let l = long_word word (name, Some value) long in
    go (list_any (λ x. x == 61) l.0) l.0 refl l.1 l.2
  where
    go : (t : Bool) → (rest : Text) → list_any (λ x. x == 61) rest ≡ t → word ≡ 45 ∷ 45 ∷ rest → name_and_value rest ≡ (name, Some value) → word ≡ codes "--" ++ (name ++ (codes "=" ++ value))
    go false rest has is named = let clash : None ≡ Some value = ap (λ n. n.1) (rw has at named) in cc
    go true rest has is named =
        let value_is : Some (after_first (λ x. x == 61) rest) ≡ Some value = ap (λ n. n.1) (rw has at named) in
        let after_is : after_first (λ x. x == 61) rest ≡ value = cc in
        is ∙ ap (λ r. 45 ∷ 45 ∷ r) (parted rest has ∙ ap (λ n. n ++ 61 ∷ after_first (λ x. x == 61) rest) (ap (λ n. n.0) named) ∙ ap (λ v. name ++ 61 ∷ v) after_is)
