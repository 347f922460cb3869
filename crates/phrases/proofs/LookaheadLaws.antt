-- Items that are known by their first token or by their first two.
use Rattle.std.proofs.Common.{◌≡◌, ◌≢◌, ◌++◌, ◌∷◌, [], ℕ, zero, suc, take, ◌≤◌, List, Bool, true, false, Ok, Err, refl, ap, ◌∙◌, ◌<◌, ◌+◌, length, arith}
use Rattle.std.specs.Prelude.{Some, not, ◌||◌, ◌&&◌}
use Rattle.std.proofs.lemmas.Bool.{or_parts, or_left}
use Rattle.phrases.specs.Reading.{Read, next, none, many_at, begins_item}
use Rattle.phrases.specs.Phrases.{Many}
use Rattle.phrases.specs.Reads.{Reads, ReadsLast}
use Rattle.phrases.proofs.LastsLaws.{many-last}

-- how an item begins
pub data Begun {Tok : Type 0} (one two : Tok → Bool) (both : Tok → Tok → Bool) (front : List Tok) : Type 0 where
  by_one : (t : Tok) (us : List Tok) → front ≡ t ∷ us → one t ≡ true → Begun one two both front
  by_two : (t u : Tok) (us : List Tok) → front ≡ t ∷ u ∷ us → two t ≡ true → both t u ≡ true → Begun one two both front

-- behind these tokens the item goes on with this one
pub record GoesOn {Tok A : Type 0} (item : List Tok → Read Tok A) (front : List Tok) (t : Tok) : Type 0 where
  pub more : List Tok
  pub answer : A × List Tok
  pub starts' : next more ≡ Some t
  pub whole : item (front ++ more) ≡ Ok answer

both_true : (a b c : Bool) → b ≡ true → c ≡ true → (a || (b && c)) ≡ true
both_true true true true h k = refl
both_true false true true h k = refl
both_true a false c h k = cc
both_true a true false h k = cc

weaker : (a b c : Bool) → (a || (b && c)) ≡ true → (a || b) ≡ true
weaker true b c h = refl
weaker false true c h = refl
weaker false false c h = h

neither : (a b c : Bool) → a ≡ false → b ≡ false → (a || (b && c)) ≡ false
neither false false c h k = refl
neither true b c h k = cc
neither false true c h k = cc

not_both : (a b c : Bool) → a ≡ false → c ≡ false → (a || (b && c)) ≡ false
not_both false true false h k = refl
not_both false false c h k = refl
not_both true b c h k = cc
not_both false true true h k = cc

-- the first is so, or both the others are
pub data Shown (a b c : Bool) : Type 0 where
  at_once : a ≡ true → Shown a b c
  together : b ≡ true → c ≡ true → Shown a b c

shown : (a b c : Bool) → (a || (b && c)) ≡ true → Shown a b c
shown true b c h = at_once refl
shown false true true h = together refl refl
shown false true false h = cc
shown false false c h = cc

module _ {Tok A : Type 0} (one two : Tok → Bool) (both : Tok → Tok → Bool) (S : List Tok → A → Type 0) (item : List Tok → Read Tok A) (items : Reads none S item)
    (begun : (front : List Tok) (a : A) → S front a → Begun one two both front)
    (first : (t : Tok) → (one t || two t) ≡ true → GoesOn item [] t)
    (second : (t u : Tok) → two t ≡ true → both t u ≡ true → GoesOn item (t ∷ []) u) where
  abbrev knows : Bool → List Tok → Bool
  knows = begins_item one two both

  at_one : (ended : Bool) (t : Tok) (us : List Tok) → one t ≡ true → knows ended (t ∷ us) ≡ true
  at_one ended t [] h = or_left (one t) (two t && not ended) h
  at_one ended t (u ∷ us) h = or_left (one t) (two t && both t u) h

  knows_begun : (ended : Bool) (front us : List Tok) → Begun one two both front → knows ended (front ++ us) ≡ true
  knows_begun ended front us (by_one t vs e h) = ap (λ (l : List Tok). knows ended (l ++ us)) e ∙ at_one ended t (vs ++ us) h
  knows_begun ended front us (by_two t u vs e h k) = ap (λ (l : List Tok). knows ended (l ++ us)) e ∙ both_true (one t) (two t) (both t u) h k

  long_begun : (front : List Tok) → Begun one two both front → 0 < length front
  long_begun front (by_one t vs e h) = omega (arith, ap length e)
  long_begun front (by_two t u vs e h k) = omega (arith, ap length e)

  -- no fault stands at a token with which an item goes on
  no_fault : (front : List Tok) (t : Tok) → GoesOn item front t → ((vs : List Tok) → next vs ≡ Some t → item (front ++ vs) ≡ Err vs) → ⊥
  no_fault front t g f = let stop = f g.more g.starts' in let go = g.whole in cc

  weak : (ended : Bool) (t : Tok) (us : List Tok) → knows ended (t ∷ us) ≡ true → (one t || two t) ≡ true
  weak ended t [] h = weaker (one t) (two t) (not ended) h
  weak ended t (u ∷ us) h = weaker (one t) (two t) (both t u) h

  at_second : (ended later : Bool) (t u : Tok) (e us : List Tok) → Shown (one t) (two t) (both t u)
      → ((vs : List Tok) → next vs ≡ Some u → item (t ∷ vs) ≡ Err vs) → knows later (t ∷ us) ≡ true
  at_second ended later t u e us (at_once h) f = at_one later t us h
  at_second ended later t u e us (together h k) f = absurd (no_fault (t ∷ []) u (second t u h k) f)

  stays : (ended later : Bool) (front us e : List Tok) → knows ended (front ++ e) ≡ true
      → ((vs : List Tok) → next vs ≡ next e → item (front ++ vs) ≡ Err vs) → e ≢ [] → next us ≡ next e → knows later (front ++ us) ≡ true
  stays ended later [] us [] k f some n = absurd (some refl)
  stays ended later [] us (t ∷ e) k f some n = absurd (no_fault [] t (first t (weak ended t e k)) f)
  stays ended later (t ∷ []) us [] k f some n = absurd (some refl)
  stays ended later (t ∷ []) us (u ∷ e) k f some n = at_second ended later t u e us (shown (one t) (two t) (both t u) k) f
  stays ended later (t ∷ u ∷ front) us e k f some n = k

  -- { item }, up to where no item begins
  pub items-last : ReadsLast (λ _. knows) (Many S) (λ ended ts. many_at knows item ended (length ts + 1) ts)
  items-last = many-last knows S item items (λ ended. refl) (λ front a s. long_begun front (begun front a s))
      (λ ended front us a s. knows_begun ended front us (begun front a s)) stays

-- no item begins with a token of neither, nor with two tokens that don't go together
pub not_begun : {Tok : Type 0} (one two : Tok → Bool) (both : Tok → Tok → Bool) (ended : Bool) (t : Tok) (ts : List Tok)
    → one t ≡ false → two t ≡ false → begins_item one two both ended (t ∷ ts) ≡ false
not_begun one two both ended t [] h k = neither (one t) (two t) (not ended) h k
not_begun one two both ended t (u ∷ ts) h k = neither (one t) (two t) (both t u) h k

pub not_begun_both : {Tok : Type 0} (one two : Tok → Bool) (both : Tok → Tok → Bool) (ended : Bool) (t u : Tok) (ts : List Tok)
    → one t ≡ false → both t u ≡ false → begins_item one two both ended (t ∷ u ∷ ts) ≡ false
not_begun_both one two both ended t u ts h k = not_both (one t) (two t) (both t u) h k

shown_bool : (a b c : Bool) → (a || (b && true)) ≡ false → (a || (b && c)) ≡ false
shown_bool false false c h = refl
shown_bool true b c h = cc
shown_bool false true c h = cc

-- where tokens show that no item begins, they still do as more come
pub stays_shown : {Tok : Type 0} (one two : Tok → Bool) (both : Tok → Tok → Bool) (ended : Bool) (ts more : List Tok)
    → begins_item one two both false ts ≡ false → begins_item one two both ended (ts ++ more) ≡ false
stays_shown one two both ended [] more h = cc
stays_shown one two both ended (t ∷ []) [] h = shown_bool (one t) (two t) (not ended) h
stays_shown one two both ended (t ∷ []) (u ∷ more) h = shown_bool (one t) (two t) (both t u) h
stays_shown one two both ended (t ∷ u ∷ ts) more h = h

first_shown : {Tok : Type 0} (one two : Tok → Bool) (both : Tok → Tok → Bool) (t : Tok) (ts : List Tok) → begins_item one two both true (t ∷ ts) ≡ false → one t ≡ false
first_shown one two both t [] h = (or_parts (one t) (two t && false) h).0
first_shown one two both t (u ∷ ts) h = (or_parts (one t) (two t && both t u) h).0

-- the first tokens show it as all of them do, where they are more than one token of `two`
pub front_shown : {Tok : Type 0} (one two : Tok → Bool) (both : Tok → Tok → Bool) (ts more : List Tok) (n : ℕ) → 0 < n → n ≤ length ts
    → begins_item one two both true ts ≡ false → ((t : Tok) → take n ts ≡ t ∷ [] → two t ≡ false) → begins_item one two both true (take n ts ++ more) ≡ false
front_shown one two both ts more zero some lt h alone = absurd (omega arith)
front_shown one two both [] more (suc n) some lt h alone = absurd (omega arith)
front_shown one two both (t ∷ ts) more (suc zero) some lt h alone = not_begun one two both true t more (first_shown one two both t ts h) (alone t refl)
front_shown one two both (t ∷ []) more (suc (suc n)) some lt h alone = absurd (omega arith)
front_shown one two both (t ∷ u ∷ ts) more (suc (suc n)) some lt h alone = h
