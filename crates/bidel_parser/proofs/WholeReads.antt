-- All the tokens together, as one phrase.
use Rattle.std.proofs.Common.{◌≡◌, ◌≢◌, ◌++◌, ◌∷◌, [], List, Bool, Ok, Err, refl, ap, append-nil, append_assoc, ◌∙◌, sym, subst}
use Rattle.std.specs.Prelude.{Some}
use Rattle.phrases.specs.Reading.{Read, next}
use Rattle.phrases.specs.Reads.{Reads, FaultAt}
use Rattle.phrases.proofs.ReadersLaws.{same_answer}

module _ {Tok A : Type 0} (c : Tok → Bool) (S : List Tok → A → Type 0) (p : List Tok → Read Tok A) (r : Reads c S p) where
  pub exact_read : (ts : List Tok) (a : A) → p ts ≡ Ok (a, []) → S ts a
  exact_read ts a h = let t = r.takes ts [] a h in subst (λ (l : List Tok). S l a) (sym (t.whole ∙ append-nil t.front)) t.spelled

  pub exact_spelled : (ts : List Tok) (a : A) → S ts a → p ts ≡ Ok (a, [])
  exact_spelled ts a s = ap p (sym (append-nil ts)) ∙ r.reads ts [] a s refl

  clash : (front more : List Tok) (t : Tok) (b : A) → S ((front ++ t ∷ []) ++ more) b → ((us : List Tok) → next us ≡ Some t → (b : A) → p (front ++ us) ≡ Ok (b, []) → ⊥) → ⊥
  clash front more t b s refuse = refuse (t ∷ more) refl b (ap p (sym (append_assoc front (t ∷ []) more)) ∙ exact_spelled ((front ++ t ∷ []) ++ more) b s)

  -- a fault of the reader
  pub fault_stops : (ts e : List Tok) → p ts ≡ Err e → FaultAt S ts e
  fault_stops ts e h = let t = r.stops ts e h in record {
    front = t.front;
    whole = t.whole;
    begins = t.begins;
    first = λ x rest is b. clash t.front b.more x b.value b.spelled (λ us n v k. let stop = t.first us (λ none. (let bad = sym none ∙ is in cc)) (n ∙ sym (ap next is)) in cc);
  }

  -- tokens left over
  pub fault_left : (ts e : List Tok) (a : A) → e ≢ [] → p ts ≡ Ok (a, e) → FaultAt S ts e
  fault_left ts e a some h = let t = r.takes ts e a h in record {
    front = t.front;
    whole = t.whole;
    begins = record { more = []; value = a; spelled = subst (λ (l : List Tok). S l a) (sym (append-nil t.front)) t.spelled };
    first = λ x rest is b. clash t.front b.more x b.value b.spelled (λ us n v k.
        let go = t.again us (n ∙ sym (ap next is)) in
        let same = same_answer (a, us) (v, []) (sym go ∙ k) in
        let none : us ≡ [] = ap (λ q. q.1) same in
        let bad = sym (ap next none) ∙ n in cc);
  }
