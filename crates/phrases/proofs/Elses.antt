-- One where its first token comes, else the other, which may begin with that token too but doesn't get it.
use Rattle.std.proofs.Common.{◌≡◌, ◌++◌, ◌∷◌, [], ◌<◌, List, Bool, true, false, Ok, Err, refl, ap, ◌∙◌, sym, cond, inl, inr, arith, length}
use Rattle.phrases.specs.Reading.{Read, next, test, starts, either}
use Rattle.phrases.specs.Phrases.{Begins}
use Rattle.phrases.specs.Reads.{Reads, OrElse}
use Rattle.phrases.proofs.ReadersLaws.{next_same, yes, no, chosen}

module _ {Tok A : Type 0} (c g : Tok → Bool) (S T : List Tok → A → Type 0) (p q : List Tok → Read Tok A) (rp : Reads c S p) (rq : Reads c T q)
    (begins : (front us : List Tok) (a : A) → S front a → starts g (front ++ us) ≡ true)
    (long : (front : List Tok) (a : A) → T front a → 0 < length front) where
  left_way : (us : List Tok) → starts g us ≡ true → either g p q us ≡ p us
  left_way us h = ap (λ (b : Bool). cond b (p us) (q us)) h

  right_way : (us : List Tok) → starts g us ≡ false → either g p q us ≡ q us
  right_way us h = ap (λ (b : Bool). cond b (p us) (q us)) h

  same_test : (front ts us vs : List Tok) → ts ≡ front ++ vs → next us ≡ next vs → starts g (front ++ us) ≡ starts g ts
  same_test front ts us vs w n = ap (test g) (next_same front us vs n ∙ sym (ap next w))

  alone : (front us : List Tok) → 0 < length front → starts g front ≡ starts g (front ++ us)
  alone [] us h = absurd (omega arith)
  alone (t ∷ front) us h = refl

  right_begins : (front e : List Tok) → starts g (front ++ e) ≡ false → Begins T front → Begins (OrElse g S T) front
  right_begins [] e h b = record { more = rp.some.more; value = rp.some.value; spelled = inl rp.some.spelled }
  right_begins (t ∷ front) e h b = record { more = b.more; value = b.value; spelled = inr (b.spelled, h) }

  pub else-reads : Reads c (OrElse g S T) (either g p q)
  else-reads = record {
    takes = λ ts rest a h. elim (chosen (starts g ts) (p ts) (q ts) (Ok (a, rest)) h) [
      | yes b k ↦ (let t = rp.takes ts rest a k in record {
        front = t.front;
        whole = t.whole;
        spelled = inl t.spelled;
        again = λ us n. left_way (t.front ++ us) (same_test t.front ts us rest t.whole n ∙ b) ∙ t.again us n;
      })
      | no b k ↦ (let t = rq.takes ts rest a k in record {
        front = t.front;
        whole = t.whole;
        spelled = inr (t.spelled, alone t.front rest (long t.front a t.spelled) ∙ sym (ap (starts g) t.whole) ∙ b);
        again = λ us n. right_way (t.front ++ us) (same_test t.front ts us rest t.whole n ∙ b) ∙ t.again us n;
      })
    ];
    stops = λ ts e h. elim (chosen (starts g ts) (p ts) (q ts) (Err e) h) [
      | yes b k ↦ (let t = rp.stops ts e k in record {
        front = t.front;
        whole = t.whole;
        begins = record { more = t.begins.more; value = t.begins.value; spelled = inl t.begins.spelled };
        first = λ us some n. left_way (t.front ++ us) (same_test t.front ts us e t.whole n ∙ b) ∙ t.first us some n;
      })
      | no b k ↦ (let t = rq.stops ts e k in record {
        front = t.front;
        whole = t.whole;
        begins = right_begins t.front e (sym (ap (starts g) t.whole) ∙ b) t.begins;
        first = λ us some n. right_way (t.front ++ us) (same_test t.front ts us e t.whole n ∙ b) ∙ t.first us some n;
      })
    ];
    reads = λ front us a s h. elim s [
      | inl s ↦ left_way (front ++ us) (begins front us a s) ∙ rp.reads front us a s h
      | inr s ↦ right_way (front ++ us) (sym (alone front us (long front a s.0)) ∙ s.1) ∙ rq.reads front us a s.0 h
    ];
    some = record { more = rp.some.more; value = rp.some.value; spelled = inl rp.some.spelled };
  }
