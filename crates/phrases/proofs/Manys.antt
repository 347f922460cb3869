-- { item }, with no end of its own: it goes on as long as a token comes that begins an item.
use Rattle.std.proofs.Common.{◌≡◌, ◌≢◌, ◌++◌, ◌∷◌, [], ℕ, zero, suc, ◌+◌, ◌<◌, List, Bool, true, false, Ok, Err, refl, ap, append_assoc, append-nil, ◌∙◌, sym, subst, cond, arith, length, length-append}
use Rattle.phrases.specs.Reading.{Read, ◌>>=◌, and_then, next, test, starts, done, or, many_at, rest_at}
use Rattle.phrases.specs.Phrases.{Begins, Many}
use Rattle.phrases.specs.Reads.{Reads}
use Rattle.phrases.proofs.ReadersLaws.{bind_ok, bind_err, at_first, at_second, same_answer, next_same, Chosen, yes, no, chosen, starts_left, starts_right}

module _ {Tok A : Type 0} (ci g : Tok → Bool) (S : List Tok → A → Type 0) (item : List Tok → Read Tok A) (items : Reads ci S item)
    (begins : (front us : List Tok) (a : A) → S front a → starts g (front ++ us) ≡ true)
    (fresh : (t : Tok) → g t ≡ true → ci t ≡ false) where
  abbrev go : ℕ → List Tok → Read Tok (List A)
  go n = many_at (λ _. starts g) item true n

  abbrev rest_of : ℕ → A → List Tok → Read Tok (List A)
  rest_of n a = and_then (go n) λ as'. done (a ∷ as')

  long : (front : List Tok) (a : A) → S front a → 0 < length front
  long front a s = by front (begins front [] a s)
    where
      by : (front : List Tok) → starts g (front ++ []) ≡ true → 0 < length front
      by [] h = cc
      by (t ∷ front) h = omega arith

  -- what follows an item doesn't continue it
  clear_at : (us : List Tok) → starts g us ≡ true → starts ci us ≡ false
  clear_at [] h = refl
  clear_at (t ∷ us) h = fresh t h

  pub apart : (as' : List A) (front us : List Tok) → Many S front as' → starts (or g ci) us ≡ false → starts ci (front ++ us) ≡ false
  apart [] front us s h = ap (λ (l : List Tok). starts ci (l ++ us)) s ∙ starts_right g ci us h
  apart (a ∷ as') front us s h =
      ap (λ (l : List Tok). starts ci l) (ap (λ (l : List Tok). l ++ us) s.2 ∙ append_assoc s.0 s.1 us) ∙ clear_at (s.0 ++ (s.1 ++ us)) (begins s.0 (s.1 ++ us) a s.3)

  goes : (n : ℕ) (ts : List Tok) → starts g ts ≡ true → go (suc n) ts ≡ and_then item (rest_of n) ts
  unfolding many_at
  goes n ts h = ap (λ (b : Bool). cond b (and_then item (rest_of n) ts) (Ok ([], ts))) h

  ends : (n : ℕ) (ts : List Tok) → starts g ts ≡ false → go (suc n) ts ≡ Ok ([], ts)
  unfolding many_at
  ends n ts h = ap (λ (b : Bool). cond b (and_then item (rest_of n) ts) (Ok ([], ts))) h

  opened : (n : ℕ) (ts : List Tok) (z : Read Tok (List A)) → go (suc n) ts ≡ z → Chosen (starts g ts) (and_then item (rest_of n) ts) (Ok ([], ts)) z
  unfolding many_at
  opened n ts z h = chosen (starts g ts) (and_then item (rest_of n) ts) (Ok ([], ts)) z h

  -- with turns enough, whatever their number
  pub record ManyTakes (ts : List Tok) (as' : List A) (rest : List Tok) : Type 0 where
    pub front : List Tok
    pub whole : ts ≡ front ++ rest
    pub spelled : Many S front as'
    pub again : (m : ℕ) (us : List Tok) → length (front ++ us) < m → next us ≡ next rest → go m (front ++ us) ≡ Ok (as', us)

  pub record ManyStops (ts e : List Tok) : Type 0 where
    pub front : List Tok
    pub whole : ts ≡ front ++ e
    pub begun : Begins (Many S) front
    pub first : (m : ℕ) (us : List Tok) → length (front ++ us) < m → e ≢ [] → next us ≡ next e → go m (front ++ us) ≡ Err us

  -- an item, and what the further turns make of what follows
  one_more : (m : ℕ) (front right : List Tok) (a : A) (r : Read Tok (List A)) (z : Read Tok (List A)) → length (front ++ right) < m → 0 < length front
      → starts g (front ++ right) ≡ true → item (front ++ right) ≡ Ok (a, right)
      → ((n : ℕ) → length right < n → go n right ≡ r) → (r >>= λ y. done (a ∷ y.0) y.1) ≡ z → go m (front ++ right) ≡ z
  one_more zero front right a r z short some k i f h = absurd (omega arith)
  one_more (suc m) front right a r z short some k i f h =
      goes m (front ++ right) k ∙ ap (λ (q : Read Tok A). q >>= λ x. rest_of m x.0 x.1) i
      ∙ ap (λ (q : Read Tok (List A)). q >>= λ y. done (a ∷ y.0) y.1) (f m (omega (arith, length-append front right))) ∙ h

  takes_more : (ts us rest : List Tok) (a : A) (as' : List A) → item ts ≡ Ok (a, us) → ManyTakes us as' rest → ManyTakes ts (a ∷ as') rest
  takes_more ts us rest a as' h t =
      let s = items.takes ts us a h in
      record {
        front = s.front ++ t.front;
        whole = s.whole ∙ ap (λ (l : List Tok). s.front ++ l) t.whole ∙ sym (append_assoc s.front t.front rest);
        spelled = (s.front, t.front, refl, s.spelled, t.spelled);
        again = λ m vs short n. ap (go m) (append_assoc s.front t.front vs)
            ∙ one_more m s.front (t.front ++ vs) a (Ok (as', vs)) (Ok (a ∷ as', vs)) (subst (λ (l : List Tok). length l < m) (append_assoc s.front t.front vs) short) (long s.front a s.spelled)
            (begins s.front (t.front ++ vs) a s.spelled) (s.again (t.front ++ vs) (next_same t.front vs rest n ∙ sym (ap next t.whole))) (λ k shorter. t.again k vs shorter n) refl;
      }

  stops_more : (ts us e : List Tok) (a : A) → item ts ≡ Ok (a, us) → ManyStops us e → ManyStops ts e
  stops_more ts us e a h t =
      let s = items.takes ts us a h in
      record {
        front = s.front ++ t.front;
        whole = s.whole ∙ ap (λ (l : List Tok). s.front ++ l) t.whole ∙ sym (append_assoc s.front t.front e);
        begun = record { more = t.begun.more; value = a ∷ t.begun.value; spelled = (s.front, t.front ++ t.begun.more, append_assoc s.front t.front t.begun.more, s.spelled, t.begun.spelled) };
        first = λ m vs short some n. ap (go m) (append_assoc s.front t.front vs)
            ∙ one_more m s.front (t.front ++ vs) a (Err vs) (Err vs) (subst (λ (l : List Tok). length l < m) (append_assoc s.front t.front vs) short) (long s.front a s.spelled)
            (begins s.front (t.front ++ vs) a s.spelled) (s.again (t.front ++ vs) (next_same t.front vs e n ∙ sym (ap next t.whole))) (λ k shorter. t.first k vs shorter some n) refl;
      }

  stops_now : (ts e : List Tok) → starts g ts ≡ true → item ts ≡ Err e → ManyStops ts e
  stops_now ts e k h = let s = items.stops ts e h in record {
    front = s.front;
    whole = s.whole;
    begun = record { more = s.begins.more; value = s.begins.value ∷ []; spelled = (s.front ++ s.begins.more, [], sym (append-nil (s.front ++ s.begins.more)), s.begins.spelled, refl) };
    first = λ m us short some n. by m s.front us short (ap (test g) (next_same s.front us e n ∙ sym (ap next s.whole)) ∙ k) (s.first us some n);
  }
    where
      by : (m : ℕ) (front us : List Tok) → length (front ++ us) < m → starts g (front ++ us) ≡ true → item (front ++ us) ≡ Err us → go m (front ++ us) ≡ Err us
      by zero front us short b i = absurd (omega arith)
      by (suc m) front us short b i = goes m (front ++ us) b ∙ ap (λ (q : Read Tok A). q >>= λ x. rest_of m x.0 x.1) i

  takes_none : (ts rest : List Tok) (as' : List A) → starts g ts ≡ false → ([] ≡ as') × (ts ≡ rest) → ManyTakes ts as' rest
  takes_none ts rest as' b e = record {
    front = [];
    whole = e.1;
    spelled = subst (λ (l : List A). Many S [] l) e.0 refl;
    again = λ m us short n. by m us short (ap (test g) (n ∙ sym (ap next e.1)) ∙ b) ∙ ap (λ (l : List A). Ok (l, us)) e.0;
  }
    where
      by : (m : ℕ) (us : List Tok) → length us < m → starts g us ≡ false → go m us ≡ Ok ([], us)
      by zero us short h = absurd (omega arith)
      by (suc m) us short h = ends m us h

  many_takes : (n : ℕ) (ts rest : List Tok) (as' : List A) → length ts < n → go n ts ≡ Ok (as', rest) → ManyTakes ts as' rest
  many_takes zero ts rest as' short h = absurd (omega arith)
  many_takes (suc n) ts rest as' short h = elim (opened n ts (Ok (as', rest)) h) [
    | no b k ↦ (let e = same_answer ([], ts) (as', rest) k in takes_none ts rest as' b (ap (λ p. p.0) e, ap (λ p. p.1) e))
    | yes b k ↦ (let x = bind_ok (item ts) (λ x. rest_of n x.0 x.1) (as', rest) k in
        let s = items.takes ts x.0.1 x.0.0 x.1 in
        let y = bind_ok (go n x.0.1) (λ y. done (x.0.0 ∷ y.0) y.1) (as', rest) x.2 in
        let e = same_answer (x.0.0 ∷ y.0.0, y.0.1) (as', rest) y.2 in
        let shorter : length x.0.1 < n = omega (arith, ap length s.whole, length-append s.front x.0.1, long s.front x.0.0 s.spelled) in
        subst (λ (z : List A × List Tok). ManyTakes ts z.0 z.1) e (takes_more ts x.0.1 y.0.1 x.0.0 y.0.0 x.1 (many_takes n x.0.1 y.0.1 y.0.0 shorter y.1)))
  ]

  rest_err : (r : Read Tok (List A)) (a : A) (e : List Tok) → (r >>= λ y. done (a ∷ y.0) y.1) ≡ Err e → r ≡ Err e
  rest_err (Ok x) a e h = cc
  rest_err (Err d) a e h = h

  many_stops : (n : ℕ) (ts e : List Tok) → length ts < n → go n ts ≡ Err e → ManyStops ts e
  many_stops zero ts e short h = absurd (omega arith)
  many_stops (suc n) ts e short h = elim (opened n ts (Err e) h) [
    | no b k ↦ cc
    | yes b k ↦ elim (bind_err (item ts) (λ x. rest_of n x.0 x.1) e k) [
      | at_first i ↦ stops_now ts e b i
      | at_second x i k ↦ (let s = items.takes ts x.1 x.0 i in
          let shorter : length x.1 < n = omega (arith, ap length s.whole, length-append s.front x.1, long s.front x.0 s.spelled) in
          stops_more ts x.1 e x.0 i (many_stops n x.1 e shorter (rest_err (go n x.1) x.0 e k)))
    ]
  ]

  many_reads : (as' : List A) (m : ℕ) (front us : List Tok) → length (front ++ us) < m → Many S front as' → starts (or g ci) us ≡ false → go m (front ++ us) ≡ Ok (as', us)
  many_reads as' zero front us short s h = absurd (omega arith)
  many_reads [] (suc m) front us short s h = ap (λ (l : List Tok). go (suc m) (l ++ us)) s ∙ ends m us (starts_left g ci us h)
  many_reads (a ∷ as') (suc m) front us short s h =
      let whole : front ++ us ≡ s.0 ++ (s.1 ++ us) = ap (λ (l : List Tok). l ++ us) s.2 ∙ append_assoc s.0 s.1 us in
      ap (go (suc m)) whole
      ∙ one_more (suc m) s.0 (s.1 ++ us) a (Ok (as', us)) (Ok (a ∷ as', us)) (subst (λ (l : List Tok). length l < suc m) whole short) (long s.0 a s.3) (begins s.0 (s.1 ++ us) a s.3)
      (items.reads s.0 (s.1 ++ us) a s.3 (apart as' s.1 us s.4 h)) (λ k shorter. many_reads as' k s.1 us shorter s.4 h) refl

  pub many-reads : Reads (or g ci) (Many S) (rest_at g item)
  many-reads = record {
    takes = λ ts rest as' h. let t = many_takes (length ts + 1) ts rest as' (omega arith) h in record { front = t.front; whole = t.whole; spelled = t.spelled; again = λ us n. t.again (length (t.front ++ us) + 1) us (omega arith) n };
    stops = λ ts e h. let t = many_stops (length ts + 1) ts e (omega arith) h in record { front = t.front; whole = t.whole; begins = t.begun; first = λ us some n. t.first (length (t.front ++ us) + 1) us (omega arith) some n };
    reads = λ front us as' s h. many_reads as' (length (front ++ us) + 1) front us (omega arith) s h;
    some = record { more = []; value = []; spelled = refl };
  }
