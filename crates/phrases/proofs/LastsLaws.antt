-- Phrases that end a statement: where they end may hang on whether the input has ended, and on more than one token.
use Rattle.std.proofs.Common.{◌≡◌, ◌≢◌, ◌++◌, ◌∷◌, [], ℕ, zero, suc, ◌+◌, ◌<◌, List, Bool, true, false, Ok, Err, refl, ap, append_assoc, append-nil, ◌∙◌, sym, subst, cond, arith, length, length-append}
use Rattle.std.specs.Prelude.{Option, Some, not}
use Rattle.phrases.specs.Reading.{Read, ◌>>=◌, and_then, next, starts, one_at, done, none, many_at}
use Rattle.phrases.specs.Phrases.{Nothing, Seq, OneOf, Many, Begins}
use Rattle.phrases.specs.Reads.{Reads, ReadsLast, LastTakes, LastStops}
use Rattle.phrases.proofs.ReadersLaws.{bind_ok, bind_err, at_first, at_second, same_answer, next_same, Chosen, yes, no, chosen, starts_none, one-reads}

-- a phrase that closes itself is over at once
pub closed-last : {Tok A : Type 0} (open' : A → Bool → List Tok → Bool) (S : List Tok → A → Type 0) (p : List Tok → Read Tok A) → Reads none S p
    → ((ended : Bool) (front us : List Tok) (a : A) → S front a → open' a ended us ≡ false) → ReadsLast open' S (λ ended. p)
closed-last open' S p r over = record {
  takes = λ ended ts rest a h. let t = r.takes ts rest a h in record { front = t.front; whole = t.whole; spelled = t.spelled; over = over ended t.front rest a t.spelled };
  stops = λ ended ts e h. let t = r.stops ts e h in record { front = t.front; whole = t.whole; begins = t.begins; first = λ ended us some n. t.first us some n };
  reads = λ ended front us a s o. r.reads front us a s (starts_none us);
  some = r.some;
}

-- ---- a phrase and then a last one, which begins with nothing that may continue the first

module _ {Tok A B : Type 0} (open' : B → Bool → List Tok → Bool) (c : Tok → Bool) (S : List Tok → A → Type 0) (T : A → List Tok → B → Type 0)
    (p : List Tok → Read Tok A) (f : Bool → A → List Tok → Read Tok B) (rp : Reads c S p) (rf : (a : A) → ReadsLast open' (T a) (λ ended. f ended a))
    (apart : (a : A) (right us : List Tok) (b : B) → T a right b → starts c (right ++ us) ≡ false) where
  goes_on : (ended : Bool) (front us : List Tok) (a : A) → p (front ++ us) ≡ Ok (a, us) → and_then p (f ended) (front ++ us) ≡ f ended a us
  goes_on ended front us a h = ap (λ (r : Read Tok A). r >>= λ x. f ended x.0 x.1) h

  begins_through : (front : List Tok) → Begins S front → Begins (Seq S T) front
  begins_through front b =
      let s = (rf b.value).some in
      record {
        more = b.more ++ s.more;
        value = s.value;
        spelled = record { value = b.value; left = front ++ b.more; right = s.more; whole = sym (append_assoc front b.more s.more); first = b.spelled; second = s.spelled };
      }

  takes_both : (ended : Bool) (ts rest : List Tok) (b : B) → and_then p (f ended) ts ≡ Ok (b, rest) → LastTakes open' (Seq S T) ended ts b rest
  takes_both ended ts rest b h =
      let x = bind_ok (p ts) (λ x. f ended x.0 x.1) (b, rest) h in
      let s = rp.takes ts x.0.1 x.0.0 x.1 in
      let t = (rf x.0.0).takes ended x.0.1 rest b x.2 in
      record {
        front = s.front ++ t.front;
        whole = s.whole ∙ ap (λ (l : List Tok). s.front ++ l) t.whole ∙ sym (append_assoc s.front t.front rest);
        spelled = record { value = x.0.0; left = s.front; right = t.front; whole = refl; first = s.spelled; second = t.spelled };
        over = t.over;
      }

  stops_first : (ts e : List Tok) → p ts ≡ Err e → LastStops (Seq S T) (λ ended. and_then p (f ended)) ts e
  stops_first ts e h = let s = rp.stops ts e h in record {
    front = s.front;
    whole = s.whole;
    begins = begins_through s.front s.begins;
    first = λ ended us some n. ap (λ (r : Read Tok A). r >>= λ x. f ended x.0 x.1) (s.first us some n);
  }

  stops_second : (ended : Bool) (ts e us : List Tok) (a : A) → p ts ≡ Ok (a, us) → f ended a us ≡ Err e → LastStops (Seq S T) (λ ended. and_then p (f ended)) ts e
  stops_second ended ts e us a h g =
      let s = rp.takes ts us a h in
      let t = (rf a).stops ended us e g in
      record {
        front = s.front ++ t.front;
        whole = s.whole ∙ ap (λ (l : List Tok). s.front ++ l) t.whole ∙ sym (append_assoc s.front t.front e);
        begins = record {
          more = t.begins.more;
          value = t.begins.value;
          spelled = record { value = a; left = s.front; right = t.front ++ t.begins.more; whole = append_assoc s.front t.front t.begins.more; first = s.spelled; second = t.begins.spelled };
        };
        first = λ ended vs some n. ap (and_then p (f ended)) (append_assoc s.front t.front vs)
            ∙ goes_on ended s.front (t.front ++ vs) a (s.again (t.front ++ vs) (next_same t.front vs e n ∙ sym (ap next t.whole)))
            ∙ t.first ended vs some n;
      }

  pub then-last : ReadsLast open' (Seq S T) (λ ended. and_then p (f ended))
  then-last = record {
    takes = takes_both;
    stops = λ ended ts e h. elim (bind_err (p ts) (λ x. f ended x.0 x.1) e h) [ at_first g ↦ stops_first ts e g | at_second x g k ↦ stops_second ended ts e x.1 x.0 g k ];
    reads = λ ended front us b q h. ap (and_then p (f ended)) (ap (λ (l : List Tok). l ++ us) q.whole ∙ append_assoc q.left q.right us)
        ∙ goes_on ended q.left (q.right ++ us) q.value (rp.reads q.left (q.right ++ us) q.value q.first (apart q.value q.right us b q.second)) ∙ (rf q.value).reads ended q.right us b q.second h;
    some = begins_through [] rp.some;
  }

-- a phrase that nothing continues, and then a last one
pub closed-then : {Tok A B : Type 0} (open' : B → Bool → List Tok → Bool) (S : List Tok → A → Type 0) (T : A → List Tok → B → Type 0)
    (p : List Tok → Read Tok A) (f : Bool → A → List Tok → Read Tok B) → Reads none S p → ((a : A) → ReadsLast open' (T a) (λ ended. f ended a))
    → ReadsLast open' (Seq S T) (λ ended. and_then p (f ended))
closed-then open' S T p f rp rf = then-last open' none S T p f rp rf (λ a right us b h. starts_none (right ++ us))

-- ---- one or the other, by the first token

-- ---- a value made of what was read last

module _ {Tok A B : Type 0} (open' : A → Bool → List Tok → Bool) (open2 : B → Bool → List Tok → Bool) (S : List Tok → A → Type 0) (p : Bool → List Tok → Read Tok A)
    (make : A → B) (r : ReadsLast open' S p) (same : (a : A) (ended : Bool) (us : List Tok) → open2 (make a) ended us ≡ open' a ended us) where
  abbrev Made : List Tok → B → Type 0
  Made = Seq S (λ a. Nothing (make a))

  make_err : (q : Read Tok A) (e : List Tok) → (q >>= λ x. done (make x.0) x.1) ≡ Err e → q ≡ Err e
  make_err (Ok x) e h = cc
  make_err (Err d) e h = let same : d ≡ e = cc in ap (λ (l : List Tok). Err l) same

  made : (front : List Tok) (a : A) → S front a → Made front (make a)
  made front a s = record { value = a; left = front; right = []; whole = sym (append-nil front); first = s; second = (refl, refl) }

  pub made-last : ReadsLast open2 Made (λ ended. and_then (p ended) λ a. done (make a))
  made-last = record {
    takes = λ ended ts rest b h. let x = bind_ok (p ended ts) (λ x. done (make x.0) x.1) (b, rest) h in
        let e = same_answer (make x.0.0, x.0.1) (b, rest) x.2 in
        let t = r.takes ended ts x.0.1 x.0.0 x.1 in
        record {
          front = t.front;
          whole = t.whole ∙ ap (λ (l : List Tok). t.front ++ l) (ap (λ p. p.1) e);
          spelled = subst (λ b. Made t.front b) (ap (λ p. p.0) e) (made t.front x.0.0 t.spelled);
          over = subst (λ (y : B × List Tok). open2 y.0 ended y.1 ≡ false) e (same x.0.0 ended x.0.1 ∙ t.over);
        };
    stops = λ ended ts e h. let t = r.stops ended ts e (make_err (p ended ts) e h) in
        record {
          front = t.front;
          whole = t.whole;
          begins = record { more = t.begins.more; value = make t.begins.value; spelled = made (t.front ++ t.begins.more) t.begins.value t.begins.spelled };
          first = λ ended us some n. ap (λ (q : Read Tok A). q >>= λ x. done (make x.0) x.1) (t.first ended us some n);
        };
    reads = λ ended front us b s o. let whole : front ≡ s.left = s.whole ∙ ap (λ (l : List Tok). s.left ++ l) s.second.0 ∙ append-nil s.left in
        ap (λ (l : List Tok). and_then (p ended) (λ a. done (make a)) (l ++ us)) whole
        ∙ ap (λ (q : Read Tok A). q >>= λ x. done (make x.0) x.1) (r.reads ended s.left us s.value s.first (sym (same s.value ended us) ∙ ap (λ (y : B). open2 y ended us) s.second.1 ∙ o))
        ∙ ap (λ (y : B). Ok (y, us)) s.second.1;
    some = record { more = r.some.more; value = make r.some.value; spelled = made r.some.more r.some.value r.some.spelled };
  }

-- ---- { item }, as long as what follows begins an item, or may still do

module _ {Tok A : Type 0} (knows : Bool → List Tok → Bool) (S : List Tok → A → Type 0) (item : List Tok → Read Tok A) (items : Reads none S item)
    (empty : (ended : Bool) → knows ended [] ≡ not ended)
    (long : (front : List Tok) (a : A) → S front a → 0 < length front)
    (known : (ended : Bool) (front us : List Tok) (a : A) → S front a → knows ended (front ++ us) ≡ true)
    (stays : (ended later : Bool) (front us e : List Tok) → knows ended (front ++ e) ≡ true
    → ((vs : List Tok) → next vs ≡ next e → item (front ++ vs) ≡ Err vs) → e ≢ [] → next us ≡ next e → knows later (front ++ us) ≡ true) where
  abbrev go : Bool → ℕ → List Tok → Read Tok (List A)
  go ended n = many_at knows item ended n

  abbrev rest_of : Bool → ℕ → A → List Tok → Read Tok (List A)
  rest_of ended n a = and_then (go ended n) λ as'. done (a ∷ as')

  goes : (ended : Bool) (n : ℕ) (ts : List Tok) → knows ended ts ≡ true → go ended (suc n) ts ≡ and_then item (rest_of ended n) ts
  unfolding many_at
  goes ended n ts h = ap (λ (b : Bool). cond b (and_then item (rest_of ended n) ts) (Ok ([], ts))) h

  ends : (ended : Bool) (n : ℕ) (ts : List Tok) → knows ended ts ≡ false → go ended (suc n) ts ≡ Ok ([], ts)
  unfolding many_at
  ends ended n ts h = ap (λ (b : Bool). cond b (and_then item (rest_of ended n) ts) (Ok ([], ts))) h

  opened : (ended : Bool) (n : ℕ) (ts : List Tok) (z : Read Tok (List A)) → go ended (suc n) ts ≡ z → Chosen (knows ended ts) (and_then item (rest_of ended n) ts) (Ok ([], ts)) z
  unfolding many_at
  opened ended n ts z h = chosen (knows ended ts) (and_then item (rest_of ended n) ts) (Ok ([], ts)) z h

  pub many_takes : (ended : Bool) (n : ℕ) (ts rest : List Tok) (as' : List A) → length ts < n → go ended n ts ≡ Ok (as', rest) → LastTakes (λ _. knows) (Many S) ended ts as' rest
  many_takes ended zero ts rest as' short h = absurd (omega arith)
  many_takes ended (suc n) ts rest as' short h = elim (opened ended n ts (Ok (as', rest)) h) [
    | no b k ↦ (let e = same_answer ([], ts) (as', rest) k in record {
      front = [];
      whole = ap (λ p. p.1) e;
      spelled = subst (λ (l : List A). Many S [] l) (ap (λ p. p.0) e) refl;
      over = subst (λ (l : List Tok). knows ended l ≡ false) (ap (λ p. p.1) e) b;
    })
    | yes b k ↦ (let x = bind_ok (item ts) (λ x. rest_of ended n x.0 x.1) (as', rest) k in
        let s = items.takes ts x.0.1 x.0.0 x.1 in
        let y = bind_ok (go ended n x.0.1) (λ y. done (x.0.0 ∷ y.0) y.1) (as', rest) x.2 in
        let e = same_answer (x.0.0 ∷ y.0.0, y.0.1) (as', rest) y.2 in
        let shorter : length x.0.1 < n = omega (arith, ap length s.whole, length-append s.front x.0.1, long s.front x.0.0 s.spelled) in
        let t = many_takes ended n x.0.1 y.0.1 y.0.0 shorter y.1 in
        record {
          front = s.front ++ t.front;
          whole = s.whole ∙ ap (λ (l : List Tok). s.front ++ l) (t.whole ∙ ap (λ (l : List Tok). t.front ++ l) (ap (λ p. p.1) e)) ∙ sym (append_assoc s.front t.front rest);
          spelled = subst (λ (l : List A). Many S (s.front ++ t.front) l) (ap (λ p. p.0) e) (s.front, t.front, refl, s.spelled, t.spelled);
          over = subst (λ (l : List Tok). knows ended l ≡ false) (ap (λ p. p.1) e) t.over;
        })
  ]

  -- with turns enough
  pub many_reads : (as' : List A) (ended : Bool) (n : ℕ) (front us : List Tok) → length (front ++ us) < n → Many S front as' → knows ended us ≡ false → go ended n (front ++ us) ≡ Ok (as', us)
  many_reads as' ended zero front us short s o = absurd (omega arith)
  many_reads [] ended (suc n) front us short s o = ap (λ (l : List Tok). go ended (suc n) (l ++ us)) s ∙ ends ended n us o
  many_reads (a ∷ as') ended (suc n) front us short s o =
      let whole : front ++ us ≡ s.0 ++ (s.1 ++ us) = ap (λ (l : List Tok). l ++ us) s.2 ∙ append_assoc s.0 s.1 us in
      let shorter : length (s.1 ++ us) < n = omega (arith, ap length whole, length-append s.0 (s.1 ++ us), long s.0 a s.3) in
      ap (go ended (suc n)) whole ∙ goes ended n (s.0 ++ (s.1 ++ us)) (known ended s.0 (s.1 ++ us) a s.3)
      ∙ ap (λ (r : Read Tok A). r >>= λ x. rest_of ended n x.0 x.1) (items.reads s.0 (s.1 ++ us) a s.3 (starts_none (s.1 ++ us)))
      ∙ ap (λ (r : Read Tok (List A)). r >>= λ y. done (a ∷ y.0) y.1) (many_reads as' ended n s.1 us shorter s.4 o)

  pub record ManyStops (ts e : List Tok) : Type 0 where
    pub front : List Tok
    pub whole : ts ≡ front ++ e
    pub begins : Begins (Many S) front
    pub first : (later : Bool) (m : ℕ) (us : List Tok) → length (front ++ us) < m → e ≢ [] → next us ≡ next e → go later m (front ++ us) ≡ Err us

  item_stops : (ended : Bool) (ts e : List Tok) → knows ended ts ≡ true → item ts ≡ Err e → ManyStops ts e
  item_stops ended ts e b h = let s = items.stops ts e h in record {
    front = s.front;
    whole = s.whole;
    begins = record { more = s.begins.more; value = s.begins.value ∷ []; spelled = (s.front ++ s.begins.more, [], sym (append-nil (s.front ++ s.begins.more)), s.begins.spelled, refl) };
    first = λ later m us short some n. by_turns s.front later m us short some n (λ vs n. s.first vs some n) (stays ended later s.front us e (subst (λ (l : List Tok). knows ended l ≡ true) s.whole b) (λ vs n. s.first vs some n) some n);
  }
    where
      by_turns : (front : List Tok) (later : Bool) (m : ℕ) (us : List Tok) → length (front ++ us) < m → e ≢ [] → next us ≡ next e
          → ((vs : List Tok) → next vs ≡ next e → item (front ++ vs) ≡ Err vs) → knows later (front ++ us) ≡ true → go later m (front ++ us) ≡ Err us
      by_turns front later zero us short some n first k = absurd (omega arith)
      by_turns front later (suc m) us short some n first k = goes later m (front ++ us) k ∙ ap (λ (r : Read Tok A). r >>= λ x. rest_of later m x.0 x.1) (first us n)

  rest_err : (r : Read Tok (List A)) (a : A) (e : List Tok) → (r >>= λ y. done (a ∷ y.0) y.1) ≡ Err e → r ≡ Err e
  rest_err (Ok x) a e h = cc
  rest_err (Err d) a e h = h

  further_stops : (ts us e : List Tok) (a : A) → item ts ≡ Ok (a, us) → ManyStops us e → ManyStops ts e
  further_stops ts us e a h t =
      let s = items.takes ts us a h in
      record {
        front = s.front ++ t.front;
        whole = s.whole ∙ ap (λ (l : List Tok). s.front ++ l) t.whole ∙ sym (append_assoc s.front t.front e);
        begins = record { more = t.begins.more; value = a ∷ t.begins.value; spelled = (s.front, t.front ++ t.begins.more, append_assoc s.front t.front t.begins.more, s.spelled, t.begins.spelled) };
        first = λ later m vs short some n. ap (go later m) (append_assoc s.front t.front vs) ∙ by_turns s.front s.spelled later m vs (subst (λ (l : List Tok). length l < m) (append_assoc s.front t.front vs) short) some n;
      }
    where
      by_turns : (front : List Tok) → S front a → (later : Bool) (m : ℕ) (vs : List Tok) → length (front ++ (t.front ++ vs)) < m → e ≢ [] → next vs ≡ next e → go later m (front ++ (t.front ++ vs)) ≡ Err vs
      by_turns front s later zero vs short some n = absurd (omega arith)
      by_turns front s later (suc m) vs short some n =
          let shorter : length (t.front ++ vs) < m = omega (arith, length-append front (t.front ++ vs), long front a s) in
          goes later m (front ++ (t.front ++ vs)) (known later front (t.front ++ vs) a s)
          ∙ ap (λ (r : Read Tok A). r >>= λ x. rest_of later m x.0 x.1) (items.reads front (t.front ++ vs) a s (starts_none (t.front ++ vs)))
          ∙ ap (λ (r : Read Tok (List A)). r >>= λ y. done (a ∷ y.0) y.1) (t.first later m vs shorter some n)

  many_stops : (ended : Bool) (n : ℕ) (ts e : List Tok) → length ts < n → go ended n ts ≡ Err e → ManyStops ts e
  many_stops ended zero ts e short h = absurd (omega arith)
  many_stops ended (suc n) ts e short h = elim (opened ended n ts (Err e) h) [
    | no b k ↦ cc
    | yes b k ↦ elim (bind_err (item ts) (λ x. rest_of ended n x.0 x.1) e k) [
      | at_first g ↦ item_stops ended ts e b g
      | at_second x g k ↦ (let s = items.takes ts x.1 x.0 g in
          let shorter : length x.1 < n = omega (arith, ap length s.whole, length-append s.front x.1, long s.front x.0 s.spelled) in
          further_stops ts x.1 e x.0 g (many_stops ended n x.1 e shorter (rest_err (go ended n x.1) x.0 e k)))
    ]
  ]

  pub many-last : ReadsLast (λ _. knows) (Many S) (λ ended ts. go ended (length ts + 1) ts)
  many-last = record {
    takes = λ ended ts rest as' h. many_takes ended (length ts + 1) ts rest as' (omega arith) h;
    stops = λ ended ts e h. let t = many_stops ended (length ts + 1) ts e (omega arith) h in record {
      front = t.front;
      whole = t.whole;
      begins = t.begins;
      first = λ later us some n. t.first later (length (t.front ++ us) + 1) us (omega arith) some n;
    };
    reads = λ ended front us as' s o. many_reads as' ended (length (front ++ us) + 1) front us (omega arith) s o;
    some = record { more = []; value = []; spelled = refl };
  }

-- one token and then a last phrase
pub word-last : {Tok A B : Type 0} (open' : B → Bool → List Tok → Bool) (f : Tok → Option A) (t : Tok) (a : A) (known : f t ≡ Some a) (T : A → List Tok → B → Type 0) (q : Bool → A → List Tok → Read Tok B)
    → ((a : A) → ReadsLast open' (T a) (λ ended. q ended a)) → ReadsLast open' (Seq (OneOf f) T) (λ ended. and_then (one_at f) (q ended))
word-last open' f t a known T q r = closed-then open' (OneOf f) T (one_at f) q (one-reads none f t a known) r
