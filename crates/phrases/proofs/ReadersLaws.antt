-- What every reader of a phrase keeps.
use Rattle.std.proofs.Common.{◌≡◌, ◌++◌, ◌∷◌, [], List, Bool, true, false, Ok, Err, refl, ap, append_assoc, ◌∙◌, sym, cond, inl, inr}
use Rattle.std.specs.Prelude.{Option, Some, None}
use Rattle.std.proofs.lemmas.Bool.{or_parts}
use Rattle.phrases.specs.Reading.{Read, ◌>>=◌, and_then, next, test, starts, taken, one_at, done, done_unless, either, is, is_some, none, or}
use Rattle.phrases.specs.Phrases.{Nothing, Seq, Either, OneOf, Begins}
use Rattle.phrases.specs.Reads.{Takes, Stops, Reads}

pub bind_ok : {Tok A B : Type 0} (r : Read Tok A) (f : A × List Tok → Read Tok B) (y : B × List Tok) → (r >>= f) ≡ Ok y → (x : A × List Tok) × (r ≡ Ok x) × (f x ≡ Ok y)
bind_ok (Ok x) f y h = (x, refl, h)
bind_ok (Err e) f y h = cc

-- a fault of the first, or of the second where the first is through
pub data BindErr {Tok A B : Type 0} (r : Read Tok A) (f : A × List Tok → Read Tok B) (e : List Tok) : Type 0 where
  at_first : r ≡ Err e → BindErr r f e
  at_second : (x : A × List Tok) → r ≡ Ok x → f x ≡ Err e → BindErr r f e

pub bind_err : {Tok A B : Type 0} (r : Read Tok A) (f : A × List Tok → Read Tok B) (e : List Tok) → (r >>= f) ≡ Err e → BindErr r f e
bind_err {Tok = Tok} (Ok x) f e h = at_second x refl h
bind_err {Tok = Tok} (Err d) f e h = let same : d ≡ e = cc in at_first (ap (λ (l : List Tok). Err l) same)

pub next_same : {Tok : Type 0} (front us vs : List Tok) → next us ≡ next vs → next (front ++ us) ≡ next (front ++ vs)
next_same [] us vs h = h
next_same (t ∷ front) us vs h = refl

abbrev pub ok_of : {Tok A : Type 0} → A × List Tok → Read Tok A
ok_of x = Ok x

pub same_answer : {Tok A : Type 0} (x y : A × List Tok) → ok_of x ≡ ok_of y → x ≡ y
same_answer x y h = cc

-- ---- one phrase and then another

module _ {Tok A B : Type 0} (c d : Tok → Bool) (S : List Tok → A → Type 0) (T : A → List Tok → B → Type 0)
    (p : List Tok → Read Tok A) (f : A → List Tok → Read Tok B) (rp : Reads d S p) (rf : (a : A) → Reads c (T a) (f a))
    (apart : (a : A) (right us : List Tok) (b : B) → T a right b → starts c us ≡ false → starts d (right ++ us) ≡ false) where
  goes_on : (front us : List Tok) (a : A) → p (front ++ us) ≡ Ok (a, us) → and_then p f (front ++ us) ≡ f a us
  goes_on front us a h = ap (λ (r : Read Tok A). r >>= λ x. f x.0 x.1) h

  begins_through : (front : List Tok) → Begins S front → Begins (Seq S T) front
  begins_through front b =
      let s = (rf b.value).some in
      record {
        more = b.more ++ s.more;
        value = s.value;
        spelled = record { value = b.value; left = front ++ b.more; right = s.more; whole = sym (append_assoc front b.more s.more); first = b.spelled; second = s.spelled };
      }

  takes_both : (ts rest : List Tok) (b : B) → and_then p f ts ≡ Ok (b, rest) → Takes (Seq S T) (and_then p f) ts b rest
  takes_both ts rest b h =
      let x = bind_ok (p ts) (λ x. f x.0 x.1) (b, rest) h in
      let s = rp.takes ts x.0.1 x.0.0 x.1 in
      let t = (rf x.0.0).takes x.0.1 rest b x.2 in
      record {
        front = s.front ++ t.front;
        whole = s.whole ∙ ap (λ (l : List Tok). s.front ++ l) t.whole ∙ sym (append_assoc s.front t.front rest);
        spelled = record { value = x.0.0; left = s.front; right = t.front; whole = refl; first = s.spelled; second = t.spelled };
        again = λ us n. ap (and_then p f) (append_assoc s.front t.front us)
            ∙ goes_on s.front (t.front ++ us) x.0.0 (s.again (t.front ++ us) (next_same t.front us rest n ∙ sym (ap next t.whole)))
            ∙ t.again us n;
      }

  stops_first : (ts e : List Tok) → p ts ≡ Err e → Stops (Seq S T) (and_then p f) ts e
  stops_first ts e h =
      let s = rp.stops ts e h in
      record {
        front = s.front;
        whole = s.whole;
        begins = begins_through s.front s.begins;
        first = λ us some n. ap (λ (r : Read Tok A). r >>= λ x. f x.0 x.1) (s.first us some n);
      }

  stops_second : (ts e us : List Tok) (a : A) → p ts ≡ Ok (a, us) → f a us ≡ Err e → Stops (Seq S T) (and_then p f) ts e
  stops_second ts e us a h g =
      let s = rp.takes ts us a h in
      let t = (rf a).stops us e g in
      record {
        front = s.front ++ t.front;
        whole = s.whole ∙ ap (λ (l : List Tok). s.front ++ l) t.whole ∙ sym (append_assoc s.front t.front e);
        begins = record {
          more = t.begins.more;
          value = t.begins.value;
          spelled = record { value = a; left = s.front; right = t.front ++ t.begins.more; whole = append_assoc s.front t.front t.begins.more; first = s.spelled; second = t.begins.spelled };
        };
        first = λ vs some n. ap (and_then p f) (append_assoc s.front t.front vs)
            ∙ goes_on s.front (t.front ++ vs) a (s.again (t.front ++ vs) (next_same t.front vs e n ∙ sym (ap next t.whole)))
            ∙ t.first vs some n;
      }

  reads_both : (front us : List Tok) (b : B) → Seq S T front b → starts c us ≡ false → and_then p f (front ++ us) ≡ Ok (b, us)
  reads_both front us b q h =
      ap (and_then p f) (ap (λ (l : List Tok). l ++ us) q.whole ∙ append_assoc q.left q.right us)
      ∙ goes_on q.left (q.right ++ us) q.value (rp.reads q.left (q.right ++ us) q.value q.first (apart q.value q.right us b q.second h))
      ∙ (rf q.value).reads q.right us b q.second h

  pub then-reads : Reads c (Seq S T) (and_then p f)
  then-reads = record {
    takes = takes_both;
    stops = λ ts e h. elim (bind_err (p ts) (λ x. f x.0 x.1) e h) [ at_first g ↦ stops_first ts e g | at_second x g k ↦ stops_second ts e x.1 x.0 g k ];
    reads = reads_both;
    some = begins_through [] rp.some;
  }

-- ---- nothing

pub done-reads : {Tok A : Type 0} (c : Tok → Bool) (a : A) → Reads c (Nothing a) (done a)
done-reads {Tok = Tok} c a = record {
  takes = λ ts rest b h. let e = same_answer (a, ts) (b, rest) h in record {
    front = [];
    whole = ap (λ p. p.1) e;
    spelled = (refl, ap (λ p. p.0) e);
    again = λ us n. ap (λ b. Ok (b, us)) (ap (λ p. p.0) e);
  };
  stops = λ ts e h. cc;
  reads = λ front us b q h. ap (λ (l : List Tok). Ok (a, l ++ us)) q.0 ∙ ap (λ b. Ok (b, us)) q.1;
  some = record { more = []; value = a; spelled = (refl, refl) };
}

cond_ok : {Tok A : Type 0} (b : Bool) (e : List Tok) (r : Read Tok A) (y : A × List Tok) → cond b (Err e) r ≡ Ok y → (b ≡ false) × (r ≡ Ok y)
cond_ok true e r y h = cc
cond_ok false e r y h = (refl, h)

cond_err : {Tok A : Type 0} (b : Bool) (e d : List Tok) (y : A × List Tok) → cond b (Err e) (ok_of y) ≡ Err d → (b ≡ true) × (e ≡ d)
cond_err true e d y h = (refl, cc)
cond_err false e d y h = cc

pub unless-reads : {Tok A : Type 0} (c : Tok → Bool) (a : A) → Reads c (Nothing a) (done_unless c a)
unless-reads {Tok = Tok} c a = record {
  takes = λ ts rest b h. let g = cond_ok (starts c ts) ts (Ok (a, ts)) (b, rest) h in let e = same_answer (a, ts) (b, rest) g.1 in record {
    front = [];
    whole = ap (λ p. p.1) e;
    spelled = (refl, ap (λ p. p.0) e);
    again = λ us n. ap (λ (z : Bool). cond z (Err us) (Ok (a, us))) (ap (test c) (n ∙ ap next (sym (ap (λ p. p.1) e))) ∙ g.0) ∙ ap (λ b. Ok (b, us)) (ap (λ p. p.0) e);
  };
  stops = λ ts e h. let g = cond_err (starts c ts) ts e (a, ts) h in record {
    front = [];
    whole = g.1;
    begins = record { more = []; value = a; spelled = (refl, refl) };
    first = λ us some n. ap (λ (z : Bool). cond z (Err us) (Ok (a, us))) (ap (test c) (n ∙ ap next (sym g.1)) ∙ g.0);
  };
  reads = λ front us b q h. ap (λ (l : List Tok). done_unless c a (l ++ us)) q.0 ∙ ap (λ (z : Bool). cond z (Err us) (Ok (a, us))) h ∙ ap (λ b. Ok (b, us)) q.1;
  some = record { more = []; value = a; spelled = (refl, refl) };
}

-- ---- one or the other

pub data Chosen {X : Type 0} (b : Bool) (x y z : X) : Type 0 where
  yes : b ≡ true → x ≡ z → Chosen b x y z
  no : b ≡ false → y ≡ z → Chosen b x y z

pub chosen : {X : Type 0} (b : Bool) (x y z : X) → cond b x y ≡ z → Chosen b x y z
chosen true x y z h = yes refl h
chosen false x y z h = no refl h

module _ {Tok A : Type 0} (c g : Tok → Bool) (S T : List Tok → A → Type 0) (p q : List Tok → Read Tok A) (rp : Reads c S p) (rq : Reads c T q)
    (begins : (front us : List Tok) (a : A) → S front a → starts g (front ++ us) ≡ true)
    (lacks : (front us : List Tok) (a : A) → T front a → starts c us ≡ false → starts g (front ++ us) ≡ false) where
  left_way : (us : List Tok) → starts g us ≡ true → either g p q us ≡ p us
  left_way us h = ap (λ (b : Bool). cond b (p us) (q us)) h

  right_way : (us : List Tok) → starts g us ≡ false → either g p q us ≡ q us
  right_way us h = ap (λ (b : Bool). cond b (p us) (q us)) h

  same_test : (front ts us vs : List Tok) → ts ≡ front ++ vs → next us ≡ next vs → starts g (front ++ us) ≡ starts g ts
  same_test front ts us vs w n = ap (test g) (next_same front us vs n ∙ sym (ap next w))

  left_begins : (front : List Tok) → Begins S front → Begins (Either S T) front
  left_begins front b = record { more = b.more; value = b.value; spelled = inl b.spelled }

  right_begins : (front : List Tok) → Begins T front → Begins (Either S T) front
  right_begins front b = record { more = b.more; value = b.value; spelled = inr b.spelled }

  takes_left : (ts rest : List Tok) (a : A) → starts g ts ≡ true → p ts ≡ Ok (a, rest) → Takes (Either S T) (either g p q) ts a rest
  takes_left ts rest a h k = let t = rp.takes ts rest a k in record {
    front = t.front;
    whole = t.whole;
    spelled = inl t.spelled;
    again = λ us n. left_way (t.front ++ us) (same_test t.front ts us rest t.whole n ∙ h) ∙ t.again us n;
  }

  takes_right : (ts rest : List Tok) (a : A) → starts g ts ≡ false → q ts ≡ Ok (a, rest) → Takes (Either S T) (either g p q) ts a rest
  takes_right ts rest a h k = let t = rq.takes ts rest a k in record {
    front = t.front;
    whole = t.whole;
    spelled = inr t.spelled;
    again = λ us n. right_way (t.front ++ us) (same_test t.front ts us rest t.whole n ∙ h) ∙ t.again us n;
  }

  stops_left : (ts e : List Tok) → starts g ts ≡ true → p ts ≡ Err e → Stops (Either S T) (either g p q) ts e
  stops_left ts e h k = let t = rp.stops ts e k in record {
    front = t.front;
    whole = t.whole;
    begins = left_begins t.front t.begins;
    first = λ us some n. left_way (t.front ++ us) (same_test t.front ts us e t.whole n ∙ h) ∙ t.first us some n;
  }

  stops_right : (ts e : List Tok) → starts g ts ≡ false → q ts ≡ Err e → Stops (Either S T) (either g p q) ts e
  stops_right ts e h k = let t = rq.stops ts e k in record {
    front = t.front;
    whole = t.whole;
    begins = right_begins t.front t.begins;
    first = λ us some n. right_way (t.front ++ us) (same_test t.front ts us e t.whole n ∙ h) ∙ t.first us some n;
  }

  pub either-reads : Reads c (Either S T) (either g p q)
  either-reads = record {
    takes = λ ts rest a h. elim (chosen (starts g ts) (p ts) (q ts) (Ok (a, rest)) h) [ yes b k ↦ takes_left ts rest a b k | no b k ↦ takes_right ts rest a b k ];
    stops = λ ts e h. elim (chosen (starts g ts) (p ts) (q ts) (Err e) h) [ yes b k ↦ stops_left ts e b k | no b k ↦ stops_right ts e b k ];
    reads = λ front us a s h. elim s [
      | inl s ↦ left_way (front ++ us) (begins front us a s) ∙ rp.reads front us a s h
      | inr s ↦ right_way (front ++ us) (lacks front us a s h) ∙ rq.reads front us a s h
    ];
    some = left_begins [] rp.some;
  }

-- ---- the same phrase in other words, and more tokens that may continue it

module _ {Tok A : Type 0} (c d : Tok → Bool) (S T : List Tok → A → Type 0) (p : List Tok → Read Tok A) where
  pub respell : Reads c S p → ((front : List Tok) (a : A) → S front a → T front a) → ((front : List Tok) (a : A) → T front a → S front a)
      → ((t : Tok) → d t ≡ false → c t ≡ false) → Reads d T p
  respell r to from fewer = record {
    takes = λ ts rest a h. let t = r.takes ts rest a h in record { front = t.front; whole = t.whole; spelled = to t.front a t.spelled; again = t.again };
    stops = λ ts e h. let t = r.stops ts e h in record { front = t.front; whole = t.whole; begins = over t.front t.begins; first = t.first };
    reads = λ front us a s h. r.reads front us a (from front a s) (below us h);
    some = over [] r.some;
  }
    where
      over : (front : List Tok) → Begins S front → Begins T front
      over front b = record { more = b.more; value = b.value; spelled = to (front ++ b.more) b.value b.spelled }

      below : (us : List Tok) → starts d us ≡ false → starts c us ≡ false
      below [] h = refl
      below (t ∷ us) h = fewer t h

-- ---- one token of a kind

module _ {Tok A : Type 0} (c : Tok → Bool) (f : Tok → Option A) (t : Tok) (a : A) (known : f t ≡ Some a) where
  one_some : Begins (OneOf f) []
  one_some = record { more = t ∷ []; value = a; spelled = (t, refl, known) }

  one_takes : (o : Option A) (x : Tok) (ts rest : List Tok) (b : A) → f x ≡ o → taken o x ts ≡ Ok (b, rest) → Takes (OneOf f) (one_at f) (x ∷ ts) b rest
  one_takes (Some c) x ts rest b e h = let same = same_answer (c, ts) (b, rest) h in record {
    front = x ∷ [];
    whole = ap (λ p. x ∷ p.1) same;
    spelled = (x, refl, e ∙ ap (λ p. Some p.0) same);
    again = λ us n. ap (λ o. taken o x us) e ∙ ap (λ p. Ok (p.0, us)) same;
  }
  one_takes None x ts rest b e h = cc

  one_stops : (o : Option A) (x : Tok) (ts e : List Tok) → f x ≡ o → taken o x ts ≡ Err e → Stops (OneOf f) (one_at f) (x ∷ ts) e
  one_stops (Some c) x ts e g h = cc
  one_stops None x ts e g h = let same : x ∷ ts ≡ e = cc in record {
    front = [];
    whole = same;
    begins = one_some;
    first = λ us some n. refused us (n ∙ sym (ap next same));
  }
    where
      refused : (us : List Tok) → next us ≡ Some x → one_at f us ≡ Err us
      refused [] n = cc
      refused (y ∷ us) n = let is : y ≡ x = cc in ap (λ (o : Option A). taken o y us) (ap f is ∙ g)

  one_takes_at : (ts rest : List Tok) (b : A) → one_at f ts ≡ Ok (b, rest) → Takes (OneOf f) (one_at f) ts b rest
  one_takes_at [] rest b h = cc
  one_takes_at (x ∷ ts) rest b h = one_takes (f x) x ts rest b refl h

  one_stops_at : (ts e : List Tok) → one_at f ts ≡ Err e → Stops (OneOf f) (one_at f) ts e
  one_stops_at [] e h = record { front = []; whole = cc; begins = one_some; first = λ us some n. absurd (some (let none : [] ≡ e = cc in sym none)) }
  one_stops_at (x ∷ ts) e h = one_stops (f x) x ts e refl h

  pub one-reads : Reads c (OneOf f) (one_at f)
  one-reads = record {
    takes = one_takes_at;
    stops = one_stops_at;
    reads = λ front us b s h. ap (λ (l : List Tok). one_at f (l ++ us)) s.1 ∙ ap (λ (o : Option A). taken o s.0 us) s.2;
    some = one_some;
  }

-- ---- sets of tokens

pub starts_left : {Tok : Type 0} (f g : Tok → Bool) (us : List Tok) → starts (or f g) us ≡ false → starts f us ≡ false
starts_left f g [] h = refl
starts_left f g (t ∷ us) h = (or_parts (f t) (g t) h).0

pub starts_right : {Tok : Type 0} (f g : Tok → Bool) (us : List Tok) → starts (or f g) us ≡ false → starts g us ≡ false
starts_right f g [] h = refl
starts_right f g (t ∷ us) h = (or_parts (f t) (g t) h).1

pub starts_none : {Tok : Type 0} (us : List Tok) → starts none us ≡ false
starts_none [] = refl
starts_none (t ∷ us) = refl

-- ---- sequences of a token and a phrase

-- one token and then a phrase
pub word : {Tok A B : Type 0} (c : Tok → Bool) (f : Tok → Option A) (t : Tok) (a : A) (known : f t ≡ Some a) (T : A → List Tok → B → Type 0) (q : A → List Tok → Read Tok B)
    → ((a : A) → Reads c (T a) (q a)) → Reads c (Seq (OneOf f) T) (and_then (one_at f) q)
word c f t a known T q r = then-reads c none (OneOf f) T (one_at f) q (one-reads none f t a known) r (λ a right us b h clear. starts_none (right ++ us))

-- a phrase that nothing continues, and then another
pub closed : {Tok A B : Type 0} (c : Tok → Bool) (S : List Tok → A → Type 0) (T : A → List Tok → B → Type 0) (p : List Tok → Read Tok A) (q : A → List Tok → Read Tok B)
    → Reads none S p → ((a : A) → Reads c (T a) (q a)) → Reads c (Seq S T) (and_then p q)
closed c S T p q rp r = then-reads c none S T p q rp r (λ a right us b h clear. starts_none (right ++ us))

-- a phrase that begins with one token begins so
pub begins_one : {Tok A B : Type 0} (g : Tok → Bool) (f : Tok → Option A) (b : Bool) (T : A → List Tok → B → Type 0) (all : (t : Tok) (a : A) → f t ≡ Some a → g t ≡ b)
    (front us : List Tok) (y : B) → Seq (OneOf f) T front y → starts g (front ++ us) ≡ b
begins_one g f b T all front us y h = ap (λ (l : List _). starts g (l ++ us)) (h.whole ∙ ap (λ (l : List _). l ++ h.right) h.first.1) ∙ all h.first.0 h.value h.first.2

-- a token that f knows is one of f's
pub known : {Tok A : Type 0} (f : Tok → Option A) (t : Tok) (a : A) → f t ≡ Some a → is f t ≡ true
known f t a h = ap is_some h

-- a phrase that begins with this token is this token and the rest
pub headed : {Tok A B : Type 0} (f : Tok → Option A) (t : Tok) (T : A → List Tok → B → Type 0) (all : (x : Tok) (a : A) → f x ≡ Some a → x ≡ t)
    (front : List Tok) (y : B) (h : Seq (OneOf f) T front y) → front ≡ t ∷ h.right
headed f t T all front y h = h.whole ∙ ap (λ (l : List _). l ++ h.right) (h.first.1 ∙ ap (λ t. t ∷ []) (all h.first.0 h.value h.first.2))

-- one token begins so
pub begins_token : {Tok A : Type 0} (g : Tok → Bool) (f : Tok → Option A) (b : Bool) (all : (t : Tok) (a : A) → f t ≡ Some a → g t ≡ b)
    (front us : List Tok) (a : A) → OneOf f front a → starts g (front ++ us) ≡ b
begins_token g f b all front us a h = ap (λ (l : List _). starts g (l ++ us)) h.1 ∙ all h.0 a h.2

-- a phrase that begins with another begins as that does
pub begins_first : {Tok A B : Type 0} (g : Tok → Bool) (b : Bool) (S : List Tok → A → Type 0) (T : A → List Tok → B → Type 0)
    (begins : (front us : List Tok) (a : A) → S front a → starts g (front ++ us) ≡ b) (front us : List Tok) (y : B) → Seq S T front y → starts g (front ++ us) ≡ b
begins_first g b S T begins front us y h =
    ap (λ (l : List _). starts g l) (ap (λ (l : List _). l ++ us) h.whole ∙ append_assoc h.left h.right us) ∙ begins h.left (h.right ++ us) h.value h.first
