-- What reading one statement says of fronts, faults and scripts: for any statement S that a reader reads, where no statement
-- stays open at the beginning of a script.
use Rattle.std.proofs.Common.{◌≡◌, ◌≢◌, ◌++◌, ◌∷◌, [], ℕ, ◌+◌, ◌-◌, ◌≤◌, ◌<◌, List, Bool, true, false, Ok, Err, refl, ap, append_assoc, append-nil, ◌∙◌, sym, subst, arith, length, length-append, length-drop, take, drop}
use Rattle.std.specs.Prelude.{Some}
use Rattle.std.proofs.lemmas.List.{take_at, take_all, drop_at, take-append-drop, take-append-le, drop-append-le}
use Rattle.std.proofs.Math.Seq.{take-add}
use Rattle.phrases.specs.Reading.{Read, next}
use Rattle.phrases.specs.Phrases.{Many, Begins}
use Rattle.phrases.specs.Reads.{ReadsLast}
use Rattle.phrases.specs.Fronts.{IsFront, NoFront, FirstFault, IsOver, FollowsFront, PrecedesScript, HasNoScript, IsEmptyScript, StaysFront, FaultStays, FaultFollows, ShowsEnd}
use Rattle.phrases.specs.Laws.{Fronts}
use Rattle.phrases.proofs.ReadersLaws.{same_answer}

module _ {Tok A : Type 0} (open' : A → Bool → List Tok → Bool) (S : List Tok → A → Type 0) (p : Bool → List Tok → Read Tok A) (r : ReadsLast open' S p) where
  pub whole_front : (ended : Bool) (ts rest : List Tok) (s : A) → p ended ts ≡ Ok (s, rest) → IsFront open' S ended ts s (length ts - length rest)
  whole_front ended ts rest s h =
      let t = r.takes ended ts rest s h in
      let long : length ts - length rest ≡ length t.front = omega (arith, ap length t.whole, length-append t.front rest) in
      record {
        within = omega (arith, ap length t.whole, length-append t.front rest);
        spelled = subst (λ (r : List Tok). S r s) (sym (ap (λ (r : List Tok). take (length ts - length rest) r) t.whole ∙ take_at t.front rest _ (sym long))) t.spelled;
        over = ap (λ (r : List Tok). open' s ended r) (ap (λ (r : List Tok). drop (length ts - length rest) r) t.whole ∙ drop_at t.front rest _ (sym long)) ∙ t.over;
      }

  pub read_front : (ended : Bool) (ts front rest : List Tok) (s : A) → ts ≡ front ++ rest → S front s → open' s ended rest ≡ false → p ended ts ≡ Ok (s, rest)
  read_front ended ts front rest s e h o = ap (p ended) e ∙ r.reads ended front rest s h o

  -- one front at most
  pub one_front : (ended : Bool) (ts front rest : List Tok) (s : A) (front2 rest2 : List Tok) (s2 : A)
      → ts ≡ front ++ rest → S front s → open' s ended rest ≡ false
      → ts ≡ front2 ++ rest2 → S front2 s2 → open' s2 ended rest2 ≡ false → (s ≡ s2) × (rest ≡ rest2)
  one_front ended ts front rest s front2 rest2 s2 e h o e2 h2 o2 =
      let same = same_answer (s, rest) (s2, rest2) (sym (read_front ended ts front rest s e h o) ∙ read_front ended ts front2 rest2 s2 e2 h2 o2) in
      (ap (λ q. q.0) same, ap (λ q. q.1) same)

  pub no_front : (ended : Bool) (ts e : List Tok) → p ended ts ≡ Err e → NoFront open' S ended ts
  no_front ended ts e h s front rest w k o = let read = sym h ∙ read_front ended ts front rest s w k o in cc

  begins_before : (ended : Bool) (ts e : List Tok) → p ended ts ≡ Err e → Begins (Many S) (take (length ts - length e) ts)
  begins_before ended ts e h =
      let s = r.stops ended ts e h in
      let long : length ts - length e ≡ length s.front = omega (arith, ap length s.whole, length-append s.front e) in
      subst (Begins (Many S)) (sym (ap (λ (r : List Tok). take (length ts - length e) r) s.whole ∙ take_at s.front e _ (sym long)))
      (record { more = s.begins.more; value = s.begins.value ∷ []; spelled = (s.front ++ s.begins.more, [], sym (append-nil (s.front ++ s.begins.more)), s.begins.spelled, refl) })

  pub fault_within : (ended : Bool) (ts e : List Tok) → p ended ts ≡ Err e → length e ≤ length ts
  fault_within ended ts e h = let s = r.stops ended ts e h in omega (arith, ap length s.whole, length-append s.front e)

  pub rest_within : (ended : Bool) (ts rest : List Tok) (s : A) → p ended ts ≡ Ok (s, rest) → length rest ≤ length ts
  rest_within ended ts rest s h = let t = r.takes ended ts rest s h in omega (arith, ap length t.whole, length-append t.front rest)

  pub begins_all : (ended : Bool) (ts e : List Tok) → p ended ts ≡ Err e → length e ≡ 0 → Begins (Many S) ts
  begins_all ended ts e h none =
      let all : take (length ts - length e) ts ≡ ts = take_all (length ts - length e) ts (omega (arith, none)) in
      subst (Begins (Many S)) all (begins_before ended ts e h)

  -- ---- where no statement stays open at the beginning of a script

  module _ (over : IsOver open' S) where
    no_script : (front more : List Tok) (t : Tok) (ss : List A) → ((us : List Tok) → next us ≡ Some t → p true (front ++ us) ≡ Err us)
        → Many S (front ++ t ∷ more) ss → ⊥
    no_script front more t [] first h = absurd (omega (arith, ap length h, length-append front (t ∷ more)))
    no_script front more t (s ∷ ss) first h =
        let read = read_front true (front ++ t ∷ more) h.0 h.1 s h.2 h.3 (over s ss h.1 h.4) in
        let stop = first (t ∷ more) refl in
        let both = sym stop ∙ read in cc

    none_begins : (ended : Bool) (ts e rest : List Tok) (t : Tok) → p ended ts ≡ Err e → e ≡ t ∷ rest → Begins (Many S) (take (length ts - length e + 1) ts) → ⊥
    none_begins ended ts e rest t h is b =
        let s = r.stops ended ts e h in
        let parts : ts ≡ (s.front ++ t ∷ []) ++ rest = s.whole ∙ ap (λ (r : List Tok). s.front ++ r) is ∙ sym (append_assoc s.front (t ∷ []) rest) in
        let long : length (s.front ++ t ∷ []) ≡ length ts - length e + 1 = omega (arith, ap length s.whole, ap length is, length-append s.front e, length-append s.front (t ∷ [])) in
        let c = subst (Begins (Many S)) (ap (λ (r : List Tok). take (length ts - length e + 1) r) parts ∙ take_at (s.front ++ t ∷ []) rest _ long) b in
        let some : e ≢ [] = λ none. (let bad = sym none ∙ is in cc) in
        no_script s.front c.more t c.value (λ us n. s.first true us some (n ∙ sym (ap next is))) (subst (λ (r : List Tok). Many S r c.value) (append_assoc s.front (t ∷ []) c.more) c.spelled)

    pub first_fault : (ended : Bool) (ts e : List Tok) → p ended ts ≡ Err e → FirstFault S ts (length ts - length e)
    first_fault ended ts e h = (begins_before ended ts e h, λ lt. fault_at e refl lt)
      where
        fault_at : (d : List Tok) → e ≡ d → length ts - length e < length ts → Begins (Many S) (take (length ts - length e + 1) ts) → ⊥
        fault_at [] is lt = absurd (omega (arith, ap length is))
        fault_at (t ∷ rest) is lt = none_begins ended ts e rest t h is

    -- a script behind a front is that statement and a script of what follows
    pub script_front : ((front : List Tok) (s : A) → S front s → 0 < length front) → FollowsFront open' S
    script_front long ts used s f [] h =
        absurd (omega (arith, long (take used ts) s f.spelled, ap length h, ap length (take-append-drop used ts), length-append (take used ts) (drop used ts)))
    script_front long ts used s f (s2 ∷ ss) h =
        let same = one_front true ts (take used ts) (drop used ts) s h.0 h.1 s2 (sym (take-append-drop used ts)) f.spelled f.over h.2 h.3 (over s2 ss h.1 h.4) in
        (ss, ap (λ (a : A). a ∷ ss) (sym same.0), subst (λ (l : List Tok). Many S l ss) (sym same.1) h.4)

    -- where no front is, no script is
    pub script_none : HasNoScript open' S
    script_none ts n [] h = h
    script_none ts n (s ∷ ss) h = absurd (n s h.0 h.1 h.2 h.3 (over s ss h.1 h.4))

    -- no script begins with a front and with what no script behind it begins with
    pub fault_follows : ((front : List Tok) (s : A) → S front s → 0 < length front) → ShowsEnd open' S → FaultFollows open' S
    fault_follows long shows ts used at s f short fault = (before, λ lt b. behind b.more b.value lt (subst (λ (l : List Tok). Many S l b.value) (through b.more) b.spelled))
      where
        before : Begins (Many S) (take (used + at) ts)
        before = record {
          more = fault.0.more;
          value = s ∷ fault.0.value;
          spelled = (
            take used ts,
            take at (drop used ts) ++ fault.0.more,
            ap (λ (l : List Tok). l ++ fault.0.more) (take-add used at ts) ∙ append_assoc (take used ts) (take at (drop used ts)) fault.0.more,
            f.spelled,
            fault.0.spelled,
          );
        }

        through : (more : List Tok) → take (used + at + 1) ts ++ more ≡ take used ts ++ (take (at + 1) (drop used ts) ++ more)
        through more =
            let sum : used + at + 1 ≡ used + (at + 1) = omega arith in
            ap (λ (n : ℕ). take n ts ++ more) sum ∙ ap (λ (l : List Tok). l ++ more) (take-add used (at + 1) ts) ∙ append_assoc (take used ts) (take (at + 1) (drop used ts)) more

        behind : (more : List Tok) (ss : List A) → used + at < length ts → Many S (take used ts ++ (take (at + 1) (drop used ts) ++ more)) ss → ⊥
        behind more [] lt h = absurd (omega (arith, long (take used ts) s f.spelled, ap length h, length-append (take used ts) (take (at + 1) (drop used ts) ++ more)))
        behind more (s2 ∷ ss) lt h =
            let within : at < length (drop used ts) = omega (arith, length-drop used ts) in
            let ends = shows s (drop used ts) more at within f.over (fault.1 within) in
            let same = one_front true (take used ts ++ (take (at + 1) (drop used ts) ++ more)) (take used ts) (take (at + 1) (drop used ts) ++ more) s h.0 h.1 s2 refl f.spelled ends h.2 h.3 (over s2 ss h.1 h.4) in
            fault.1 within (record { more = more; value = ss; spelled = subst (λ (l : List Tok). Many S l ss) (sym same.1) h.4 })

    pub fronts : ((front : List Tok) (s : A) → S front s → 0 < length front) → Fronts open' S p
    fronts long = record {
      whole = λ ended ts rest s h. let t = r.takes ended ts rest s h in (t.front, t.whole, t.spelled, t.over);
      one = one_front;
      none = no_front;
      first = λ ended ts e h. (length ts - length e, omega (arith, fault_within ended ts e h), first_fault ended ts e h);
      follows = script_front long;
      empty = script_none;
    }

-- a front and a script behind it are a script
pub front_script : {Tok A : Type 0} (open' : A → Bool → List Tok → Bool) (S : List Tok → A → Type 0) → PrecedesScript open' S
front_script open' S ts used s f ss h = (take used ts, drop used ts, sym (take-append-drop used ts), f.spelled, h)

-- no tokens are the script of no statements alone
pub empty_script : {Tok A : Type 0} (S : List Tok → A → Type 0) → ((front : List Tok) (s : A) → S front s → 0 < length front) → IsEmptyScript S
empty_script S long [] h = refl
empty_script S long (s ∷ ss) h = absurd (omega (arith, long h.0 s h.3, ap length h.2, length-append h.0 h.1))

-- where what follows shows the end, it still does as tokens come
pub front_stays : {Tok A : Type 0} (open' : A → Bool → List Tok → Bool) (S : List Tok → A → Type 0)
    → ((ended : Bool) (s : A) (us more : List Tok) → open' s false us ≡ false → open' s ended (us ++ more) ≡ false) → StaysFront open' S
front_stays open' S shown ts more ended s used f = record {
  within = omega (arith, f.within, length-append ts more);
  spelled = subst (λ (l : List _). S l s) (sym (take-append-le used ts more f.within)) f.spelled;
  over = ap (open' s ended) (drop-append-le used ts more f.within) ∙ shown ended s (drop used ts) more f.over;
}

-- the tokens up to the fault are as before
pub fault_stays : {Tok A : Type 0} (S : List Tok → A → Type 0) → FaultStays S
fault_stays S ts more at lt fault =
    let short : at ≤ length ts = omega (arith, lt) in
    let next : at + 1 ≤ length ts = omega (arith, lt) in
    (subst (Begins (Many S)) (sym (take-append-le at ts more short)) fault.0, λ _ b. fault.1 lt (subst (Begins (Many S)) (take-append-le (at + 1) ts more next) b))
