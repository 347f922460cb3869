-- Parentheses, within limits.
use Rattle.std.proofs.Common.{◌≡◌, ◌++◌, ℕ, zero, suc, ◌+◌, List, Bool, true, false, refl, ap, ◌∙◌, subst, inl, inr, arith}
use Rattle.std.specs.Prelude.{Option, Some}
use Rattle.phrases.specs.Reading.{starts, is, none}
use Rattle.phrases.specs.Phrases.{Nothing, Seq, Either, OneOf}
use Rattle.phrases.specs.Reads.{Reads}
use Rattle.phrases.specs.Chains.{Part, Item, Within, opens}
use Rattle.phrases.specs.Levels.{Grouped, grouped_at}
use Rattle.phrases.proofs.ReadersLaws.{then-reads, either-reads, done-reads, respell, word, begins_one, known}
use Rattle.phrases.proofs.ChainsLaws.{opens-append}

module _ {Tok X Y E : Type 0} (cost : E → ℕ) (weight : Tok → ℕ)
    (open' : Tok → Option X) (first' : Tok) (x : X) (opened : open' first' ≡ Some x) (one_open : (t : Tok) (x : X) → open' t ≡ Some x → weight t ≡ 1)
    (close : Tok → Option Y) (last : Tok) (y : Y) (closed' : close last ≡ Some y) (none_open : (t : Tok) (y : Y) → close t ≡ Some y → weight t ≡ 0)
    (A : List Tok → E → Type 0) (atom : Item Tok E) (atoms : (ops parens : ℕ) → Reads none (Within cost weight A ops parens) (atom ops parens))
    (no_open : (ts us : List Tok) (e : E) → A ts e → starts (is open') (ts ++ us) ≡ false)
    (ce : Tok → Bool) (S : List Tok → E → Type 0) (inner : Item Tok E) (inners : (ops parens : ℕ) → Reads ce (Within cost weight S ops parens) (inner ops parens))
    (closes : (t : Tok) (y : Y) → close t ≡ Some y → ce t ≡ false) where
  abbrev Group : ℕ → ℕ → List Tok → Part E → Type 0
  Group ops parens = Seq (OneOf open') (λ _. Seq (Within cost weight S ops parens) (λ v. Seq (OneOf close) (λ _. Nothing v)))

  group_to : (ops parens : ℕ) (front : List Tok) (v : Part E) → Group ops parens front v → Within cost weight (Grouped open' close A S) ops (suc parens) front v
  group_to ops parens front v h =
      let s = h.second in
      let c = s.second in
      let w = s.first in
      let had : s.value.1 + cost s.value.0 ≡ ops = w.1 in
      let outer : s.value.2 + opens weight s.left ≡ parens = w.2 in
      let same : s.value.0 ≡ v.0 = ap (λ (p : Part E). p.0) c.second.1 in
      let ops_is : s.value.1 ≡ v.1 = ap (λ (p : Part E). p.1) c.second.1 in
      let parens_is : s.value.2 ≡ v.2 = ap (λ (p : Part E). p.2) c.second.1 in
      let whole : opens weight front ≡ opens weight h.left + opens weight h.right = ap (opens weight) h.whole ∙ opens-append weight h.left h.right in
      let one : opens weight h.left ≡ 1 = ap (opens weight) h.first.1 ∙ omega (arith, one_open h.first.0 h.value h.first.2) in
      let held : opens weight h.right ≡ opens weight s.left + opens weight s.right = ap (opens weight) s.whole ∙ opens-append weight s.left s.right in
      let shut : opens weight s.right ≡ opens weight c.left + opens weight c.right = ap (opens weight) c.whole ∙ opens-append weight c.left c.right in
      let none_left : opens weight c.left ≡ 0 = ap (opens weight) c.first.1 ∙ omega (arith, none_open c.first.0 c.value c.first.2) in
      let none_right : opens weight c.right ≡ 0 = ap (opens weight) c.second.0 in (
        inr (record {
          value = h.value;
          left = h.left;
          right = h.right;
          whole = h.whole;
          first = h.first;
          second = record {
            value = s.value.0;
            left = s.left;
            right = s.right;
            whole = s.whole;
            first = w.0;
            second = record { value = c.value; left = c.left; right = c.right; whole = c.whole; first = c.first; second = (c.second.0, same) };
          };
        }),
        omega (arith, ap cost same),
        omega arith,
      )

  group_from : (ops parens : ℕ) (front : List Tok) (v : Part E) → Within cost weight (Grouped open' close A S) ops (suc parens) front v
      → Either (Group ops parens) (Within cost weight A ops (suc parens)) front v
  group_from ops parens front v h = at h.0
    where
      at : Grouped open' close A S front v.0 → Either (Group ops parens) (Within cost weight A ops (suc parens)) front v
      at (inl a) = inr (a, h.1, h.2)
      at (inr g) =
          let s = g.second in
          let c = s.second in
          let left : v.2 + opens weight front ≡ suc parens = h.2 in
          let had : v.1 + cost v.0 ≡ ops = h.1 in
          let whole : opens weight front ≡ opens weight g.left + opens weight g.right = ap (opens weight) g.whole ∙ opens-append weight g.left g.right in
          let one : opens weight g.left ≡ 1 = ap (opens weight) g.first.1 ∙ omega (arith, one_open g.first.0 g.value g.first.2) in
          let held : opens weight g.right ≡ opens weight s.left + opens weight s.right = ap (opens weight) s.whole ∙ opens-append weight s.left s.right in
          let shut : opens weight s.right ≡ opens weight c.left + opens weight c.right = ap (opens weight) c.whole ∙ opens-append weight c.left c.right in
          let none_left : opens weight c.left ≡ 0 = ap (opens weight) c.first.1 ∙ omega (arith, none_open c.first.0 c.value c.first.2) in
          let none_right : opens weight c.right ≡ 0 = ap (opens weight) c.second.0 in
          inl (record {
            value = g.value;
            left = g.left;
            right = g.right;
            whole = g.whole;
            first = g.first;
            second = record {
              value = v;
              left = s.left;
              right = s.right;
              whole = s.whole;
              first = (subst (λ (e : E). S s.left e) c.second.1 s.first, h.1, omega arith);
              second = record { value = c.value; left = c.left; right = c.right; whole = c.whole; first = c.first; second = (c.second.0, refl) };
            };
          })

  group_none : (ops : ℕ) (front : List Tok) (v : Part E) → Within cost weight (Grouped open' close A S) ops 0 front v → Within cost weight A ops 0 front v
  group_none ops front v h = at h.0
    where
      at : Grouped open' close A S front v.0 → Within cost weight A ops 0 front v
      at (inl a) = (a, h.1, h.2)
      at (inr g) =
          let left : v.2 + opens weight front ≡ 0 = h.2 in
          let whole : opens weight front ≡ opens weight g.left + opens weight g.right = ap (opens weight) g.whole ∙ opens-append weight g.left g.right in
          let one : opens weight g.left ≡ 1 = ap (opens weight) g.first.1 ∙ omega (arith, one_open g.first.0 g.value g.first.2) in
          absurd (omega arith)

  atom_in : (ops parens : ℕ) (front : List Tok) (v : Part E) → Within cost weight A ops parens front v → Within cost weight (Grouped open' close A S) ops parens front v
  atom_in ops parens front v h = (inl h.0, h.1, h.2)

  pub grouped-reads : (ops parens : ℕ) → Reads none (Within cost weight (Grouped open' close A S) ops parens) (grouped_at open' close atom inner ops parens)
  grouped-reads ops zero = respell none none _ _ _ (atoms ops 0) (atom_in ops 0) (group_none ops) (λ t h. h)
  grouped-reads ops (suc parens) = respell none none _ _ _
      (either-reads none (is open') (Group ops parens) (Within cost weight A ops (suc parens)) _ _
      (word none open' first' x opened _ _ (λ _.
      then-reads none ce (Within cost weight S ops parens) (λ v. Seq (OneOf close) (λ _. Nothing v)) _ _ (inners ops parens)
      (λ v. word none close last y closed' _ _ (λ _. done-reads none v))
      (λ v right us b h clear. begins_one ce close false _ closes right us b h)))
      (atoms ops (suc parens))
      (begins_one (is open') open' true _ (known open'))
      (λ front us v h clear. no_open front us v.0 h.0))
      (λ front v h. elim h [ inl f ↦ group_to ops parens front v f | inr f ↦ atom_in ops (suc parens) front v f ])
      (group_from ops parens)
      (λ t h. h)
