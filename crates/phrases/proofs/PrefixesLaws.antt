-- A prefix operator, within limits.
use Rattle.std.proofs.Common.{◌≡◌, ◌++◌, ◌∷◌, [], ℕ, zero, suc, ◌+◌, List, Bool, true, false, refl, ap, append-nil, ◌∙◌, sym, inl, inr, arith}
use Rattle.std.specs.Prelude.{Option, Some}
use Rattle.phrases.specs.Reading.{starts, is}
use Rattle.phrases.specs.Phrases.{Nothing, Seq, Either, OneOf}
use Rattle.phrases.specs.Reads.{Reads}
use Rattle.phrases.specs.Chains.{Part, Item, Within, opens}
use Rattle.phrases.specs.Levels.{Prefixed, Prefix, prefix_at}
use Rattle.phrases.proofs.ReadersLaws.{either-reads, respell, word, begins_one, known}
use Rattle.phrases.proofs.ChainsLaws.{part, part_is}
use Rattle.phrases.proofs.ListsLaws.{made-reads}

module _ {Tok X E : Type 0} (make : E → E) (cost : E → ℕ) (weight : Tok → ℕ) (costs : (a : E) → cost (make a) ≡ cost a + 1)
    (op : Tok → Option X) (mark : Tok) (that : X) (knows : op mark ≡ Some that) (not_open : (t : Tok) (x : X) → op t ≡ Some x → weight t ≡ 0)
    (ci : Tok → Bool) (C : List Tok → E → Type 0) (item : Item Tok E) (items : (ops parens : ℕ) → Reads ci (Within cost weight C ops parens) (item ops parens))
    (no_op : (ts us : List Tok) (e : E) → C ts e → starts (is op) (ts ++ us) ≡ false) where
  abbrev Inner : ℕ → ℕ → List Tok → Part E → Type 0
  Inner = Within cost weight (Prefix make op C)

  abbrev Ops : ℕ → ℕ → List Tok → Part E → Type 0
  Ops ops parens = Seq (OneOf op) (λ _. Seq (Inner ops parens) (λ x. Nothing (part (make x.0) x.1 x.2)))

  ops_to : (ops parens : ℕ) (front : List Tok) (y : Part E) → Ops ops parens front y → Inner (suc ops) parens front y
  ops_to ops parens front y h =
      let s = h.second in
      let w = s.first in
      let d = s.second in
      let t = h.first in
      let all : h.right ≡ s.left = s.whole ∙ ap (λ (l : List Tok). s.left ++ l) d.0 ∙ append-nil s.left in
      let whole : front ≡ t.0 ∷ s.left = h.whole ∙ ap (λ (l : List Tok). l ++ h.right) t.1 ∙ ap (λ (l : List Tok). t.0 ∷ l) all in
      let had : s.value.1 + cost s.value.0 ≡ ops = w.1 in
      let outer : s.value.2 + opens weight s.left ≡ parens = w.2 in
      let same : make s.value.0 ≡ y.0 = ap (λ (p : Part E). p.0) d.1 in
      let ops_is : s.value.1 ≡ y.1 = ap (λ (p : Part E). p.1) d.1 in
      let parens_is : s.value.2 ≡ y.2 = ap (λ (p : Part E). p.2) d.1 in (
        record { count = suc w.0.count; spelled = (t.0, h.value, s.left, s.value.0, t.2, whole, same, w.0.spelled) },
        omega (arith, ap cost same, costs s.value.0),
        omega (arith, ap (opens weight) whole, not_open t.0 h.value t.2),
      )

  ops_from : (ops parens : ℕ) (front : List Tok) (y : Part E) → Inner (suc ops) parens front y → Either (Ops ops parens) (Within cost weight C (suc ops) parens) front y
  ops_from ops parens front y h = at h.0.count h.0.spelled
    where
      spent : y.1 + cost y.0 ≡ suc ops
      spent = h.1

      left : y.2 + opens weight front ≡ parens
      left = h.2

      at : (k : ℕ) → Prefixed make op C k front y.0 → Either (Ops ops parens) (Within cost weight C (suc ops) parens) front y
      at zero n = inr (n, h.1, h.2)
      at (suc k) n = inl (record {
        value = n.1;
        left = n.0 ∷ [];
        right = n.2;
        whole = n.5;
        first = (n.0, refl, n.4);
        second = record {
          value = (n.3, y.1, y.2);
          left = n.2;
          right = [];
          whole = sym (append-nil n.2);
          first = (record { count = k; spelled = n.7 }, omega (arith, ap cost n.6, costs n.3, spent), omega (arith, ap (opens weight) n.5, not_open n.0 n.1 n.4, left));
          second = (refl, part_is (make n.3) y.1 y.2 y n.6 refl refl);
        };
      })

  ops_none : (parens : ℕ) (front : List Tok) (y : Part E) → Inner 0 parens front y → Within cost weight C 0 parens front y
  ops_none parens front y h = at h.0.count h.0.spelled
    where
      at : (k : ℕ) → Prefixed make op C k front y.0 → Within cost weight C 0 parens front y
      at zero n = (n, h.1, h.2)
      at (suc k) n = absurd (omega (arith, ap cost n.6, costs n.3, h.1))

  pub prefix-reads : (ops parens : ℕ) → Reads ci (Inner ops parens) (prefix_at make op item ops parens)
  unfolding prefix_at
  prefix-reads zero parens = respell ci ci _ _ _ (items 0 parens) (λ front y w. (record { count = 0; spelled = w.0 }, w.1, w.2)) (ops_none parens) (λ t h. h)
  prefix-reads (suc ops) parens = respell ci ci _ _ _
      (either-reads ci (is op) (Ops ops parens) (Within cost weight C (suc ops) parens) _ _
      (word ci op mark that knows _ _ (λ _. made-reads ci (Inner ops parens) (prefix_at make op item ops parens) (λ x. part (make x.0) x.1 x.2) (prefix-reads ops parens)))
      (items (suc ops) parens)
      (begins_one (is op) op true _ (known op))
      (λ front us y h clear. no_op front us y.0 h.0))
      (λ front y h. elim h [ inl f ↦ ops_to ops parens front y f | inr f ↦ (record { count = 0; spelled = f.0 }, f.1, f.2) ])
      (ops_from ops parens)
      (λ t h. h)
