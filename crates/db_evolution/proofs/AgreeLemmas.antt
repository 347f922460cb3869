-- States that agree on the sources of new operators agree on what these make.
use Rattle.std.proofs.Common.{◌≡◌, ℕ, ◌==◌, ◌≤◌, false, true, cond, List, [], ◌∷◌, Bool, refl, sym, ap, ◌∙◌, subst, map, arith}
use Rattle.version_graph.specs.Sets.{In, Each}
use Rattle.version_graph.specs.Forest.{Link, crossing}
use Rattle.op_law.specs.Tables.{Tables}
use Rattle.op_law.specs.Meaning.{Mapped, Meaning}
use Rattle.op_law.specs.Premises.{SomeMap}
use Rattle.version_model.specs.Put.{put}
use Rattle.version_model.specs.States.{State, empty_at}
use Rattle.version_model.specs.Steps.{mapped, pair_in}
use Rattle.version_model.specs.Evolving.{with_link}
use Rattle.version_model.specs.Making.{MayMake, with_links}
use Rattle.version_model.proofs.PutLaws.{map_same}

put_same : {A : Type 0} (f g : ℕ → A) (ks : List ℕ) (vs : List A) (n : ℕ) → f n ≡ g n → put f ks vs n ≡ put g ks vs n
put_same f g [] vs n same = same
put_same f g (k ∷ ks) [] n same = same
put_same f g (k ∷ ks) (v ∷ vs) n same = elim (n == k) as (λ b. cond b v (put f ks vs n) ≡ cond b v (put g ks vs n)) [ true ↦ refl | false ↦ put_same f g ks vs n same ]

-- two states are the same at some tables and some memories
pub record Agree (P Q : ℕ → Type 0) (a b : State) : Type 0 where
  pub tables : (t : ℕ) → P t → a.tables t ≡ b.tables t
  pub memories : (n : ℕ) → Q n → a.memory n ≡ b.memory n
  pub next : a.next ≡ b.next

-- the sources of the operator are among the tables
abbrev pub TakesAmong : {O : Type 0} → (ℕ → Type 0) → Link O → Type 0
TakesAmong P f = (t : ℕ) → In t f.sources → P t

module _ {O : Type 0} (meaning : O → Meaning) (P Q : ℕ → Type 0) where
  module _ (a b : State) (agree : Agree P Q a b) (f : Link O) (takes : TakesAmong P f) where
    near : map a.tables f.sources ≡ map b.tables f.sources
    near = map_same a.tables b.tables f.sources (λ t i. agree.tables t (takes t i))

    mapped_same : mapped meaning (empty_at a.next) a (crossing false f) ≡ mapped meaning (empty_at b.next) b (crossing false f)
    mapped_same =
        ap (λ (ts : Tables). (meaning f.operator).forward ts (pair_in (empty_at a.next) (crossing false f)) a.next) near
        ∙ ap (λ (n : ℕ). (meaning f.operator).forward (map b.tables f.sources) (pair_in (empty_at n) (crossing false f)) n) agree.next

    next_agrees : Agree P Q (with_link meaning a f) (with_link meaning b f)
    next_agrees =
        let to = mapped meaning (empty_at b.next) b (crossing false f) in
        record {
          tables = λ t h. ap (λ (x : Mapped). put a.tables f.targets x.far t) mapped_same ∙ put_same a.tables b.tables f.targets to.far t (agree.tables t h);
          memories = λ n h. ap (λ (x : Mapped). put a.memory (f.number ∷ []) (x.memory ∷ []) n) mapped_same ∙ put_same a.memory b.memory (f.number ∷ []) (to.memory ∷ []) n (agree.memories n h);
          next = ap (λ (x : Mapped). x.next) mapped_same;
        }

    one_may : SomeMap (meaning f.operator) (map b.tables f.sources) (pair_in (empty_at b.next) (crossing false f)) b.next → SomeMap (meaning f.operator) (map a.tables f.sources) (pair_in (empty_at a.next) (crossing false f)) a.next
    one_may may =
        subst (λ (n : ℕ). SomeMap (meaning f.operator) (map a.tables f.sources) (pair_in (empty_at n) (crossing false f)) n) (sym agree.next)
        (subst (λ (ts : Tables). SomeMap (meaning f.operator) ts (pair_in (empty_at b.next) (crossing false f)) b.next) (sym near) may)

    one_rises : b.next ≤ (with_link meaning b f).next → a.next ≤ (with_link meaning a f).next
    one_rises up =
        let before = agree.next in
        let after = next_agrees.next in
        omega (arith, up, before, after)

  -- WHAT NEW OPERATORS MAKE HANGS ON THEIR SOURCES ALONE
  pub links_agree : (fs : List (Link O)) (a b : State) → Agree P Q a b → Each (TakesAmong P) fs → Agree P Q (with_links meaning a fs) (with_links meaning b fs)
  links_agree [] a b agree takes = agree
  links_agree (f ∷ fs) a b agree takes = links_agree fs (with_link meaning a f) (with_link meaning b f) (next_agrees a b agree f takes.0) takes.1

  -- and so does whether they may be made
  pub may_agree : (fs : List (Link O)) (a b : State) → Agree P Q a b → Each (TakesAmong P) fs → MayMake meaning b fs → MayMake meaning a fs
  may_agree [] a b agree takes may = tt
  may_agree (f ∷ fs) a b agree takes may = (
    may.0,
    one_may a b agree f takes.0 may.1,
    one_rises a b agree f takes.0 may.2,
    may_agree fs (with_link meaning a f) (with_link meaning b f) (next_agrees a b agree f takes.0) takes.1 may.3,
  )

among : (P : ℕ → Type 0) (x : Bool) (ks ls : List ℕ) → ((t : ℕ) → In t ks → P t) → ((t : ℕ) → In t ls → P t) → (t : ℕ) → In t (cond x ks ls) → P t
among P true ks ls h k = h
among P false ks ls h k = k

-- states that are the same at both sides of an operator and at its memory have the same pair of it
pub pair_same : {O : Type 0} (a b : State) (x : Bool) (f : Link O) → ((t : ℕ) → In t f.sources → a.tables t ≡ b.tables t) → ((t : ℕ) → In t f.targets → a.tables t ≡ b.tables t) → a.memory f.number ≡ b.memory f.number → pair_in a (crossing x f) ≡ pair_in b (crossing x f)
pair_same a b x f sources targets memory =
    let same : ℕ → Type 0 = λ t. a.tables t ≡ b.tables t in
    let near_is = map_same a.tables b.tables (cond x f.targets f.sources) (among same x f.targets f.sources targets sources) in
    let far_is = map_same a.tables b.tables (cond x f.sources f.targets) (among same x f.sources f.targets sources targets) in
    λ j. record { source = near_is j; target = far_is j; memory = memory j }
