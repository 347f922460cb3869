-- One operator after another.
use Rattle.std.proofs.Common.{◌≡◌, ℕ, ◌≤◌, ◌⊎◌, inl, inr, List, true, Err, Some, None, refl, arith, subst, sym, ap, ◌∙◌}
use Rattle.par_base.specs.declared.fault.Fault.{Fault}
use Rattle.par_base.specs.declared.fault.Fault.TheVariants.{Refused, Memory as OutOfMemory}
use Rattle.par_base.specs.declared.refusal.IdsSpent.{IdsSpent}
use Rattle.id_memory.specs.Pairs.{Pairs}
use Rattle.id_memory.specs.States.{CounterState}
use Rattle.op_law.specs.Tables.{Tables, Heading}
use Rattle.op_law.specs.Sound.{HasRow}
use Rattle.op_law.specs.Meaning.{Meaning, PairState, Mapped}
use Rattle.op_law.specs.Premises.{IsPair, MayMap, Belongs, SomeStored}
use Rattle.op_law.specs.Laws.{HalfLaws, InPair}
use Rattle.op_law.specs.Calls.{IsMapped, Admits, first_refused}
use Rattle.op_law.specs.Chained.{MayChain, chain_forward, AreMapped, ChainStored, chain_read, ChainAdmits}
use Rattle.op_law.specs.ChainLaws.{ChainKept, ChainBelowNext, ChainLaws}
use Rattle.op_law.proofs.SoundLaws.{tables_more, pairs_more}

-- the second mapping may be made after the first
pub second_may : (a b : Meaning) → HalfLaws a → HalfLaws b → (near : Tables) (first second : PairState) (n : ℕ) → (c : MayChain a b near first second n) → MayMap b c.hm c.ht (a.forward near first n).far second (a.forward near first n).next
second_may a b la lb near first second n c =
    let to = a.forward near first n in
    let under = la.below c.hs c.hm near first n c.may in
    record {
      sound = record {
        pair = c.sound.pair;
        source = tables_more n to.next under.rises second.source c.sound.source;
        target = tables_more n to.next under.rises second.target c.sound.target;
        memory = pairs_more n to.next under.rises second.memory c.sound.memory;
      };
      closed = lb.closed_more n to.next under.rises c.closed;
      near_of = (la.kept c.hs c.hm near first n c.may).target_of;
      near_sound = under.far;
    }

chain_kept : (a b : Meaning) → HalfLaws a → HalfLaws b → (near : Tables) (first second : PairState) (n : ℕ) → (c : MayChain a b near first second n) → ChainKept a b c.hs c.hm c.ht near first second n
chain_kept a b la lb near first second n c =
    let to = a.forward near first n in
    record {
      first_kept = la.kept c.hs c.hm near first n c.may;
      second_kept = lb.kept c.hm c.ht to.far second to.next (second_may a b la lb near first second n c);
    }

-- where the first mapping changes nothing, the second one doesn't either
chain_still : (a b : Meaning) → HalfLaws a → HalfLaws b → (first second : PairState) (n : ℕ) → MayChain a b first.source first second n → chain_forward a b first.source first second n ≡ (record { far = first.target; memory = first.memory; next = n }, record { far = second.target; memory = second.memory; next = n })
chain_still a b la lb first second n c =
    let own : Mapped = record { far = first.target; memory = first.memory; next = n } in
    let same : a.forward first.source first n ≡ own = la.still c.hs c.hm first n c.may in
    let may : MayMap b c.hm c.ht first.target second n = subst (λ (to : Mapped). MayMap b c.hm c.ht to.far second to.next) same (second_may a b la lb first.source first second n c) in
    let may_own : MayMap b c.hm c.ht second.source second n = subst (λ (near : Tables). MayMap b c.hm c.ht near second n) c.middle may in
    let other = lb.still c.hm c.ht second n may_own in
    let moved : b.forward first.target second n ≡ b.forward second.source second n = ap (λ (near : Tables). b.forward near second n) c.middle in
    ap (λ (to : Mapped). (to, b.forward to.far second to.next)) same ∙ ap (λ (to : Mapped). (own, to)) (moved ∙ other)

chain_drawn : (a b : Meaning) → HalfLaws a → HalfLaws b → (near : Tables) (first second : PairState) (n : ℕ) → MayChain a b near first second n → (id : ℕ) → HasRow id (a.forward near first n).far → HasRow id near ⊎ (InPair id first ⊎ (InPair id second ⊎ (n ≤ id)))
chain_drawn a b la lb near first second n c id has =
    elim ((la.below c.hs c.hm near first n c.may).drawn id has) [
      | inl here ↦ inl here
      | inr rest ↦ elim rest [ inl old ↦ inr (inl old) | inr new ↦ inr (inr (inr new)) ]
    ]

chain_drawn_far : (a b : Meaning) → HalfLaws a → HalfLaws b → (near : Tables) (first second : PairState) (n : ℕ) → MayChain a b near first second n → (id : ℕ) → HasRow id (chain_forward a b near first second n).1.far → HasRow id near ⊎ (InPair id first ⊎ (InPair id second ⊎ (n ≤ id)))
chain_drawn_far a b la lb near first second n c id has =
    let to = a.forward near first n in
    let rises = (la.below c.hs c.hm near first n c.may).rises in
    elim ((lb.below c.hm c.ht to.far second to.next (second_may a b la lb near first second n c)).drawn id has) [
      | inl here ↦ chain_drawn a b la lb near first second n c id here
      | inr rest ↦ elim rest [ inl old ↦ inr (inr (inl old)) | inr new ↦ inr (inr (inr (omega arith))) ]
    ]

chain_below : (a b : Meaning) → HalfLaws a → HalfLaws b → (near : Tables) (first second : PairState) (n : ℕ) → MayChain a b near first second n → ChainBelowNext near first second n (chain_forward a b near first second n).0 (chain_forward a b near first second n).1
chain_below a b la lb near first second n c =
    let to = a.forward near first n in
    let far = b.forward to.far second to.next in
    let one = la.below c.hs c.hm near first n c.may in
    let two = lb.below c.hm c.ht to.far second to.next (second_may a b la lb near first second n c) in
    let rises_one = one.rises in
    let rises_two = two.rises in
    record {
      rises = omega arith;
      middle_sound = tables_more to.next far.next two.rises to.far one.far;
      far_sound = two.far;
      first_sound = pairs_more to.next far.next two.rises to.memory one.memory;
      second_sound = two.memory;
      drawn = λ id has. elim has [
        | inl here ↦ chain_drawn a b la lb near first second n c id here
        | inr there ↦ chain_drawn_far a b la lb near first second n c id there
      ];
    }

chain_recovered : (a b : Meaning) → HalfLaws a → HalfLaws b → (hs hm ht : List Heading) (first second : PairState) → a.reads_target ≡ true → b.reads_target ≡ true → IsPair a hs hm first → IsPair b hm ht second → first.target ≡ second.source → chain_read a b first.source (a.aux_at_source first) (b.aux_at_source second) first.memory second.memory ≡ (first.target, second.target)
chain_recovered a b la lb hs hm ht first second ra rb p q middle =
    let one = la.recovered hs hm first ra p in
    let two = lb.recovered hm ht second rb q in
    let read : Tables → Tables = λ near. b.read_target near (b.aux_at_source second) second.memory in
    ap (λ (near : Tables). (near, read near)) one ∙ ap (λ (far : Tables). (first.target, far)) (ap read middle ∙ two)

pub chain_laws : (a b : Meaning) → HalfLaws a → HalfLaws b → ChainLaws a b
chain_laws a b la lb = record {
  kept = chain_kept a b la lb;
  still = chain_still a b la lb;
  below = chain_below a b la lb;
  recovered = chain_recovered a b la lb;
  empty = λ hs hm ht p q. (la.empty hs hm p, lb.empty hm ht q);
}

-- what refuses the first of two mappings refuses both
pub refused_first : (to f g : Mapped) (next : ℕ) (old new : CounterState) (fault : Fault IdsSpent) → to.next ≤ next → IsMapped to old new (Err fault) → AreMapped f g next old old (Err fault)
refused_first to f g next old new (Refused spent) h is = let far = is.0 in (omega arith, is.1, is.2, refl)
refused_first to f g next old new (OutOfMemory memory) h is = refl

-- what refuses the second of two mappings refuses both, with the same first identifier above the limit
pub refused_second : (to f g : Mapped) (next : ℕ) (old new : CounterState) (fault : Fault IdsSpent) → old.next ≤ next → next ≤ first_refused old → IsMapped to (record old { next = next }) new (Err fault) → AreMapped f g to.next old old (Err fault)
refused_second to f g next old new (Refused spent) low high is =
    let same : first_refused (record old { next = next }) ≡ first_refused old = omega arith in
    let far = is.0 in
    (omega arith, is.1 ∙ same, is.2, refl)
refused_second to f g next old new (OutOfMemory memory) low high is = refl

-- what belongs to a pair gives back its target
pub read_back : (m : Meaning) → HalfLaws m → (hs ht : List Heading) (aux : Tables) (p : PairState) → m.reads_target ≡ true → Belongs m hs ht aux p → m.read_target p.source aux p.memory ≡ p.target
read_back m laws hs ht aux p reads belongs = ap (λ (own : Tables). m.read_target p.source own p.memory) belongs.aux_is ∙ laws.recovered hs ht p reads belongs.pair

-- the middle side that the first operator reads back belongs to the second one's pair
pub second_stored : (a b : Meaning) → HalfLaws a → (near first_aux second_aux : Tables) (first_memory second_memory : Pairs) → ChainStored a b near first_aux second_aux first_memory second_memory → SomeStored b (a.read_target near first_aux first_memory) second_aux second_memory
second_stored a b la near first_aux second_aux first_memory second_memory c =
    let own : PairState = record { source = near; target = c.between; memory = first_memory } in
    let read = read_back a la c.hs c.hm first_aux own c.reads c.belongs.first_belongs in
    let stored : SomeStored b c.between second_aux second_memory = record { hs = c.hm; ht = c.ht; far = c.far; belongs = c.belongs.second_belongs } in
    subst (λ (side : Tables). SomeStored b side second_aux second_memory) (sym read) stored

-- what the second operator doesn't admit, the chain doesn't admit: there is no other middle side
pub none_admitted : (a b : Meaning) → HalfLaws a → (near first_aux second_aux : Tables) (first_memory second_memory : Pairs) (middle : Tables) → a.reads_target ≡ true → Admits a near first_aux first_memory (Some middle) → Admits b middle second_aux second_memory None → ChainAdmits a b near first_aux second_aux first_memory second_memory None
none_admitted a b la near first_aux second_aux first_memory second_memory middle reads first second =
    λ hs hm ht between far belongs.
    let other = belongs.first_belongs in
    let one = read_back a la hs hm first_aux (record { source = near; target = between; memory = first_memory }) reads other in
    let two = read_back a la hs hm first_aux (record { source = near; target = middle; memory = first_memory }) reads (first hs hm other.pair.fits other.pair.source_of) in
    let same : between ≡ middle = sym one ∙ two in
    second hm ht far (subst (λ (side : Tables). Belongs b hm ht second_aux (record { source = side; target = far; memory = second_memory })) same belongs.second_belongs)
