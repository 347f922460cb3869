-- Identifiers that are closed by what is known split a pair.
use Rattle.std.proofs.Common.{◌≡◌, ℕ, ◌==◌, List, [], ◌∷◌, Bool, true, false, Option, sym, subst}
use Rattle.std.proofs.lemmas.Bool.{eqb-true, false≢true}
use Rattle.id_memory.specs.Pairs.{Pairs, RiseFrom}
use Rattle.op_law.specs.Identifiers.{has_id}
use Rattle.op_law.specs.Tables.{Heading}
use Rattle.op_law.specs.Meaning.{PairState, exchanged, flip}
use Rattle.op_law.specs.Premises.{IsPair}
use Rattle.op_law.proofs.OnlyLaws.{by_test}
use Rattle.op_fk_decompose.specs.Columns.{decompose_columns}
use Rattle.op_fk_join.specs.Columns.{join_columns}
use Rattle.pair_rows.specs.Halves.{first_of, second_of}
use Rattle.pair_rows.specs.Shown.{Joining}
use Rattle.pair_rows.specs.Stays.{stands}
use Rattle.op_cond_join.specs.JoinOn.{join_on}
use Rattle.pair_parts.specs.Splits.{Splits}
use Rattle.pair_parts.proofs.SplitLaws.{splits_behind, turned}
use Rattle.fk_parts.proofs.PartLaws.{decompose_splits, join_splits}
use Rattle.cond_parts.specs.Closed.{IsClosedIn}
use Rattle.cond_parts.proofs.MemoryLemmas.{Each, each_of}
use Rattle.cond_parts.proofs.PartLaws.{closed_splits}
use Rattle.cond_parts.proofs.StayLemmas.{stands_more}
use Rattle.outer_law.specs.OuterOn.{outer_on}
use Rattle.outer_parts.proofs.PartLaws.{closed_splits as outer_splits}
use Rattle.op_seeks.specs.Places.{AreClosedBy, AreKnown, PassEntries, PassKnown, condition_place, key_place}
use Rattle.op_seeks.specs.declared.known.Known.{Known}
use Rattle.op_seeks.specs.declared.known.Known.TheVariants.{Keys, Entries}

-- ---- foreign keys

module _ (first second : List ℕ) (place : ℕ) where
  pub decompose_by : (known : Known) (ids : List ℕ) (P : ℕ → Bool) (hs ht : List Heading) (p : PairState) → AreKnown (key_place true place) p known → AreClosedBy known ids → PassKnown P ids (key_place true place) p
      → IsPair (decompose_columns first second place) hs ht p → Splits (decompose_columns first second place) p P
  decompose_by (Keys keys) ids P hs ht p are closing pass pair = decompose_splits first second place keys ids P hs ht p are closing pass.rows pair
  decompose_by (Entries it) ids P hs ht p are closing pass pair = absurd are

  pub outer_by : (known : Known) (ids : List ℕ) (P : ℕ → Bool) (hs ht : List Heading) (p : PairState) → AreKnown (key_place false place) p known → AreClosedBy known ids → PassKnown P ids (key_place false place) p
      → IsPair (flip (decompose_columns first second place)) hs ht p → Splits (flip (decompose_columns first second place)) p P
  outer_by (Keys keys) ids P hs ht p are closing pass pair =
      splits_behind (decompose_columns first second place) P (exchanged p)
      (decompose_splits first second place keys ids P ht hs (exchanged p) are closing pass.rows (turned (flip (decompose_columns first second place)) hs ht p pair))
  outer_by (Entries it) ids P hs ht p are closing pass pair = absurd are

pub join_by : (first second place : ℕ) (known : Known) (ids : List ℕ) (P : ℕ → Bool) (hs ht : List Heading) (p : PairState) → AreKnown (key_place false place) p known → AreClosedBy known ids → PassKnown P ids (key_place false place) p
    → IsPair (join_columns first second place) hs ht p → Splits (join_columns first second place) p P
join_by first second place (Keys keys) ids P hs ht p are closing pass pair = join_splits first second place keys ids P hs ht p are closing pass.rows pair
join_by first second place (Entries it) ids P hs ht p are closing pass pair = absurd are

-- ---- conditions

-- a row that passes and stands in an entry is listed
listed_row : (pick : ℕ × ℕ × ℕ → ℕ) (P : ℕ → Bool) (ids : List ℕ) (es : Pairs) → Each (λ e. P (pick e) ≡ true → has_id ids (pick e) ≡ true) es → (q : ℕ) → P q ≡ true → stands pick es q ≡ true → has_id ids q ≡ true
listed_row pick P ids [] all q pass stand = absurd (false≢true stand)
listed_row pick P ids (e ∷ es) all q pass stand =
    by_test (pick e == q)
    (λ same. let is = eqb-true (pick e) q same in subst (λ (x : ℕ). has_id ids x ≡ true) is (all.0 (subst (λ (x : ℕ). P x ≡ true) (sym is) pass)))
    (λ other. let rest : stands pick es q ≡ true = rw other at stand in listed_row pick P ids es all.1 q pass rest)

-- what passes is closed as the listed ones are
closed_under : (P : ℕ → Bool) (ids : List ℕ) (m : Pairs) → RiseFrom 0 m → ((q : ℕ) → has_id ids q ≡ true → P q ≡ true) → PassEntries P ids m → IsClosedIn (has_id ids) m → IsClosedIn P m
closed_under P ids m rise all pass closed = record {
  rows = λ id a b at own. let both = closed.rows id a b at (pass.own id a b at own) in (all a both.0, all b both.1);
  first = λ q own stand. stands_more (has_id ids) P first_of m q all (closed.first q (listed_row first_of P ids m (each_of (λ e. P (first_of e) ≡ true → has_id ids (first_of e) ≡ true) m rise (λ e at. pass.first e.0 e.1 e.2 at)) q own stand) stand);
  second = λ q own stand. stands_more (has_id ids) P second_of m q all (closed.second q (listed_row second_of P ids m (each_of (λ e. P (second_of e) ≡ true → has_id ids (second_of e) ≡ true) m rise (λ e at. pass.second e.0 e.1 e.2 at)) q own stand) stand);
}

module _ (j : Joining) where
  by_memory : (m : Pairs) (ids : List ℕ) (P : ℕ → Bool) (hs ht : List Heading) (p : PairState) → m ≡ p.memory → IsClosedIn (has_id ids) m → ((q : ℕ) → has_id ids q ≡ true → P q ≡ true) → PassEntries P ids p.memory
      → IsPair (join_on j) hs ht p → Splits (join_on j) p P
  by_memory m ids P hs ht p is closing all pass pair =
      closed_splits j P hs ht p pair (closed_under P ids p.memory pair.related.rises all pass (subst (λ (es : Pairs). IsClosedIn (has_id ids) es) is closing))

  pub join_on_by : (o : Option (ℕ × ℕ)) (known : Known) (ids : List ℕ) (P : ℕ → Bool) (hs ht : List Heading) (p : PairState) → AreKnown (condition_place false o) p known → AreClosedBy known ids → PassKnown P ids (condition_place false o) p
      → IsPair (join_on j) hs ht p → Splits (join_on j) p P
  join_on_by o (Keys keys) ids P hs ht p are closing pass pair = absurd are
  join_on_by o (Entries it) ids P hs ht p are closing pass pair = by_memory it.memory.now.entries ids P hs ht p are.memory closing.0 pass.rows.all pass.entries pair

  pub decompose_on_by : (o : Option (ℕ × ℕ)) (known : Known) (ids : List ℕ) (P : ℕ → Bool) (hs ht : List Heading) (p : PairState) → AreKnown (condition_place true o) p known → AreClosedBy known ids → PassKnown P ids (condition_place true o) p
      → IsPair (flip (join_on j)) hs ht p → Splits (flip (join_on j)) p P
  decompose_on_by o (Keys keys) ids P hs ht p are closing pass pair = absurd are
  decompose_on_by o (Entries it) ids P hs ht p are closing pass pair =
      splits_behind (join_on j) P (exchanged p) (by_memory it.memory.now.entries ids P ht hs (exchanged p) are.memory closing.0 pass.rows.all pass.entries (turned (flip (join_on j)) hs ht p pair))

  pub outer_on_by : (o : Option (ℕ × ℕ)) (known : Known) (ids : List ℕ) (P : ℕ → Bool) (hs ht : List Heading) (p : PairState) → AreKnown (condition_place false o) p known → AreClosedBy known ids → PassKnown P ids (condition_place false o) p
      → IsPair (outer_on j) hs ht p → Splits (outer_on j) p P
  outer_on_by o (Keys keys) ids P hs ht p are closing pass pair = absurd are
  outer_on_by o (Entries it) ids P hs ht p are closing pass pair =
      let closed = closed_under P ids p.memory pair.related.joined.rises pass.rows.all pass.entries (subst (λ (es : Pairs). IsClosedIn (has_id ids) es) are.memory closing.0) in
      outer_splits j P hs ht p pair
      (record { absent = pass.rows.all 0 closing.1; rows = closed.rows; first = λ q low own stand. closed.first q own stand; second = λ q low own stand. closed.second q own stand })
