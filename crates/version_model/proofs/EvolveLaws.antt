-- An evolution leaves a sound state.
use Rattle.std.proofs.Common.{◌≡◌, ℕ, ◌+◌, ◌≤◌, false, List, [], ◌∷◌, inl, inr, refl, sym, ap, ◌∙◌, subst, map, length, arith}
use Rattle.version_graph.specs.Sets.{In, Within}
use Rattle.version_graph.specs.Tables.{table_numbers}
use Rattle.version_graph.specs.Edges.{AreEdges, numbers, made}
use Rattle.version_graph.specs.Evolve.{grown, placed_next}
use Rattle.version_graph.specs.Forest.{Link, Crossing, crossing, forest, link}
use Rattle.version_graph.specs.declared.parts.Edge.{Edge}
use Rattle.version_graph.specs.declared.parts.Placed.{Placed}
use Rattle.op_law.specs.Tables.{Tables, Heading, AreTablesOf, empty_tables}
use Rattle.op_law.specs.Meaning.{Meaning, PairState}
use Rattle.op_law.specs.Premises.{IsPair}
use Rattle.op_law.specs.Laws.{Laws}
use Rattle.version_graph.proofs.SetLaws.{each_both, each_more}
use Rattle.version_graph.proofs.WalkLaws.{Fits, Of, all_of, is_forest, leaves_front, targets_apart}
use Rattle.version_model.specs.States.{State, empty_at, headings, IsWell}
use Rattle.version_model.specs.Sound.{IsSound}
use Rattle.version_model.specs.Steps.{IsRelated, mapped, pair_in}
use Rattle.version_model.specs.Evolving.{AreBuilt, with_link}
use Rattle.version_model.specs.Laws.{EvolutionKeeps}
use Rattle.version_model.proofs.PutLaws.{put_else, put_other}
use Rattle.version_model.proofs.RunLaws.{IsReady, MayCross, after_related, after_rises, after_well, leaves_pair, may_cross}
use Rattle.version_model.proofs.CrossingLaws.{is_within}
use Rattle.version_model.proofs.HeadingLaws.{made_more, numbers_within, same_headings, well_in_more}

-- ---- the state without rows

pub empty_well : (heading : ℕ → Heading) (n : ℕ) → IsWell heading (empty_at n)
empty_well heading n = record { tables = λ t. (tt, tt); rows = λ t. tt; memories = λ t. tt }

-- THE STATE OF NO OPERATORS IS SOUND
pub empty_sound : {O : Type 0} (meaning : O → Meaning) (n : ℕ) → 1 ≤ n → IsSound meaning [] (empty_at n)
empty_sound {O} meaning n drawn = record {
  related = tt;
  closed = tt;
  well = empty_well (headings {O = O} []) n;
  alone = record { tables = λ t none. refl; memories = λ t none. refl };
  drawn = drawn;
}

-- tables without rows, for each heading
pub empty_map : (n : ℕ) (heading : ℕ → Heading) (ks : List ℕ) → empty_tables (map heading ks) ≡ map (empty_at n).tables ks
empty_map n heading [] = refl
empty_map n heading (k ∷ ks) = ap (λ (ts : Tables). [] ∷ ts) (empty_map n heading ks)

pub empty_are : (n : ℕ) (heading : ℕ → Heading) (ks : List ℕ) → AreTablesOf (map heading ks) (map (empty_at n).tables ks)
empty_are n heading [] = tt
empty_are n heading (k ∷ ks) = ((tt, tt), empty_are n heading ks)

-- ---- one operator more

module _ {O : Type 0} (meaning : O → Meaning) (laws : (o : O) → Laws (meaning o)) (es : List (Placed O)) (new : Placed O) (edges : AreEdges (new ∷ es)) (s : State) (sound : IsSound meaning es s)
    (fits : (meaning new.edge.operator).Fits (map (headings (new ∷ es)) (link es new).sources) (map (headings (new ∷ es)) (link es new).targets)) (closed : (meaning new.edge.operator).Closed s.next) where
  abbrev here : Crossing O
  here = crossing false (link es new)

  abbrev next : State
  next = with_link meaning s (link es new)

  fit : Fits (forest es) (link es new)
  fit = (is_forest (new ∷ es) edges).0

  more_made : Within (made es) (made (new ∷ es))
  more_made = made_more new es

  well : IsWell (headings (new ∷ es)) s
  well = well_in_more es (new ∷ es) edges.1 edges more_made s sound.well sound.alone

  -- the old pair is empty, and related
  pub empty_ready : IsReady meaning (headings (new ∷ es)) (empty_at s.next) here
  empty_ready =
      let hs = map (headings (new ∷ es)) (link es new).sources in
      let ht = map (headings (new ∷ es)) (link es new).targets in
      let m = meaning new.edge.operator in
      let related = (laws new.edge.operator).0.empty hs ht fits in
      record {
        related = record {
          fits = fits;
          related = subst (λ (x : Tables). m.Related (map (empty_at s.next).tables (link es new).sources) x []) (empty_map s.next (headings (new ∷ es)) (link es new).targets)
              (subst (λ (x : Tables). m.Related x (empty_tables ht) []) (empty_map s.next (headings (new ∷ es)) (link es new).sources) related);
          source_of = empty_are s.next (headings (new ∷ es)) (link es new).sources;
          target_of = empty_are s.next (headings (new ∷ es)) (link es new).targets;
        };
        closed = closed;
      }

  same_next : s.next ≤ (empty_at s.next).next
  same_next = omega arith

  -- THE MAPPING OF A NEW OPERATOR MAY BE MADE
  pub link_may_cross : MayCross meaning (headings (new ∷ es)) (empty_at s.next) s here
  link_may_cross = may_cross meaning laws (headings (new ∷ es)) (empty_at s.next) (empty_well (headings (new ∷ es)) s.next) s here well same_next empty_ready

  pub link_rises : s.next ≤ next.next
  link_rises = after_rises meaning laws (headings (new ∷ es)) (empty_at s.next) (empty_well (headings (new ∷ es)) s.next) s here well same_next empty_ready

  -- the older operators are as they were
  older_related : (f : Link O) → IsRelated meaning (headings es) s (crossing false f) → Of (forest es) (crossing false f) → IsRelated meaning (headings (new ∷ es)) next (crossing false f)
  older_related f r o =
      let within = is_within es edges.1 (crossing false f) o in
      let m = meaning f.operator in
      let near = same_headings es (new ∷ es) edges.1 edges more_made f.sources within.near in
      let far = same_headings es (new ∷ es) edges.1 edges more_made f.targets within.far in
      let pair = leaves_pair meaning (empty_at s.next) s (crossing false f) here (leaves_front (link es new) (forest es) fit (crossing false f) o) in
      subst (λ (x : PairState). IsPair m (map (headings (new ∷ es)) f.sources) (map (headings (new ∷ es)) f.targets) x) (sym pair)
      (subst (λ (hs : List Heading). IsPair m hs (map (headings (new ∷ es)) f.targets) (pair_in s (crossing false f))) near
      (subst (λ (ht : List Heading). IsPair m (map (headings es) f.sources) ht (pair_in s (crossing false f))) far r))

  -- a table that the new operator doesn't make stays
  link_table : (t : ℕ) → (In t new.tables → ⊥) → next.tables t ≡ s.tables t
  link_table t none = put_other s.tables new.tables (mapped meaning (empty_at s.next) s here).far t none

  link_memory : (n : ℕ) → (n ≡ new.number → ⊥) → next.memory n ≡ s.memory n
  link_memory n other = put_else s.memory new.number (mapped meaning (empty_at s.next) s here).memory n other

  pub old_table : (t : ℕ) → In t (table_numbers (made es)) → next.tables t ≡ s.tables t
  old_table t i = link_table t (λ j. let less = edges.0.above t t i j in omega arith)

  pub old_memory : (n : ℕ) → In n (numbers es) → next.memory n ≡ s.memory n
  old_memory n i = link_memory n (λ same. let less = edges.0.newest n (inr i) in omega arith)

  new_table : Within new.tables (table_numbers (made (new ∷ es)))
  new_table t i = (is_within (new ∷ es) edges here (all_of (forest (new ∷ es)) (is_forest (new ∷ es) edges)).0).far t i

  pub link_sound : IsSound meaning (new ∷ es) next
  link_sound =
      let old = empty_at s.next in
      let empty = empty_well (headings (new ∷ es)) s.next in
      let apart = λ (n : ℕ) (i : In n (link es new).sources) (j : In n new.tables). targets_apart (forest es) (link es new) fit n j i in
      let low = sound.drawn in
      let up = link_rises in
      record {
        related = (
          after_related meaning laws (headings (new ∷ es)) old empty s here well same_next empty_ready fit.targets apart,
          each_both (λ (f : Link O). IsRelated meaning (headings es) s (crossing false f)) (λ (f : Link O). Of (forest es) (crossing false f)) (λ (f : Link O). IsRelated meaning (headings (new ∷ es)) next (crossing false f))
              older_related (forest es) sound.related (all_of (forest es) (is_forest es edges.1)),
        );
        closed = (
          (laws new.edge.operator).0.closed_more s.next next.next up closed,
          each_more (λ (f : Link O). (meaning f.operator).Closed s.next) (λ (f : Link O). (meaning f.operator).Closed next.next) (λ f c. (laws f.operator).0.closed_more s.next next.next up c) (forest es) sound.closed,
        );
        well = after_well meaning laws (headings (new ∷ es)) old empty s here well same_next empty_ready;
        alone = record {
          tables = λ t none. link_table t (λ i. none (new_table t i)) ∙ sound.alone.tables t (λ i. none (numbers_within es (new ∷ es) more_made t i));
          memories = λ n none. link_memory n (λ same. none (inl same)) ∙ sound.alone.memories n (λ i. none (inr i));
        };
        drawn = omega arith;
      }

-- ---- an evolution

module _ {O : Type 0} where
  -- what was there before an evolution are edges
  pub before_grown : (es : List (Placed O)) (parent operator table : ℕ) (edges : List (Edge O)) → AreEdges (grown es parent operator table edges) → AreEdges es
  before_grown es parent operator table [] all = all
  before_grown es parent operator table (e ∷ edges) all = (before_grown (placed_next parent operator table e ∷ es) (operator + 1) (operator + 1) (table + length e.targets) edges all).1

  -- these edges may be added to a sound state; n was the next identifier before the first of them
  pub record MayGrow (meaning : O → Meaning) (es : List (Placed O)) (parent operator table : ℕ) (edges : List (Edge O)) (s : State) (n : ℕ) : Type 0 where
    pub all : AreEdges (grown es parent operator table edges)
    pub sound : IsSound meaning es s
    pub built : AreBuilt meaning es parent operator table edges n
    pub drawn : n ≤ s.next

  module _ (meaning : O → Meaning) (laws : (o : O) → Laws (meaning o)) where
    module _ (es : List (Placed O)) (parent operator table : ℕ) (e : Edge O) (edges : List (Edge O)) (s : State) (n : ℕ) (may : MayGrow meaning es parent operator table (e ∷ edges) s n) where
      abbrev pub first : Placed O
      first = placed_next parent operator table e

      pub first_edges : AreEdges (first ∷ es)
      first_edges = before_grown (first ∷ es) (operator + 1) (operator + 1) (table + length e.targets) edges may.all

      first_closed : (meaning e.operator).Closed s.next
      first_closed = (laws e.operator).0.closed_more n s.next may.drawn may.built.1

      pub first_may_cross : MayCross meaning (headings (first ∷ es)) (empty_at s.next) s (crossing false (link es first))
      first_may_cross = link_may_cross meaning laws es first first_edges s may.sound may.built.0 first_closed

      pub first_rises : s.next ≤ (with_link meaning s (link es first)).next
      first_rises = link_rises meaning laws es first first_edges s may.sound may.built.0 first_closed

      first_table : (t : ℕ) → In t (table_numbers (made es)) → (with_link meaning s (link es first)).tables t ≡ s.tables t
      first_table = old_table meaning laws es first first_edges s may.sound may.built.0 first_closed

      first_memory : (k : ℕ) → In k (numbers es) → (with_link meaning s (link es first)).memory k ≡ s.memory k
      first_memory = old_memory meaning laws es first first_edges s may.sound may.built.0 first_closed

      -- the other edges may be added after the first one
      pub rest_may : MayGrow meaning (first ∷ es) (operator + 1) (operator + 1) (table + length e.targets) edges (with_link meaning s (link es first)) n
      rest_may =
          let low = may.drawn in
          let up = first_rises in
          record {
            all = may.all;
            sound = link_sound meaning laws es first first_edges s may.sound may.built.0 first_closed;
            built = may.built.2;
            drawn = omega arith;
          }

    -- AN EVOLUTION LEAVES A SOUND STATE, AND WHAT WAS THERE BEFORE
    pub evolution_keeps : (es : List (Placed O)) (parent operator table : ℕ) (edges : List (Edge O)) (s : State) (n : ℕ) → MayGrow meaning es parent operator table edges s n → EvolutionKeeps meaning es parent operator table edges s
    evolution_keeps es parent operator table [] s n may = record { sound = may.sound; tables = λ t i. refl; memories = λ k i. refl; rises = omega arith }
    evolution_keeps es parent operator table (e ∷ edges) s n may =
        let new = placed_next parent operator table e in
        let up = first_rises es parent operator table e edges s n may in
        let rest = evolution_keeps (new ∷ es) (operator + 1) (operator + 1) (table + length e.targets) edges (with_link meaning s (link es new)) n (rest_may es parent operator table e edges s n may) in
        let more = rest.rises in
        record {
          sound = rest.sound;
          tables = λ t i. rest.tables t (numbers_within es (new ∷ es) (made_more new es) t i) ∙ first_table es parent operator table e edges s n may t i;
          memories = λ k i. rest.memories k (inr i) ∙ first_memory es parent operator table e edges s n may k i;
          rises = omega arith;
        }
