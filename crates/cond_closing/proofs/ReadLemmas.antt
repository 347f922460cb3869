-- Identifiers that are closed under the rule are closed in the memory.
use Rattle.std.proofs.Common.{◌≡◌, ℕ, List, [], true, refl, sym, ◌∙◌, subst}
use Rattle.id_memory.specs.Pairs.{Pairs, RiseFrom}
use Rattle.op_law.specs.Identifiers.{has_id}
use Rattle.pair_rows.specs.declared.half.Half.{Half}
use Rattle.pair_rows.specs.declared.half.Half.TheVariants.{First, Second}
use Rattle.pair_rows.specs.Halves.{first_of, pick_of, second_of}
use Rattle.pair_rows.specs.Stays.{stands}
use Rattle.pair_parts.specs.Parts.{memory_only}
use Rattle.cond_parts.specs.Closed.{BringsEntry, IsClosedIn}
use Rattle.id_closing.specs.Closing.{IsClosing}
use Rattle.cond_closing.specs.Steady.{BringsStill, IsBrought, changed_entries}
use Rattle.cond_closing.proofs.EntryLemmas.{Triple}
use Rattle.cond_closing.proofs.StandLaws.{all_stand, stands_by, stands_in}

module _ (m : Pairs) (rise : RiseFrom 0 m) (ids : List ℕ) where
  brings_entry : (pick : Triple → ℕ) (half : Half) → ((e : Triple) → pick_of half e ≡ pick e) → ((q : ℕ) → has_id ids q ≡ true → BringsStill half (changed_entries m []) ids q) → BringsEntry (has_id ids) pick m
  brings_entry pick half is brings q pass stand =
      let s = stands_in pick (λ e. true) 0 m q rise (all_stand pick m q stand) in
      let f = brings q pass s.entry s.is (is s.entry ∙ s.has) refl in
      let listed : has_id ids f.still.entry.0 ≡ true = subst (λ (x : ℕ). has_id ids x ≡ true) (sym f.still.own) f.among in
      subst (λ (x : ℕ). stands pick (memory_only (has_id ids) m) x ≡ true) (sym (is f.still.entry) ∙ f.still.has) (stands_by pick (λ e. has_id ids e.0) m f.still.entry f.still.is listed)

  -- CLOSED IN THE MEMORY
  pub closed_in : (begin : List ℕ) → IsClosing (IsBrought (changed_entries m [])) begin ids → IsClosedIn (has_id ids) m
  closed_in begin closing = record {
    rows = λ id a b at pass. (closing.closed id pass).rows a b at;
    first = brings_entry first_of First (λ e. refl) (λ q pass. (closing.closed q pass).first);
    second = brings_entry second_of Second (λ e. refl) (λ q pass. (closing.closed q pass).second);
  }
