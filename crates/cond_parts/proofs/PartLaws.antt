-- Identifiers that are closed in the memory split a pair of JOIN ON a condition, and keep changes apart.
use Rattle.std.proofs.Common.{◌≡◌, ℕ, List, [], ◌∷◌, Bool, false, not, refl, ap, sym, ◌∙◌}
use Rattle.row_store.specs.Rows.{Rows}
use Rattle.id_memory.specs.Pairs.{Pairs}
use Rattle.op_law.specs.Local.{only}
use Rattle.op_law.specs.Meaning.{PairState}
use Rattle.op_law.specs.Premises.{IsPair}
use Rattle.op_law.specs.Tables.{Heading, Tables}
use Rattle.op_rows.specs.inner.RowwiseLocal.{well_only}
use Rattle.pair_rows.specs.Halves.{first_of, second_of}
use Rattle.pair_rows.specs.Kept.{alone}
use Rattle.pair_rows.specs.Shown.{IsJoined, Joining}
use Rattle.pair_rows.specs.Sides.{table_at}
use Rattle.pair_rows.specs.Stays.{stands}
use Rattle.pair_rows.specs.inner.TwoSides.{two_tables}
use Rattle.op_cond_join.specs.JoinOn.{join_on}
use Rattle.pair_parts.specs.Parts.{memory_only, part_of_pair}
use Rattle.cond_parts.specs.Closed.{BringsRows}
use Rattle.cond_parts.specs.Laws.{ClosedKeepsApart, ClosedSplits}
use Rattle.cond_parts.proofs.JoinedLemmas.{part_joined}
use Rattle.cond_parts.proofs.MemoryLemmas.{BringsIt, Each, brings_first, brings_second, each_brings, stands_rest}
use Rattle.cond_parts.proofs.TableLemmas.{alone_part, alone_rest, same_at, table_only}

-- the part is related, where entries bring their rows
pub part_related : (j : Joining) (P : ℕ → Bool) (p : PairState) → IsJoined j (table_at 0 p.source) (table_at 1 p.source) (table_at 0 p.target) p.memory → BringsRows P p.memory
    → IsJoined j (table_at 0 (only P p.source)) (table_at 1 (only P p.source)) (table_at 0 (only P p.target)) (memory_only P p.memory)
part_related j P p is rows =
    let first = table_only P 0 p.source in
    let second = table_only P 1 p.source in
    let target = table_only P 0 p.target in
    rw (first, second, target) (part_joined j P (table_at 0 p.source) (table_at 1 p.source) (table_at 0 p.target) p.memory is rows)

-- so it is a pair
pub part_pair : (j : Joining) (P : ℕ → Bool) (hs ht : List Heading) (p : PairState) → IsPair (join_on j) hs ht p → BringsRows P p.memory → IsPair (join_on j) hs ht (part_of_pair P p)
part_pair j P hs ht p pair rows = record {
  fits = pair.fits;
  related = part_related j P p pair.related rows;
  source_of = well_only P hs p.source pair.source_of;
  target_of = well_only P ht p.target pair.target_of;
}

-- two tables, each of which is another
pub two_same : {a b c d : Rows} → a ≡ b → c ≡ d → ◌≡◌ {A = Tables} (a ∷ c ∷ []) (b ∷ d ∷ [])
two_same {b} {c} p q = ap (λ (x : Rows). x ∷ c ∷ []) p ∙ ap (λ (x : Rows). b ∷ x ∷ []) q

-- THE LAW OF PARTS
pub closed_splits : ClosedSplits
closed_splits j P hs ht p pair closed =
    let s = table_at 0 p.source in
    let t = table_at 1 p.source in
    let m = p.memory in
    let small = memory_only P m in
    let two = two_tables _ _ hs p.source pair.fits.source pair.source_of in
    record {
      related = λ xs ys is. part_pair j P xs ys p is closed.rows;
      at_source = refl;
      at_target =
          two_same
          (ap (alone first_of small) (table_only P 0 p.source) ∙ alone_part P first_of m s two.first_rise closed.first)
          (ap (alone second_of small) (table_only P 1 p.source) ∙ alone_part P second_of m t two.second_rise closed.second);
    }

-- outside of what passes a row stands in entries as it did
stands_same : (P : ℕ → Bool) (pick : ℕ × ℕ × ℕ → ℕ) (m new : Pairs) (q : ℕ) → memory_only (λ i. not (P i)) new ≡ memory_only (λ i. not (P i)) m → Each (BringsIt P pick) m → Each (BringsIt P pick) new → P q ≡ false → stands pick new q ≡ stands pick m q
stands_same P pick m new q same old_brings new_brings out =
    sym (stands_rest P pick new q out new_brings) ∙ ap (λ (es : Pairs). stands pick es q) same ∙ stands_rest P pick m q out old_brings

-- THE LAW OF CHANGES
pub closed_keeps_apart : ClosedKeepsApart
closed_keeps_apart j P hs ht old new before after same rows closed =
    let one = two_tables _ _ hs old.source before.fits.source before.source_of in
    let two = two_tables _ _ hs new.source after.fits.source after.source_of in
    let Q : ℕ → Bool = λ q. not (P q) in
    let brings = each_brings P old.memory before.related.rises rows in
    let brings_new = each_brings P new.memory after.related.rises closed.rows in
    record {
      splits = closed_splits j P hs ht new after closed;
      at_source = refl;
      at_target =
          two_same
          (alone_rest P first_of old.memory new.memory (table_at 0 old.source) (table_at 0 new.source) one.first_rise two.first_rise
          (λ q out. same_at P 0 old.source new.source q same.source out)
          (λ q out. stands_same P first_of old.memory new.memory q same.memory (brings_first P old.memory brings) (brings_first P new.memory brings_new) out))
          (alone_rest P second_of old.memory new.memory (table_at 1 old.source) (table_at 1 new.source) one.second_rise two.second_rise
          (λ q out. same_at P 1 old.source new.source q same.source out)
          (λ q out. stands_same P second_of old.memory new.memory q same.memory (brings_second P old.memory brings) (brings_second P new.memory brings_new) out));
    }
