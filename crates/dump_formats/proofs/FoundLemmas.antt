-- The counts that JSON spells beside a graph.
use Rattle.std.specs.Prelude.{Option, Some, None}
use Rattle.std.proofs.Common.{◌≡◌, ℕ, List, [], ◌∷◌, filter, length, map, refl, sym, ap, ◌∙◌, subst}
use Rattle.std.proofs.lemmas.List.{length-map}
use Rattle.serde_json.specs.Data.{Data, null, boolean, number, string, array, object, Items}
use Rattle.serde_json.specs.Find.{as_array}
use Rattle.serde_json.specs.View.{items_of, items_view}
use Rattle.serde_json.specs.declared.value.Value.{Value as Json}
use Rattle.version_graph.specs.Edges.{AreEdges}
use Rattle.version_graph.specs.declared.parts.Placed.{Placed}
use Rattle.layout_rules.specs.Lookups.{tables_up}
use Rattle.layout_planner.specs.Counts.{AreCounts, counts_for, counts_told, tables_counted}
use Rattle.layout_planner.specs.declared.planning.TableCount.{TableCount}
use Rattle.dump_formats.specs.Formats.{count_json, counts_json}
use Rattle.dump_formats.specs.inner.Read.{FindsCounts, ReadsCounts, is_accessed}
use Rattle.dump_formats.proofs.CountLemmas.{told_again, told_counts}
use Rattle.dump_formats.proofs.SpelledLemmas.{spelled_many}

some_is : {A : Type 0} (a b : A) → Some a ≡ Some b → a ≡ b
some_is a b e = cc

pub array_is : (d : Data) (ds : Items) → as_array d ≡ Some ds → d ≡ array ds
array_is (array es) ds h = ap array (some_is es ds h)
array_is null ds h = absurd (let no : ⊥ = cc in no)
array_is (boolean b) ds h = absurd (let no : ⊥ = cc in no)
array_is (number n) ds h = absurd (let no : ⊥ = cc in no)
array_is (string s) ds h = absurd (let no : ⊥ = cc in no)
array_is (object ms) ds h = absurd (let no : ⊥ = cc in no)

-- what is told is told of these tables
for_tables : (counts : List TableCount) (ts : List ℕ) → tables_counted (counts_for counts ts) ≡ ts
for_tables counts [] = refl
for_tables counts (t ∷ ts) = ap (λ (l : List ℕ). t ∷ l) (for_tables counts ts)

module _ {O : Type 0} (es : List (Placed O)) where
  module _ (edges : AreEdges es) (d : Data) (xs : List Json) (is : as_array d ≡ Some (items_view xs)) (tables : List ℕ) (up : tables ≡ tables_up es) where
    told_items : (counts : List TableCount) → d ≡ counts_json (counts_told es counts) → items_view xs ≡ items_of (map count_json (counts_told es counts))
    told_items counts same = some_is (items_view xs) (items_of (map count_json (counts_told es counts))) (sym is ∙ ap as_array same)

    -- with one item for each table
    pub counts_length : (length xs ≡ length tables → ⊥) → FindsCounts es d None
    counts_length other counts are same =
        let many = spelled_many count_json xs (counts_told es counts) (told_items counts same) in
        other (many ∙ length-map (tables_up es) _ ∙ ap length (sym up))

    pub counts_found : (told counts : List TableCount) → counts ≡ filter is_accessed told → ReadsCounts tables (items_view xs) (Some told) → FindsCounts es d (Some counts)
    counts_found told counts kept reads =
        let all : tables_counted told ≡ tables_up es = reads.0 ∙ up in
        let whole : d ≡ counts_json told = array_is d (items_view xs) is ∙ ap array reads.1 in (
          subst (AreCounts es) (sym kept) (told_counts es edges told all),
          whole ∙ ap counts_json (sym (told_again es edges told all) ∙ ap (counts_told es) (sym kept)),
        )

    pub counts_none : ReadsCounts tables (items_view xs) None → FindsCounts es d None
    counts_none none counts are same = none (counts_told es counts) (for_tables counts (tables_up es) ∙ sym up) (told_items counts same)

-- what is read of equal lists
pub reads_of : (ts tables : List ℕ) (ys xs : List Json) (found told : Option (List TableCount)) → ts ≡ tables → ys ≡ xs → found ≡ told → ReadsCounts ts (items_view ys) found → ReadsCounts tables (items_view xs) told
reads_of ts tables ys xs found told a b c reads =
    let P : List ℕ × List Json × Option (List TableCount) → Type 0 = λ (k : List ℕ × List Json × Option (List TableCount)). ReadsCounts k.0 (items_view k.1) k.2 in
    subst P (λ i. (a i, b i, c i)) reads
