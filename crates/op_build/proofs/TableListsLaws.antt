-- Tables of a working set by their names.
use Rattle.std.proofs.Common.{◌≡◌, ℕ, List, [], ◌∷◌, ◌++◌, Bool, true, false, cond, not, Option, Some, None, inl, inr, refl, sym, ◌∙◌, ap, subst}
use Rattle.std.specs.Prelude.{◌||◌, option_to_list, option_map}
use Rattle.std.specs.List.{list_any}
use Rattle.std.specs.Str.{bytes_eq}
use Rattle.std.proofs.lemmas.Bool.{false≢true}
use Rattle.version_graph.specs.Sets.{In}
use Rattle.version_graph.specs.Tables.{TableVersion, heading_names, headings_of, headings_passing, is_among, table_named, taken}
use Rattle.version_graph.specs.declared.parts.Heading.{Heading}
use Rattle.version_graph.proofs.SetLaws.{in_map, origin}
use Rattle.version_graph.proofs.TableLaws.{passes}
use Rattle.version_graph.proofs.NameLaws.{same_name, name_is}
use Rattle.op_checks.specs.NameChecks.{heading_named, is_passing}
use Rattle.op_build.specs.Laws.{headings_taken}

-- a table that was found stands in the set under its name
pub record Stands (set : List Heading) (name : List ℕ) (h : Heading) : Type 0 where
  pub there : In h set
  pub named : h.name ≡ name

pub found_stands : (set : List Heading) (name : List ℕ) (h : Heading) → heading_named set name ≡ Some h → Stands set name h
found_stands [] name h found = absurd (cc)
found_stands (k ∷ set) name h found =
    let P : Bool → Type 0 = λ b. bytes_eq k.name name ≡ b → cond b (Some k) (heading_named set name) ≡ Some h → Stands (k ∷ set) name h in
    let cases : P (bytes_eq k.name name) = elim (bytes_eq k.name name) as (λ b. P b) [
      | true ↦ λ is found. let same : h ≡ k = cc in record { there = inl same; named = ap (λ (x : Heading). x.name) same ∙ same_name k.name name is }
      | false ↦ λ is found. let rest = found_stands set name h found in record { there = inr rest.there; named = rest.named }
    ] in
    cases refl found

-- so its name is one of the set's
pub stands_named : (set : List Heading) (name : List ℕ) (h : Heading) → Stands set name h → In name (heading_names set)
stands_named set name h stands = subst (λ n. In n (heading_names set)) stands.named (in_map (λ (x : Heading). x.name) h set stands.there)

-- a name that no table has
none_named : (name : List ℕ) (hs : List Heading) → list_any (λ (h : Heading). bytes_eq h.name name) hs ≡ false → In name (heading_names hs) → ⊥
none_named name [] e i = i
none_named name (h ∷ hs) e i =
    let P : Bool → Type 0 = λ b. bytes_eq h.name name ≡ b → (b || list_any (λ (k : Heading). bytes_eq k.name name) hs) ≡ false → ⊥ in
    let cases : P (bytes_eq h.name name) = elim (bytes_eq h.name name) as (λ b. P b) [
      | true ↦ λ is e. false≢true (sym e)
      | false ↦ λ is e. elim i [ inl same ↦ false≢true (sym is ∙ name_is h.name name (sym same)) | inr later ↦ none_named name hs e later ]
    ] in
    cases refl e

-- so is one that no table has which passes through
pub none_passing : (set : List Heading) (sources : List (List ℕ)) (name : List ℕ) → is_passing set sources name ≡ false → In name (heading_names (headings_passing set sources)) → ⊥
unfolding is_passing
none_passing set sources name e i = none_named name (headings_passing set sources) e i

-- no table passes through under the name of the only source
pub source_gone : (name : List ℕ) (set : List Heading) → In name (heading_names (headings_passing set (name ∷ []))) → ⊥
source_gone name set i =
    let o = origin (λ (h : Heading). h.name) name (headings_passing set (name ∷ [])) i in
    let passed = passes (λ (h : Heading). not (is_among (name ∷ []) h)) o.0 set o.1 in
    false≢true (sym (ap (λ (b : Bool). not (b || false)) (name_is o.0.name name (sym o.2))) ∙ passed)

-- the table of a name, and its heading
heading_named-of : (set : List TableVersion) (name : List ℕ) → heading_named (headings_of set) name ≡ option_map (λ (t : TableVersion). t.heading) (table_named set name)
heading_named-of [] name = refl
heading_named-of (t ∷ set) name =
    elim (bytes_eq t.heading.name name) as (λ b. cond b (Some t.heading) (heading_named (headings_of set) name) ≡ option_map (λ (u : TableVersion). u.heading) (cond b (Some t) (table_named set name))) [
      | true ↦ refl
      | false ↦ heading_named-of set name
    ]

one_more : (o : Option TableVersion) (rest : List TableVersion) → option_to_list (option_map (λ (t : TableVersion). t.heading) o) ++ headings_of rest ≡ headings_of (option_to_list o ++ rest)
one_more None rest = refl
one_more (Some t) rest = refl

pub headings_taken-of : (set : List TableVersion) (names : List (List ℕ)) → headings_taken (headings_of set) names ≡ headings_of (taken set names)
headings_taken-of set [] = refl
headings_taken-of set (name ∷ names) =
    ap (λ (o : Option Heading). option_to_list o ++ headings_taken (headings_of set) names) (heading_named-of set name)
    ∙ ap (λ (hs : List Heading). option_to_list (option_map (λ (t : TableVersion). t.heading) (table_named set name)) ++ hs) (headings_taken-of set names)
    ∙ one_more (table_named set name) (taken set names)
