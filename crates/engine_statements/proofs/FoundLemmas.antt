-- The table of a working set by its name.
use Rattle.std.proofs.Common.{◌≡◌, ℕ, List, Option, Some, None, refl, sym, ◌∙◌, ap, subst, arith}
use Rattle.std.specs.Prelude.{option_map}
use Rattle.std.specs.Str.{bytes_eq}
use Rattle.version_graph.specs.Sets.{In}
use Rattle.version_graph.specs.Tables.{TableVersion, table_numbers, table_named}
use Rattle.version_graph.specs.Edges.{AreEdges, Drawn, numbers, made, working, tables_at, heading_of, number_named}
use Rattle.version_graph.specs.declared.parts.Heading.{Heading}
use Rattle.version_graph.specs.declared.parts.Placed.{Placed}
use Rattle.version_graph.proofs.SetLaws.{in_map}
use Rattle.version_graph.proofs.TableLaws.{working_made}
use Rattle.version_graph.proofs.TakenLaws.{found_passes, heading_known, known_set, number_found}
use Rattle.version_graph.proofs.NodeLaws.{above_zero, live_edge, not_zero}
use Rattle.engine_statements.specs.Calls.{table_of}

-- a live working set has tables
pub set_tables : {O : Type 0} (es : List (Placed O)) (set : ℕ) → AreEdges es → In set (numbers es) → tables_at es set ≡ Some (table_numbers (working es set))
set_tables {O} es set edges lives =
    let more = above_zero es edges set lives in
    let here = live_edge es set lives in
    not_zero es set (λ z. omega arith) ∙ ap (option_map (λ (e : Placed O). table_numbers (working es set))) here.1

-- the number of the table with this name
pub named_number : {O : Type 0} (es : List (Placed O)) (set : ℕ) (name : List ℕ) → AreEdges es
    → option_map (λ (t : TableVersion). t.number) (table_named (working es set) name) ≡ number_named es (table_numbers (working es set)) name
named_number es set name edges = number_found es (working es set) name (known_set es edges set)

-- a table that was found by its name
pub record NamedAt {O : Type 0} (es : List (Placed O)) (set : ℕ) (name : List ℕ) (n : ℕ) : Type 0 where
  pub table : TableVersion
  pub named : table_named (working es set) name ≡ Some table
  pub number : table.number ≡ n
  pub heading : heading_of es n ≡ Some table.heading
  pub held : In n (table_numbers (working es set))
  pub made : In n (table_numbers (made es))

named_some : {O : Type 0} (es : List (Placed O)) (set : ℕ) (name : List ℕ) (n : ℕ) (o : Option TableVersion) → AreEdges es → table_named (working es set) name ≡ o
    → option_map (λ (t : TableVersion). t.number) o ≡ Some n → NamedAt es set name n
named_some es set name n None edges is e = absurd (cc)
named_some es set name n (Some t) edges is e =
    let there = (found_passes (λ (v : TableVersion). bytes_eq v.heading.name name) (working es set) t is).0 in
    let same : t.number ≡ n = cc in
    let among = working_made es set t there in
    record {
      table = t;
      named = is;
      number = same;
      heading = subst (λ (k : ℕ). heading_of es k ≡ Some t.heading) same (heading_known es edges t among);
      held = subst (λ (k : ℕ). In k (table_numbers (working es set))) same (in_map (λ (v : TableVersion). v.number) t (working es set) there);
      made = subst (λ (k : ℕ). In k (table_numbers (made es))) same (in_map (λ (v : TableVersion). v.number) t (made es) among);
    }

pub named_at : {O : Type 0} (es : List (Placed O)) (set : ℕ) (name : List ℕ) (n : ℕ) → AreEdges es
    → option_map (λ (t : TableVersion). t.number) (table_named (working es set) name) ≡ Some n → NamedAt es set name n
named_at es set name n edges e = named_some es set name n (table_named (working es set) name) edges refl e

-- the table with its heading
pub named_table : {O : Type 0} (es : List (Placed O)) (set : ℕ) (name : List ℕ) (n : ℕ) (h : Heading) → NamedAt es set name n → heading_of es n ≡ Some h
    → Some (table_of set (record { number = n; heading = h })) ≡ option_map (table_of set) (table_named (working es set) name)
named_table es set name n h at is =
    let same : Some at.table.heading ≡ Some h = sym at.heading ∙ is in
    let heading : at.table.heading ≡ h = cc in
    let one : at.table ≡ record { number = n; heading = h } = ap (λ (k : ℕ). record { number = k; heading = at.table.heading }) at.number ∙ ap (λ (g : Heading). record { number = n; heading = g }) heading in
    sym (ap (option_map (table_of set)) at.named ∙ ap (λ (t : TableVersion). Some (table_of set t)) one)

-- the number that is found among a working set's tables
pub number_is : {O : Type 0} (es : List (Placed O)) (set : ℕ) (name : List ℕ) (tables : List ℕ) → AreEdges es → In set (numbers es) → Some tables ≡ tables_at es set
    → number_named es tables name ≡ option_map (λ (t : TableVersion). t.number) (table_named (working es set) name)
number_is es set name tables edges lives are =
    let both : ◌≡◌ {A = Option (List ℕ)} (Some tables) (Some (table_numbers (working es set))) = are ∙ set_tables es set edges lives in
    let same : tables ≡ table_numbers (working es set) = cc in
    ap (λ (l : List ℕ). number_named es l name) same ∙ sym (named_number es set name edges)

pub not_none : {X : Type 0} (o : Option X) (x : X) → None ≡ o → o ≡ Some x → ⊥
not_none {X} o x e f = let clash : ◌≡◌ {A = Option X} None (Some x) = e ∙ f in cc

-- the same on a graph that is lent
pub lent_at : {O : Type 0} (g h : Drawn O) (set : ℕ) (name : List ℕ) (n : ℕ) → g ≡ h → AreEdges h.edges → Some n ≡ option_map (λ (t : TableVersion). t.number) (table_named (working g.edges set) name) → NamedAt h.edges set name n
lent_at {O} g h set name n same edges is = named_at h.edges set name n edges (sym (is ∙ ap (λ (d : Drawn O). option_map (λ (t : TableVersion). t.number) (table_named (working d.edges set) name)) same))

pub lent_heading : {O : Type 0} (g h : Drawn O) (n : ℕ) (o : Option Heading) → g ≡ h → o ≡ heading_of g.edges n → heading_of h.edges n ≡ o
lent_heading {O} g h n o same is = sym (is ∙ ap (λ (d : Drawn O). heading_of d.edges n) same)
