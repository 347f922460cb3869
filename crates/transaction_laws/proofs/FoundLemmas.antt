-- A table of a version is found the same after statements that leave the version.
use Rattle.std.specs.Prelude.{Option, Some, None, Ok, is_some}
use Rattle.std.specs.Option.{option_map}
use Rattle.std.specs.List.{find}
use Rattle.std.specs.Str.{bytes_eq}
use Rattle.std.proofs.Common.{◌≡◌, ◌≤◌, ◌+◌, ℕ, Bool, true, false, cond, List, [], ◌∷◌, ◌++◌, length, inl, inr, refl, sym, ap, ◌∙◌, subst, arith}
use Rattle.std.specs.Prelude.{◌==◌, ◌⊎◌}
use Rattle.std.proofs.lemmas.Bool.{cond-false, false_from_ne_true, eqb-true}
use Rattle.par_base.specs.Checked.{Checked, ◌then◌}
use Rattle.statements.specs.declared.statement.TableName.{TableName}
use Rattle.version_graph.specs.Sets.{Each, In}
use Rattle.version_graph.specs.Tables.{TableVersion, table_named, table_numbers, tables_of}
use Rattle.version_graph.specs.Edges.{is_in, made, made_by_edge, maker_of, set_after, set_named, version_sets, working}
use Rattle.version_graph.specs.Evolve.{grown, numbers_after, placed_next}
use Rattle.version_graph.specs.Dropped.{other_versions, staying}
use Rattle.version_graph.specs.Forest.{link}
use Rattle.version_graph.specs.declared.parts.Edge.{Edge}
use Rattle.version_graph.specs.declared.parts.Heading.{Heading}
use Rattle.version_graph.specs.declared.parts.Placed.{Placed}
use Rattle.version_graph.proofs.GrowLaws.{rises_after}
use Rattle.version_graph.proofs.NameLaws.{name_is, same_name}
use Rattle.version_graph.proofs.NodeLaws.{set_listed}
use Rattle.version_graph.proofs.SetLaws.{each_at, in_append, in_map, is_in_true}
use Rattle.version_graph.proofs.StayLaws.{working_stays}
use Rattle.version_graph.proofs.TableLaws.{rises_above, working_made}
use Rattle.version_graph.proofs.TakenLaws.{found_passes}
use Rattle.op_any.specs.Operators.{AnyView, any_meaning}
use Rattle.version_model.specs.Databases.{dropped_database}
use Rattle.version_model.specs.Evolving.{grown_state, with_link}
use Rattle.version_model.specs.States.{State}
use Rattle.version_model.proofs.PutLaws.{put_other}
use Rattle.engine_state.specs.AnyDatabase.{AnyDatabase}
use Rattle.engine_state.specs.SharedChecks.{known_version}
use Rattle.engine_transactions.specs.Found.{Found, found, known_table, set_of}
use Rattle.engine_transactions.proofs.ChainLaws.{both_give, ok_is}

-- a table's name with its version
abbrev pub full : List ℕ → List ℕ → TableName
full version table = record { version = Some version; table = table }

-- ---- what is found

version_is : (name : List ℕ) (o : Option ℕ) (set : ℕ) → known_version name o ≡ Ok set → o ≡ Some set
version_is name (Some n) set e = let same : n ≡ set = cc in ap (λ (k : ℕ). Some k) same
version_is name None set e = absurd (let no : ⊥ = cc in no)

table_is : (name : List ℕ) (o : Option TableVersion) (t : TableVersion) → known_table name o ≡ Ok t → o ≡ Some t
table_is name (Some u) t e = ap (λ (v : TableVersion). Some v) (ok_is u t e)
table_is name None t e = absurd (let no : ⊥ = cc in no)

-- the version's working set, and the table in it
pub record IsFound (d : AnyDatabase) (version : List ℕ) (f : Found) : Type 0 where
  pub set : set_named d.graph.versions version ≡ Some f.set
  pub held : In f.table (working d.graph.edges f.set)

-- the version is named
pub record IsNamed (d : AnyDatabase) (name : TableName) (f : Found) : Type 0 where
  pub version : List ℕ
  pub is : name.version ≡ Some version
  pub found : IsFound d version f

is_named : (d : AnyDatabase) (version : Option (List ℕ)) (table : List ℕ) (f : Found) → found d (record { version = version; table = table }) ≡ Ok f → IsNamed d (record { version = version; table = table }) f
is_named d None table f e = absurd (let no : ⊥ = cc in no)
is_named d (Some version) table f e =
    let a = both_give (set_of d (Some version)) _ f e in
    let b = both_give (known_table table (table_named (working d.graph.edges a.0) table)) _ f a.2 in
    let same : record { set = a.0; table = b.0 } ≡ f = ok_is (record { set = a.0; table = b.0 }) f b.2 in
    let there = found_passes (λ (v : TableVersion). bytes_eq v.heading.name table) (working d.graph.edges a.0) b.0 (table_is table _ b.0 b.1) in
    record {
      version = version;
      is = refl;
      found = subst (IsFound d version) same (record { set = version_is version (set_named d.graph.versions version) a.0 a.1; held = there.0 });
    }

pub named_by : (d : AnyDatabase) (name : TableName) (f : Found) → found d name ≡ Ok f → IsNamed d name f
named_by d name f e = is_named d name.version name.table f e

pub found_by : (d : AnyDatabase) (version table : List ℕ) (f : Found) → found d (full version table) ≡ Ok f → IsFound d version f
found_by d version table f e =
    let n = is_named d (Some version) table f e in
    let same : n.version ≡ version = (let both : Some version ≡ Some n.version = n.is in cc) in
    subst (λ (v : List ℕ). IsFound d v f) same n.found

-- its table was made
pub found_made : (d : AnyDatabase) (version : List ℕ) (f : Found) → IsFound d version f → In f.table (made d.graph.edges)
found_made d version f is = working_made d.graph.edges f.set f.table is.held

-- ---- what was made has a maker

number_among : (v : TableVersion) (ns : List ℕ) (hs : List Heading) → In v (tables_of ns hs) → In v.number ns
number_among v [] hs i = absurd i
number_among v (n ∷ ns) [] i = absurd i
number_among v (n ∷ ns) (h ∷ hs) (inl same) = inl (ap (λ (x : TableVersion). x.number) same)
number_among v (n ∷ ns) (h ∷ hs) (inr i) = inr (number_among v ns hs i)

pub has_maker : (es : List (Placed AnyView)) (v : TableVersion) → In v (made es) → is_some (maker_of es v.number) ≡ true
has_maker [] v i = absurd i
has_maker (e ∷ es) v i = go (λ there. has_maker es v there) (in_append v (made_by_edge e) (made es) i) (is_in v.number e.tables) refl
  where
    go : (In v (made es) → is_some (maker_of es v.number) ≡ true) → (In v (made_by_edge e) ⊎ In v (made es)) → (b : Bool) → is_in v.number e.tables ≡ b → is_some (option_map (λ (k : Placed AnyView). k.number) (cond b (Some e) (find (λ (k : Placed AnyView). is_in v.number k.tables) es))) ≡ true
    go more here true is = refl
    go more (inl here) false is = (let clash : true ≡ false = sym (is_in_true v.number e.tables (number_among v e.tables e.edge.targets here)) ∙ is in absurd (let no : ⊥ = cc in no))
    go more (inr there) false is = more there

-- ---- the same version with the same tables

-- what is found in a working set
abbrev found_at : Option ℕ → List ℕ → (ℕ → List TableVersion) → List ℕ → Checked Found
found_at o version sets table = known_version version o then λ set. known_table table (table_named (sets set) table) then λ t. Ok (record { set = set; table = t })

same_at : (o other : Option ℕ) (version table : List ℕ) (sets others : ℕ → List TableVersion) → other ≡ o → ((set : ℕ) → o ≡ Some set → others set ≡ sets set) → found_at other version others table ≡ found_at o version sets table
same_at None other version table sets others e same = ap (λ (x : Option ℕ). found_at x version others table) e
same_at (Some set) other version table sets others e same =
    ap (λ (x : Option ℕ). found_at x version others table) e
    ∙ ap (λ (ts : List TableVersion). known_table table (table_named ts table) then λ t. Ok (record { set = set; table = t })) (same set refl)

pub found_again : (d later : AnyDatabase) (version table : List ℕ) → set_named later.graph.versions version ≡ set_named d.graph.versions version
    → ((set : ℕ) → set_named d.graph.versions version ≡ Some set → working later.graph.edges set ≡ working d.graph.edges set) → found later (full version table) ≡ found d (full version table)
found_again d later version table e same =
    same_at (set_named d.graph.versions version) (set_named later.graph.versions version) version table (working d.graph.edges) (working later.graph.edges) e same

-- ---- an evolution

named_before : (versions more : List (List ℕ × ℕ)) (name : List ℕ) (set : ℕ) → set_named versions name ≡ Some set → set_named (versions ++ more) name ≡ Some set
named_before [] more name set e = absurd (let no : ⊥ = cc in no)
named_before (v ∷ versions) more name set e = go (λ h. named_before versions more name set h) (bytes_eq name v.0) e
  where
    go : (set_named versions name ≡ Some set → set_named (versions ++ more) name ≡ Some set) → (b : Bool) → cond b (Some v.1) (set_named versions name) ≡ Some set → cond b (Some v.1) (set_named (versions ++ more) name) ≡ Some set
    go rest true e = e
    go rest false e = rest e

-- a working set under an old number is as it was
pub grown_working : (es : List (Placed AnyView)) (p o t : ℕ) (edges : List (Edge AnyView)) (w : ℕ) → w ≤ o → working (grown es p o t edges) w ≡ working es w
grown_working es p o t [] w le = refl
grown_working es p o t (e ∷ edges) w le =
    let new = placed_next p o t e in
    grown_working (new ∷ es) (o + 1) (o + 1) (t + length e.targets) edges w (omega (arith, le))
    ∙ cond-false (w == (o + 1)) (set_after (working es p) new) (working es w) (false_from_ne_true (w == (o + 1)) (λ same. (let is = eqb-true w (o + 1) same in omega (arith, is, le))))

-- a table under an old number is as it was
pub grown_table : (es : List (Placed AnyView)) (p o t : ℕ) (edges : List (Edge AnyView)) (s : State) (n : ℕ) → n ≤ t → (grown_state any_meaning es p o t edges s).tables n ≡ s.tables n
grown_table es p o t [] s n le = refl
grown_table es p o t (e ∷ edges) s n le =
    let new = placed_next p o t e in
    grown_table (new ∷ es) (o + 1) (o + 1) (t + length e.targets) edges (with_link any_meaning s (link es new)) n (omega (arith, le))
    ∙ put_other s.tables (numbers_after t e.targets) _ n (λ i. (let above = rises_above t (numbers_after t e.targets) (rises_after t t e.targets (omega arith)) n i in omega (arith, above, le)))

-- ---- a drop of another version

named_else : (versions : List (List ℕ × ℕ)) (name version : List ℕ) → bytes_eq name version ≡ false → set_named (other_versions versions name) version ≡ set_named versions version
named_else [] name version off = refl
named_else (v ∷ versions) name version off = go (named_else versions name version off) (bytes_eq name v.0) refl
  where
    apart : bytes_eq name v.0 ≡ true → bytes_eq version v.0 ≡ false
    apart is = false_from_ne_true (bytes_eq version v.0) (λ same.
        let one : name ≡ v.0 = same_name name v.0 is in
        let two : version ≡ v.0 = same_name version v.0 same in
        let clash : true ≡ false = sym (name_is name version (one ∙ sym two)) ∙ off in
        (let no : ⊥ = cc in no))

    go : set_named (other_versions versions name) version ≡ set_named versions version → (b : Bool) → bytes_eq name v.0 ≡ b → set_named (cond b versions (v ∷ other_versions versions name)) version ≡ set_named (v ∷ versions) version
    go rest true is = sym (cond-false (bytes_eq version v.0) (Some v.1) (set_named versions version) (apart is))
    go rest false is = ap (λ (o : Option ℕ). cond (bytes_eq version v.0) (Some v.1) o) rest

-- ---- what is found stays

module _ (d : AnyDatabase) (version table : List ℕ) (f : Found) (is : found d (full version table) ≡ Ok f) where
  abbrev there : IsFound d version f
  there = found_by d version table f is

  -- with a new version
  module _ (name : List ℕ) (w : ℕ) (edges : List (Edge AnyView)) (later : AnyDatabase) (sets : Each (λ n. n ≤ d.graph.last_operator) (version_sets d.graph.versions)) (tables : Each (λ t. t ≤ d.graph.last_table) (table_numbers (made d.graph.edges)))
      (versions : later.graph.versions ≡ d.graph.versions ++ (name, d.graph.last_operator + length edges) ∷ []) (grows : later.graph.edges ≡ grown d.graph.edges w d.graph.last_operator d.graph.last_table edges) where
    set_low : (set : ℕ) → set_named d.graph.versions version ≡ Some set → set ≤ d.graph.last_operator
    set_low set e = each_at (λ n. n ≤ d.graph.last_operator) (version_sets d.graph.versions) set (set_listed d.graph.versions version set e) sets

    pub found_grown : found later (full version table) ≡ Ok f
    found_grown =
        found_again d later version table
        (ap (λ (vs : List (List ℕ × ℕ)). set_named vs version) versions ∙ named_before d.graph.versions ((name, d.graph.last_operator + length edges) ∷ []) version f.set there.set ∙ sym there.set)
        (λ set e. ap (λ (es : List (Placed AnyView)). working es set) grows ∙ grown_working d.graph.edges w d.graph.last_operator d.graph.last_table edges set (set_low set e))
        ∙ is

    pub table_low : f.table.number ≤ d.graph.last_table
    table_low = each_at (λ t. t ≤ d.graph.last_table) (table_numbers (made d.graph.edges)) f.table.number (in_map (λ (v : TableVersion). v.number) f.table (made d.graph.edges) (found_made d version f there)) tables

  -- without another one
  module _ (name : List ℕ) (off : bytes_eq name version ≡ false) where
    abbrev left : List ℕ
    left = version_sets (other_versions d.graph.versions name)

    needed : (set : ℕ) → set_named d.graph.versions version ≡ Some set → In set left
    needed set e = set_listed (other_versions d.graph.versions name) version set (named_else d.graph.versions name version off ∙ e)

    pub found_dropped : found (dropped_database d name) (full version table) ≡ Ok f
    found_dropped =
        found_again d (dropped_database d name) version table (named_else d.graph.versions name version off) (λ set e. working_stays d.graph.edges set left (needed set e)) ∙ is

    pub rows_dropped : (dropped_database d name).state.tables f.table.number ≡ d.state.tables f.table.number
    rows_dropped =
        let es = staying left d.graph.edges in
        let held : In f.table (working es f.set) = subst (λ (ts : List TableVersion). In f.table ts) (sym (working_stays d.graph.edges f.set left (needed f.set there.set))) there.held in
        let stays = is_in_true f.table.number (table_numbers (made es)) (in_map (λ (v : TableVersion). v.number) f.table (made es) (working_made es f.set f.table held)) in
        ap (λ (b : Bool). cond b (d.state.tables f.table.number) []) stays
