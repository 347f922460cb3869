-- The refusal of a check, and of checks one after the other.
use Rattle.std.proofs.Common.{◌≡◌, ℕ, List, [], ◌∷◌, ◌++◌, length, Bool, true, false, cond, not, Option, Some, None, Result, Ok, Err, refl, sym, ◌∙◌, ap, ap₂}
use Rattle.std.specs.Prelude.{◌||◌, nat_lt}
use Rattle.std.specs.List.{list_any}
use Rattle.std.specs.Option.{option_map, option_map_or, option_or}
use Rattle.std.specs.Str.{bytes_eq}
use Rattle.std.specs.Cmp.Lexicographic.{pointwise}
use Rattle.std.proofs.lemmas.Bool.{false≢true}
use Rattle.std.proofs.lemmas.List.Folds.{find-append, list_any-append}
use Rattle.par_base.specs.Checked.{Checked, ◌then◌}
use Rattle.par_base.specs.declared.refusal.Refusal.{Refusal}
use Rattle.par_base.specs.declared.refusal.Refusal.TheVariants.{UnknownTable, TableExists, UnknownColumn, ColumnExists, BadPartition, TooManyColumns, UnknownId, ColumnsDiffer, SameTable}
use Rattle.expr_lang.specs.Terms.{Term, Column, columns_in}
use Rattle.expr_lang.specs.Resolved.{place_of, resolved, column_at, refused_name}
use Rattle.expr_lang.proofs.ResolvingLaws.{resolved-refused}
use Rattle.statements.specs.Views.{Tree}
use Rattle.version_graph.specs.Tables.{column_limit, heading_names, headings_passing}
use Rattle.version_graph.specs.declared.parts.Heading.{Heading}
use Rattle.version_graph.proofs.NameLaws.{same_name, name_is}
use Rattle.op_checks.specs.NameChecks.{heading_named, is_passing, left_out, repeated, known_table, other_table, new_table, known_column, known_places, known_columns, well_divided, unrepeated, same_columns, few_columns, known_id}
use Rattle.op_build.specs.Refusals.{columns_named, refusal_in, too_wide, first_of}
use Rattle.op_build.proofs.NameLists.{member}
use Rattle.op_checks.proofs.RepeatedLaws.{repeated_both}
use Rattle.op_build.proofs.TableListsLaws.{source_gone}

-- ---- one check after the other

pub then_or : {A B : Type 0} (c : Checked A) (f : A → Checked B) (a b : Option Refusal) → refusal_in c ≡ a → ((x : A) → c ≡ Ok x → refusal_in (f x) ≡ b) → refusal_in (c then f) ≡ option_or a b
then_or (Ok x) f a b is rest = rest x refl ∙ ap (λ (o : Option Refusal). option_or o b) is
then_or (Err r) f a b is rest = ap (λ (o : Option Refusal). option_or o b) is

-- the same within more checks
pub inner_or : {A B C : Type 0} (c : Checked A) (f : A → Checked B) (g : B → Checked C) (a b : Option Refusal) → refusal_in c ≡ a → ((x : A) → c ≡ Ok x → refusal_in (f x then g) ≡ b)
    → refusal_in (c then f then g) ≡ option_or a b
inner_or (Ok x) f g a b is rest = rest x refl ∙ ap (λ (o : Option Refusal). option_or o b) is
inner_or (Err r) f g a b is rest = ap (λ (o : Option Refusal). option_or o b) is

-- what is shown of another form
pub leads : {X : Type 0} {a b c : X} → b ≡ c → a ≡ b → a ≡ c
leads q p = p ∙ q

-- a check that can't fail
pub skip : (o b : Option Refusal) (x : Option Refusal) → o ≡ None → x ≡ b → x ≡ option_or o b
skip o b x none e = e ∙ ap (λ (q : Option Refusal). option_or q b) (sym none)

-- two checks of one cause
pub merge : {X : Type 0} (F : X → Refusal) (a b : Option X) (rest : Option Refusal) → option_or (option_map F a) (option_or (option_map F b) rest) ≡ option_or (option_map F (option_or a b)) rest
merge F None b rest = refl
merge F (Some x) b rest = refl

pub left_out-append : (xs ys columns : List (List ℕ)) → left_out (xs ++ ys) columns ≡ option_or (left_out xs columns) (left_out ys columns)
left_out-append xs ys columns = find-append (λ column. not (list_any (bytes_eq column) columns)) xs ys

-- of two lists of names in turn
pub both_out : (F : List ℕ → Refusal) (xs ys columns : List (List ℕ)) (rest : Option Refusal)
    → option_or (option_map F (left_out xs columns)) (option_or (option_map F (left_out ys columns)) rest) ≡ option_or (option_map F (left_out (xs ++ ys) columns)) rest
both_out F xs ys columns rest = merge F (left_out xs columns) (left_out ys columns) rest ∙ ap (λ (o : Option (List ℕ)). option_or (option_map F o) rest) (sym (left_out-append xs ys columns))

-- ---- tables

swapped : (a b : List ℕ) → bytes_eq a b ≡ bytes_eq b a
swapped a b = go (bytes_eq a b) (bytes_eq b a) refl refl
  where
    go : (x y : Bool) → bytes_eq a b ≡ x → bytes_eq b a ≡ y → x ≡ y
    go true true p q = refl
    go false false p q = refl
    go true false p q = absurd (false≢true (sym q ∙ name_is b a (sym (same_name a b p))))
    go false true p q = absurd (false≢true (sym p ∙ name_is a b (sym (same_name b a q))))

pub table_stop : (set : List Heading) (name : List ℕ) → refusal_in (known_table name (heading_named set name)) ≡ option_map (λ table. UnknownTable table) (left_out (name ∷ []) (heading_names set))
table_stop [] name = refl
table_stop (h ∷ set) name =
    ap (λ (b : Bool). refusal_in (known_table name (cond b (Some h) (heading_named set name)))) (swapped h.name name) ∙ go (bytes_eq name h.name) (table_stop set name)
  where
    go : (b : Bool) → refusal_in (known_table name (heading_named set name)) ≡ option_map (λ table. UnknownTable table) (cond (not (list_any (bytes_eq name) (heading_names set))) (Some name) None)
        → refusal_in (known_table name (cond b (Some h) (heading_named set name))) ≡ option_map (λ table. UnknownTable table) (cond (not (b || list_any (bytes_eq name) (heading_names set))) (Some name) None)
    go true rest = refl
    go false rest = rest

-- the columns of a table that was found
pub columns_at : (set : List Heading) (name : List ℕ) (h : Heading) → heading_named set name ≡ Some h → h.columns ≡ columns_named set name
columns_at set name h found = sym (ap (λ (o : Option Heading). option_map_or (λ (k : Heading). k.columns) o []) found)

-- of two sources in turn
pub tables_stop : (set : List Heading) (first second : List ℕ) (rest : Option Refusal)
    → option_or (option_map (λ table. UnknownTable table) (left_out (first ∷ []) (heading_names set)))
    (option_or (option_map (λ table. UnknownTable table) (left_out (second ∷ []) (heading_names set))) rest)
    ≡ option_or (option_map (λ table. UnknownTable table) (left_out (first ∷ second ∷ []) (heading_names set))) rest
tables_stop set first second rest = both_out (λ table. UnknownTable table) (first ∷ []) (second ∷ []) (heading_names set) rest

pub other_stop : (first second : List ℕ) → refusal_in (other_table second (bytes_eq second first)) ≡ option_map (λ table. SameTable table) (repeated [] (first ∷ second ∷ []))
unfolding repeated
other_stop first second = go (bytes_eq second first)
  where
    go : (b : Bool) → refusal_in (other_table second b) ≡ option_map (λ table. SameTable table) (cond (b || false) (Some second) None)
    go true = refl
    go false = refl

any_named : (hs : List Heading) (name : List ℕ) → list_any (λ (h : Heading). bytes_eq h.name name) hs ≡ list_any (bytes_eq name) (heading_names hs)
any_named [] name = refl
any_named (h ∷ hs) name =
    ap (λ (b : Bool). b || list_any (λ (k : Heading). bytes_eq k.name name) hs) (swapped h.name name)
    ∙ ap (λ (b : Bool). bytes_eq name h.name || b) (any_named hs name)

exists : (name : List ℕ) (b : Bool) → refusal_in (new_table name b) ≡ option_map (λ table. TableExists table) (cond b (Some name) None)
exists name true = refl
exists name false = refl

pub target_stop : (set : List Heading) (sources : List (List ℕ)) (name : List ℕ)
    → refusal_in (new_table name (is_passing set sources name)) ≡ option_map (λ table. TableExists table) (repeated (heading_names (headings_passing set sources)) (name ∷ []))
unfolding repeated is_passing
target_stop set sources name =
    exists name (list_any (λ (h : Heading). bytes_eq h.name name) (headings_passing set sources))
    ∙ ap (λ (b : Bool). option_map (λ table. TableExists table) (cond b (Some name) None)) (any_named (headings_passing set sources) name)

turned : (a b : Bool) → (a || b) ≡ (b || (a || false))
turned true true = refl
turned true false = refl
turned false true = refl
turned false false = refl

-- the second of two targets
pub second_stop : (set : List Heading) (sources : List (List ℕ)) (first name : List ℕ)
    → refusal_in (new_table name (bytes_eq name first || is_passing set sources name))
    ≡ option_map (λ table. TableExists table) (repeated (heading_names (headings_passing set sources) ++ first ∷ []) (name ∷ []))
unfolding repeated is_passing
second_stop set sources first name =
    let names = heading_names (headings_passing set sources) in
    exists name (bytes_eq name first || list_any (λ (h : Heading). bytes_eq h.name name) (headings_passing set sources))
    ∙ ap (λ (b : Bool). option_map (λ table. TableExists table) (cond b (Some name) None)) (
    ap (λ (b : Bool). bytes_eq name first || b) (any_named (headings_passing set sources) name)
    ∙ turned (bytes_eq name first) (list_any (bytes_eq name) names)
    ∙ sym (list_any-append (bytes_eq name) names (first ∷ [])))

-- of two targets in turn
pub both_exist : (seen : List (List ℕ)) (first second : List ℕ) (rest : Option Refusal)
    → option_or (option_map (λ table. TableExists table) (repeated seen (first ∷ []))) (option_or (option_map (λ table. TableExists table) (repeated (seen ++ first ∷ []) (second ∷ []))) rest)
    ≡ option_or (option_map (λ table. TableExists table) (repeated seen (first ∷ second ∷ []))) rest
both_exist seen first second rest =
    merge (λ table. TableExists table) (repeated seen (first ∷ [])) (repeated (seen ++ first ∷ []) (second ∷ [])) rest
    ∙ ap (λ (o : Option (List ℕ)). option_or (option_map (λ table. TableExists table) o) rest) (sym (repeated_both seen (first ∷ []) (second ∷ [])))

-- a target with the name of the only source
pub own_name : (set : List Heading) (name : List ℕ) → option_map (λ table. TableExists table) (repeated (heading_names (headings_passing set (name ∷ []))) (name ∷ [])) ≡ None
unfolding repeated
own_name set name = go (list_any (bytes_eq name) (heading_names (headings_passing set (name ∷ [])))) refl
  where
    go : (b : Bool) → list_any (bytes_eq name) (heading_names (headings_passing set (name ∷ []))) ≡ b → option_map (λ table. TableExists table) (cond b (Some name) None) ≡ None
    go true e = absurd (source_gone name set (member name (heading_names (headings_passing set (name ∷ []))) e))
    go false e = refl

-- ---- columns

pub expression_stop : (columns : List (List ℕ)) (t : Tree) → refusal_in (known_columns (resolved columns t)) ≡ option_map (λ column. UnknownColumn column) (left_out (columns_in t) columns)
expression_stop columns t = go (resolved columns t) ∙ ap (option_map (λ column. UnknownColumn column)) (resolved-refused columns t)
  where
    go : (r : Result (Term ℕ) (List ℕ)) → refusal_in (known_columns r) ≡ option_map (λ column. UnknownColumn column) (refused_name r)
    go (Ok e) = refl
    go (Err name) = refl

pub column_stop : (columns : List (List ℕ)) (name : List ℕ) → refusal_in (known_column name (place_of columns name)) ≡ option_map (λ column. UnknownColumn column) (left_out (name ∷ []) columns)
unfolding resolved
column_stop columns name = go (place_of columns name) ∙ ap (option_map (λ column. UnknownColumn column)) (resolved-refused columns (Column name))
  where
    go : (o : Option ℕ) → refusal_in (known_column name o) ≡ option_map (λ column. UnknownColumn column) (refused_name (column_at name o))
    go (Some place) = refl
    go None = refl

pub places_stop : (columns names : List (List ℕ)) → refusal_in (known_places columns names) ≡ option_map (λ column. UnknownColumn column) (left_out names columns)
unfolding known_places
places_stop columns [] = refl
places_stop columns (name ∷ names) =
    then_or (known_column name (place_of columns name)) _ _ _ (column_stop columns name) (λ place at.
    then_or (known_places columns names) _ _ None (places_stop columns names) (λ places all. refl))
    ∙ both_out (λ column. UnknownColumn column) (name ∷ []) names columns None
    ∙ last (option_map (λ column. UnknownColumn column) (left_out (name ∷ names) columns))
  where
    last : (o : Option Refusal) → option_or o None ≡ o
    last None = refl
    last (Some r) = refl

pub division_stop : (o : Option (List ℕ)) → refusal_in (well_divided o) ≡ option_map (λ column. BadPartition column) o
division_stop (Some name) = refl
division_stop None = refl

pub once_stop : (o : Option (List ℕ)) → refusal_in (unrepeated o) ≡ option_map (λ column. ColumnExists column) o
once_stop (Some name) = refl
once_stop None = refl

pub few_stop : (table : List ℕ) (columns : List (List ℕ)) → refusal_in (few_columns table columns) ≡ option_map (λ name. TooManyColumns name column_limit) (too_wide table columns)
few_stop table columns = go (nat_lt column_limit (length columns))
  where
    go : (b : Bool) → refusal_in {A = Unit {0}} (cond b (Err (TooManyColumns table column_limit)) (Ok tt)) ≡ option_map (λ name. TooManyColumns name column_limit) (cond b (Some table) None)
    go true = refl
    go false = refl

pub same_stop : (first second : Heading) (r s : List ℕ) → first.name ≡ r → second.name ≡ s
    → refusal_in (same_columns first second) ≡ option_map (λ (tables : List ℕ × List ℕ). ColumnsDiffer tables.0 tables.1) (cond (pointwise bytes_eq first.columns second.columns) None (Some (r, s)))
same_stop first second r s is also =
    go (pointwise bytes_eq first.columns second.columns)
    ∙ ap₂ (λ (a b : List ℕ). option_map (λ (tables : List ℕ × List ℕ). ColumnsDiffer tables.0 tables.1) (cond (pointwise bytes_eq first.columns second.columns) None (Some (a, b)))) is also
  where
    go : (b : Bool) → refusal_in {A = Unit {0}} (cond b (Ok tt) (Err (ColumnsDiffer first.name second.name)))
        ≡ option_map (λ (tables : List ℕ × List ℕ). ColumnsDiffer tables.0 tables.1) (cond b None (Some (first.name, second.name)))
    go true = refl
    go false = refl

-- ---- identifiers, the last check

pub one_id : {A : Type 0} (next : ℕ) (o : Option ℕ) (x : A) → refusal_in (known_id next o then λ _. Ok x) ≡ first_of (option_map (λ id. UnknownId id next) (first_of (o ∷ [])) ∷ [])
one_id next None x = refl
one_id next (Some id) x = refl

pub two_ids : {A : Type 0} (next : ℕ) (o p : Option ℕ) (x : A) → refusal_in (known_id next o then λ _. known_id next p then λ _. Ok x) ≡ first_of (option_map (λ id. UnknownId id next) (first_of (o ∷ p ∷ [])) ∷ [])
two_ids next None None x = refl
two_ids next None (Some id) x = refl
two_ids next (Some id) p x = refl
