-- What DECOMPOSE and JOIN build on a working set, or the first of their checks that fails.
use Rattle.std.specs.Prelude.{ℕ, zero, suc, ◌+◌, Bool, true, false, ◌||◌, List, [], ◌∷◌, ◌++◌, length, Ok, Err}
use Rattle.std.specs.List.{remove}
use Rattle.std.specs.Str.{bytes_eq}
use Rattle.expr_lang.specs.Terms.{Term}
use Rattle.expr_lang.specs.Resolved.{place_of, resolved}
use Rattle.statements.specs.Views.{Tree, KeyView, Primary, Foreign, Condition}
use Rattle.version_graph.specs.declared.parts.Heading.{Heading}
use Rattle.version_graph.specs.declared.parts.Edge.{Edge}
use Rattle.op_outer_cond.specs.Outerings.{places_from}
use Rattle.op_kinds.specs.Operators.{Built, DecomposeSingle, DecomposePk, DecomposeFk, DecomposeOn, JoinPk, OuterJoinPk, JoinFk, OuterJoinFk, JoinOn, OuterJoinOn}
use Rattle.par_base.specs.Checked.{Checked, ◌then◌}
use Rattle.op_any.specs.Edges.{one_to_one, one_to_both, two_to_one}
use Rattle.op_checks.specs.NameChecks.{heading_named, is_passing, repeated, misdivided, known_table, other_table, new_table, known_column, known_places, known_columns, well_divided, new_columns, few_columns, known_ids}

-- ---- DECOMPOSE

-- A target is said by its name and its listed columns. The source has a column of each of their names,
-- each name stands once, and so the targets' columns aren't too many.

-- DECOMPOSE TABLE t INTO s(c): columns may be left out, and s may be t itself
unfoldable pub decomposing_in_one : List Heading → List ℕ → Heading → Checked (Edge Built)
decomposing_in_one set table s =
    known_table table (heading_named set table) then λ source.
    new_table s.name (is_passing set (table ∷ []) s.name) then λ _.
    known_places source.columns s.columns then λ places.
    well_divided (repeated [] s.columns) then λ _.
    Ok (one_to_one (DecomposeSingle places (length source.columns)) table s.name s.columns)

-- the source, and the places in it of the columns of two targets
pub record Parting : Type 0 where
  pub source : Heading
  pub first : List ℕ
  pub second : List ℕ

-- one of s and u may be t itself
unfoldable pub parting : List Heading → List ℕ → Heading → Heading → Checked Parting
parting set table s u =
    known_table table (heading_named set table) then λ source.
    new_table s.name (is_passing set (table ∷ []) s.name) then λ _.
    new_table u.name (bytes_eq u.name s.name || is_passing set (table ∷ []) u.name) then λ _.
    known_places source.columns s.columns then λ first.
    known_places source.columns u.columns then λ second.
    Ok (record { source = source; first = first; second = second })

-- both lists name each of the source's columns once
unfoldable pub divided : Heading → Heading → Heading → Checked (Unit {0})
divided source s u = well_divided (misdivided source.columns (s.columns ++ u.columns))

-- DECOMPOSE TABLE t INTO s(a), u(b) ON PK
abbrev pub decomposing_on_pk : List Heading → List ℕ → Heading → Heading → Checked (Edge Built)
decomposing_on_pk set table s u =
    parting set table s u then λ parts.
    divided parts.source s u then λ _.
    Ok (one_to_both (DecomposePk parts.first parts.second) table s u)

-- a table with one column more, at the end
abbrev pub with_column : Heading → List ℕ → Heading
with_column h column = record { name = h.name; columns = h.columns ++ column ∷ [] }

-- DECOMPOSE TABLE t INTO s(a), u(b) ON FK f: s has f after a, and f may be a column of t that isn't in a
abbrev pub decomposing_on_fk : List Heading → List ℕ → Heading → Heading → List ℕ → Checked (Edge Built)
decomposing_on_fk set table s u key =
    parting set table s u then λ parts.
    divided parts.source s u then λ _.
    new_columns s.columns (key ∷ []) then λ _.
    few_columns s.name (s.columns ++ key ∷ []) then λ _.
    Ok (one_to_both (DecomposeFk parts.first parts.second (length s.columns)) table (with_column s key) u)

-- DECOMPOSE TABLE t INTO s(a), u(b) ON c: c is over t's columns
abbrev pub decomposing_on : List Heading → ℕ → List ℕ → Heading → Heading → Tree → Checked (Edge Built)
decomposing_on set next table s u condition =
    parting set table s u then λ parts.
    known_columns (resolved parts.source.columns condition) then λ c.
    divided parts.source s u then λ _.
    known_ids next condition then λ _.
    Ok (one_to_both (DecomposeOn parts.first parts.second c) table s u)

-- DECOMPOSE with two targets
unfoldable pub decomposing_table : List Heading → ℕ → List ℕ → Heading → Heading → KeyView → Checked (Edge Built)
decomposing_table set next table s u Primary = decomposing_on_pk set table s u
decomposing_table set next table s u (Foreign key) = decomposing_on_fk set table s u key
decomposing_table set next table s u (Condition condition) = decomposing_on set next table s u condition

-- ---- JOIN

-- the two sources of a join
pub record Sources : Type 0 where
  pub first : Heading
  pub second : Heading

-- the target may have the name of one of them
unfoldable pub meeting : List Heading → List ℕ → List ℕ → List ℕ → Checked Sources
meeting set first second target =
    known_table first (heading_named set first) then λ s.
    known_table second (heading_named set second) then λ u.
    other_table second (bytes_eq second first) then λ _.
    new_table target (is_passing set (first ∷ second ∷ []) target) then λ _.
    Ok (record { first = s; second = u })

-- the target's columns: those of the first source, and then those of the second
unfoldable pub columns_of_both : List ℕ → List (List ℕ) → List (List ℕ) → Checked (List (List ℕ))
columns_of_both target first second =
    new_columns first second then λ _.
    few_columns target (first ++ second) then λ _.
    Ok (first ++ second)

-- with so many columns of the first source, and of the second
abbrev pub on_pk : Bool → ℕ → ℕ → Built
on_pk false first second = JoinPk first second
on_pk true first second = OuterJoinPk (places_from 0 first) (places_from first second)

-- JOIN TABLE s, u INTO r ON PK, and OUTER JOIN: r has s's columns and then u's
abbrev pub joining_on_pk : List Heading → Bool → List ℕ → List ℕ → List ℕ → Checked (Edge Built)
joining_on_pk set outer first second target =
    meeting set first second target then λ t.
    columns_of_both target t.first.columns t.second.columns then λ columns.
    Ok (two_to_one (on_pk outer (length t.first.columns) (length t.second.columns)) first second target columns)

-- with so many columns of the first source, of it without the foreign key, and of the second
abbrev pub on_fk : Bool → ℕ → ℕ → ℕ → ℕ → Built
on_fk false first rest second place = JoinFk first second place
on_fk true first rest second place = OuterJoinFk (places_from 0 rest) (places_from rest second) place

-- JOIN TABLE s, u INTO r ON FK f, and OUTER JOIN: f is a column of s, and r has s's other columns and then u's
abbrev pub joining_on_fk : List Heading → Bool → List ℕ → List ℕ → List ℕ → List ℕ → Checked (Edge Built)
joining_on_fk set outer first second target key =
    meeting set first second target then λ t.
    known_column key (place_of t.first.columns key) then λ place.
    columns_of_both target (remove t.first.columns place) t.second.columns then λ columns.
    Ok (two_to_one
    (on_fk outer (length t.first.columns) (length (remove t.first.columns place)) (length t.second.columns) place)
    first second target columns)

-- with so many columns of the first source, and of the second
abbrev pub on_condition : Bool → ℕ → ℕ → Term ℕ → Built
on_condition false first second c = JoinOn (places_from 0 first) (places_from first second) c
on_condition true first second c = OuterJoinOn first second c

-- JOIN TABLE s, u INTO r ON c, and OUTER JOIN: c is over s's columns and then u's, which r has
abbrev pub joining_on : List Heading → ℕ → Bool → List ℕ → List ℕ → List ℕ → Tree → Checked (Edge Built)
joining_on set next outer first second target condition =
    meeting set first second target then λ t.
    known_columns (resolved (t.first.columns ++ t.second.columns) condition) then λ c.
    columns_of_both target t.first.columns t.second.columns then λ columns.
    known_ids next condition then λ _.
    Ok (two_to_one (on_condition outer (length t.first.columns) (length t.second.columns) c) first second target columns)

-- JOIN and OUTER JOIN
unfoldable pub joining_tables : List Heading → ℕ → Bool → List ℕ → List ℕ → List ℕ → KeyView → Checked (Edge Built)
joining_tables set next outer first second target Primary = joining_on_pk set outer first second target
joining_tables set next outer first second target (Foreign key) = joining_on_fk set outer first second target key
joining_tables set next outer first second target (Condition condition) =
    joining_on set next outer first second target condition
