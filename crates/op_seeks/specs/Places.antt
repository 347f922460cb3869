-- Where an operator has what it seeks by, and what is known of its S and T.
use Rattle.std.specs.Prelude.{◌≡◌, ℕ, Bool, true, false, List, [], Option, Some, None, if◌then◌else◌}
use Rattle.expr_lang.specs.Terms.{expr_term}
use Rattle.id_memory.specs.Pairs.{Pairs, pair_of}
use Rattle.op_law.specs.Identifiers.{has_id}
use Rattle.op_law.specs.Tables.{Tables}
use Rattle.op_law.specs.Meaning.{PairState}
use Rattle.op_any.specs.Operators.{Built, joining_by, outer_by}
use Rattle.op_any.specs.Operators as «any»
use Rattle.table_keys.specs.Keys.{keys_by}
use Rattle.table_keys.specs.declared.columns.KeyColumns.{KeyColumns}
use Rattle.table_keys.specs.declared.columns.KeyColumns.TheVariants.{All, One}
use Rattle.pair_rows.specs.Sides.{table_at}
use Rattle.fk_closing.specs.Keys.{AreFkKeys}
use Rattle.fk_parts.specs.Closed.{PassListed}
use Rattle.fk_parts.specs.Laws.{AreClosing}
use Rattle.cond_parts.specs.Closed.{IsClosedIn}
use Rattle.equal_columns.specs.Columns.{equal_in}
use Rattle.op_seeks.specs.declared.place.CondPlace.{CondPlace}
use Rattle.op_seeks.specs.declared.place.SeekPlace.{SeekPlace}
use Rattle.op_seeks.specs.declared.place.SeekPlace.TheVariants.{ForeignKey, Condition}
use Rattle.op_seeks.specs.declared.known.CondKeys.{CondKeys}
use Rattle.op_seeks.specs.declared.known.Known.{Known}
use Rattle.op_seeks.specs.declared.known.Known.TheVariants.{Keys, Entries}
use Rattle.op_seeks.specs.declared.sought.Sought.{Sought}
use Rattle.op_seeks.specs.declared.sought.Sought.TheVariants.{Decompose, Outer, Join, JoinOn, DecomposeOn, OuterOn, Nothing}

-- ---- places

abbrev pub is_on_target : SeekPlace → Bool
is_on_target (ForeignKey fk) = fk.on_target
is_on_target (Condition c) = c.on_target

-- the side of S and T: none of an operator that seeks nothing
abbrev pub side_at : Option SeekPlace → PairState → Tables
side_at None p = []
side_at (Some place) p = if is_on_target place then p.target else p.source

-- in which columns of S, and in which of T, rows that may match are sought: those that a condition makes equal, or all where there are none
abbrev pub first_columns : Option (ℕ × ℕ) → KeyColumns
first_columns None = All
first_columns (Some equal) = One equal.0

abbrev pub second_columns : Option (ℕ × ℕ) → KeyColumns
second_columns None = All
second_columns (Some equal) = One equal.1

-- of a condition that makes these two columns equal, or none
abbrev pub condition_place : Bool → Option (ℕ × ℕ) → Option SeekPlace
condition_place on_target equal = Some (Condition (record { on_target = on_target; first = first_columns equal; second = second_columns equal }))

abbrev pub key_place : Bool → ℕ → Option SeekPlace
key_place on_target place = Some (ForeignKey (record { on_target = on_target; place = place }))

-- what a built operator seeks by
abbrev pub place_of : Built → Option SeekPlace
place_of «any».CreateTable = None
place_of («any».DropTable width) = None
place_of «any».Rename = None
place_of («any».AddColumn place e) = None
place_of («any».AddTracked e) = None
place_of («any».DropColumn place e) = None
place_of («any».Split width first second) = None
place_of («any».Merge width first second) = None
place_of («any».DecomposeSingle columns width) = None
place_of («any».DecomposePk first second) = None
place_of («any».OuterJoinPk first second) = None
place_of («any».JoinPk first second) = None
place_of («any».DecomposeFk first second place) = key_place true place
place_of («any».OuterJoinFk first second place) = key_place false place
place_of («any».JoinFk first second place) = key_place false place
place_of («any».JoinOn first second c) = condition_place false (equal_in (joining_by first second c) c)
place_of («any».DecomposeOn first second c) = condition_place true (equal_in (joining_by first second c) c)
place_of («any».OuterJoinOn first second c) = condition_place false (equal_in (outer_by first second c) c)

-- what was found of a built operator is it, or it seeks nothing
abbrev pub IsSought : Sought → Built → Type 0
IsSought (Decompose it) b = b ≡ «any».DecomposeFk it.now.first it.now.second it.now.place
IsSought (Outer it) b = b ≡ «any».OuterJoinFk it.now.first it.now.second it.now.place
IsSought (Join it) b = b ≡ «any».JoinFk it.now.first it.now.second it.now.place
IsSought (JoinOn it) b = b ≡ «any».JoinOn it.now.first it.now.second (expr_term it.now.condition)
IsSought (DecomposeOn it) b = b ≡ «any».DecomposeOn it.now.first it.now.second (expr_term it.now.condition)
IsSought (OuterOn it) b = b ≡ «any».OuterJoinOn it.now.first it.now.second (expr_term it.now.condition)
IsSought Nothing b = place_of b ≡ None

-- ---- what is known

-- of an operator on a condition: its memory, the keys of S and T in the columns in which rows are sought, and both tables by value
pub record AreCondKeys (c : CondPlace) (st : Tables) (m : Pairs) (it : CondKeys) : Type 0 where
  pub memory : it.memory.now.entries ≡ m
  pub first : it.first.now.rows ≡ keys_by c.first (table_at 0 st)
  pub second : it.second.now.rows ≡ keys_by c.second (table_at 1 st)
  pub first_rows : it.first_rows.now.rows ≡ keys_by All (table_at 0 st)
  pub second_rows : it.second_rows.now.rows ≡ keys_by All (table_at 1 st)

-- THIS IS KNOWN OF A PAIR, by what its operator seeks: nothing is, of one that seeks nothing
abbrev pub AreKnown : Option SeekPlace → PairState → Known → Type 0
AreKnown None p known = ⊥
AreKnown (Some (ForeignKey fk)) p (Keys keys) = AreFkKeys fk.place (side_at (Some (ForeignKey fk)) p) keys
AreKnown (Some (ForeignKey fk)) p (Entries it) = ⊥
AreKnown (Some (Condition c)) p (Keys keys) = ⊥
AreKnown (Some (Condition c)) p (Entries it) = AreCondKeys c (side_at (Some (Condition c)) p) p.memory it

-- identifiers are closed by what is known: each brings what it refers to and one that refers to it; or the rows of its entry, and an entry of each row, and an absent half is one of them
abbrev pub AreClosedBy : Known → List ℕ → Type 0
AreClosedBy (Keys keys) ids = AreClosing keys ids
AreClosedBy (Entries it) ids = IsClosedIn (has_id ids) it.memory.now.entries × (has_id ids 0 ≡ true)

-- of the entries, those of listed identifiers pass, and no others, and so do their rows
pub record PassEntries (P : ℕ → Bool) (ids : List ℕ) (m : Pairs) : Type 0 where
  pub own : (id a b : ℕ) → pair_of m id ≡ Some (a, b) → P id ≡ true → has_id ids id ≡ true
  pub first : (id a b : ℕ) → pair_of m id ≡ Some (a, b) → P a ≡ true → has_id ids a ≡ true
  pub second : (id a b : ℕ) → pair_of m id ≡ Some (a, b) → P b ≡ true → has_id ids b ≡ true

-- what passes of a pair: of the rows of S and T and of the entries those that are listed, and no others
pub record PassKnown (P : ℕ → Bool) (ids : List ℕ) (place : Option SeekPlace) (p : PairState) : Type 0 where
  pub rows : PassListed P ids (side_at place p)
  pub entries : PassEntries P ids p.memory
