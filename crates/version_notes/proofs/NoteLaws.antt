-- The notes of a run are those between two states of the data.
use Rattle.std.specs.Prelude.{filter_map, Option, Some, None}
use Rattle.std.specs.Option.{option_map, option_map_or}
use Rattle.std.specs.List.{cons_option}
use Rattle.std.specs.Str.{bytes_eq}
use Rattle.std.proofs.Common.{◌≡◌, ◌⊎◌, if◌then◌else◌, ℕ, Bool, true, false, cond, List, [], ◌∷◌, filter, refl, ap, sym, ◌∙◌, subst}
use mathlib.Core.Logic.{inl, inr}
use Rattle.row_store.specs.Rows.{Rows, RiseFrom}
use Rattle.row_store.specs.declared.change.Change.{Change}
use Rattle.version_graph.specs.Sets.{Distinct, Each, In}
use Rattle.version_graph.specs.Tables.{TableVersion, heading_names, headings_of, table_numbers}
use Rattle.version_graph.specs.Edges.{AreEdges, Drawn, heading_of, is_in, set_named, version_names, working}
use Rattle.version_graph.proofs.NameLaws.{name_is, same_name}
use Rattle.version_graph.proofs.SetLaws.{each_of, in_of_test}
use Rattle.version_graph.proofs.TableLaws.{names_once, working_made}
use Rattle.version_graph.proofs.TakenLaws.{heading_known}
use Rattle.version_model.specs.Kept.{Database}
use Rattle.version_model.specs.States.{State}
use Rattle.changes_walk.specs.Changing.{latest_changes}
use Rattle.op_law.proofs.OnlyLaws.{by_test}
use Rattle.row_changes.specs.Differences.{IsDifference}
use Rattle.write_plans.specs.Told.{TellsApart, is_change}
use Rattle.write_plans.specs.declared.undo.Undo.{Undo}
use Rattle.change_feed.specs.declared.note.Note.{Note}
use Rattle.change_feed.specs.declared.note.TableChange.{TableChange}
use Rattle.change_feed.specs.declared.note.VersionNote.{VersionNote}
use Rattle.change_feed.specs.Shown.{Named}
use Rattle.change_feed.specs.Watches.{note_for}
use Rattle.feed_mirror.specs.Notes.{AreApart, IsNoteOf, IsOther, emptied}
use Rattle.version_notes.specs.Versions.{named_with, tables_at, tables_of}
use Rattle.version_notes.specs.Differences.{changes_between, difference, note_between, note_of, table_with}
use Rattle.version_notes.specs.Notes.{notes_between, notes_by}
use Rattle.version_notes.specs.Runs.{IsOrdered, LeadsTo, carried_to, change_of, changed_table, run_note}
use Rattle.version_notes.proofs.DifferenceLaws.{carried_is, is_difference, lead_rises, none_differ}

-- ---- the changes between two states of a version are its note

-- both have the same names, and all tables rise
abbrev pub AreVersions : Named → Named → Type 0
AreVersions [] [] = Unit {0}
AreVersions [] (u ∷ us) = ⊥
AreVersions (t ∷ ts) [] = ⊥
AreVersions (t ∷ ts) (u ∷ us) = ((t.0 ≡ u.0) × RiseFrom 0 t.1 × RiseFrom 0 u.1) × AreVersions ts us

-- what a note has of the first table and the others
abbrev Tail : List ℕ × Rows → List ℕ × Rows → Named → Named → List TableChange → Type 0
Tail t u ts us cs = ((t.1 ≡ u.1) × IsNoteOf ts us cs) ⊎ ((c : TableChange) × (rest : List TableChange) × (cs ≡ c ∷ rest) × (c.table ≡ t.0) × (t.1 ≡ u.1 → ⊥) × IsDifference t.1 u.1 c.changes × IsNoteOf ts us rest)

tail_is : (t u : List ℕ × Rows) (ts us : Named) (cs : List Change) → difference t.1 u.1 ≡ cs → IsDifference t.1 u.1 (difference t.1 u.1) → IsNoteOf ts us (changes_between ts us) → Tail t u ts us (cons_option (table_with t.0 cs) (changes_between ts us))
tail_is t u ts us [] e is rest = inl ((subst (IsDifference t.1 u.1) e is).new, rest)
tail_is t u ts us (c ∷ cs) e is rest = inr (
  record { table = t.0; changes = c ∷ cs },
  changes_between ts us,
  refl,
  refl,
  (λ same. (let clash : [] ≡ c ∷ cs = sym (none_differ t.1) ∙ ap (difference t.1) same ∙ e in let no : ⊥ = cc in no)),
  subst (IsDifference t.1 u.1) e is,
  rest,
)

pub is_note : (ts us : Named) → AreVersions ts us → IsNoteOf ts us (changes_between ts us)
is_note [] [] h = refl
is_note [] (u ∷ us) h = absurd h
is_note (t ∷ ts) [] h = absurd h
is_note (t ∷ ts) (u ∷ us) h = (h.0.0, tail_is t u ts us (difference t.1 u.1) refl (is_difference t.1 u.1 h.0.1 h.0.2) (is_note ts us h.1))

pub in_set : (set : List TableVersion) (f g : ℕ → Rows) → ((t : ℕ) → RiseFrom 0 (f t)) → ((t : ℕ) → RiseFrom 0 (g t)) → AreVersions (named_with f set) (named_with g set)
in_set [] f g rise risen = tt
in_set (v ∷ set) f g rise risen = ((refl, rise v.number, risen v.number), in_set set f g rise risen)

pub from_empty : (set : List TableVersion) (f : ℕ → Rows) → ((t : ℕ) → RiseFrom 0 (f t)) → AreVersions (emptied (named_with f set)) (named_with f set)
from_empty [] f rise = tt
from_empty (v ∷ set) f rise = ((refl, tt, rise v.number), from_empty set f rise)

module _ {O : Type 0} where
  -- the version's tables in another state of the same graph
  with_state : (d : Database O) (s : State) (limit : ℕ) (o : Option ℕ) → ((t : ℕ) → RiseFrom 0 (d.state.tables t)) → ((t : ℕ) → RiseFrom 0 (s.tables t))
      → AreVersions (tables_at d o) (tables_at (record { graph = d.graph; state = s; limit = limit }) o)
  with_state d s limit None rise risen = tt
  with_state d s limit (Some set) rise risen = in_set (working d.graph.edges set) d.state.tables s.tables rise risen

  pub in_both : (old new : Database O) (version : List ℕ) → new.graph ≡ old.graph → ((t : ℕ) → RiseFrom 0 (old.state.tables t)) → ((t : ℕ) → RiseFrom 0 (new.state.tables t)) → AreVersions (tables_of old version) (tables_of new version)
  in_both old new version graph rise risen =
      subst (λ (d : Database O). AreVersions (tables_of old version) (tables_of d version)) (λ i. record new { graph = sym graph i })
      (with_state old new.state new.limit (set_named old.graph.versions version) rise risen)

-- ---- names in a version are apart

is_other : (name : List ℕ) (set : List TableVersion) (f : ℕ → Rows) → (In name (heading_names (headings_of set)) → ⊥) → IsOther name (named_with f set)
is_other name [] f h = tt
is_other name (v ∷ set) f h = ((λ same. h (inl (sym same))), is_other name set f (λ i. h (inr i)))

apart_in : (set : List TableVersion) (f : ℕ → Rows) → Distinct (heading_names (headings_of set)) → AreApart (named_with f set)
apart_in [] f h = tt
apart_in (v ∷ set) f h = (is_other v.heading.name set f h.0, apart_in set f h.1)

module _ {O : Type 0} (d : Database O) (edges : AreEdges d.graph.edges) where
  pub apart_at : (o : Option ℕ) → AreApart (tables_at d o)
  apart_at None = tt
  apart_at (Some set) = apart_in (working d.graph.edges set) d.state.tables (names_once d.graph.edges edges set)

-- ---- a run

module _ {O : Type 0} (old new : Database O) (undo : Undo) (is : IsOrdered old) (lead : LeadsTo old new undo) where
  apart_tells : (t : ℕ) → is_in t undo.changed ≡ false → new.state.tables t ≡ old.state.tables t
  apart_tells t e = subst (TellsApart (old.state.tables t) (new.state.tables t)) e (lead.changed t)

  carried_at : (t : ℕ) → carried_to undo t ≡ difference (old.state.tables t) (new.state.tables t)
  carried_at t =
      by_test (is_in t undo.changed)
      (λ e.
      ap (λ (b : Bool). if b then filter is_change (latest_changes undo.carried t) else []) e
      ∙ carried_is (old.state.tables t) (new.state.tables t) (latest_changes undo.carried t) (is.rise t) (lead.carried t (in_of_test t undo.changed e)))
      (λ e.
      ap (λ (b : Bool). if b then filter is_change (latest_changes undo.carried t) else []) e
      ∙ sym (none_differ (old.state.tables t)) ∙ ap (difference (old.state.tables t)) (sym (apart_tells t e)))

  risen : (t : ℕ) → RiseFrom 0 (new.state.tables t)
  risen t =
      by_test (is_in t undo.changed)
      (λ e. lead_rises (old.state.tables t) (new.state.tables t) (latest_changes undo.carried t) (is.rise t) (lead.carried t (in_of_test t undo.changed e)))
      (λ e. subst (RiseFrom 0) (sym (apart_tells t e)) (is.rise t))

  pub lead_ordered : IsOrdered new
  lead_ordered = record { edges = subst (λ (g : Drawn O). AreEdges g.edges) (sym lead.graph) is.edges; rise = risen }

  pub lead_versions : (version : List ℕ) → AreVersions (tables_of old version) (tables_of new version)
  lead_versions version = in_both old new version lead.graph is.rise risen

  run_changes : (set : List TableVersion) → Each (λ (v : TableVersion). heading_of old.graph.edges v.number ≡ Some v.heading) set
      → filter_map (changed_table old.graph.edges undo) (table_numbers set) ≡ changes_between (named_with old.state.tables set) (named_with new.state.tables set)
  run_changes [] heads = refl
  run_changes (v ∷ set) heads = λ i. cons_option (change_of (heads.0 i) (carried_at v.number i)) (run_changes set heads.1 i)

  run_at : (o : Option ℕ) → note_of (filter_map (changed_table old.graph.edges undo) (option_map_or (λ (set : ℕ). table_numbers (working old.graph.edges set)) o []))
      ≡ note_between (tables_at old o) (tables_at (record { graph = old.graph; state = new.state; limit = new.limit }) o)
  run_at None = refl
  run_at (Some set) =
      ap note_of (run_changes (working old.graph.edges set)
      (each_of (λ (v : TableVersion). heading_of old.graph.edges v.number ≡ Some v.heading) (working old.graph.edges set) (λ v i. heading_known old.graph.edges is.edges v (working_made old.graph.edges set v i))))

  -- THE NOTE OF A RUN IS THE DIFFERENCE of the version's tables
  pub run_is : (version : List ℕ) → run_note old.graph undo version ≡ note_between (tables_of old version) (tables_of new version)
  run_is version =
      run_at (set_named old.graph.versions version)
      ∙ ap (λ (d : Database O). note_between (tables_of old version) (tables_of d version)) (λ i. record new { graph = sym lead.graph i })

-- ---- the note of a version among notes

module _ (note : List ℕ → Option Note) (version : List ℕ) where
  abbrev named : List ℕ → Option Note → List VersionNote → List VersionNote
  named name o rest = cons_option (option_map (λ (n : Note). record { version = name; note = n }) o) rest

  -- the first has the name, or not
  there : (name : List ℕ) (x : Note) (rest : List VersionNote) → bytes_eq name version ≡ true → note_for (named name (Some x) rest) version ≡ Some x
  there name x rest e = ap (λ (b : Bool). if b then Some x else note_for rest version) e

  later : (name : List ℕ) (x : Note) (rest : List VersionNote) → bytes_eq name version ≡ false → note_for (named name (Some x) rest) version ≡ note_for rest version
  later name x rest e = ap (λ (b : Bool). if b then Some x else note_for rest version) e

  none_one : (name : List ℕ) (o : Option Note) → note name ≡ o → note version ≡ None → (rest : List VersionNote) → note_for rest version ≡ None → note_for (named name o rest) version ≡ None
  none_one name None e none rest h = h
  none_one name (Some x) e none rest h =
      by_test (bytes_eq name version)
      (λ is. (let clash : Some x ≡ None = sym e ∙ ap note (same_name name version is) ∙ none in absurd (let no : ⊥ = cc in no)))
      (λ off. later name x rest off ∙ h)

  pub note_none : note version ≡ None → (names : List (List ℕ)) → note_for (notes_by note names) version ≡ None
  note_none none [] = refl
  note_none none (name ∷ names) = none_one name (note name) refl none (notes_by note names) (note_none none names)

  listed_first : (name : List ℕ) (o : Option Note) → note name ≡ o → version ≡ name → (names : List (List ℕ)) → note_for (named name o (notes_by note names)) version ≡ note version
  listed_first name None e same names = let none : note version ≡ None = ap note same ∙ e in note_none none names ∙ sym none
  listed_first name (Some x) e same names = there name x (notes_by note names) (name_is name version (sym same)) ∙ sym e ∙ ap note (sym same)

  listed_later : (name : List ℕ) (o : Option Note) → note name ≡ o → (rest : List VersionNote) → note_for rest version ≡ note version → note_for (named name o rest) version ≡ note version
  listed_later name None e rest h = h
  listed_later name (Some x) e rest h =
      by_test (bytes_eq name version)
      (λ is. there name x rest is ∙ sym e ∙ ap note (same_name name version is))
      (λ off. later name x rest off ∙ h)

  pub note_listed : (names : List (List ℕ)) → In version names → note_for (notes_by note names) version ≡ note version
  note_listed [] i = absurd i
  note_listed (name ∷ names) (inl same) = listed_first name (note name) refl same names
  note_listed (name ∷ names) (inr i) = listed_later name (note name) refl (notes_by note names) (note_listed names i)

named_in : (versions : List (List ℕ × ℕ)) (name : List ℕ) (set : ℕ) → set_named versions name ≡ Some set → In name (version_names versions)
named_in [] name set e = absurd (let no : ⊥ = cc in no)
named_in (v ∷ versions) name set e =
    by_test (bytes_eq name v.0)
    (λ is. inl (same_name name v.0 is))
    (λ off. inr (named_in versions name set (sym (ap (λ (b : Bool). cond b (Some v.1) (set_named versions name)) off) ∙ e)))

module _ {O : Type 0} (old new : Database O) where
  abbrev each : List ℕ → Option Note
  each name = note_between (tables_of old name) (tables_of new name)

  has_at : (version : List ℕ) (o : Option ℕ) → set_named old.graph.versions version ≡ o → note_for (notes_between old new) version ≡ each version
  has_at version None e =
      let none : each version ≡ None = ap (λ (o : Option ℕ). note_between (tables_at old o) (tables_of new version)) e in
      note_none each version none (version_names old.graph.versions) ∙ sym none
  has_at version (Some set) e = note_listed each version (version_names old.graph.versions) (named_in old.graph.versions version set e)

  -- OF EACH VERSION they have the note between its tables
  pub between_has : (version : List ℕ) → note_for (notes_between old new) version ≡ note_between (tables_of old version) (tables_of new version)
  between_has version = has_at version (set_named old.graph.versions version) refl

-- where the tables of a version stay, it has no note
no_changes : (ts : Named) → changes_between ts ts ≡ []
no_changes [] = refl
no_changes (t ∷ ts) = λ i. cons_option (table_with t.0 (none_differ t.1 i)) (no_changes ts i)

pub none_between : (tables : Named) → note_between tables tables ≡ None
none_between tables = ap note_of (no_changes tables)
