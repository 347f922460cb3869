-- Lists that are made one item after the other.
use Rattle.std.specs.Prelude.{filter_map, option_to_list, Option, Some, None}
use Rattle.std.specs.List.{cons_option}
use Rattle.std.proofs.Common.{◌≡◌, ℕ, zero, suc, ◌+◌, ◌<◌, ◌≤◌, Bool, true, false, cond, List, [], ◌∷◌, ◌++◌, filter, length, take, get_or, slice_get, refl, ap, sym, subst, ◌∙◌, add-one, arith}
use Rattle.std.proofs.lemmas.List.{take_more}
use Rattle.std.specs.Option.{option_map}
use mathlib.Core.Logic.{inl, inr}
use Rattle.row_store.specs.Changes.{ChangesRise, IsAbove}
use Rattle.change_feed.specs.declared.note.Note.{Note}
use Rattle.change_feed.specs.declared.note.VersionNote.{VersionNote}
use Rattle.change_feed.specs.Places.{AtPlace}
use Rattle.change_feed.specs.Watches.{WatchState}
use Rattle.version_notes.specs.Notes.{notes_by}
use Rattle.version_notes.specs.Runs.{versions_of}
use Rattle.version_graph.specs.Edges.{made, working}
use Rattle.version_graph.specs.Sets.{In, Within}
use Rattle.version_graph.specs.Tables.{TableVersion, table_numbers}
use Rattle.version_graph.specs.declared.parts.Placed.{Placed}
use Rattle.version_graph.proofs.SetLaws.{in_map, origin}
use Rattle.version_graph.proofs.TableLaws.{working_made}
use Rattle.row_store.specs.declared.change.Change.{Change}

module _ {X Y : Type 0} (h : X → Option Y) where
  one_more : (o : Option Y) → cons_option o [] ≡ option_to_list o
  one_more None = refl
  one_more (Some y) = refl

  cons_more : (o : Option Y) (xs ys : List Y) → cons_option o (xs ++ ys) ≡ cons_option o xs ++ ys
  cons_more None xs ys = refl
  cons_more (Some y) xs ys = refl

  map_more : (xs : List X) (x : X) → filter_map h (xs ++ x ∷ []) ≡ filter_map h xs ++ option_to_list (h x)
  map_more [] x = one_more (h x)
  map_more (y ∷ xs) x = ap (λ (l : List Y). cons_option (h y) l) (map_more xs x) ∙ cons_more (h y) (filter_map h xs) (option_to_list (h x))

  -- what stands behind the next item, where this was made of those before it
  pub next_made : (xs : List X) (at : ℕ) (d x : X) (old new : List Y) → at < length xs → x ≡ get_or xs at d → old ≡ filter_map h (take at xs) → new ≡ old ++ option_to_list (h x) → new ≡ filter_map h (take (at + 1) xs)
  next_made xs at d x old new within is old_is new_is =
      new_is ∙ ap (λ (l : List Y). l ++ option_to_list (h x)) old_is ∙ sym (map_more (take at xs) x)
      ∙ ap (λ (l : List X). filter_map h (take at xs ++ l)) (ap (λ (y : X). y ∷ []) is) ∙ sym (ap (filter_map h) (take_more xs at d within))

-- ---- changes that rise, of which some are taken

abbrev AllBelow : List Change → ℕ → Type 0
AllBelow [] n = Unit {0}
AllBelow (c ∷ cs) n = (c.id < n) × AllBelow cs n

above : (cs : List Change) (n : ℕ) → AllBelow cs n → IsAbove cs n
above [] n h = tt
above (c ∷ []) n h = h.0
above (c ∷ d ∷ cs) n h = above (d ∷ cs) n h.1

not_less : (n : ℕ) (cs : List Change) (i : ℕ) (d : Change) → ChangesRise n cs → i < length cs → n ≤ (get_or cs i d).id
not_less n [] i d rise h = absurd (omega arith)
not_less n (c ∷ cs) zero d rise h = rise.0
not_less n (c ∷ cs) (suc i) d rise h = let rest = not_less (c.id + 1) cs i d rise.1 (omega arith) in omega (arith, rest, rise.0)

maybe_below : (b : Bool) (c : Change) (cs : List Change) (n : ℕ) → c.id < n → AllBelow cs n → AllBelow (cond b (c ∷ cs) cs) n
maybe_below true c cs n less rest = (less, rest)
maybe_below false c cs n less rest = rest

below_taken : (test : Change → Bool) (n : ℕ) (cs : List Change) (i : ℕ) (d : Change) → ChangesRise n cs → i < length cs → AllBelow (filter test (take i cs)) (get_or cs i d).id
below_taken test n [] i d rise h = absurd (omega arith)
below_taken test n (c ∷ cs) zero d rise h = tt
below_taken test n (c ∷ cs) (suc i) d rise h =
    let least = not_less (c.id + 1) cs i d rise.1 (omega arith) in
    maybe_below (test c) c (filter test (take i cs)) (get_or cs i d).id (omega (arith, least)) (below_taken test (c.id + 1) cs i d rise.1 (omega arith))

pub above_taken : (test : Change → Bool) (cs : List Change) (i : ℕ) (d : Change) → ChangesRise 0 cs → i < length cs → IsAbove (filter test (take i cs)) (get_or cs i d).id
above_taken test cs i d rise h = above (filter test (take i cs)) (get_or cs i d).id (below_taken test 0 cs i d rise h)

below_append : (n : ℕ) (a : List Change) (c : Change) (b : List Change) → ChangesRise n (a ++ c ∷ b) → AllBelow a c.id × (n ≤ c.id)
below_append n [] c b rise = (tt, rise.0)
below_append n (d ∷ a) c b rise = let rest = below_append (d.id + 1) a c b rise.1 in ((omega (arith, rest.1), rest.0), omega (arith, rest.1, rise.0))

-- the next change of a rising list is above those before it
pub above_append : (a : List Change) (c : Change) (b : List Change) → ChangesRise 0 (a ++ c ∷ b) → IsAbove a c.id
above_append a c b rise = above a c.id (below_append 0 a c b rise).0

-- ---- tables of a version are live

pub in_at : {X : Type 0} (xs : List X) (i : ℕ) (d : X) → i < length xs → In (get_or xs i d) xs
in_at [] i d h = absurd (omega arith)
in_at (x ∷ xs) zero d h = inl refl
in_at (x ∷ xs) (suc i) d h = inr (in_at xs i d (omega arith))

pub version_within : {O : Type 0} (es : List (Placed O)) (o : Option ℕ) (ns : List ℕ) → option_map (λ (set : ℕ). table_numbers (working es set)) o ≡ Some ns → Within ns (table_numbers (made es))
version_within es None ns e x i = absurd (let no : ⊥ = cc in no)
version_within es (Some set) ns e x i =
    let same : table_numbers (working es set) ≡ ns = cc in
    let it = origin (λ (v : TableVersion). v.number) x (working es set) (subst (In x) (sym same) i) in
    subst (λ (n : ℕ). In n (table_numbers (made es))) (sym it.2) (in_map (λ (v : TableVersion). v.number) it.0 (made es) (working_made es set it.0 it.1))

-- ---- the notes of one version more

take_version : (live : List WatchState) (at : ℕ) (w : WatchState) → slice_get live at ≡ Some w → take (suc at) (versions_of live) ≡ take at (versions_of live) ++ w.version ∷ []
take_version [] at w e = absurd (let no : ⊥ = cc in no)
take_version (v ∷ live) zero w e = let same : v ≡ w = cc in ap (λ (x : WatchState). x.version ∷ []) same
take_version (v ∷ live) (suc at) w e = ap (λ (l : List (List ℕ)). v.version ∷ l) (take_version live at w e)

pub next_version : (note : List ℕ → Option Note) (live : List WatchState) (at : ℕ) (version : List ℕ) (old new : List VersionNote) → AtPlace live at (λ (w : WatchState). w.version ≡ version) → old ≡ notes_by note (take at (versions_of live))
    → new ≡ old ++ option_to_list (option_map (λ (n : Note). record { version = version; note = n }) (note version)) → new ≡ notes_by note (take (at + 1) (versions_of live))
next_version note live at version old new place old_is new_is =
    let named : List ℕ → Option VersionNote = λ (v : List ℕ). option_map (λ (n : Note). record { version = v; note = n }) (note v) in
    new_is ∙ ap (λ (l : List VersionNote). l ++ option_to_list (named version)) old_is ∙ sym (map_more named (take at (versions_of live)) version)
    ∙ ap (λ (v : List ℕ). filter_map named (take at (versions_of live) ++ v ∷ [])) (sym place.2)
    ∙ ap (filter_map named) (sym (take_version live at place.0 place.1)) ∙ ap (λ (n : ℕ). notes_by note (take n (versions_of live))) (sym (add-one at))
