-- Finding a file by its name, and changing the one that was found.
use Rattle.std.proofs.Common.{◌≡◌, ◌≢◌, ◌<◌, ◌+◌, ℕ, zero, suc, Bool, true, false, List, [], ◌∷◌, length, get_or, set, cond, refl, ap, sym, ◌∙◌, arith, bytes_eq, position}
use Rattle.std.specs.Prelude.{Option, None, Some}
use Rattle.std.proofs.lemmas.List.Quantifiers.{position-Some}
use Rattle.std.specs.List.{position_from}
use Rattle.std.proofs.lemmas.Iterator.Adapters.{position_from-zero}
use Rattle.std.proofs.lemmas.Slice.Eq.{bytes_eq-Decides}
use Rattle.std.specs.Bool.{Decides}
use Rattle.outside.specs.InMemory.{FileState, bytes_in}

-- whether the file has the name
abbrev is_called : List ℕ → FileState → Bool
is_called name file = bytes_eq file.name name

-- the bytes are those of the file at the first place of the name
at_place : (files : List FileState) (name : List ℕ) (i : ℕ) (d : FileState) → i < length files → is_called name (get_or files i d) ≡ true
    → ((k : ℕ) → k < i → is_called name (get_or files k d) ≡ false) → bytes_in files name ≡ (get_or files i d).bytes
unfolding bytes_in
at_place [] name i d lt here before = absurd (omega arith)
at_place (f ∷ fs) name zero d lt here before = ap (λ (t : Bool). cond t f.bytes (bytes_in fs name)) here
at_place (f ∷ fs) name (suc i) d lt here before =
    ap (λ (t : Bool). cond t f.bytes (bytes_in fs name)) (before 0 (omega arith))
    ∙ at_place fs name i d (omega arith) here (λ k l. before (suc k) (omega arith))

-- one file more that doesn't have the name
absent_step : {A : Type 0} (t : Bool) (i : ℕ) (r : Option ℕ) (bytes others : Option A) → cond t (Some i) r ≡ None → (r ≡ None → others ≡ None) → cond t bytes others ≡ None
absent_step true i r bytes others none more = cc
absent_step false i r bytes others none more = more none

-- the same, counted from any number on
absent_from : (files : List FileState) (name : List ℕ) (i : ℕ) → position_from (is_called name) i files ≡ None → bytes_in files name ≡ None
unfolding bytes_in
absent_from [] name i none = refl
absent_from (f ∷ fs) name i none =
    absent_step (is_called name f) i (position_from (is_called name) (i + 1) fs) f.bytes (bytes_in fs name) none (absent_from fs name (i + 1))

-- no file has the name
pub absent : (files : List FileState) (name : List ℕ) → position (is_called name) files ≡ None → bytes_in files name ≡ None
absent files name none = absent_from files name 0 (sym (position_from-zero (is_called name) files) ∙ none)

-- the file at the place that was found
pub found : (files : List FileState) (name : List ℕ) (i : ℕ) (d : FileState) → position (is_called name) files ≡ Some i → bytes_in files name ≡ (get_or files i d).bytes
found files name i d at = let p = position-Some (is_called name) files i d at in at_place files name i d (p.0) (p.1) (p.2)

-- the new file at the place that was found
set_at : (files : List FileState) (name : List ℕ) (i : ℕ) (d f : FileState) → i < length files → is_called name f ≡ true
    → ((k : ℕ) → k < i → is_called name (get_or files k d) ≡ false) → bytes_in (set files i f) name ≡ f.bytes
unfolding bytes_in
set_at [] name i d f lt here before = absurd (omega arith)
set_at (g ∷ fs) name zero d f lt here before = ap (λ (t : Bool). cond t f.bytes (bytes_in fs name)) here
set_at (g ∷ fs) name (suc i) d f lt here before =
    ap (λ (t : Bool). cond t g.bytes (bytes_in (set fs i f) name)) (before 0 (omega arith))
    ∙ set_at fs name i d f (omega arith) here (λ k l. before (suc k) (omega arith))

-- the same where the search found the place
pub set_found : (files : List FileState) (name : List ℕ) (i : ℕ) (d f : FileState) → position (is_called name) files ≡ Some i → f.name ≡ (get_or files i d).name
    → bytes_in (set files i f) name ≡ f.bytes
set_found files name i d f at same =
    let p = position-Some (is_called name) files i d at in
    set_at files name i d f (p.0) (ap (λ (n : List ℕ). bytes_eq n name) same ∙ p.1) (p.2)

-- what a test decides is false where it doesn't hold
not_same : {P : Type 0} (t : Bool) → Decides t P → (P → ⊥) → t ≡ false
not_same true d differs = absurd (differs (d.0 refl))
not_same false d differs = refl

-- a file of one name doesn't have another
not_called : (file : List ℕ) (f : FileState) (name : List ℕ) → f.name ≡ name → file ≢ name → is_called file f ≡ false
not_called file f name called ne = not_same (bytes_eq f.name file) (bytes_eq-Decides f.name file) (λ e. ne (sym e ∙ called))

-- a file of another name stays
other_at : (files : List FileState) (name file : List ℕ) (i : ℕ) (d f : FileState) → i < length files → (get_or files i d).name ≡ name → f.name ≡ name → file ≢ name
    → bytes_in (set files i f) file ≡ bytes_in files file
unfolding bytes_in
other_at [] name file i d f lt here same ne = absurd (omega arith)
other_at (g ∷ fs) name file zero d f lt here same ne =
    ap (λ (t : Bool). cond t f.bytes (bytes_in fs file)) (not_called file f name same ne)
    ∙ sym (ap (λ (t : Bool). cond t g.bytes (bytes_in fs file)) (not_called file g name here ne))
other_at (g ∷ fs) name file (suc i) d f lt here same ne =
    ap (λ (r : Option (List ℕ)). cond (is_called file g) g.bytes r) (other_at fs name file i d f (omega arith) here same ne)

-- the same where the search found the place
pub set_other : (files : List FileState) (name file : List ℕ) (i : ℕ) (d f : FileState) → position (is_called name) files ≡ Some i → f.name ≡ (get_or files i d).name → file ≢ name
    → bytes_in (set files i f) file ≡ bytes_in files file
set_other files name file i d f at same ne =
    let p = position-Some (is_called name) files i d at in
    let called : (get_or files i d).name ≡ name = (bytes_eq-Decides (get_or files i d).name name).0 (p.1) in
    other_at files name file i d f (p.0) called (same ∙ called) ne
