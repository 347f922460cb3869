-- What lives, and what stays of the values under numbers.
use Rattle.std.specs.Prelude.{is_some, ◌||◌}
use Rattle.std.specs.List.{find, list_any}
use Rattle.std.proofs.Common.{Bor, ◌≡◌, if◌then◌else◌, ℕ, ◌==◌, List, [], ◌∷◌, Bool, true, false, cond, Option, Some, None, option_map, filter, refl, sym, ap, ◌∙◌}
use Rattle.std.proofs.lemmas.Bool.{eqb-true, cond-true, cond-false}
use Rattle.std.specs.Option.{option_copied, option_map_or}
use Rattle.version_graph.specs.Tables.{TableVersion, table_numbers}
use Rattle.version_graph.specs.Edges.{edge_of, heading_of, is_in, made, numbers}
use Rattle.version_graph.specs.declared.parts.Placed.{Placed}
use Rattle.version_model.specs.Kept.{value_of}
use Rattle.version_model.specs.declared.numbered.Numbered.{Numbered}
use Rattle.version_model.proofs.NumberedLaws.{looked, value_of_first}

-- ---- what lives

-- something is found exactly where something passes
found_any : {X : Type 0} (test : X → Bool) (xs : List X) → is_some (find test xs) ≡ list_any test xs
found_any test [] = refl
found_any test (x ∷ xs) = elim (test x) as (λ b. is_some (cond b (Some x) (find test xs)) ≡ (b || list_any test xs)) [ true ↦ refl | false ↦ found_any test xs ]

some_map : {X Y : Type 0} (f : X → Y) (o : Option X) → is_some (option_map f o) ≡ is_some o
some_map f None = refl
some_map f (Some x) = refl

pub lent_is_some : {T : Type 0} (o : Option (Bor T)) → is_some o ≡ is_some (option_copied o)
lent_is_some None = refl
lent_is_some (Some x) = refl

pub live_table : {O : Type 0} (es : List (Placed O)) (t : ℕ) → is_some (heading_of es t) ≡ is_in t (table_numbers (made es))
live_table es t = some_map (λ (v : TableVersion). v.heading) (find (λ (v : TableVersion). t == v.number) (made es)) ∙ found_any (λ (v : TableVersion). t == v.number) (made es) ∙ any_map (made es)
  where
    any_map : (vs : List TableVersion) → list_any (λ (v : TableVersion). t == v.number) vs ≡ is_in t (table_numbers vs)
    any_map [] = refl
    any_map (v ∷ vs) = ap (λ (b : Bool). (t == v.number) || b) (any_map vs)

pub live_operator : {O : Type 0} (es : List (Placed O)) (n : ℕ) → is_some (edge_of es n) ≡ is_in n (numbers es)
live_operator {O} es n = found_any (λ (e : Placed O). n == e.number) es ∙ any_number es
  where
    any_number : (fs : List (Placed O)) → list_any (λ (e : Placed O). n == e.number) fs ≡ is_in n (numbers fs)
    any_number [] = refl
    any_number (e ∷ fs) = ap (λ (b : Bool). (n == e.number) || b) (any_number fs)

-- ---- what stays

module _ {T : Type 0} (test : ℕ → Bool) where
  abbrev passing_items : List (Numbered T) → List (Numbered T)
  passing_items items = filter (λ (i : Numbered T). test i.number) items

  pass_one : (x : Numbered T) (xs : List (Numbered T)) (n : ℕ) (b c : Bool) → test x.number ≡ b → (n == x.number) ≡ c → value_of (passing_items xs) n ≡ (if test n then value_of xs n else None) → value_of (cond b (x ∷ passing_items xs) (passing_items xs)) n ≡ (if test n then looked c x (value_of xs n) else None)
  pass_one x xs n true true pass here rest =
      value_of_first x (passing_items xs) n ∙ ap (λ (c : Bool). looked c x (value_of (passing_items xs) n)) here
      ∙ sym (cond-true (test n) (Some x.value) None (ap test (eqb-true n x.number here) ∙ pass))
  pass_one x xs n true false pass here rest = value_of_first x (passing_items xs) n ∙ ap (λ (c : Bool). looked c x (value_of (passing_items xs) n)) here ∙ rest
  pass_one x xs n false true pass here rest =
      let fails : test n ≡ false = ap test (eqb-true n x.number here) ∙ pass in
      rest ∙ cond-false (test n) (value_of xs n) None fails ∙ sym (cond-false (test n) (Some x.value) None fails)
  pass_one x xs n false false pass here rest = rest

  -- a value stays where its number passes
  pub value_passes : (items : List (Numbered T)) (n : ℕ) → value_of (passing_items items) n ≡ (if test n then value_of items n else None)
  value_passes [] n = nothing (test n)
    where
      nothing : (b : Bool) → value_of (passing_items []) n ≡ cond b (value_of [] n) None
      nothing true = refl
      nothing false = refl
  value_passes (x ∷ xs) n =
      pass_one x xs n (test x.number) (n == x.number) refl refl (value_passes xs n) ∙ ap (λ (o : Option T). if test n then o else None) (sym (value_of_first x xs n))

  read_if : {R : Type 0} (read : T → R) (none : R) (o : Option T) (b : Bool) → option_map_or read (cond b o None) none ≡ cond b (option_map_or read o none) none
  read_if read none o true = refl
  read_if read none o false = refl

  pub read_passes : {R : Type 0} (read : T → R) (none : R) (items : List (Numbered T)) (n : ℕ) → option_map_or read (value_of (passing_items items) n) none ≡ (if test n then option_map_or read (value_of items n) none else none)
  read_passes read none items n = ap (λ (o : Option T). option_map_or read o none) (value_passes items n) ∙ read_if read none (value_of items n) (test n)
