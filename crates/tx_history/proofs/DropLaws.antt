-- Numbers under dropped names: one more, and another one.
use Rattle.std.specs.List.{find, position}
use Rattle.std.specs.Option.{option_map_or}
use Rattle.std.specs.Str.{bytes_eq}
use Rattle.std.proofs.Common.{◌≡◌, if◌then◌else◌, ℕ, suc, ◌≤◌, List, [], ◌∷◌, ◌++◌, Bool, true, false, cond, length, nat_lt, Some, slice_index_or, slice_set, refl, sym, ap, subst, ◌∙◌, arith}
use Rattle.std.proofs.lemmas.Bool.{false≢true}
use Rattle.std.proofs.lemmas.Slice.Eq.{bytes_eq-Decides}
use Rattle.op_law.proofs.OnlyLaws.{by_test}
use Rattle.session_tx.specs.Calls.{next_number}
use Rattle.tx_history.specs.History.{dropped_in, history_of, with_drop, DropsArePast}
use Rattle.tx_history.specs.declared.history.ChangeNumbers.{ChangeNumbers}
use Rattle.tx_history.specs.declared.history.NameDrop.{NameDrop}
use Rattle.tx_history.proofs.PlaceLemmas.{less, place, placed, put, set_put}
use Rattle.tx_history.proofs.TestLaws.{is_false}

pub dropped_first : (d : NameDrop) (ds : List NameDrop) (other : List ℕ) → dropped_in (d ∷ ds) other ≡ cond (bytes_eq other d.name) d.at (dropped_in ds other)
dropped_first d ds other =
    let M : Bool → Type 0 = λ b. option_map_or (λ (one : NameDrop). one.at) (cond b (Some d) (find (λ (one : NameDrop). bytes_eq other one.name) ds)) 0 ≡ cond b d.at (dropped_in ds other) in
    elim (bytes_eq other d.name) as (λ b. M b) [ true ↦ refl | false ↦ refl ]

zero_either : (b : Bool) (n : ℕ) → n ≡ 0 → cond b n 0 ≡ 0
zero_either true n is = is
zero_either false n is = refl

-- a 0 behind the others says as much as none
pub dropped_more : (ds : List NameDrop) (x : NameDrop) → x.at ≡ 0 → (other : List ℕ) → dropped_in (ds ++ x ∷ []) other ≡ dropped_in ds other
dropped_more [] x is other = dropped_first x [] other ∙ zero_either (bytes_eq other x.name) x.at is
dropped_more (d ∷ ds) x is other =
    dropped_first d (ds ++ x ∷ []) other
    ∙ ap (λ (n : ℕ). cond (bytes_eq other d.name) d.at n) (dropped_more ds x is other)
    ∙ sym (dropped_first d ds other)

module _ (name : List ℕ) (n : ℕ) where
  abbrev pub is_drop : NameDrop → Bool
  is_drop d = bytes_eq name d.name

  abbrev pub renumbered : NameDrop → NameDrop
  renumbered d = record { name = d.name; at = n }

  same_of : (xs ys : List ℕ) → bytes_eq xs ys ≡ true → xs ≡ ys
  same_of xs ys h = (bytes_eq-Decides xs ys).0 h

  true_of : (xs ys : List ℕ) → xs ≡ ys → bytes_eq xs ys ≡ true
  true_of xs ys h = (bytes_eq-Decides xs ys).1 h

  here : (d : NameDrop) (ds : List NameDrop) (other : List ℕ) → bytes_eq name d.name ≡ true → dropped_in (renumbered d ∷ ds) other ≡ (if bytes_eq name other then n else dropped_in (d ∷ ds) other)
  here d ds other e =
      by_test (bytes_eq other d.name)
      (λ f.
      let g = true_of name other (same_of name d.name e ∙ sym (same_of other d.name f)) in
      dropped_first (renumbered d) ds other
      ∙ ap (λ (b : Bool). cond b n (dropped_in ds other)) f
      ∙ sym (ap (λ (b : Bool). if b then n else dropped_in (d ∷ ds) other) g))
      (λ f.
      let g = is_false (bytes_eq name other) (λ h. false≢true (sym f ∙ true_of other d.name (sym (same_of name other h) ∙ same_of name d.name e))) in
      dropped_first (renumbered d) ds other
      ∙ ap (λ (b : Bool). cond b n (dropped_in ds other)) f
      ∙ sym (dropped_first d ds other ∙ ap (λ (b : Bool). cond b d.at (dropped_in ds other)) f)
      ∙ sym (ap (λ (b : Bool). if b then n else dropped_in (d ∷ ds) other) g))

  there : (d : NameDrop) (ds : List NameDrop) (other : List ℕ) → bytes_eq name d.name ≡ false → dropped_in (put is_drop renumbered ds) other ≡ (if bytes_eq name other then n else dropped_in ds other) → dropped_in (d ∷ put is_drop renumbered ds) other ≡ (if bytes_eq name other then n else dropped_in (d ∷ ds) other)
  there d ds other e rest =
      by_test (bytes_eq other d.name)
      (λ f.
      let g = is_false (bytes_eq name other) (λ h. false≢true (sym e ∙ true_of name d.name (same_of name other h ∙ same_of other d.name f))) in
      dropped_first d (put is_drop renumbered ds) other
      ∙ ap (λ (b : Bool). cond b d.at (dropped_in (put is_drop renumbered ds) other)) f
      ∙ sym (dropped_first d ds other ∙ ap (λ (b : Bool). cond b d.at (dropped_in ds other)) f)
      ∙ sym (ap (λ (b : Bool). if b then n else dropped_in (d ∷ ds) other) g))
      (λ f.
      dropped_first d (put is_drop renumbered ds) other
      ∙ ap (λ (b : Bool). cond b d.at (dropped_in (put is_drop renumbered ds) other)) f
      ∙ rest
      ∙ ap (λ (m : ℕ). if bytes_eq name other then n else m) (sym (dropped_first d ds other ∙ ap (λ (b : Bool). cond b d.at (dropped_in ds other)) f)))

  put_one : (d : NameDrop) (ds : List NameDrop) (other : List ℕ) (b : Bool) → bytes_eq name d.name ≡ b → nat_lt (cond b 0 (suc (place is_drop ds))) (suc (length ds)) ≡ true
      → (nat_lt (place is_drop ds) (length ds) ≡ true → dropped_in (put is_drop renumbered ds) other ≡ (if bytes_eq name other then n else dropped_in ds other))
      → dropped_in (cond b (renumbered d ∷ ds) (d ∷ put is_drop renumbered ds)) other ≡ (if bytes_eq name other then n else dropped_in (d ∷ ds) other)
  put_one d ds other true e within rest = here d ds other e
  put_one d ds other false e within rest = there d ds other e (rest (less (place is_drop ds) (length ds) within))

  dropped_put : (ds : List NameDrop) (other : List ℕ) → nat_lt (place is_drop ds) (length ds) ≡ true → dropped_in (put is_drop renumbered ds) other ≡ (if bytes_eq name other then n else dropped_in ds other)
  dropped_put [] other within = absurd (false≢true within)
  dropped_put (d ∷ ds) other within = put_one d ds other (bytes_eq name d.name) refl within (λ inside. dropped_put ds other inside)

  -- another number at the first place of a name
  pub dropped_set : (ds : List NameDrop) (at : ℕ) (d : NameDrop) → position is_drop ds ≡ Some at → (other : List ℕ) → dropped_in (slice_set ds at (renumbered (slice_index_or ds at d))) other ≡ (if bytes_eq name other then n else dropped_in ds other)
  dropped_set ds at d found other = ap (λ (l : List NameDrop). dropped_in l other) (set_put is_drop renumbered ds at d found) ∙ dropped_put ds other (placed is_drop ds at found).0

-- the drop of a version has the next number
pub drop_history : (old new : ChangeNumbers) (name : List ℕ) → new.last ≡ next_number old.last → new.changed ≡ old.changed → ((other : List ℕ) → dropped_in new.dropped other ≡ (if bytes_eq name other then new.last else dropped_in old.dropped other))
    → history_of new ≡ with_drop (history_of old) name
drop_history old new name last changed dropped =
    let rest : (other : List ℕ) → dropped_in new.dropped other ≡ (if bytes_eq name other then next_number old.last else dropped_in old.dropped other)
    = λ other. dropped other ∙ ap (λ (k : ℕ). if bytes_eq name other then k else dropped_in old.dropped other) last in
    λ i. record { last = last i; changed = (history_of (record old { changed = changed i })).changed; dropped = λ other. rest other i }

at_most_last : (b : Bool) (n m : ℕ) → m ≤ n → (if b then n else m) ≤ n
at_most_last true n m h = omega arith
at_most_last false n m h = h

pub drops_past : (old new : ChangeNumbers) (name : List ℕ) → old.last ≤ new.last → ((other : List ℕ) → dropped_in new.dropped other ≡ (if bytes_eq name other then new.last else dropped_in old.dropped other)) → DropsArePast old → DropsArePast new
drops_past old new name up dropped past other =
    let h = past other in
    subst (λ (k : ℕ). k ≤ new.last) (sym (dropped other)) (at_most_last (bytes_eq name other) new.last (dropped_in old.dropped other) (omega (arith, h, up)))

-- a number that is written over that of the first place of a name
pub drop_set : (old : ChangeNumbers) (last : ℕ) (ds made : List NameDrop) (at : ℕ) (x : NameDrop) (name : List ℕ) → ds ≡ old.dropped → x ≡ slice_index_or ds at x → made ≡ slice_set ds at (record { name = x.name; at = last }) → position (is_drop name last) old.dropped ≡ Some at
    → (other : List ℕ) → dropped_in made other ≡ (if bytes_eq name other then last else dropped_in old.dropped other)
drop_set old last ds made at x name same here written found other =
    let there : position (is_drop name last) ds ≡ Some at = ap (λ (l : List NameDrop). position (is_drop name last) l) same ∙ found in
    ap (λ (l : List NameDrop). dropped_in l other) written
    ∙ ap (λ (y : NameDrop). dropped_in (slice_set ds at (record { name = y.name; at = last })) other) here
    ∙ dropped_set name last ds at x there other
    ∙ ap (λ (l : List NameDrop). if bytes_eq name other then last else dropped_in l other) same

-- the same drops make the same history
pub same_drops : (old new : ChangeNumbers) → new.last ≡ old.last → new.changed ≡ old.changed → ((name : List ℕ) → dropped_in new.dropped name ≡ dropped_in old.dropped name) → history_of new ≡ history_of old
same_drops old new last changed same = λ i. record { last = last i; changed = (history_of (record old { changed = changed i })).changed; dropped = λ name. same name i }
