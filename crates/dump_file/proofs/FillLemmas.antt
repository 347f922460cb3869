-- Entries that are filled in are those of which the lines tell, and no others.
use Rattle.std.specs.Prelude.{◌==◌, Option, Some, None, filter, option_map, option_and_then}
use Rattle.std.proofs.Common.{◌≡◌, ℕ, ◌+◌, ◌<◌, List, [], ◌∷◌, ◌++◌, Bool, true, false, cond, length, get_or, drop, map, inl, refl, sym, ap, ◌∙◌, append_assoc}
use Rattle.std.proofs.lemmas.List.{drop_more, map-append}
use Rattle.std.proofs.lemmas.Bool.{cond-false, cond-true, eq-eqb, eqb-true, false≢true, ne_eqb}
use Rattle.id_memory.specs.Pairs.{Pairs}
use Rattle.id_memory.specs.States.{MemoryState}
use Rattle.version_graph.specs.Sets.{Distinct, Each, In}
use Rattle.version_graph.proofs.SetLaws.{in_map, origin}
use Rattle.version_graph.proofs.TableLaws.{in_filter}
use Rattle.op_law.proofs.OnlyLaws.{by_test}
use Rattle.version_model.specs.declared.numbered.Numbered.{Numbered}
use Rattle.dump_values.specs.Dumps.{memories_seen}
use Rattle.dump_file.specs.Told.{memory_line}
use Rattle.dump_file.specs.inner.Filled.{behind, filled, front, own_value}

-- ---- what an option was made of

record From {A B : Type 0} (o : Option A) (f : A → Option B) (b : B) : Type 0 where
  value : A
  is : o ≡ Some value
  gives : f value ≡ Some b

from : {A B : Type 0} (o : Option A) (f : A → Option B) (b : B) → option_and_then f o ≡ Some b → From o f b
from None f b e = absurd (let clash : None ≡ Some b = e in cc)
from (Some a) f b e = record { value = a; is = refl; gives = e }

record Mapped {A B : Type 0} (o : Option A) (f : A → B) (b : B) : Type 0 where
  value : A
  is : o ≡ Some value
  gives : b ≡ f value

mapped : {A B : Type 0} (o : Option A) (f : A → B) (b : B) → option_map f o ≡ Some b → Mapped o f b
mapped None f b e = absurd (let clash : None ≡ Some b = e in cc)
mapped (Some a) f b e = record { value = a; is = refl; gives = some_is b (f a) (sym e) }
  where
    some_is : {X : Type 0} (x y : X) → Some x ≡ Some y → x ≡ y
    some_is x y same = cc

module _ {V : Type 0} (told : ℕ × V → Bool) (empty : V) where
  -- ---- one entry after the other

  -- ---- what the entries are

  -- the numbers of entries
  abbrev pub entry_numbers : List (ℕ × V) → List ℕ
  entry_numbers xs = map (λ (x : ℕ × V). x.0) xs

  -- what isn't told is empty
  abbrev pub IsElseEmpty : ℕ × V → Type 0
  IsElseEmpty x = told x ≡ false → x.1 ≡ empty

  -- an entry for each number, of which just the lines are told
  pub record AreEntries (ns : List ℕ) (lines : List (ℕ × V)) (xs : List (ℕ × V)) : Type 0 where
    pub numbers : entry_numbers xs ≡ ns
    pub lines_told : filter told xs ≡ lines
    pub others : Each IsElseEmpty xs

  one_told : (n : ℕ) (v : V) (r ls : List (ℕ × V)) → told (n, v) ≡ true → filter told r ≡ ls → filter told ((n, v) ∷ r) ≡ (n, v) ∷ ls
  one_told n v r ls is rest = cond-true (told (n, v)) ((n, v) ∷ filter told r) (filter told r) is ∙ ap (λ l. (n, v) ∷ l) rest

  one_untold : (n : ℕ) (v : V) (r ls : List (ℕ × V)) → told (n, v) ≡ false → filter told r ≡ ls → filter told ((n, v) ∷ r) ≡ ls
  one_untold n v r ls is rest = cond-false (told (n, v)) ((n, v) ∷ filter told r) (filter told r) is ∙ rest

  -- what an operator's value says of the first line
  record Taken (n : ℕ) (v : V) (o : Option V) : Type 0 where
    some : (w : V) → o ≡ Some w → (told (n, v) ≡ true) × (v ≡ w)
    none : o ≡ None → (told (n, v) ≡ false) × (v ≡ empty)

  taken : (n : ℕ) (v : V) (o : Option V) → own_value told empty n o ≡ Some v → Taken n v o
  taken n v None e = record { some = λ w clash. absurd (cc); none = λ _. none (told (n, empty)) refl e }
    where
      none : (b : Bool) → told (n, empty) ≡ b → cond b None (Some empty) ≡ Some v → (told (n, v) ≡ false) × (v ≡ empty)
      none true is got = absurd (cc)
      none false is got = let same : v ≡ empty = cc in (ap (λ x. told (n, x)) same ∙ is, same)
  taken n v (Some w) e = record { some = λ u same. some (told (n, w)) refl e u same; none = λ clash. absurd (cc) }
    where
      some : (b : Bool) → told (n, w) ≡ b → cond b (Some w) None ≡ Some v → (u : V) → Some w ≡ Some u → (told (n, v) ≡ true) × (v ≡ u)
      some false is got u same = absurd (cc)
      some true is got u same = let own : v ≡ w = cc in let mine : v ≡ u = cc in (ap (λ x. told (n, x)) own ∙ is, mine)

  -- the entry of an operator with those behind it tells of the lines
  entry_told : (n : ℕ) (v : V) (r lines : List (ℕ × V)) → own_value told empty n (front n lines) ≡ Some v → filter told r ≡ behind n lines → filter told ((n, v) ∷ r) ≡ lines
  entry_told n v r [] got rest = one_untold n v r [] ((taken n v None got).none refl).0 rest
  entry_told n v r (l ∷ ls) got rest = here (n == l.0) refl got rest
    where
      here : (b : Bool) → (n == l.0) ≡ b → own_value told empty n (cond b (Some l.1) None) ≡ Some v → filter told r ≡ cond b ls (l ∷ ls) → filter told ((n, v) ∷ r) ≡ l ∷ ls
      here true is own behind_it =
          let t = (taken n v (Some l.1) own).some l.1 refl in
          let number = eqb-true n l.0 is in
          one_told n v r ls t.0 behind_it ∙ (λ i. (number i, t.1 i) ∷ ls)
      here false is own behind_it = one_untold n v r (l ∷ ls) ((taken n v None own).none refl).0 behind_it

  entry_empty : (n : ℕ) (v : V) (o : Option V) → own_value told empty n o ≡ Some v → IsElseEmpty (n, v)
  entry_empty n v None got untold = ((taken n v None got).none refl).1
  entry_empty n v (Some w) got untold = absurd (false≢true (sym untold ∙ ((taken n v (Some w) got).some w refl).0))

  -- the entries that are filled in are of the lines
  pub fill_sound : (ns : List ℕ) (lines xs : List (ℕ × V)) → filled told empty ns lines ≡ Some xs → AreEntries ns lines xs
  fill_sound [] [] xs e = let none : xs ≡ [] = cc in rw none (record { numbers = refl; lines_told = refl; others = tt })
  fill_sound [] (l ∷ ls) xs e = absurd (cc)
  fill_sound (n ∷ ns) lines xs e =
      let a = from (own_value told empty n (front n lines)) _ xs e in
      let b = mapped (filled told empty ns (behind n lines)) _ xs a.gives in
      let rest = fill_sound ns (behind n lines) b.value b.is in
      rw b.gives (record {
        numbers = ap (λ l. n ∷ l) rest.numbers;
        lines_told = entry_told n a.value b.value lines a.is rest.lines_told;
        others = (entry_empty n a.value (front n lines) a.is, rest.others);
      })

  -- ---- there are no others

  -- no line is of a number that isn't among them
  not_front : (n : ℕ) (ls : List (ℕ × V)) → (In n (entry_numbers ls) → ⊥) → (front n ls ≡ None) × (behind n ls ≡ ls)
  not_front n [] other = (refl, refl)
  not_front n (l ∷ ls) other =
      let differs = ne_eqb n l.0 (λ same. other (inl same)) in
      (cond-false (n == l.0) (Some l.1) None differs, cond-false (n == l.0) ls (l ∷ ls) differs)

  told_within : (n : ℕ) (xs : List (ℕ × V)) → In n (entry_numbers (filter told xs)) → In n (entry_numbers xs)
  told_within n xs i =
      let o = origin (λ (x : ℕ × V). x.0) n (filter told xs) i in
      rw o.2 (in_map (λ (x : ℕ × V). x.0) o.0 xs (in_filter told o.0 xs o.1))

  pub fill_complete : (xs : List (ℕ × V)) → Distinct (entry_numbers xs) → Each IsElseEmpty xs → filled told empty (entry_numbers xs) (filter told xs) ≡ Some xs
  fill_complete [] once others = refl
  fill_complete (x ∷ xs) once others = here (fill_complete xs once.1 others.1) (told x) refl
    where
      more : filled told empty (entry_numbers xs) (filter told xs) ≡ Some xs → (v : V) (o : Option V) (ls : List (ℕ × V)) → own_value told empty x.0 o ≡ Some v → ls ≡ filter told xs
          → option_and_then (λ v. option_map (λ r. (x.0, v) ∷ r) (filled told empty (entry_numbers xs) ls)) (own_value told empty x.0 o) ≡ Some ((x.0, v) ∷ xs)
      more rest v o ls own is =
          ap (λ p. option_and_then (λ v. option_map (λ r. (x.0, v) ∷ r) (filled told empty (entry_numbers xs) ls)) p) own
          ∙ ap (λ l. option_map (λ r. (x.0, v) ∷ r) (filled told empty (entry_numbers xs) l)) is
          ∙ ap (λ p. option_map (λ r. (x.0, v) ∷ r) p) rest

      -- a line of this number at the front
      own_line : filled told empty (entry_numbers xs) (filter told xs) ≡ Some xs → told x ≡ true → filled told empty (x.0 ∷ entry_numbers xs) (x ∷ filter told xs) ≡ Some (x ∷ xs)
      own_line rest is =
          let at_front : front x.0 (x ∷ filter told xs) ≡ Some x.1 = cond-true (x.0 == x.0) (Some x.1) None (eq-eqb x.0 x.0 refl) in
          let left : behind x.0 (x ∷ filter told xs) ≡ filter told xs = cond-true (x.0 == x.0) (filter told xs) (x ∷ filter told xs) (eq-eqb x.0 x.0 refl) in
          let own : own_value told empty x.0 (Some x.1) ≡ Some x.1 = cond-true (told x) (Some x.1) None is in
          more rest x.1 (front x.0 (x ∷ filter told xs)) (behind x.0 (x ∷ filter told xs)) (ap (λ o. own_value told empty x.0 o) at_front ∙ own) left

      -- no line of this number
      no_line : filled told empty (entry_numbers xs) (filter told xs) ≡ Some xs → told x ≡ false → filled told empty (x.0 ∷ entry_numbers xs) (filter told xs) ≡ Some (x ∷ xs)
      no_line rest is =
          let other = not_front x.0 (filter told xs) (λ i. once.0 (told_within x.0 xs i)) in
          let nothing : x.1 ≡ empty = others.0 is in
          let own : own_value told empty x.0 None ≡ Some empty = cond-false (told (x.0, empty)) None (Some empty) (ap (λ v. told (x.0, v)) (sym nothing) ∙ is) in
          more rest empty (front x.0 (filter told xs)) (behind x.0 (filter told xs)) (ap (λ o. own_value told empty x.0 o) other.0 ∙ own) other.1
          ∙ ap (λ v. Some ((x.0, v) ∷ xs)) (sym nothing)

      here : filled told empty (entry_numbers xs) (filter told xs) ≡ Some xs → (b : Bool) → told x ≡ b → filled told empty (x.0 ∷ entry_numbers xs) (cond (told x) (x ∷ filter told xs) (filter told xs)) ≡ Some (x ∷ xs)
      here rest true is = ap (λ ls. filled told empty (x.0 ∷ entry_numbers xs) ls) (cond-true (told x) (x ∷ filter told xs) (filter told xs) is) ∙ own_line rest is
      here rest false is = ap (λ ls. filled told empty (x.0 ∷ entry_numbers xs) ls) (cond-false (told x) (x ∷ filter told xs) (filter told xs) is) ∙ no_line rest is

  -- the entries of lines are those that are filled in
  all_filled : (ns : List ℕ) (lines xs : List (ℕ × V)) → Distinct ns → AreEntries ns lines xs → filled told empty ns lines ≡ Some xs
  all_filled ns lines xs once are =
      ap (λ ks. filled told empty ks lines) (sym are.numbers) ∙ ap (λ ls. filled told empty (entry_numbers xs) ls) (sym are.lines_told)
      ∙ fill_complete xs (rw are.numbers once) are.others

  -- where none are filled in there are none
  pub none_filled : (ns : List ℕ) (lines xs : List (ℕ × V)) → Distinct ns → filled told empty ns lines ≡ None → AreEntries ns lines xs → ⊥
  none_filled ns lines xs once none are = let clash : None ≡ Some xs = sym none ∙ all_filled ns lines xs once are in cc

  -- lines have one list of entries
  pub one_filling : (ns : List ℕ) (lines xs ys : List (ℕ × V)) → Distinct ns → AreEntries ns lines xs → AreEntries ns lines ys → xs ≡ ys
  one_filling ns lines xs ys once a b = some_is xs ys (sym (all_filled ns lines xs once a) ∙ all_filled ns lines ys once b)
    where
      some_is : (l k : List (ℕ × V)) → Some l ≡ Some k → l ≡ k
      some_is l k e = cc

-- ---- the memories, one entry more

front_seen : (n : ℕ) (ls : List (ℕ × MemoryState)) → front n (memories_seen ls) ≡ option_map (λ (m : MemoryState). m.entries) (front n ls)
front_seen n [] = refl
front_seen n (l ∷ ls) = by_test (n == l.0) (λ e. rw e refl) (λ e. rw e refl)

behind_seen : (n : ℕ) (ls : List (ℕ × MemoryState)) → memories_seen (behind n ls) ≡ behind n (memories_seen ls)
behind_seen n [] = refl
behind_seen n (l ∷ ls) = by_test (n == l.0) (λ e. rw e refl) (λ e. rw e refl)

joins : {X : Type 0} (made : List X) (x : X) (o : Option (List X)) → option_map (λ (r : List X). made ++ r) (option_map (λ (r : List X). x ∷ r) o) ≡ option_map (λ (r : List X). (made ++ x ∷ []) ++ r) o
joins made x None = refl
joins made x (Some r) = ap Some (sym (append_assoc made (x ∷ []) r))

pub memory_more : (told : ℕ × Pairs → Bool) (ns : List ℕ) (i : ℕ) → i < length ns → (all : Option (List (ℕ × Pairs))) (made now : List (Numbered MemoryState)) (left after : List (ℕ × MemoryState)) (value : MemoryState)
    → all ≡ option_map (λ (r : List (ℕ × Pairs)). map memory_line made ++ r) (filled told [] (drop i ns) (memories_seen left))
    → Some value.entries ≡ own_value told [] (get_or ns i 0) (option_map (λ (m : MemoryState). m.entries) (front (get_or ns i 0) left))
    → after ≡ behind (get_or ns i 0) left → now ≡ made ++ record { number = get_or ns i 0; value = value } ∷ []
    → all ≡ option_map (λ (r : List (ℕ × Pairs)). map memory_line now ++ r) (filled told [] (drop (i + 1) ns) (memories_seen after))
memory_more told ns i within all made now left after value so own gone more =
    let n = get_or ns i 0 in
    let lines = memories_seen left in
    let rest : Option (List (ℕ × Pairs)) = filled told [] (drop (i + 1) ns) (behind n lines) in
    let front_is : own_value told [] n (front n lines) ≡ Some value.entries = ap (λ (o : Option Pairs). own_value told [] n o) (front_seen n left) ∙ sym own in
    let behind_is : behind n lines ≡ memories_seen after = sym (behind_seen n left) ∙ ap memories_seen (sym gone) in
    let made_is : map memory_line made ++ (n, value.entries) ∷ [] ≡ map memory_line now = sym (map-append memory_line made (record { number = n; value = value } ∷ [])) ∙ ap (map memory_line) (sym more) in
    so ∙ ap (λ (l : List ℕ). option_map (λ (r : List (ℕ × Pairs)). map memory_line made ++ r) (filled told [] l lines)) (drop_more ns i 0 within)
    ∙ ap (λ (o : Option Pairs). option_map (λ (r : List (ℕ × Pairs)). map memory_line made ++ r) (option_and_then (λ (v : Pairs). option_map (λ (r : List (ℕ × Pairs)). (n, v) ∷ r) rest) o)) front_is
    ∙ joins (map memory_line made) (n, value.entries) rest
    ∙ ap (λ (l : List (ℕ × Pairs)). option_map (λ (r : List (ℕ × Pairs)). l ++ r) rest) made_is
    ∙ ap (λ (l : List (ℕ × Pairs)). option_map (λ (r : List (ℕ × Pairs)). map memory_line now ++ r) (filled told [] (drop (i + 1) ns) l)) behind_is
