-- Members that are put to an object or taken out of it.
use Rattle.std.specs.Borrow.{Bor}
use Rattle.std.specs.Prelude.{◌≤◌, codes, filter, not, Some}
use Rattle.std.specs.Cmp.Lexicographic.{slice_cmp}
use Rattle.std.specs.Ordering.{match_ordering}
use Rattle.std.proofs.Common.{◌≡◌, ℕ, List, [], ◌∷◌, ◌++◌, Bool, true, false, cond, Ordering, Less, Equal, Greater, nat_cmp, is_eq, bytes_eq, Vec, Global, refl, sym, ap, ◌∙◌, arith}
use Rattle.std.proofs.Math.Nat.{le-max_left, le-max_right, max-le}
use Rattle.std.proofs.lemmas.Bool.{or_from, or_parts}
use Rattle.std.proofs.lemmas.Cmp.{nat_list_cmp_total, tied_itself}
use Rattle.std.proofs.lemmas.Map.Text.{is_eq-slice_cmp}
use Rattle.std.proofs.lemmas.Slice.Eq.{bytes_eq-Decides}
use Rattle.json.specs.Json.{Json}
use Rattle.json.specs.Value.{members_view, view_step}
use Rattle.json.specs.declared.value.Value.{Number, Object, Value-F, fold-roll-Value}
use Rattle.json.specs.declared.value.Value.TheVariants.{rolls-Number, rolls-Object}
use Rattle.serde_json.specs.Data.{Data, unsigned, number, object, Members, no_members, member, put, depth, members_depth}
use Rattle.serde_json.specs.Read.{number_of}
use Rattle.serde_json.specs.Written.{has_float, members_have_float}
use Rattle.serde_json.proofs.OnLiterals.{serde_json_on_literals}
use Rattle.dump_values.specs.Members.{number_json}
use Rattle.dump_values.specs.Trees.{entries_view, json_data, members_data, number_or_0, tree_view}
use Rattle.dump_values.proofs.TreeLemmas.{Above, Entry, Sorted, above_less, compare, one_more, put_at, sorted_put}
use Rattle.dump_formats.specs.Formats.{first_of, without}

-- ---- members without floats, which nest no deeper

float_at : (o : Ordering) (k l : List ℕ) (d e : Data) (ms rest : Members) → has_float d ≡ false → has_float e ≡ false → members_have_float ms ≡ false → members_have_float rest ≡ false
    → members_have_float (match_ordering o (member k d (member l e ms)) (member l d ms) (member l e rest)) ≡ false
float_at Less k l d e ms rest hd he hm hr = or_from _ _ hd (or_from _ _ he hm)
float_at Equal k l d e ms rest hd he hm hr = or_from _ _ hd hm
float_at Greater k l d e ms rest hd he hm hr = or_from _ _ he hr

pub float_put : (k : List ℕ) (d : Data) (ms : Members) → has_float d ≡ false → members_have_float ms ≡ false → members_have_float (put k d ms) ≡ false
float_put k d no_members hd hm = or_from _ _ hd refl
float_put k d (member l e ms) hd hm =
    let parts = or_parts (has_float e) (members_have_float ms) hm in
    float_at (slice_cmp nat_cmp k l) k l d e ms (put k d ms) hd parts.0 parts.1 (float_put k d ms hd parts.1)

depth_at : (m : ℕ) (o : Ordering) (k l : List ℕ) (d e : Data) (ms rest : Members) → depth d ≤ m → depth e ≤ m → members_depth ms ≤ m → members_depth rest ≤ m
    → members_depth (match_ordering o (member k d (member l e ms)) (member l d ms) (member l e rest)) ≤ m
depth_at m Less k l d e ms rest hd he hm hr = max-le hd (max-le he hm)
depth_at m Equal k l d e ms rest hd he hm hr = max-le hd hm
depth_at m Greater k l d e ms rest hd he hm hr = max-le he hr

pub depth_put : (m : ℕ) (k : List ℕ) (d : Data) (ms : Members) → depth d ≤ m → members_depth ms ≤ m → members_depth (put k d ms) ≤ m
depth_put m k d no_members hd hm = max-le hd (omega arith)
depth_put m k d (member l e ms) hd hm =
    let first : depth e ≤ m = omega (arith, hm, le-max_left (depth e) (members_depth ms)) in
    let rest : members_depth ms ≤ m = omega (arith, hm, le-max_right (depth e) (members_depth ms)) in
    depth_at m (slice_cmp nat_cmp k l) k l d e ms (put k d ms) hd first rest (depth_put m k d ms hd rest)

-- ---- members that are let go

either : {A : Type 0} → (o : Ordering) (a b : A) → is_eq o ≡ false → match_ordering o a b a ≡ a
either Less a b e = refl
either Equal a b e = absurd (let no : ⊥ = cc in no)
either Greater a b e = refl

differ : (xs ys : List ℕ) (b : Bool) → bytes_eq xs ys ≡ b → (xs ≡ ys → ⊥) → b ≡ false
differ xs ys true e other = absurd (other ((bytes_eq-Decides xs ys).0 e))
differ xs ys false e other = refl

unlike : {k m : List ℕ} → (p : Ordering) → compare k m ≡ p → k ≡ m → (p ≡ Equal → ⊥) → ⊥
unlike {k} {m} p is same never = never (sym is ∙ ap (λ (l : List ℕ). compare k l) (sym same) ∙ tied_itself nat_list_cmp_total k)

-- a member of another key stays
stays : (k l : List ℕ) (d : Data) (ms : Members) → (k ≡ l → ⊥) → without k (member l d ms) ≡ member l d (without k ms)
stays k l d ms other = either (compare k l) (member l d (without k ms)) ms (is_eq-slice_cmp k l ∙ differ k l _ refl other)

-- no member goes where all keys are above
none_goes : (k : List ℕ) (ms : Members) → Above k ms → without k ms ≡ ms
none_goes k no_members above = refl
none_goes k (member l e ms) above = ap (λ (o : Ordering). match_ordering o (member l e (without k ms)) ms (member l e (without k ms))) above.0 ∙ ap (member l e) (none_goes k ms above.1)

-- what is put below all stands first
put_first : (l : List ℕ) (d : Data) (ms : Members) → Above l ms → put l d ms ≡ member l d ms
put_first l d no_members above = refl
put_first l d (member m e ms) above = ap (λ (o : Ordering). put_at o l d m e ms) above.0

same_at : (o : Ordering) (k : List ℕ) (d : Data) (m : List ℕ) (e : Data) (ms : Members) → compare k m ≡ o → Sorted (member m e ms) → without k (put k d ms) ≡ without k ms
    → without k (put_at o k d m e ms) ≡ match_ordering o (member m e (without k ms)) ms (member m e (without k ms))
same_at Less k d m e ms is sorted later =
    ap (λ (o : Ordering). match_ordering o (member k d (without k (member m e ms))) (member m e ms) (member k d (without k (member m e ms)))) (tied_itself nat_list_cmp_total k)
    ∙ ap (member m e) (sym (none_goes k ms (above_less k m ms is sorted.0)))
same_at Equal k d m e ms is sorted later = ap (λ (o : Ordering). match_ordering o (member m d (without k ms)) ms (member m d (without k ms))) is
same_at Greater k d m e ms is sorted later =
    ap (λ (o : Ordering). match_ordering o (member m e (without k (put k d ms))) (put k d ms) (member m e (without k (put k d ms)))) is ∙ ap (member m e) later

-- what was put goes
same_goes : (k : List ℕ) (d : Data) (ms : Members) → Sorted ms → without k (put k d ms) ≡ without k ms
same_goes k d no_members sorted = ap (λ (o : Ordering). match_ordering o (member k d no_members) no_members (member k d no_members)) (tied_itself nat_list_cmp_total k)
same_goes k d (member m e ms) sorted = same_at (compare k m) k d m e ms refl sorted (same_goes k d ms sorted.1)

module _ (k l : List ℕ) (d : Data) (other : k ≡ l → ⊥) (m : List ℕ) (e : Data) (ms : Members) (later : without k (put l d ms) ≡ put l d (without k ms)) where
  -- behind a member that stays
  behind_other : (o : Ordering) → compare l m ≡ o → (k ≡ m → ⊥) → without k (put_at o l d m e ms) ≡ put l d (member m e (without k ms))
  behind_other Less is apart = stays k l d (member m e ms) other ∙ ap (member l d) (stays k m e ms apart) ∙ sym (ap (λ (o : Ordering). put_at o l d m e (without k ms)) is)
  behind_other Equal is apart = stays k m d ms apart ∙ sym (ap (λ (o : Ordering). put_at o l d m e (without k ms)) is)
  behind_other Greater is apart = stays k m e (put l d ms) apart ∙ ap (member m e) later ∙ sym (ap (λ (o : Ordering). put_at o l d m e (without k ms)) is)

  -- behind one that goes
  behind_same : (o : Ordering) → compare l m ≡ o → compare k m ≡ Equal → Sorted (member m e ms) → without k (put_at o l d m e ms) ≡ put l d ms
  behind_same Less is here sorted =
      stays k l d (member m e ms) other
      ∙ ap (λ (p : Ordering). member l d (match_ordering p (member m e (without k ms)) ms (member m e (without k ms)))) here
      ∙ sym (put_first l d ms (above_less l m ms is sorted.0))
  behind_same Equal is here sorted =
      let first : k ≡ m = (bytes_eq-Decides k m).0 (sym (is_eq-slice_cmp k m) ∙ ap is_eq here) in
      let second : l ≡ m = (bytes_eq-Decides l m).0 (sym (is_eq-slice_cmp l m) ∙ ap is_eq is) in
      absurd (other (first ∙ sym second))
  behind_same Greater is here sorted = ap (λ (p : Ordering). match_ordering p (member m e (without k (put l d ms))) (put l d ms) (member m e (without k (put l d ms)))) here

  -- it goes or stays
  other_at : (p : Ordering) → compare k m ≡ p → Sorted (member m e ms)
      → without k (put_at (compare l m) l d m e ms) ≡ put l d (match_ordering p (member m e (without k ms)) ms (member m e (without k ms)))
  other_at Less is sorted = behind_other (compare l m) refl (λ same. unlike Less is same (λ q. let no : ⊥ = cc in no))
  other_at Equal is sorted = behind_same (compare l m) refl is sorted
  other_at Greater is sorted = behind_other (compare l m) refl (λ same. unlike Greater is same (λ q. let no : ⊥ = cc in no))

-- a put member of another key stays
other_goes : (k l : List ℕ) (d : Data) (ms : Members) → (k ≡ l → ⊥) → Sorted ms → without k (put l d ms) ≡ put l d (without k ms)
other_goes k l d no_members other sorted = stays k l d no_members other
other_goes k l d (member m e ms) other sorted = other_at k l d other m e ms (other_goes k l d ms other sorted.1) (compare k m) refl sorted

module _ {A : Type 0} (k : List ℕ) where
  abbrev pub is_other : Entry A → Bool
  is_other x = not (bytes_eq x.0.now k)

  left_behind : (xs : List (Entry A)) (before : Members) → Sorted before → without k (members_data (members_view xs) before) ≡ members_data (members_view (filter is_other xs)) (without k before)
  left_behind [] before sorted = refl
  left_behind (x ∷ xs) before sorted =
      left_behind xs (put x.0.now (tree_view x.1) before) (sorted_put x.0.now (tree_view x.1) before sorted)
      ∙ go (bytes_eq x.0.now k) refl
    where
      left : Bool → Members
      left b = members_data (members_view (cond (not b) (x ∷ filter is_other xs) (filter is_other xs))) (without k before)

      go : (b : Bool) → bytes_eq x.0.now k ≡ b → members_data (members_view (filter is_other xs)) (without k (put x.0.now (tree_view x.1) before)) ≡ left b
      go true is =
          let same : x.0.now ≡ k = (bytes_eq-Decides x.0.now k).0 is in
          ap (members_data (members_view (filter is_other xs))) (ap (λ (l : List ℕ). without k (put l (tree_view x.1) before)) same ∙ same_goes k (tree_view x.1) before sorted)
      go false is =
          let apart : k ≡ x.0.now → ⊥ = λ same. (let yes = (bytes_eq-Decides x.0.now k).1 (sym same) in let no : ⊥ = cc in no) in
          ap (members_data (members_view (filter is_other xs))) (other_goes k x.0.now (tree_view x.1) before apart sorted)

  -- those of other keys are left
  pub others_kept : (xs : List (Entry A)) → entries_view (filter is_other xs) ≡ without k (entries_view xs)
  others_kept xs = sym (left_behind xs no_members tt)

-- the text of the format is read
one_read : number_of (codes "1") ≡ Some (unsigned 1)
unfolding serde_json_on_literals
one_read = refl

-- ---- trees that are made

pub object_seen : (members : Vec (Entry Global) Global) → tree_view (Object members) ≡ object (entries_view members.items)
object_seen members = ap (λ t. tree_view t) (sym (rolls-Object members)) ∙ ap json_data (fold-roll-Value Global Json view_step (Value-F.Object members))

pub one_seen : (text : Bor (List ℕ)) → text.now ≡ codes "1" → tree_view {A = Global} (Number text) ≡ number_json 1
one_seen text is =
    ap (λ t. tree_view t) (sym (rolls-Number text)) ∙ ap json_data (fold-roll-Value Global Json view_step (Value-F.Number text))
    ∙ ap (λ s. number (number_or_0 (number_of s))) is ∙ ap (λ o. number (number_or_0 o)) one_read

-- what is left of an object with the members that are left, and the format behind them
pub first_left : {A : Type 0} → (before once twice after : List (Entry A)) (x : Entry A)
    → entries_view once ≡ without (codes "counts") (entries_view before) → entries_view twice ≡ without (codes "goal") (entries_view once)
    → after ≡ twice ++ x ∷ [] → x.0.now ≡ codes "format" → tree_view x.1 ≡ number_json 1
    → object (entries_view after) ≡ first_of (object (entries_view before))
first_left before once twice after x counts goal behind key value =
    ap (λ xs. object (entries_view xs)) behind
    ∙ ap (λ ms. object ms) (one_more twice x)
    ∙ ap (λ (p : List ℕ × Data). object (put p.0 p.1 (entries_view twice))) (λ i. (key i, value i))
    ∙ ap (λ ms. object (put (codes "format") (number_json 1) ms)) (goal ∙ ap (without (codes "goal")) counts)
