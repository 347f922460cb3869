-- Trees over borrowed text beside the JSON that they spell.
use Rattle.std.specs.Prelude.{◌&&◌, ◌==◌, is_some, MatchOption, option_map, option_and_then, if◌then◌else◌, ⊤}
use Rattle.std.specs.Borrow.{Bor}
use Rattle.std.specs.List.{remove}
use Rattle.std.specs.Cmp.Lexicographic.{slice_cmp}
use Rattle.std.specs.Ordering.{match_ordering, ordering_reverse}
use Rattle.std.specs.Str.{bytes_eq}
use Rattle.std.proofs.Common.{◌≡◌, ℕ, zero, suc, ◌+◌, ◌<◌, ◌≤◌, List, [], ◌∷◌, ◌++◌, length, map, take, drop, get_or, ne_eqb, Bool, true, false, cond, Option, Some, None, Ordering, Less, Equal, Greater, nat_cmp, refl, sym, ap, ◌∙◌, arith}
use Rattle.std.proofs.lemmas.Cmp.{nat_list_cmp_total}
use Rattle.std.proofs.lemmas.List.{take-append-drop, take_more}
use Rattle.std.proofs.lemmas.Slice.Eq.{bytes_eq-Decides}
use Rattle.json.specs.Json as json
use Rattle.json.specs.Lex.{tokens}
use Rattle.json.specs.Token.{Token}
use Rattle.json.specs.Find as found
use Rattle.json.specs.Find.{later_or}
use Rattle.json.specs.Value.{value_view, members_view}
use Rattle.json.specs.declared.value.Value.{Value}
use Rattle.serde_json.specs.Data.{Num, Data, number, array, object, item, Members, no_members, member, put}
use Rattle.serde_json.specs.Find.{get, get_member}
use Rattle.serde_json.specs.View.{items_of}
use Rattle.serde_json.specs.Read.{number_of, of_json, of_items, of_members, read}
use Rattle.serde_json.proofs.Views.{get_member-put, get_member-put_other}
use Rattle.json_members.specs.Members.{member_count}
use Rattle.json_members.specs.inner.Calls.{IsPlaceOf, is_end}
use Rattle.json_members.specs.Trees.{number_or_0, json_data, items_data, members_data, is_read, are_read, members_read, tree_view, trees_view, entries_view}

-- ---- what is read

abbrev kept : {X : Type 0} → Bool → X → Option X
kept b x = if b then Some x else None

mapped : {X Y : Type 0} (f : X → Y) (b : Bool) (x : X) → option_map f (kept b x) ≡ kept b (f x)
mapped f true x = refl
mapped f false x = refl

then_next : {X Y : Type 0} (f : X → Option Y) (b c : Bool) (x : X) (y : Y) → f x ≡ kept c y → option_and_then f (kept b x) ≡ kept (b && c) y
then_next f true c x y next = next
then_next f false c x y next = refl

a_number : (o : Option Num) → option_map number o ≡ kept (is_some o) (number (number_or_0 o))
a_number None = refl
a_number (Some n) = refl

-- what `of_json` gives
mutual
  pub json_is_read : (j : json.Json) → of_json j ≡ kept (is_read j) (json_data j)
  json_is_read json.null = refl
  json_is_read (json.boolean b) = refl
  json_is_read (json.number s) = a_number (number_of s)
  json_is_read (json.string s) = refl
  json_is_read (json.array js) = ap (option_map array) (items_are_read js) ∙ mapped array (are_read js) (items_data js)
  json_is_read (json.object ms) = ap (option_map object) (members_are_read ms no_members) ∙ mapped object (members_read ms) (members_data ms no_members)

  items_are_read : (js : json.Items) → of_items js ≡ kept (are_read js) (items_data js)
  items_are_read json.no_items = refl
  items_are_read (json.item j js) =
      ap (λ (o : Option Data). option_and_then (λ d. option_map (item d) (of_items js)) o) (json_is_read j)
      ∙ then_next (λ d. option_map (item d) (of_items js)) (is_read j) (are_read js) (json_data j) (item (json_data j) (items_data js))
      (ap (option_map (item (json_data j))) (items_are_read js) ∙ mapped (item (json_data j)) (are_read js) (items_data js))

  members_are_read : (ms : json.Members) (before : Members) → of_members ms before ≡ kept (members_read ms) (members_data ms before)
  members_are_read json.no_members before = refl
  members_are_read (json.member k j ms) before =
      ap (λ (o : Option Data). option_and_then (λ d. of_members ms (put k d before)) o) (json_is_read j)
      ∙ then_next (λ d. of_members ms (put k d before)) (is_read j) (members_read ms) (json_data j) (members_data ms (put k (json_data j) before))
      (members_are_read ms (put k (json_data j) before))

-- ---- a whole text

abbrev whole : Option (json.Json × List Token) → Option Data
whole o = option_and_then of_json (option_and_then (λ p. json.if_last p.0 p.1) o)

module _ (text : List ℕ) where
  pub no_value : json.value 127 (tokens text) ≡ None → None ≡ read text
  no_value is = sym (ap whole is)

  module _ (j : json.Json) (ts : List Token) (is : json.value 127 (tokens text) ≡ Some (j, ts)) where
    pub more_behind : is_end ts ≡ false → None ≡ read text
    more_behind more = sym (ap whole is ∙ go ts more)
      where
        go : (us : List Token) → is_end us ≡ false → whole (Some (j, us)) ≡ None
        go [] clash = absurd (let never : ⊥ = cc in never)
        go (u ∷ us) clash = refl

    alone : is_end ts ≡ true → read text ≡ kept (is_read j) (json_data j)
    alone ended = ap whole is ∙ go ts ended ∙ json_is_read j
      where
        go : (us : List Token) → is_end us ≡ true → whole (Some (j, us)) ≡ of_json j
        go [] ended = refl
        go (u ∷ us) clash = absurd (let never : ⊥ = cc in never)

    pub one_value : is_end ts ≡ true → is_read j ≡ true → Some (json_data j) ≡ read text
    one_value ended reads = sym (alone ended ∙ ap (λ (b : Bool). kept b (json_data j)) reads)

    pub no_number : is_end ts ≡ true → is_read j ≡ false → None ≡ read text
    no_number ended reads = sym (alone ended ∙ ap (λ (b : Bool). kept b (json_data j)) reads)

-- ---- look-ups

abbrev or_before : Option json.Json → Option Data → Option Data
or_before None before = before
or_before (Some j) before = Some (json_data j)

put_found : (q k : List ℕ) (j : json.Json) (before : Members) (b : Bool) → bytes_eq k q ≡ b → get_member q (put k (json_data j) before) ≡ or_before (cond b (Some j) None) (get_member q before)
put_found q k j before true is =
    let same : k ≡ q = (bytes_eq-Decides k q).0 is in
    ap (λ (l : List ℕ). get_member q (put l (json_data j) before)) same ∙ get_member-put q (json_data j) before
put_found q k j before false is = get_member-put_other q k (json_data j) before (λ same. differs (sym same))
  where
    differs : k ≡ q → ⊥
    differs same = let yes = (bytes_eq-Decides k q).1 same in let no : ⊥ = cc in no

later_found : (o : Option json.Json) (p : Option json.Json) (before here : Option Data) → here ≡ or_before p before → or_before o here ≡ or_before (later_or o p) before
later_found None p before here is = is
later_found (Some j) p before here is = refl

found_behind : (q : List ℕ) (ms : json.Members) (before : Members) → get_member q (members_data ms before) ≡ or_before (found.get_member q ms) (get_member q before)
found_behind q json.no_members before = refl
found_behind q (json.member k j ms) before =
    found_behind q ms (put k (json_data j) before)
    ∙ later_found (found.get_member q ms) (cond (bytes_eq k q) (Some j) None) (get_member q before) _ (put_found q k j before (bytes_eq k q) refl)

nothing_before : (o : Option json.Json) → or_before o None ≡ option_map json_data o
nothing_before None = refl
nothing_before (Some j) = refl

-- a key of members
pub found_in : (q : List ℕ) (ms : json.Members) → get_member q (members_data ms no_members) ≡ option_map json_data (found.get_member q ms)
found_in q ms = found_behind q ms no_members ∙ nothing_before (found.get_member q ms)

-- a key of any JSON
pub get_data : (q : List ℕ) (j : json.Json) → get q (json_data j) ≡ option_map json_data (found.get q j)
get_data q json.null = refl
get_data q (json.boolean b) = refl
get_data q (json.number s) = refl
get_data q (json.string s) = refl
get_data q (json.array js) = refl
get_data q (json.object ms) = found_in q ms

-- ---- how many members there are

abbrev pub compare : List ℕ → List ℕ → Ordering
compare = slice_cmp nat_cmp

abbrev pub Above : List ℕ → Members → Type 0
Above k no_members = ⊤
Above k (member l e ms) = (compare k l ≡ Less) × Above k ms

abbrev pub Sorted : Members → Type 0
Sorted no_members = ⊤
Sorted (member k d ms) = Above k ms × Sorted ms

pub above_less : (k l : List ℕ) (ms : Members) → compare k l ≡ Less → Above l ms → Above k ms
above_less k l no_members less above = tt
above_less k l (member m e ms) less above = (nat_list_cmp_total.trans k l m less above.0, above_less k l ms less above.1)

abbrev pub put_at : Ordering → List ℕ → Data → List ℕ → Data → Members → Members
put_at o k d l e ms = match_ordering o (member k d (member l e ms)) (member l d ms) (member l e (put k d ms))

above_put_at : (o : Ordering) (l k : List ℕ) (d : Data) (m : List ℕ) (e : Data) (ms : Members) → compare l k ≡ Less → Above l (member m e ms) → Above l (put k d ms) → Above l (put_at o k d m e ms)
above_put_at Less l k d m e ms less above later = (less, above)
above_put_at Equal l k d m e ms less above later = above
above_put_at Greater l k d m e ms less above later = (above.0, later)

above_put : (l k : List ℕ) (d : Data) (ms : Members) → compare l k ≡ Less → Above l ms → Above l (put k d ms)
above_put l k d no_members less above = (less, tt)
above_put l k d (member m e ms) less above = above_put_at (compare k m) l k d m e ms less above (above_put l k d ms less above.1)

sorted_put_at : (o : Ordering) (k : List ℕ) (d : Data) (l : List ℕ) (e : Data) (ms : Members) → compare k l ≡ o → Sorted (member l e ms) → Sorted (put k d ms) → Sorted (put_at o k d l e ms)
sorted_put_at Less k d l e ms is sorted later = ((is, above_less k l ms is sorted.0), sorted)
sorted_put_at Equal k d l e ms is sorted later = sorted
sorted_put_at Greater k d l e ms is sorted later =
    let less : compare l k ≡ Less = nat_list_cmp_total.antisymm l k ∙ ap ordering_reverse is in
    (above_put l k d ms less sorted.0, later)

pub sorted_put : (k : List ℕ) (d : Data) (ms : Members) → Sorted ms → Sorted (put k d ms)
sorted_put k d no_members sorted = (tt, tt)
sorted_put k d (member l e ms) sorted = sorted_put_at (compare k l) k d l e ms refl sorted (sorted_put k d ms sorted.1)

pub sorted_data : (ms : json.Members) (before : Members) → Sorted before → Sorted (members_data ms before)
sorted_data json.no_members before sorted = sorted
sorted_data (json.member k j ms) before sorted = sorted_data ms (put k (json_data j) before) (sorted_put k (json_data j) before sorted)

none_above : (k : List ℕ) (ms : Members) → Above k ms → get_member k ms ≡ None
none_above k no_members above = refl
none_above k (member l e ms) above = ap (λ (o : Ordering). match_ordering o (get_member k ms) (Some e) (get_member k ms)) above.0 ∙ none_above k ms above.1

-- the count with a member put
abbrev counted : Option Data → ℕ → ℕ
counted None n = suc n
counted (Some d) n = n

counted_suc : (o : Option Data) (n : ℕ) → suc (counted o n) ≡ counted o (suc n)
counted_suc None n = refl
counted_suc (Some d) n = refl

count_put_at : (o : Ordering) (k : List ℕ) (d : Data) (l : List ℕ) (e : Data) (ms : Members) → compare k l ≡ o → Sorted (member l e ms) → member_count (put k d ms) ≡ counted (get_member k ms) (member_count ms)
    → member_count (put_at o k d l e ms) ≡ counted (match_ordering o (get_member k ms) (Some e) (get_member k ms)) (suc (member_count ms))
count_put_at Less k d l e ms is sorted later = ap (λ (o : Option Data). counted o (suc (member_count ms))) (sym (none_above k ms (above_less k l ms is sorted.0)))
count_put_at Equal k d l e ms is sorted later = refl
count_put_at Greater k d l e ms is sorted later = ap (λ (n : ℕ). suc n) later ∙ counted_suc (get_member k ms) (member_count ms)

count_put : (k : List ℕ) (d : Data) (ms : Members) → Sorted ms → member_count (put k d ms) ≡ counted (get_member k ms) (member_count ms)
count_put k d no_members sorted = refl
count_put k d (member l e ms) sorted = count_put_at (compare k l) k d l e ms refl sorted (count_put k d ms sorted.1)

put_grows_at : (o : Ordering) (k : List ℕ) (d : Data) (l : List ℕ) (e : Data) (ms : Members) → member_count ms ≤ member_count (put k d ms) → suc (member_count ms) ≤ member_count (put_at o k d l e ms)
put_grows_at Less k d l e ms later = omega arith
put_grows_at Equal k d l e ms later = omega arith
put_grows_at Greater k d l e ms later = omega (arith, later)

put_grows : (k : List ℕ) (d : Data) (ms : Members) → member_count ms ≤ member_count (put k d ms)
put_grows k d no_members = omega arith
put_grows k d (member l e ms) = put_grows_at (compare k l) k d l e ms (put_grows k d ms)

data_grows : (ms : json.Members) (before : Members) → member_count before ≤ member_count (members_data ms before)
data_grows json.no_members before = omega arith
data_grows (json.member k j ms) before =
    let one = put_grows k (json_data j) before in
    let others = data_grows ms (put k (json_data j) before) in
    omega (arith, one, others)

-- ---- members one behind the other

abbrev pub Entry : Type 0 → Type 0
Entry A = Bor (List ℕ) × Value A

behind_others : {A : Type 0} → (xs ys : List (Entry A)) (before : Members) → members_data (members_view (xs ++ ys)) before ≡ members_data (members_view ys) (members_data (members_view xs) before)
behind_others [] ys before = refl
behind_others (x ∷ xs) ys before = behind_others xs ys (put x.0.now (tree_view x.1) before)

one_counted : (o : Option json.Json) (n : ℕ) → counted (option_map json_data o) n ≡ (if is_some o then n else suc n)
one_counted None n = refl
one_counted (Some j) n = refl

-- a member whose key stood before doesn't count
pub count_one_more : {A : Type 0} → (xs : List (Entry A)) (x : Entry A)
    → member_count (entries_view (xs ++ x ∷ [])) ≡ (if is_some (found.get_member x.0.now (members_view xs)) then member_count (entries_view xs) else suc (member_count (entries_view xs)))
count_one_more xs x =
    ap member_count (behind_others xs (x ∷ []) no_members)
    ∙ count_put x.0.now (tree_view x.1) (entries_view xs) (sorted_data (members_view xs) no_members tt)
    ∙ ap (λ (o : Option Data). counted o (member_count (entries_view xs))) (found_in x.0.now (members_view xs))
    ∙ one_counted (found.get_member x.0.now (members_view xs)) (member_count (entries_view xs))

-- more members don't count less
pub count_grows : {A : Type 0} → (xs ys : List (Entry A)) → member_count (entries_view xs) ≤ member_count (entries_view (xs ++ ys))
count_grows xs ys =
    let more = data_grows (members_view ys) (entries_view xs) in
    let is = ap member_count (behind_others xs ys no_members) in
    omega (arith, more, is)

-- the first members don't count more than all
pub some_counted : {A : Type 0} → (xs : List (Entry A)) (i : ℕ) → member_count (entries_view (take i xs)) ≤ member_count (entries_view xs)
some_counted {A} xs i =
    let more = count_grows (take i xs) (drop i xs) in
    let all = ap (λ (ys : List (Entry A)). member_count (entries_view ys)) (take-append-drop i xs) in
    omega (arith, more, all)

module _ {A : Type 0} (xs : List (Entry A)) (i : ℕ) (x : Entry A) (within : i < length xs) (at : x ≡ get_or xs i x) where
  next_counted : (b : Bool) → is_some (found.get_member x.0.now (members_view (take i xs))) ≡ b
      → member_count (entries_view (take (i + 1) xs)) ≡ (if b then member_count (entries_view (take i xs)) else suc (member_count (entries_view (take i xs))))
  next_counted b is =
      ap (λ (ys : List (Entry A)). member_count (entries_view ys)) (take_more xs i x within ∙ ap (λ (y : Entry A). take i xs ++ y ∷ []) (sym at))
      ∙ count_one_more (take i xs) x
      ∙ ap (λ (c : Bool). if c then member_count (entries_view (take i xs)) else suc (member_count (entries_view (take i xs)))) is

  pub key_again : is_some (found.get_member x.0.now (members_view (take i xs))) ≡ true → member_count (entries_view (take (i + 1) xs)) ≡ member_count (entries_view (take i xs))
  key_again is = next_counted true is

  pub key_new : is_some (found.get_member x.0.now (members_view (take i xs))) ≡ false → member_count (entries_view (take (i + 1) xs)) ≡ suc (member_count (entries_view (take i xs)))
  key_new is = next_counted false is

  -- one more than may be
  pub too_many : is_some (found.get_member x.0.now (members_view (take i xs))) ≡ false → (n : ℕ) → n ≤ member_count (entries_view (take i xs)) → false ≡ (member_count (entries_view xs) == n)
  too_many is n low =
      let one = key_new is in
      let all = some_counted xs (i + 1) in
      sym (ne_eqb (member_count (entries_view xs)) n (λ same. omega (arith, one, all, low, same)))

-- ---- a member that is taken out

later_none : (o : Option json.Json) → later_or o None ≡ o
later_none None = refl
later_none (Some j) = refl

other_key : (k q : List ℕ) (b : Bool) → bytes_eq k q ≡ b → (q ≡ k → ⊥) → b ≡ false
other_key k q true is other = absurd (other (sym ((bytes_eq-Decides k q).0 is)))
other_key k q false is other = refl

found_still : {A : Type 0} → (q : List ℕ) (xs : List (Entry A)) (i : ℕ) (d : Entry A) → i < length xs → (q ≡ (get_or xs i d).0.now → ⊥)
    → found.get_member q (members_view (remove xs i)) ≡ found.get_member q (members_view xs)
found_still q [] i d within other = absurd (omega arith)
found_still q (x ∷ xs) zero d within other =
    sym (ap (λ (b : Bool). later_or (found.get_member q (members_view xs)) (cond b (Some (value_view x.1)) None)) (other_key x.0.now q _ refl other) ∙ later_none (found.get_member q (members_view xs)))
found_still q (x ∷ xs) (suc i) d within other =
    ap (λ (o : Option json.Json). later_or o (cond (bytes_eq x.0.now q) (Some (value_view x.1)) None)) (found_still q xs i d (omega arith) other)

-- what stands under other keys stays
pub others_left : {A : Type 0} → (q : List ℕ) (xs : List (Entry A)) (i : ℕ) (d : Entry A) → i < length xs → (q ≡ (get_or xs i d).0.now → ⊥)
    → get_member q (entries_view (remove xs i)) ≡ get_member q (entries_view xs)
others_left q xs i d within other =
    found_in q (members_view (remove xs i)) ∙ ap (option_map json_data) (found_still q xs i d within other) ∙ sym (found_in q (members_view xs))

module _ {A : Type 0} (key : List ℕ) (place : ℕ) (xs : List (Entry A)) (is : IsPlaceOf key place xs) where
  -- what is taken out of the place was found
  pub taken_out : (x : Entry A) → x ≡ get_or xs place x → Some (tree_view x.1) ≡ get_member key (entries_view xs)
  taken_out x at =
      ap (λ (e : Entry A). Some (tree_view e.1)) (at ∙ is.here x) ∙ sym (found_in key (members_view xs) ∙ ap (option_map json_data) is.value)

  pub leaves_others : (other : List ℕ) → (other ≡ key → ⊥) → get_member other (entries_view (remove xs place)) ≡ get_member other (entries_view xs)
  leaves_others other differs = others_left other xs place is.entry is.within (λ same. differs (same ∙ ap (λ (e : Entry A). e.0.now) (is.here is.entry) ∙ is.named))

pub none_there : {A : Type 0} → (key : List ℕ) (xs : List (Entry A)) → found.get_member key (members_view xs) ≡ None → None ≡ get_member key (entries_view xs)
none_there key xs is = sym (found_in key (members_view xs) ∙ ap (option_map json_data) is)

pub any_default : {X : Type 0} → (xs : List X) (i : ℕ) (d e : X) → i < length xs → get_or xs i d ≡ get_or xs i e
any_default [] i d e within = absurd (omega arith)
any_default (x ∷ xs) zero d e within = refl
any_default (x ∷ xs) (suc i) d e within = any_default xs i d e (omega arith)

-- a key has a place where it is found
pub has_place : {A : Type 0} → (key : List ℕ) (xs : List (Entry A)) (o : Option ℕ) → MatchOption o (found.get_member key (members_view xs) ≡ None) (λ (place : ℕ). IsPlaceOf key place xs)
    → is_some o ≡ is_some (found.get_member key (members_view xs))
has_place key xs None is = sym (ap is_some is)
has_place key xs (Some place) is = sym (ap is_some is.value)

-- ---- loops

-- the items one by one
pub trees_mapped : {A : Type 0} → (xs : List (Value A)) → trees_view xs ≡ items_of (map tree_view xs)
trees_mapped [] = refl
trees_mapped (x ∷ xs) = ap (item (tree_view x)) (trees_mapped xs)

-- one member more
pub one_more : {A : Type 0} → (xs : List (Entry A)) (x : Entry A) → entries_view (xs ++ x ∷ []) ≡ put x.0.now (tree_view x.1) (entries_view xs)
one_more xs x = behind_others xs (x ∷ []) no_members
