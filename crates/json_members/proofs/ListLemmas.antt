-- Lists that are read item by item.
use Rattle.std.specs.Prelude.{option_map, option_and_then}
use Rattle.std.proofs.Common.{◌≡◌, subst, ℕ, suc, ◌+◌, ◌<◌, ◌≤◌, Option, Some, None, refl, sym, ap, ◌∙◌, append_assoc, List, [], ◌∷◌, ◌++◌, length, drop, get_or, arith}
use Rattle.std.proofs.Math.Seq.{drop-cons}
use Rattle.std.proofs.lemmas.List.{append-nil, drop_all, length_push}
use Rattle.serde_json.specs.Data.{Data}
use Rattle.json_members.specs.Trees.{tree_view, trees_view}
use Rattle.std.specs.declared.alloc.Global.{Global}
use Rattle.json.specs.declared.value.Value.{Value}
use Rattle.json_members.specs.Members.{list_of}

-- a tree over borrowed text
abbrev pub Tree : Type 0
Tree = Value Global

-- the items from a place on begin with the one there
pub begins : (xs : List Tree) (i : ℕ) (one : Tree) → i < length xs → one ≡ get_or xs i one → drop i xs ≡ one ∷ drop (i + 1) xs
begins xs i one within is =
    let more : suc i ≡ i + 1 = omega arith in
    drop-cons xs i one within ∙ ap (λ (k : ℕ). get_or xs i one ∷ drop k xs) more ∙ ap (λ (y : Tree). y ∷ drop (i + 1) xs) (sym is)

module _ {A : Type 0} (read : Data → Option A) (all : Option (List A)) (old : List A) where
  after : (x : A) (o : Option (List A)) → option_map (λ (ls : List A). old ++ ls) (option_map (λ (ls : List A). x ∷ ls) o) ≡ option_map (λ (ls : List A). (old ++ x ∷ []) ++ ls) o
  after x None = refl
  after x (Some ls) = ap (λ (l : List A). Some l) (sym (append_assoc old (x ∷ []) ls))

  -- the item at the place is the next
  opened : (xs : List Tree) (i : ℕ) (one : Tree) (o : Option A) → i < length xs → one ≡ get_or xs i one → read (tree_view one) ≡ o → all ≡ option_map (λ (ls : List A). old ++ ls) (list_of read (trees_view (drop i xs)))
      → all ≡ option_map (λ (ls : List A). old ++ ls) (option_and_then (λ (x : A). option_map (λ (ls : List A). x ∷ ls) (list_of read (trees_view (drop (i + 1) xs)))) o)
  opened xs i one o within is found so_far =
      so_far ∙ ap (λ (ys : List Tree). option_map (λ (ls : List A). old ++ ls) (list_of read (trees_view ys))) (begins xs i one within is)
      ∙ ap (λ (p : Option A). option_map (λ (ls : List A). old ++ ls) (option_and_then (λ (x : A). option_map (λ (ls : List A). x ∷ ls) (list_of read (trees_view (drop (i + 1) xs)))) p)) found

  -- one item more was read
  pub list_more : (xs : List Tree) (i : ℕ) (one : Tree) (x : A) (new : List A) → i < length xs → one ≡ get_or xs i one → read (tree_view one) ≡ Some x → new ≡ old ++ x ∷ [] → all ≡ option_map (λ (ls : List A). old ++ ls) (list_of read (trees_view (drop i xs)))
      → all ≡ option_map (λ (ls : List A). new ++ ls) (list_of read (trees_view (drop (i + 1) xs)))
  list_more xs i one x new within is found made so_far =
      opened xs i one (Some x) within is found so_far ∙ after x (list_of read (trees_view (drop (i + 1) xs)))
      ∙ ap (λ (l : List A). option_map (λ (ls : List A). l ++ ls) (list_of read (trees_view (drop (i + 1) xs)))) (sym made)

  -- the same, where the items before it were taken out
  pub list_taken : (xs ys : List Tree) (one : Tree) (x : A) (new : List A) → length ys < length xs → one ≡ get_or xs (length ys) one → read (tree_view one) ≡ Some x → new ≡ old ++ x ∷ [] → all ≡ option_map (λ (ls : List A). old ++ ls) (list_of read (trees_view (drop (length ys) xs)))
      → all ≡ option_map (λ (ls : List A). new ++ ls) (list_of read (trees_view (drop (length (ys ++ one ∷ [])) xs)))
  list_taken xs ys one x new within is found made so_far =
      subst (λ (n : ℕ). all ≡ option_map (λ (ls : List A). new ++ ls) (list_of read (trees_view (drop n xs)))) (sym (length_push ys one)) (list_more xs (length ys) one x new within is found made so_far)

  -- an item was none of these
  pub list_stops : (xs : List Tree) (i : ℕ) (one : Tree) → i < length xs → one ≡ get_or xs i one → read (tree_view one) ≡ None → all ≡ option_map (λ (ls : List A). old ++ ls) (list_of read (trees_view (drop i xs))) → None ≡ all
  list_stops xs i one within is found so_far = sym (opened xs i one None within is found so_far)

  -- all items were read
  pub list_ends : (xs : List Tree) (i : ℕ) → length xs ≤ i → all ≡ option_map (λ (ls : List A). old ++ ls) (list_of read (trees_view (drop i xs))) → Some old ≡ all
  list_ends xs i done so_far =
      ap (λ (l : List A). Some l) (sym (append-nil old))
      ∙ sym (ap (λ (ys : List Tree). option_map (λ (ls : List A). old ++ ls) (list_of read (trees_view ys))) (drop_all i xs done))
      ∙ sym so_far
