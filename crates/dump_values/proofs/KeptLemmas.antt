-- What is stored, of lists that were taken out.
use Rattle.std.specs.Prelude.{codes, option_map, option_and_then}
use Rattle.std.proofs.Common.{◌≡◌, ℕ, List, Option, Some, None, sym, ap, ◌∙◌}
use Rattle.id_memory.specs.Pairs.{Pairs}
use Rattle.row_store.specs.Rows.{Rows}
use Rattle.serde_json.specs.Data.{Data, Items}
use Rattle.dump_values.specs.Dumps.{Kept, kept_of, lists_of}
use Rattle.json_members.specs.Members.{both, member_of, next_of, numbers_of}

-- where both were found, each was
parted : {A B : Type 0} (o : Option A) (p : Option B) (q : A × B) → both o p ≡ Some q → (o ≡ Some q.0) × (p ≡ Some q.1)
parted None p q is = absurd (let no : ⊥ = cc in no)
parted (Some x) None q is = absurd (let no : ⊥ = cc in no)
parted {A} {B} (Some x) (Some y) q is = (ap (option_map (λ (r : A × B). r.0)) is, ap (option_map (λ (r : A × B). r.1)) is)

-- three lists are read, whose items were found
pub lists_read : {A B C : Type 0} (f : Items → Option A) (g : Items → Option B) (h : Items → Option C) (ms ma mm : Option Items) (t : Items × (Items × Items)) (x : A) (rest : B × C)
    → Some t ≡ both ms (both ma mm) → Some x ≡ f t.0 → Some rest ≡ both (g t.1.0) (h t.1.1)
    → Some (x, rest) ≡ both (option_and_then f ms) (both (option_and_then g ma) (option_and_then h mm))
lists_read {A} {B} {C} f g h ms ma mm t x rest taken first others =
    let one = parted ms (both ma mm) t (sym taken) in
    let two = parted ma mm t.1 one.1 in
    let left : Some x ≡ option_and_then f ms = first ∙ sym (ap (λ (o : Option Items). option_and_then f o) one.0) in
    let right : Some rest ≡ both (option_and_then g ma) (option_and_then h mm) =
    others ∙ sym (ap (λ (o : Option Items). both (option_and_then g o) (option_and_then h mm)) two.0 ∙ ap (λ (o : Option Items). both (g t.1.0) (option_and_then h o)) two.1) in
    ap (λ (o : Option A). both o (Some rest)) left ∙ ap (λ (o : Option (B × C)). both (option_and_then f ms) o) right

abbrev pub kept_from : (List ℕ × ℕ) × (List (ℕ × Rows) × (List (ℕ × List Rows) × List (ℕ × Pairs))) → Kept
kept_from f = record { layout = f.0.0; stored = f.1.0; auxes = f.1.1.0; memories = f.1.1.1; next = f.0.1 }

-- what is stored is read, where the layout, the next identifier and the lists are
pub kept_read : (d : Data) (first : List ℕ × ℕ) (lists : List (ℕ × Rows) × (List (ℕ × List Rows) × List (ℕ × Pairs)))
    → both (member_of numbers_of (codes "layout") d) (member_of next_of (codes "next") d) ≡ Some first → Some lists ≡ lists_of d
    → Some (kept_from (first, lists)) ≡ kept_of d
kept_read d first lists is found =
    ap (λ (o : Option (List ℕ × ℕ)). option_map kept_from (both o (Some lists))) (sym is)
    ∙ ap (λ (o : Option (List (ℕ × Rows) × (List (ℕ × List Rows) × List (ℕ × Pairs)))). option_map kept_from (both (both (member_of numbers_of (codes "layout") d) (member_of next_of (codes "next") d)) o)) found
