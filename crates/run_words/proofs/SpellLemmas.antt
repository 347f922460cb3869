-- Words that are options with their values are those in which clap finds no fault.
use Rattle.std.specs.List.{fold}
use Rattle.std.proofs.Common.{◌≡◌, false, List, [], ◌∷◌, ◌++◌, append-nil, append_assoc, map, Option, Some, None, codes, refl, sym, ap, subst, ◌∙◌, inl, inr}
use Rattle.clap.specs.Walk.{Held, Row, Text, Walk, settled, settled_rows, used, walked}
use Rattle.clap.specs.Faults.{settle_fault, turn_fault, use_fault, walk_fault}
use Rattle.clap.specs.Lexer.{long_of}
use Rattle.run_words.specs.Words.{BeginsWith, Given, IsOption, Once, Spells}
use Rattle.run_words.proofs.ClapLemmas.{AreFine, apart_fault, apart_walk, end_rows, first_use, holding, joined_fault, joined_walk, row, rule, rules, shape, standing, used_first, value_fault, value_walk, waiting, by_id}
use Rattle.run_words.proofs.RowLemmas.{HaveNone, still_none}

-- ---- options are fine

-- a word without a fault before words without faults
fine_behind : (v w : Walk) (word : Text) (words : List Text) → walked rules [] v word ≡ w → turn_fault shape [] v word ≡ []
    → walk_fault shape [] w words ≡ [] → walk_fault shape [] v (word ∷ words) ≡ []
unfolding walk_fault
fine_behind v w word words here is behind = rw (here, is) behind

walks_none : (h : Held) → walk_fault shape [] (standing h) [] ≡ []
unfolding walk_fault
walks_none h = refl

-- what holds of words, holds of those before which an option was added
fine_more : (h next : Held) (word : Text) (words : List Text) (rows : List Row) → walked rules [] (standing h) word ≡ standing next
    → turn_fault shape [] (standing h) word ≡ [] → AreFine next words × (end_rows next words ≡ rows) → AreFine h (word ∷ words) × (end_rows h (word ∷ words) ≡ rows)
fine_more h next word words rows here none behind = (
  record {
    walks = fine_behind (standing h) (standing next) word words here none behind.0.walks;
    settles = subst (λ w. settle_fault rules false (fold (walked rules []) w words).held ≡ []) (sym here) behind.0.settles;
  },
  subst (λ w. (settled rules (fold (walked rules []) w words).held).rows ≡ rows) (sym here) behind.1,
)

fine_two_more : (h next : Held) (name word value : Text) (words : List Text) (before rows : List Row) → walked rules [] (standing h) word ≡ waiting name before
    → turn_fault shape [] (standing h) word ≡ [] → walked rules [] (waiting name before) value ≡ standing next → turn_fault shape [] (waiting name before) value ≡ []
    → AreFine next words × (end_rows next words ≡ rows) → AreFine h (word ∷ value ∷ words) × (end_rows h (word ∷ value ∷ words) ≡ rows)
fine_two_more h next name word value words before rows here none then fine behind = (
  record {
    walks = fine_behind (standing h) (waiting name before) word (value ∷ words) here none
        (fine_behind (waiting name before) (standing next) value words then fine behind.0.walks);
    settles = subst (λ w. settle_fault rules false (fold (walked rules []) (walked rules [] w value) words).held ≡ []) (sym here)
        (subst (λ w. settle_fault rules false (fold (walked rules []) w words).held ≡ []) (sym then) behind.0.settles);
  },
  subst (λ w. (settled rules (fold (walked rules []) (walked rules [] w value) words).held).rows ≡ rows) (sym here)
      (subst (λ w. (settled rules (fold (walked rules []) w words).held).rows ≡ rows) (sym then) behind.1),
)

-- the long name of a spelled word
pub joined_name : (name value : Text) → IsOption name → long_of (codes "--" ++ (name ++ (codes "=" ++ value))) ≡ Some (name, Some value)
joined_name name value (inl is) = rw is refl
joined_name name value (inr (inl is)) = rw is refl
joined_name name value (inr (inr (inl is))) = rw is refl
joined_name name value (inr (inr (inr is))) = rw is refl

pub apart_name : (name : Text) → IsOption name → long_of (codes "--" ++ name) ≡ Some (name, None)
apart_name name (inl is) = rw is refl
apart_name name (inr (inl is)) = rw is refl
apart_name name (inr (inr (inl is))) = rw is refl
apart_name name (inr (inr (inr is))) = rw is refl

-- THE WORDS ARE OPTIONS: clap finds no fault, and a row of each
pub are_fine : (gs : List Given) (words : List Text) → Spells words gs → Once gs → (rows : List Row) (pending : Option (Text × List Text))
    → settle_fault rules false (holding rows pending) ≡ [] → HaveNone gs (settled_rows rules pending rows)
    → AreFine (holding rows pending) words × (end_rows (holding rows pending) words ≡ settled_rows rules pending rows ++ map row gs)
are_fine [] words spells once rows pending settles none =
    rw spells (record { walks = walks_none (holding rows pending); settles = settles }, sym (append-nil (settled_rows rules pending rows)))
are_fine (g ∷ gs) words spells once rows pending settles none =
    go spells.3 (λ r p s n. are_fine gs spells.2 spells.4 once.1 r p s n)
  where
    before : List Row
    before = settled_rows rules pending rows

    one : List Row
    one = before ++ row g ∷ []

    rest : List Text
    rest = spells.2

    more : HaveNone gs one
    more = still_none g.name g.value gs before once.0 none.1

    Behind : Type 0
    Behind = (r : List Row) (p : Option (Text × List Text)) → settle_fault rules false (holding r p) ≡ [] → HaveNone gs (settled_rows rules p r)
        → AreFine (holding r p) rest × (end_rows (holding r p) rest ≡ settled_rows rules p r ++ map row gs)

    all : one ++ map row gs ≡ before ++ map row (g ∷ gs)
    all = append_assoc before (row g ∷ []) (map row gs)

    first : use_fault false (rule g.name) (g.value ∷ []) before ≡ []
    first = first_use g.name g.value before none.0

    used_is : used (rule g.name) (g.value ∷ []) before ≡ one
    used_is = used_first g.name g.value before none.0

    settled_is : settled_rows rules (Some (g.name, g.value ∷ [])) before ≡ one
    settled_is = rw (by_id g.name spells.0) used_is

    go : BeginsWith words g rest → Behind → AreFine (holding rows pending) words × (end_rows (holding rows pending) words ≡ before ++ map row (g ∷ gs))
    go (inl apart) behind =
        let there : AreFine (holding before (Some (g.name, g.value ∷ []))) rest
        × (end_rows (holding before (Some (g.name, g.value ∷ []))) rest ≡ settled_rows rules (Some (g.name, g.value ∷ [])) before ++ map row gs) =
        behind before (Some (g.name, g.value ∷ [])) (rw (by_id g.name spells.0) first) (subst (λ rs. HaveNone gs rs) (sym settled_is) more) in
        rw apart (fine_two_more (holding rows pending) (holding before (Some (g.name, g.value ∷ []))) g.name (codes "--" ++ g.name) g.value rest before
        (before ++ map row (g ∷ gs)) (apart_walk g.name (codes "--" ++ g.name) rows pending spells.0 (apart_name g.name spells.0))
        (apart_fault g.name (codes "--" ++ g.name) rows pending spells.0 (apart_name g.name spells.0) ∙ rw settles refl)
        (value_walk g.name g.value before spells.0 spells.1) (value_fault g.name g.value before spells.0 spells.1)
        (there.0, there.1 ∙ ap (λ rs. rs ++ map row gs) settled_is ∙ all))
    go (inr joined) behind =
        let word : Text = codes "--" ++ (g.name ++ (codes "=" ++ g.value)) in
        let long : long_of word ≡ Some (g.name, Some g.value) = joined_name g.name g.value spells.0 in
        let there = behind (used (rule g.name) (g.value ∷ []) before) None refl (subst (λ rs. HaveNone gs rs) (sym used_is) more) in
        rw joined (fine_more (holding rows pending) (holding (used (rule g.name) (g.value ∷ []) before) None) word rest (before ++ map row (g ∷ gs))
        (joined_walk g.name g.value word rows pending spells.0 long) (joined_fault g.name g.value word rows pending spells.0 long ∙ rw (settles, first) refl)
        (there.0, there.1 ∙ ap (λ rs. rs ++ map row gs) used_is ∙ all))
