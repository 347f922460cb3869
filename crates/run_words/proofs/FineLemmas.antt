-- Words in which clap finds no fault are options with their values, where each word is fair.
use Rattle.std.specs.Prelude.{⊤}
use Rattle.std.specs.List.{fold}
use Rattle.std.proofs.Common.{◌≡◌, ◌⊎◌, false, List, [], ◌∷◌, ◌++◌, Option, Some, None, refl, sym, ap, subst, ◌∙◌, inl, inr}
use Rattle.clap.specs.Walk.{Row, Text, Walk, arg_by_long, has_row, settled_rows, used, walked}
use Rattle.clap.specs.Faults.{settle_fault, turn_fault, use_fault, walk_fault}
use Rattle.clap.specs.Lexer.{long_of}
use Rattle.run_words.specs.Words.{BeginsWith, Given, IsOption, IsValue, Once, Spells}
use Rattle.run_words.specs.inner.Reading.{IsFair}
use Rattle.run_words.proofs.ClapLemmas.{AreFine, apart_fault, apart_walk, both_none, empty_use, flag_fault, holding, is_first, joined_fault, joined_walk, option_or_none, row, rule, rules, shape, standing, stray_fault, unknown_fault, unknown_waits, used_first, value_walk, waiting, by_id}
use Rattle.run_words.proofs.FormLemmas.{apart_word, joined_word}
use Rattle.run_words.proofs.RowLemmas.{HaveNone, were_none}

-- each word is fair
abbrev pub AllFair : List Text → Type 0
AllFair [] = ⊤
AllFair (word ∷ words) = IsFair word × AllFair words

-- the options that fine words are; what is held before them settles without a fault
pub record AreOptions (rows : List Row) (pending : Option (Text × List Text)) (words : List Text) : Type 0 where
  pub given : List Given
  pub spelled : Spells words given
  pub once : Once given
  pub none : HaveNone given (settled_rows rules pending rows)
  pub settles : settle_fault rules false (holding rows pending) ≡ []

walk_parts : (v : Walk) (word : Text) (words : List Text) → walk_fault shape [] v (word ∷ words) ≡ []
    → (turn_fault shape [] v word ≡ []) × (walk_fault shape [] (walked rules [] v word) words ≡ [])
unfolding walk_fault
walk_parts v word words e = both_none (turn_fault shape [] v word) (walk_fault shape [] (walked rules [] v word) words) e

-- one option, and those behind it
module _ (rows : List Row) (pending : Option (Text × List Text)) (name value : Text) (is : IsOption name) (good : IsValue value) (settles : settle_fault rules false (holding rows pending) ≡ []) where
  abbrev before : List Row
  before = settled_rows rules pending rows

  one_more : (after : List Row) (words rest : List Text) → after ≡ before ++ row (record { name = name; value = value }) ∷ [] → has_row name before ≡ false
      → BeginsWith words (record { name = name; value = value }) rest → (gs : List Given) → Spells rest gs → Once gs → HaveNone gs after → AreOptions rows pending words
  one_more after words rest after_is first begins gs spells once none =
      let were = were_none name value gs before (subst (λ rs. HaveNone gs rs) after_is none) in
      record {
        given = record { name = name; value = value } ∷ gs;
        spelled = (is, good, rest, begins, spells);
        once = (were.1, once);
        none = (first, were.0);
        settles = settles;
      }

  joined_more : (words rest : List Text) → BeginsWith words (record { name = name; value = value }) rest → use_fault false (rule name) (value ∷ []) before ≡ []
      → AreOptions (used (rule name) (value ∷ []) before) None rest → AreOptions rows pending words
  joined_more words rest begins fine behind =
      let first = is_first name value before fine in
      one_more (used (rule name) (value ∷ []) before) words rest (used_first name value before first) first begins behind.given behind.spelled behind.once behind.none

  apart_more : (words rest : List Text) → BeginsWith words (record { name = name; value = value }) rest
      → AreOptions before (Some (name, value ∷ [])) rest → AreOptions rows pending words
  apart_more words rest begins behind =
      let fine : use_fault false (rule name) (value ∷ []) before ≡ [] = rw (by_id name is) at behind.settles in
      let first = is_first name value before fine in
      let after_is : settled_rows rules (Some (name, value ∷ [])) before ≡ before ++ row (record { name = name; value = value }) ∷ [] = rw (by_id name is) (used_first name value before first) in
      one_more (settled_rows rules (Some (name, value ∷ [])) before) words rest after_is first begins behind.given behind.spelled behind.once behind.none

-- ---- one word after the other

abbrev Behind : List Text → Type 0
Behind words = (rows : List Row) (pending : Option (Text × List Text)) → AreFine (holding rows pending) words → AreOptions rows pending words

-- what is known behind the next word
abbrev BehindNext : List Text → Type 0
BehindNext [] = ⊤
BehindNext (word ∷ words) = IsFair word × Behind words

-- `--name=value` and what stands behind it
joined_first : (name value word : Text) (rest : List Text) (rows : List Row) (pending : Option (Text × List Text)) → IsOption name → IsValue value → long_of word ≡ Some (name, Some value)
    → Behind rest → AreFine (holding rows pending) (word ∷ rest) → AreOptions rows pending (word ∷ rest)
joined_first name value word rest rows pending is good long behind fine =
    let before = settled_rows rules pending rows in
    let parts = walk_parts (standing (holding rows pending)) word rest fine.walks in
    let faults = both_none (settle_fault rules false (holding rows pending)) (use_fault false (rule name) (value ∷ []) before)
    (both_none _ [] (sym (joined_fault name value word rows pending is long) ∙ parts.0)).0 in
    let walks = joined_walk name value word rows pending is long in
    let there : AreFine (holding (used (rule name) (value ∷ []) before) None) rest = record {
      walks = subst (λ w. walk_fault shape [] w rest ≡ []) walks parts.1;
      settles = subst (λ w. settle_fault rules false (fold (walked rules []) w rest).held ≡ []) walks fine.settles;
    } in
    joined_more rows pending name value is good faults.0 (word ∷ rest) rest (inr (ap (λ t. t ∷ rest) (joined_word word name value long))) faults.1
    (behind (used (rule name) (value ∷ []) before) None there)

-- `--name` without a value
apart_last : (name word : Text) (rows : List Row) (pending : Option (Text × List Text)) → IsOption name → long_of word ≡ Some (name, None)
    → AreFine (holding rows pending) (word ∷ []) → AreOptions rows pending (word ∷ [])
apart_last name word rows pending is long fine =
    let last : settle_fault rules false (waiting name (settled_rows rules pending rows)).held ≡ [] =
    subst (λ (w : Walk). settle_fault rules false w.held ≡ []) (apart_walk name word rows pending is long) fine.settles in
    absurd (empty_use name (settled_rows rules pending rows) (rw (by_id name is) at last))

-- `--name value` and what stands behind it
apart_first : (name word value : Text) (rest : List Text) (rows : List Row) (pending : Option (Text × List Text)) → IsOption name → long_of word ≡ Some (name, None)
    → IsFair value → Behind rest → AreFine (holding rows pending) (word ∷ value ∷ rest) → AreOptions rows pending (word ∷ value ∷ rest)
apart_first name word value rest rows pending is long fair behind fine = go (long_of value) refl
  where
    before : List Row
    before = settled_rows rules pending rows

    walks : walked rules [] (standing (holding rows pending)) word ≡ waiting name before
    walks = apart_walk name word rows pending is long

    parts : (turn_fault shape [] (standing (holding rows pending)) word ≡ []) × (walk_fault shape [] (walked rules [] (standing (holding rows pending)) word) (value ∷ rest) ≡ [])
    parts = walk_parts (standing (holding rows pending)) word (value ∷ rest) fine.walks

    then : (turn_fault shape [] (waiting name before) value ≡ []) × (walk_fault shape [] (walked rules [] (waiting name before) value) rest ≡ [])
    then = walk_parts (waiting name before) value rest (subst (λ w. walk_fault shape [] w (value ∷ rest) ≡ []) walks parts.1)

    settles : settle_fault rules false (holding rows pending) ≡ []
    settles = (both_none _ [] (sym (apart_fault name word rows pending is long) ∙ parts.0)).0

    taken : IsValue value → AreOptions rows pending (word ∷ value ∷ rest)
    taken good =
        let on = value_walk name value before is good in
        let there : AreFine (holding before (Some (name, value ∷ []))) rest = record {
          walks = subst (λ w. walk_fault shape [] w rest ≡ []) on then.1;
          settles = subst (λ w. settle_fault rules false (fold (walked rules []) w rest).held ≡ []) on
              (subst (λ w. settle_fault rules false (fold (walked rules []) (walked rules [] w value) rest).held ≡ []) walks fine.settles);
        } in
        apart_more rows pending name value is good settles (word ∷ value ∷ rest) rest
        (inl (ap (λ t. t ∷ value ∷ rest) (apart_word word name long))) (behind before (Some (name, value ∷ [])) there)

    refused : (other : Text) (more : Option Text) → long_of value ≡ Some (other, more) → IsOption other ⊎ (arg_by_long rules other ≡ None) → AreOptions rows pending (word ∷ value ∷ rest)
    refused other more is_long (inl known) = absurd (flag_fault name other more value before is known is_long then.0)
    refused other more is_long (inr unknown) = absurd (unknown_waits name other more value before unknown is_long then.0)

    go : (o : Option (Text × Option Text)) → long_of value ≡ o → AreOptions rows pending (word ∷ value ∷ rest)
    go None is_long = taken (rw is_long at fair)
    go (Some named) is_long = refused named.0 named.1 is_long (option_or_none named.0)

first_word : (word : Text) (rest : List Text) → IsFair word → Behind rest → BehindNext rest → (rows : List Row) (pending : Option (Text × List Text))
    → AreFine (holding rows pending) (word ∷ rest) → AreOptions rows pending (word ∷ rest)
first_word word rest fair behind next rows pending fine = go (long_of word) refl
  where
    with_name : (name : Text) (value : Option Text) → long_of word ≡ Some (name, value) → IsOption name → (more : List Text) → BehindNext more → AreFine (holding rows pending) (word ∷ more)
        → Behind more → AreOptions rows pending (word ∷ more)
    with_name name (Some value) long is more then here after = joined_first name value word more rows pending is (rw long at fair) long after here
    with_name name None long is [] then here after = apart_last name word rows pending is long here
    with_name name None long is (value ∷ more) then here after = apart_first name word value more rows pending is long then.0 then.1 here

    named : (name : Text) (value : Option Text) → long_of word ≡ Some (name, value) → IsOption name ⊎ (arg_by_long rules name ≡ None) → AreOptions rows pending (word ∷ rest)
    named name value long (inl is) = with_name name value long is rest next fine behind
    named name value long (inr none) = absurd (unknown_fault name value word rows pending none long (walk_parts (standing (holding rows pending)) word rest fine.walks).0)

    go : (o : Option (Text × Option Text)) → long_of word ≡ o → AreOptions rows pending (word ∷ rest)
    go None long = absurd (stray_fault word rows pending (rw long at fair) (walk_parts (standing (holding rows pending)) word rest fine.walks).0)
    go (Some pair) long = named pair.0 pair.1 long (option_or_none pair.0)

-- WORDS WITHOUT A FAULT ARE OPTIONS
pub are_options : (words : List Text) → AllFair words → Behind words
are_options [] fair = λ rows pending fine. record { given = []; spelled = refl; once = tt; none = tt; settles = fine.settles }
are_options (word ∷ []) fair = first_word word [] fair.0 (are_options [] fair.1) tt
are_options (word ∷ value ∷ rest) fair = first_word word (value ∷ rest) fair.0 (are_options (value ∷ rest) fair.1) (fair.1.0, are_options rest fair.1.1)
