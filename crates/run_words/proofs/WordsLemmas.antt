-- What the words say, by what clap finds in them.
use Rattle.std.specs.Prelude.{is_some}
use Rattle.std.specs.List.{fold}
use Rattle.std.specs.Str.{bytes_eq}
use Rattle.std.proofs.Common.{◌≡◌, zero, suc, Bool, true, false, List, [], ◌∷◌, ◌++◌, map, Option, Some, None, codes, refl, sym, ap, subst, ◌∙◌, inl, inr, arith}
use Rattle.clap.specs.Walk.{Row, Text, first_of, finished, has_row, nothing_held, walk, with_default}
use Rattle.clap.specs.Faults.{check_fault, default_fault, defaults_fault, entered_fault, fault_of, settle_fault, walk_fault}
use Rattle.clap.specs.Simple.{entered, matches_of, built}
use Rattle.run_words.specs.Words.{BeginsWith, Given, IsOption, IsValue, Once, Spells, value_of}
use Rattle.run_words.specs.inner.Reading.{AreFair, IsFair, IsFairLong, program}
use Rattle.std.specs.Prelude.{◌==◌}
use Rattle.std.proofs.lemmas.Bool.Decides.{nat_tests}
use Rattle.run_words.proofs.ClapLemmas.{AreFine, both_none, end, end_rows, holding, none_both, row, rule, rules, shape, standing}
use Rattle.run_words.proofs.RowLemmas.{HaveNone}
use Rattle.run_words.proofs.SpellLemmas.{apart_name, are_fine, joined_name}
use Rattle.run_words.proofs.FineLemmas.{AllFair, are_options}

-- ---- the whole of clap's parse

no_default : (name : Text) (rows : List Row) → default_fault rows (rule name) ≡ []
no_default name rows = go (has_row name rows) refl
  where
    go : (t : Bool) → has_row name rows ≡ t → default_fault rows (rule name) ≡ []
    go true e = rw e refl
    go false e = rw e refl

same_rows : (name : Text) (rows : List Row) → with_default rows (rule name) ≡ rows
same_rows name rows = go (has_row name rows) refl
  where
    go : (t : Bool) → has_row name rows ≡ t → with_default rows (rule name) ≡ rows
    go true e = rw e refl
    go false e = rw e refl

-- no option has a default
no_defaults : (rows : List Row) → defaults_fault rows rules ≡ []
unfolding defaults_fault
no_defaults rows =
    none_both _ _ (no_default (codes "load") rows)
    (none_both _ _ (no_default (codes "dump") (with_default rows (rule (codes "load"))))
    (none_both _ _ (no_default (codes "max-ids") (with_default (with_default rows (rule (codes "load"))) (rule (codes "dump"))))
    (none_both _ _ (no_default (codes "generate") (with_default (with_default (with_default rows (rule (codes "load"))) (rule (codes "dump"))) (rule (codes "max-ids")))) refl)))

all_rows : (rows : List Row) → fold with_default rows rules ≡ rows
all_rows rows =
    ap (λ rs. with_default (with_default (with_default rs (rule (codes "dump"))) (rule (codes "max-ids"))) (rule (codes "generate"))) (same_rows (codes "load") rows)
    ∙ ap (λ rs. with_default (with_default rs (rule (codes "max-ids"))) (rule (codes "generate"))) (same_rows (codes "dump") rows)
    ∙ ap (λ rs. with_default rs (rule (codes "generate"))) (same_rows (codes "max-ids") rows) ∙ same_rows (codes "generate") rows

-- the rows that clap finds are those at the end of the walk
matches_are : (words : List Text) → matches_of program words ≡ end_rows (holding [] None) words
matches_are words = all_rows (end_rows (holding [] None) words)

-- nothing is required
no_check : (rows : List Row) (t : Bool) → check_fault shape rows t ≡ []
no_check rows true = refl
no_check rows false = refl

-- nothing is entered
none_entered : (stop : Option (Text × List Text)) → entered_fault (built program) stop ≡ []
none_entered None = refl
none_entered (Some p) = refl

-- clap finds no fault where the words are fine
no_fault : (words : List Text) → AreFine (holding [] None) words → fault_of program words ≡ []
no_fault words fine =
    none_both _ _ fine.walks (none_both _ _ (none_entered (walk rules [] nothing_held words).stopped)
    (none_both _ _ fine.settles (none_both _ _ (no_defaults (end_rows (holding [] None) words)) (no_check (finished rules (end (holding [] None) words)) (is_some (entered (built program) (walk rules [] nothing_held words).stopped))))))

fine_is : (words : List Text) → fault_of program words ≡ [] → AreFine (holding [] None) words
fine_is words none =
    let walks = both_none (walk_fault shape [] (standing (holding [] None)) words) _ none in
    let below = both_none (entered_fault (built program) (walk rules [] nothing_held words).stopped) _ walks.1 in
    let settles = both_none (settle_fault rules false (end (holding [] None) words)) _ below.1 in
    record { walks = walks.0; settles = settles.0 }

-- ---- values

pub value_found : (name : Text) (gs : List Given) → first_of name (map row gs) ≡ value_of name gs
value_found name [] = refl
value_found name (g ∷ gs) = go (bytes_eq g.name name) refl (value_found name gs)
  where
    go : (t : Bool) → bytes_eq g.name name ≡ t → first_of name (map row gs) ≡ value_of name gs → first_of name (map row (g ∷ gs)) ≡ value_of name (g ∷ gs)
    go true e behind = rw e refl
    go false e behind = rw e behind

none_have : (gs : List Given) → HaveNone gs []
none_have [] = tt
none_have (g ∷ gs) = (refl, none_have gs)

-- THE WORDS ARE OPTIONS, and clap finds their values
pub are_found : (words : List Text) (gs : List Given) → Spells words gs → Once gs → (fault_of program words ≡ []) × (matches_of program words ≡ map row gs)
are_found words gs spells once =
    let fine = are_fine gs words spells once [] None refl (none_have gs) in
    (no_fault words fine.0, matches_are words ∙ fine.1)

-- ---- fair words

value_is_fair : (value : Text) → IsValue value → IsFair value
value_is_fair [] good = absurd good
value_is_fair (b ∷ bs) good = let differs : (b == 45) ≡ false = grind (arith, nat_tests) in rw differs good

fair_front : (words rest : List Text) (g : Given) → IsOption g.name → IsValue g.value → BeginsWith words g rest → AllFair rest → AllFair words
fair_front words rest g is good (inl apart) fair =
    rw apart (subst (λ o. IsFairLong (codes "--" ++ g.name) o) (sym (apart_name g.name is)) tt, (value_is_fair g.value good, fair))
fair_front words rest g is good (inr joined) fair =
    rw joined (subst (λ o. IsFairLong (codes "--" ++ (g.name ++ (codes "=" ++ g.value))) o) (sym (joined_name g.name g.value is)) good, fair)

-- options with their values are fair
all_fair : (gs : List Given) (words : List Text) → Spells words gs → AllFair words
all_fair [] words spells = rw spells tt
all_fair (g ∷ gs) words spells = fair_front words spells.2 g spells.0 spells.1 spells.3 (all_fair gs spells.2 spells.4)

fair_of : (words : List Text) → AllFair words → AreFair words
fair_of [] fair k d lt = absurd (omega arith)
fair_of (word ∷ words) fair zero d lt = fair.0
fair_of (word ∷ words) fair (suc k) d lt = fair_of words fair.1 k d (omega arith)

fair_all : (words : List Text) → AreFair words → AllFair words
fair_all [] fair = tt
fair_all (word ∷ words) fair = (fair 0 word (omega arith), fair_all words (λ k d lt. fair (suc k) d (omega arith)))

pub spelled_fair : (words : List Text) (gs : List Given) → Spells words gs → AreFair words
spelled_fair words gs spells = fair_of words (all_fair gs words spells)

-- FAIR WORDS IN WHICH CLAP FINDS NO FAULT ARE OPTIONS, with the values that it finds
pub are_spelled : (words : List Text) → AreFair words → fault_of program words ≡ []
    → (gs : List Given) × Spells words gs × Once gs × ((name : Text) → first_of name (matches_of program words) ≡ value_of name gs)
are_spelled words fair none =
    let is = are_options words (fair_all words fair) [] None (fine_is words none) in
    (is.given, is.spelled, is.once, λ name. ap (first_of name) (are_found words is.given is.spelled is.once).1 ∙ value_found name is.given)
