-- What reading the words answers.
use Rattle.std.specs.Prelude.{◌≢◌, Option, None, IsSome, string_bytes, String, Err}
use Rattle.std.specs.List.{All}
use Rattle.std.proofs.Common.{◌≡◌, ℕ, zero, suc, arith, Global, List, [], ◌∷◌, map, codes, sym, ap, subst, ◌∙◌}
use Rattle.std.proofs.lemmas.List.Elements.{All-map}
use Rattle.clap.specs.Walk.{first_of, rows_of}
use Rattle.clap.specs.Faults.{fault_of}
use Rattle.clap.specs.Simple.{matches_of}
use Rattle.clap.specs.Matches.{first_value, found_of}
use Rattle.clap.proofs.WalkLemmas.{first_value-rows}
use Rattle.clap.specs.declared.parser.matches.ArgMatches.{ArgMatches}
use Rattle.par_base.specs.declared.fault.Fault.{Fault}
use Rattle.par_base.specs.declared.fault.Fault.TheVariants.{Refused, Memory}
use Rattle.run_words.specs.Calls.{Reads}
use Rattle.run_words.specs.declared.words.BadWords.{BadWords}
use Rattle.run_words.specs.Words.{Asked, IsCount, IsLimit, Says, value_of}
use Rattle.run_words.specs.inner.Reading.{AreFair, FindsCount, FindsLimit, IsAlone, IsFair, Matches, program}
use Rattle.run_words.proofs.OneLemmas.{one_count}
use Rattle.run_words.proofs.WordsLemmas.{are_found, are_spelled, spelled_fair, value_found}

fair_words : (words : List (String Global)) → All (λ (word : String Global). IsFair (string_bytes word)) words → AreFair (map string_bytes words)
fair_words words fair = All-map IsFair string_bytes words fair

-- words that aren't fair say nothing
pub unfair_say_nothing : (words : List (String Global)) → (All (λ (word : String Global). IsFair (string_bytes word)) words → ⊥) → (asked : Asked) → Says (map string_bytes words) asked → ⊥
unfair_say_nothing words unfair asked says = unfair (all_back words (spelled_fair (map string_bytes words) says.given says.spelled))
  where
    all_back : (ws : List (String Global)) → AreFair (map string_bytes ws) → All (λ (word : String Global). IsFair (string_bytes word)) ws
    all_back [] fair k d lt = absurd (omega arith)
    all_back (w ∷ ws) fair zero d lt = fair 0 (string_bytes w) (omega arith)
    all_back (w ∷ ws) fair (suc k) d lt = all_back ws (λ j e l. fair (suc j) e (omega arith)) k d (omega arith)

-- nor do words in which clap finds a fault
pub faulty_say_nothing : (words : List (List ℕ)) → fault_of program words ≢ [] → (asked : Asked) → Says words asked → ⊥
faulty_say_nothing words faulty asked says = faulty (are_found words says.given says.spelled says.once).0

-- so the words are refused for it
pub answered : (words : List (List ℕ)) (e : Fault BadWords) → Matches words (Err e) → Reads words (Err e)
answered words (Refused r) faulty = faulty_say_nothing words faulty
answered words (Memory memory) e = tt

-- what clap gives for a name is the value that the words give to it
value_is : (words : List (List ℕ)) (m : ArgMatches) (asked : Asked) (says : Says words asked) (name : List ℕ) → rows_of (found_of m) ≡ matches_of program words
    → first_value (found_of m) name ≡ value_of name says.given
value_is words m asked says name rows =
    first_value-rows (found_of m) name ∙ ap (first_of name) (rows ∙ (are_found words says.given says.spelled says.once).1) ∙ value_found name says.given

-- nor do words without a greatest identifier
pub limitless_say_nothing : (words : List (List ℕ)) (m : ArgMatches) (text : Option (List ℕ)) → rows_of (found_of m) ≡ matches_of program words
    → text ≡ first_value (found_of m) (codes "max-ids") → FindsLimit text None → (asked : Asked) → Says words asked → ⊥
limitless_say_nothing words m text rows is none asked says =
    none asked.max_id (subst (λ t. IsLimit t asked.max_id) (sym (is ∙ value_is words m asked says (codes "max-ids") rows)) says.limit)

-- nor do words whose number of rows is none
pub countless_say_nothing : (words : List (List ℕ)) (m : ArgMatches) (text : Option (List ℕ)) → rows_of (found_of m) ≡ matches_of program words
    → text ≡ first_value (found_of m) (codes "generate") → FindsCount text None → (asked : Asked) → Says words asked → ⊥
countless_say_nothing words m text rows is none asked says =
    none asked.generate (subst (λ t. IsCount t asked.generate) (sym (is ∙ value_is words m asked says (codes "generate") rows)) says.generate)

-- nor do words with a number of rows beside a file to load or a greatest identifier
pub crowded_say_nothing : (words : List (List ℕ)) (m : ArgMatches) (load text counted : Option (List ℕ)) (count : Option ℕ) → rows_of (found_of m) ≡ matches_of program words
    → load ≡ first_value (found_of m) (codes "load") → text ≡ first_value (found_of m) (codes "max-ids") → counted ≡ first_value (found_of m) (codes "generate")
    → IsCount counted count → (IsAlone count load text → ⊥) → (asked : Asked) → Says words asked → ⊥
crowded_say_nothing words m load text counted count rows load_is text_is counted_is counts crowded asked says =
    crowded (λ some. let alone = says.alone (subst IsSome count_is some) in (given (codes "load") load_is ∙ alone.0, given (codes "max-ids") text_is ∙ alone.1))
  where
    given : (name : List ℕ) {value : Option (List ℕ)} → value ≡ first_value (found_of m) name → value ≡ value_of name says.given
    given name is = is ∙ value_is words m asked says name rows

    count_is : count ≡ asked.generate
    count_is = one_count (value_of (codes "generate") says.given) count asked.generate (subst (λ t. IsCount t count) (given (codes "generate") counted_is) counts) says.generate

-- WHAT THE WORDS SAY, by what clap finds in them
pub words_say : (words : List (String Global)) (m : ArgMatches) (load dump text counted : Option (List ℕ)) (n : ℕ) (count : Option ℕ)
    → All (λ (word : String Global). IsFair (string_bytes word)) words
    → fault_of program (map string_bytes words) ≡ [] → rows_of (found_of m) ≡ matches_of program (map string_bytes words)
    → load ≡ first_value (found_of m) (codes "load") → dump ≡ first_value (found_of m) (codes "dump") → text ≡ first_value (found_of m) (codes "max-ids")
    → counted ≡ first_value (found_of m) (codes "generate") → IsLimit text n → IsCount counted count → IsAlone count load text
    → Says (map string_bytes words) (record { load = load; dump = dump; max_id = n; generate = count })
words_say words m load dump text counted n count fair none rows load_is dump_is text_is counted_is limit counts alone =
    let spelled = are_spelled (map string_bytes words) (fair_words words fair) none in
    let found : (name : List ℕ) → first_value (found_of m) name ≡ value_of name spelled.0 = λ name. first_value-rows (found_of m) name ∙ ap (first_of name) rows ∙ spelled.3 name in
    record {
      given = spelled.0;
      spelled = spelled.1;
      once = spelled.2;
      load = load_is ∙ found (codes "load");
      dump = dump_is ∙ found (codes "dump");
      limit = subst (λ t. IsLimit t n) (text_is ∙ found (codes "max-ids")) limit;
      generate = subst (λ t. IsCount t count) (counted_is ∙ found (codes "generate")) counts;
      alone = λ some. (sym (load_is ∙ found (codes "load")) ∙ (alone some).0, sym (text_is ∙ found (codes "max-ids")) ∙ (alone some).1);
    }
