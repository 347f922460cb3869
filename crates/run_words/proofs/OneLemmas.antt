-- Words say one thing, since clap finds one value for each name.
use Rattle.std.specs.Prelude.{Option, Some, None}
use Rattle.std.proofs.Common.{◌≡◌, ℕ, List, codes, sym, ap, subst, ◌∙◌}
use Rattle.clap.specs.Walk.{first_of}
use Rattle.run_words.specs.Words.{Asked, IsCount, IsLimit, Says, value_of}
use Rattle.run_words.specs.Laws.{SayOneThing}
use Rattle.run_words.proofs.WordsLemmas.{are_found, value_found}

one_limit : (text : Option (List ℕ)) (n m : ℕ) → IsLimit text n → IsLimit text m → n ≡ m
one_limit None n m first second = first ∙ sym second
one_limit (Some text) n m first second = first.value ∙ sym second.value

pub one_count : (text : Option (List ℕ)) (a b : Option ℕ) → IsCount text a → IsCount text b → a ≡ b
one_count None a b first second = first ∙ sym second
one_count (Some text) None b first second = absurd first
one_count (Some text) (Some n) None first second = absurd second
one_count (Some text) (Some n) (Some m) first second = ap (λ k. Some k) (first.0.value ∙ sym second.0.value)

-- the value of a name
one_value : (words : List (List ℕ)) (a b : Asked) (first : Says words a) (second : Says words b) (name : List ℕ) → value_of name first.given ≡ value_of name second.given
one_value words a b first second name =
    let rows = sym (are_found words first.given first.spelled first.once).1 ∙ (are_found words second.given second.spelled second.once).1 in
    sym (value_found name first.given) ∙ ap (first_of name) rows ∙ value_found name second.given

pub say_one_thing : SayOneThing
say_one_thing words a b first second =
    let load : a.load ≡ b.load = first.load ∙ one_value words a b first second (codes "load") ∙ sym second.load in
    let dump : a.dump ≡ b.dump = first.dump ∙ one_value words a b first second (codes "dump") ∙ sym second.dump in
    let max_id : a.max_id ≡ b.max_id = one_limit (value_of (codes "max-ids") second.given) a.max_id b.max_id
    (subst (λ t. IsLimit t a.max_id) (one_value words a b first second (codes "max-ids")) first.limit) second.limit in
    let generate : a.generate ≡ b.generate = one_count (value_of (codes "generate") second.given) a.generate b.generate
    (subst (λ t. IsCount t a.generate) (one_value words a b first second (codes "generate")) first.generate) second.generate in
    ap {A = Option (List ℕ)} {B = Asked} (λ l. record { load = l; dump = a.dump; max_id = a.max_id; generate = a.generate }) load
    ∙ ap {A = Option (List ℕ)} {B = Asked} (λ d. record { load = b.load; dump = d; max_id = a.max_id; generate = a.generate }) dump
    ∙ ap {A = ℕ} {B = Asked} (λ n. record { load = b.load; dump = b.dump; max_id = n; generate = a.generate }) max_id
    ∙ ap {A = Option ℕ} {B = Asked} (λ c. record { load = b.load; dump = b.dump; max_id = b.max_id; generate = c }) generate
