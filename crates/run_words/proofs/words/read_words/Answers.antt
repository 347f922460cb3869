use Rattle.std.proofs.Common.{rules, ◌≡◌, map, string_bytes, sym, subst}
use Rattle.std.specs.Prelude.{Err, Some, None, option_map}
use Rattle.run_words.specs.Calls.{Reads}
use Rattle.run_words.specs.inner.Reading.{FindsCount, FindsLimit}
use Rattle.run_words.proofs.ReadLemmas.{answered, countless_say_nothing, crowded_say_nothing, limitless_say_nothing, unfair_say_nothing, words_say}
use Rattle.run_words.proofs.words.read_words.Goals as goal

pub returns-then-not-are_fair : goal.returns-then-not-are_fair
returns-then-not-are_fair c = unfair_say_nothing c.args.words.now (λ fair. search (rules, c.are_fair.ensures.1 fair))

pub returns-in_err-matches : goal.returns-in_err-matches
returns-in_err-matches c =
    let is : c.from_residual.result ≡ Err c.in_err-matches.field-0.0 = search rules in
    subst (Reads (map string_bytes c.args.words.now)) (sym is) (answered (map string_bytes c.args.words.now) c.in_err-matches.field-0.0 c.in_err-matches.ensures)

pub returns-in_default : goal.returns-in_default
returns-in_default c =
    let none : c.limit_in.result ≡ None = search rules in
    limitless_say_nothing (map string_bytes c.args.words.now) c.in_ok-matches.matches (option_map (λ s. s.now) c.get_str-max_ids.result) (search rules) (search rules)
    (subst (FindsLimit (option_map (λ s. s.now) c.get_str-max_ids.result)) none c.limit_in.ensures)

pub returns-in_default-count_in : goal.returns-in_default-count_in
returns-in_default-count_in c =
    let none : c.count_in.result ≡ None = search rules in
    countless_say_nothing (map string_bytes c.args.words.now) c.in_ok-matches.matches (option_map (λ s. s.now) c.get_str-rows.result) (search rules) (search rules)
    (subst (FindsCount (option_map (λ s. s.now) c.get_str-rows.result)) none c.count_in.ensures)

pub returns-then-not-is_alone : goal.returns-then-not-is_alone
returns-then-not-is_alone c =
    let some : c.count_in.result ≡ Some c.in-Some-count_in.generate = search rules in
    crowded_say_nothing (map string_bytes c.args.words.now) c.in_ok-matches.matches (option_map (λ s. s.now) c.get_str-load.result)
    (option_map (λ s. s.now) c.get_str-max_ids.result) (option_map (λ s. s.now) c.get_str-rows.result) c.in-Some-count_in.generate
    (search rules) (search rules) (search rules) (search rules) (subst (FindsCount (option_map (λ s. s.now) c.get_str-rows.result)) some c.count_in.ensures)
    (λ alone. search (rules, c.is_alone.ensures.1 alone))

pub returns : goal.returns
returns c =
    let limit : c.limit_in.result ≡ Some c.in-Some.max_id = search rules in
    let some : c.count_in.result ≡ Some c.in-Some-count_in.generate = search rules in
    words_say c.args.words.now c.in_ok-matches.matches (option_map (λ s. s.now) c.get_str-load.result) (option_map (λ s. s.now) c.get_str-dump.result)
    (option_map (λ s. s.now) c.get_str-max_ids.result) (option_map (λ s. s.now) c.get_str-rows.result) c.in-Some.max_id c.in-Some-count_in.generate
    (search rules) (search rules) (search rules) (search rules) (search rules) (search rules) (search rules)
    (subst (FindsLimit (option_map (λ s. s.now) c.get_str-max_ids.result)) limit c.limit_in.ensures)
    (subst (FindsCount (option_map (λ s. s.now) c.get_str-rows.result)) some c.count_in.ensures)
    (search rules)
