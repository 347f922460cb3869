-- Each statement of the script is as if it had been parsed.
use Rattle.std.proofs.Common.{◌≡◌, ◌<◌, ◌+◌, ◌^◌, ℕ, List, [], ◌∷◌, ◌++◌, sym, subst, get_or, arith}
use Rattle.std.specs.Prelude.{Option, Some, None, IfSome, map, option_map, slice_get, codes}
use Rattle.std.specs.List.{All, filter}
use Rattle.std.proofs.lemmas.List.Elements.{All-nil, All-cons, All-append, All-map, All-filter}
use Rattle.std.proofs.lemmas.List.FromFn.{length-range_with_len, get_or-range_with_len}
use Rattle.std.proofs.lemmas.Option.{slice_get_within, get_or_from_slice_get}
use Rattle.expr_lang.specs.Operations.{text_limit}
use Rattle.bidel_parser.specs.Statements.{IsStatement}
use Rattle.statements.specs.declared.statement.Statement.{Statement}
use Rattle.statements.specs.Views.{StatementView, statement_view}
use Rattle.statements.specs.Texts.{TextsWithin}
use Rattle.script_generator.specs.Generated.{below, is_fourth, create_tasky, insert_task, create_do, create_tasky2, materialize, evolution, insert_todo, delete_tasks, rename_authors, ending, generated_script, generated_statement}
use Rattle.script_generator.specs.Laws.{IsLikeParsed, AreLikeParsed}
use Rattle.script_generator.proofs.ShortLemmas.{task_short, todo_short, tasky_short, do_short, tasky2_short, delete_short, rename_short}
use Rattle.script_generator.proofs.PhraseLemmas.{Spelled}
use Rattle.script_generator.proofs.FrontLemmas.{whole_front}
use Rattle.script_generator.proofs.OperatorLemmas.{tasky_name, do_name, tasky2_name}
use Rattle.script_generator.proofs.StatementLemmas.{tasky_spelled, do_spelled, tasky2_spelled, task_spelled, todo_spelled, materialize_spelled, delete_spelled, rename_authors_spelled}

both : (s : StatementView) → TextsWithin text_limit s → Spelled IsStatement s → IsLikeParsed s
both s h k = record { short = h; spelled = (k.tokens, whole_front k.tokens s k.spelled) }

moved : (version : List ℕ) → Spelled IsStatement (materialize version) → IsLikeParsed (materialize version)
moved version k = both (materialize version) tt k

-- the numbers below n are below it
all_below : (n : ℕ) → All (λ (i : ℕ). i < n) (below n)
all_below n k d h =
    let lt : k < n = omega (arith, h, length-range_with_len 0 n) in
    let is : get_or (below n) k d ≡ 0 + k = get_or-range_with_len 0 n k d lt in
    omega (arith, is, lt)

abbrev to_tasky2 : StatementView
to_tasky2 = materialize (codes "tasky2")

abbrev to_do : StatementView
to_do = materialize (codes "do!")

abbrev to_tasky : StatementView
to_tasky = materialize (codes "tasky")

module _ (n : ℕ) (h : n < 2 ^ 32) where
  abbrev tasks : List StatementView
  tasks = map insert_task (below n)

  abbrev todos : List StatementView
  todos = map insert_todo (filter is_fourth (below n))

  task_parsed : (i : ℕ) → i < n → IsLikeParsed (insert_task i)
  task_parsed i lt = both (insert_task i) (task_short i (omega arith)) (task_spelled i (omega arith))

  todo_parsed : (i : ℕ) → i < n → IsLikeParsed (insert_todo i)
  todo_parsed i lt = both (insert_todo i) (todo_short i (omega arith)) (todo_spelled i (omega arith))

  tasks_parsed : All IsLikeParsed (map insert_task (below n))
  tasks_parsed = All-map IsLikeParsed insert_task (below n) (λ k d lt. task_parsed (get_or (below n) k d) (all_below n k d lt))

  fourths_below : All (λ (i : ℕ). i < n) (filter is_fourth (below n))
  fourths_below = All-filter is_fourth (λ (i : ℕ). i < n) (below n) (all_below n)

  todos_parsed : All IsLikeParsed (map insert_todo (filter is_fourth (below n)))
  todos_parsed = All-map IsLikeParsed insert_todo (filter is_fourth (below n)) (λ k d lt. todo_parsed (get_or (filter is_fourth (below n)) k d) (fourths_below k d lt))

  evolution_parsed : All IsLikeParsed evolution
  evolution_parsed =
      All-cons IsLikeParsed create_do (create_tasky2 ∷ to_tasky2 ∷ []) (both create_do do_short do_spelled)
      (All-cons IsLikeParsed create_tasky2 (to_tasky2 ∷ []) (both create_tasky2 tasky2_short tasky2_spelled)
      (All-cons IsLikeParsed to_tasky2 [] (moved (codes "tasky2") (materialize_spelled (codes "tasky2") tasky2_name)) (All-nil IsLikeParsed)))

  ending_parsed : All IsLikeParsed ending
  ending_parsed =
      All-cons IsLikeParsed to_do (delete_tasks ∷ rename_authors ∷ to_tasky ∷ []) (moved (codes "do!") (materialize_spelled (codes "do!") do_name))
      (All-cons IsLikeParsed delete_tasks (rename_authors ∷ to_tasky ∷ []) (both delete_tasks delete_short delete_spelled)
      (All-cons IsLikeParsed rename_authors (to_tasky ∷ []) (both rename_authors rename_short rename_authors_spelled)
      (All-cons IsLikeParsed to_tasky [] (moved (codes "tasky") (materialize_spelled (codes "tasky") tasky_name)) (All-nil IsLikeParsed))))

  parsed : All IsLikeParsed (generated_script n)
  unfolding generated_script
  parsed =
      All-cons IsLikeParsed create_tasky (tasks ++ (evolution ++ (todos ++ ending))) (both create_tasky tasky_short tasky_spelled)
      (All-append IsLikeParsed tasks (evolution ++ (todos ++ ending)) tasks_parsed
      (All-append IsLikeParsed evolution (todos ++ ending) evolution_parsed (All-append IsLikeParsed todos ending todos_parsed ending_parsed)))

pub are_like_parsed : AreLikeParsed
are_like_parsed n h = parsed n h

-- a statement of the script
pub found_parsed : (n k : ℕ) (found : Option Statement) → n < 2 ^ 32 → option_map statement_view found ≡ generated_statement n k → IfSome found (λ s. IsLikeParsed (statement_view s))
found_parsed n k None h is = tt
found_parsed n k (Some s) h is =
    let at : slice_get (generated_script n) k ≡ Some (statement_view s) = sym is in
    subst IsLikeParsed (get_or_from_slice_get (generated_script n) k (statement_view s) (statement_view s) at)
    (parsed n h k (statement_view s) (slice_get_within (generated_script n) k (statement_view s) at))
