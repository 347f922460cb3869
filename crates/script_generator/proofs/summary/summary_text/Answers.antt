use Rattle.std.proofs.Common.{◌∙◌, string_bytes}
use Rattle.std.specs.Prelude.{codes}
use Rattle.script_generator.specs.Summary.{counted}
use Rattle.script_generator.proofs.SummaryLemmas.{seven}
use Rattle.script_generator.proofs.summary.summary_text.Goals as goal

pub returns : goal.returns
returns c =
    let s = c.args.summary.now in
    c.from_string.ensures ∙ seven
    (counted (codes "statements ") s.statements) (counted (codes "refused ") s.refused) (counted (codes "tasky.task ") s.tasks)
    (counted (codes "do!.todo ") s.todos) (counted (codes "tasky2.task ") s.new_tasks) (counted (codes "tasky2.author ") s.authors)
    (counted (codes "next #") s.next)
    (string_bytes c.new-made.result) (string_bytes c.push_counted.new.made) (string_bytes c.push_counted-2.new.made)
    (string_bytes c.push_counted-3.new.made) (string_bytes c.push_counted-4.new.made) (string_bytes c.push_counted-5.new.made)
    (string_bytes c.push_counted-6.new.made) (string_bytes c.push_counted-7.new.made)
    c.new-made.ensures.bytes c.in_ok-push_counted.ensures c.in_ok-push_counted-2.ensures c.in_ok-push_counted-3.ensures
    c.in_ok-push_counted-4.ensures c.in_ok-push_counted-5.ensures c.in_ok-push_counted-6.ensures c.in_ok-push_counted-7.ensures
