use Rattle.std.proofs.Common.{rules}
use Rattle.ordered_pages.proofs.EditLemmas.{pushed}
use Rattle.ordered_pages.proofs.pages.Pages.push.Goals as goal

pub returns-clause-entries : goal.returns-clause-entries
returns-clause-entries g c =
    pushed g.E.Entry.order g.met.E.Entry.total c.args.self.now.entries _ c.args.entry (search rules) (search rules) c.requires.behind (search rules)
