use Rattle.std.proofs.Common.{◌∙◌, sym, ap}
use Rattle.outside.specs.InMemory.{FileState}
use Rattle.outside.proofs.NamedFiles.{absent, found}
use Rattle.outside.proofs.named_file.find.Goals as goal

pub returns-in_err-at : goal.returns-in_err-at
returns-in_err-at c = rw c.from_residual.ensures (absent c.args.files.now c.args.name.now (sym c.place_of.ensures ∙ c.in_err-at.was))

pub returns : goal.returns
returns c =
    found c.args.files.now c.args.name.now c.in_ok-at.at c.index-files-at.result (sym c.place_of.ensures ∙ c.in_ok-at.was)
    ∙ sym (ap (λ (f : FileState). f.bytes) c.index-files-at.is)
