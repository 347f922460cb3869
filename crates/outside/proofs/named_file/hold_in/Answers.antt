use Rattle.std.proofs.Common.{◌∙◌, sym}
use Rattle.outside.proofs.NamedFiles.{set_found, set_other}
use Rattle.outside.proofs.named_file.hold_in.Goals as goal

pub returns-in-Some-clause-held : goal.returns-in-Some-clause-held
returns-in-Some-clause-held c =
    λ done. set_found c.args.files.now c.args.name.now c.in-Some.at c.index-files-at.result c.hold.new.self (sym c.place_of.ensures ∙ c.in-Some.is) c.hold.ensures.name
    ∙ c.hold.ensures.held done

pub returns-in-Some-clause-others : goal.returns-in-Some-clause-others
returns-in-Some-clause-others c =
    λ file ne. set_other c.args.files.now c.args.name.now file c.in-Some.at c.index-files-at.result c.hold.new.self (sym c.place_of.ensures ∙ c.in-Some.is) c.hold.ensures.name ne
