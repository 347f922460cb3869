use Rattle.std.proofs.Common.{◌∙◌, sym}
use Rattle.outside.proofs.NamedFiles.{absent, set_found, set_other}
use Rattle.outside.proofs.named_file.forget_in.Goals as goal

pub returns-in-Some-clause-gone : goal.returns-in-Some-clause-gone
returns-in-Some-clause-gone c =
    set_found c.args.files.now c.args.name.now c.in-Some.at c.index-files-at.result c.forget.new.self (sym c.place_of.ensures ∙ c.in-Some.is) c.forget.ensures.name
    ∙ c.forget.ensures.bytes

pub returns-in-Some-clause-others : goal.returns-in-Some-clause-others
returns-in-Some-clause-others c =
    λ file ne. set_other c.args.files.now c.args.name.now file c.in-Some.at c.index-files-at.result c.forget.new.self (sym c.place_of.ensures ∙ c.in-Some.is) c.forget.ensures.name ne

pub returns-in_default-clause-gone : goal.returns-in_default-clause-gone
returns-in_default-clause-gone c = absent c.args.files.now c.args.name.now (sym c.place_of.ensures ∙ c.in_default.is)
