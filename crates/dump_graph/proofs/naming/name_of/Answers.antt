use Rattle.std.proofs.Common.{◌≡◌, ◌∙◌, ap, false, map, sym, true}
use Rattle.par_base.specs.Names.{folded}
use Rattle.version_graph.proofs.NameLaws.{name_is}
use Rattle.dump_graph.proofs.NamingLemmas.{other_is_no_name}
use Rattle.dump_graph.proofs.naming.name_of.Goals as goal

pub returns-else-eq : goal.returns-else-eq
returns-else-eq c =
    let read : c.in-Some.name ≡ map folded c.as_bytes.result.now = rw c.in-Some.is at c.in_ok-name.ensures in
    other_is_no_name c.args.text.now c.as_str.result.now
    (c.as_str.ensures.text ∙ read ∙ ap (map folded) c.as_bytes.ensures.value)
    (λ same. let clash : true ≡ false = sym (name_is c.as_str.result.now c.args.text.now same) ∙ sym c.eq.ensures ∙ c.if-eq.false in cc)
