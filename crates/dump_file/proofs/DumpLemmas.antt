-- A database stands for its own dump.
use Rattle.std.proofs.Common.{◌≡◌, [], false, ap, ◌∙◌, sym}
use Rattle.version_graph.specs.Forest.{Link, crossing, forest}
use Rattle.version_graph.proofs.SetLaws.{each_at, each_of}
use Rattle.id_memory.specs.States.{MemoryState}
use Rattle.op_any.specs.Operators.{AnyView, any_meaning}
use Rattle.layout_rules.proofs.ChangeLaws.{number_lives}
use Rattle.version_model.specs.Kept.{pairs_at}
use Rattle.version_model.specs.States.{headings}
use Rattle.version_model.specs.Steps.{IsRelated}
use Rattle.version_model.specs.declared.numbered.Numbered.{Numbered}
use Rattle.db_state.specs.Fields.{state_for}
use Rattle.dump_values.specs.Laws.{DumpsReadBack}
use Rattle.dump_file.specs.Laws.{DumpStands, OthersForget}
use Rattle.dump_file.specs.Told.{dump_told, remembers}
use Rattle.dump_file.proofs.StateLemmas.{memory_lives, memory_there}
use Rattle.dump_file.proofs.MemoryLemmas.{link_unkept, no_pairs}

-- what isn't on a condition remembers nothing
pub others_forget : OthersForget
others_forget p is built =
    each_of (λ (i : Numbered MemoryState). remembers p.graph.edges i.number ≡ false → i.value.entries ≡ []) p.memories (λ i at out.
    let es = p.graph.edges in
    let l = number_lives es i.number (memory_lives p is i at) in
    let pair = each_at (λ (f : Link AnyView). IsRelated any_meaning (headings es) (state_for any_meaning p) (crossing false f)) (forest es) l.0 l.1 is.sound.related in
    let plain = link_unkept p.ids.next es is.graph.edges built l.0 l.1 (ap (remembers es) (sym l.2) ∙ out) in
    sym (memory_there p is i at) ∙ ap (pairs_at p.memories) l.2 ∙ no_pairs l.0.operator.operator plain _ _ _ pair.related)

pub dump_stands : DumpsReadBack → DumpStands
dump_stands back p is = record {
  told = back (dump_told p) is.fits;
  texts = is.texts;
  names = is.names;
  others = others_forget p is.database is.texts.1;
  database = is.database;
}
