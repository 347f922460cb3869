use Rattle.std.proofs.Common.{ℕ, List, ap, sym, ◌∙◌, arith}
use Rattle.std.proofs.lemmas.List.{take_all}
use Rattle.op_law.specs.Identifiers.{has_id}
use Rattle.pair_parts.specs.Parts.{memory_only}
use Rattle.pair_parts.proofs.CopyLemmas.{part_none}
use Rattle.pair_parts.proofs.memory.memory_part.Goals as goal

pub loop-at-init : goal.loop-at-init
loop-at-init c = c.new-made.ensures ∙ sym (part_none c.args.memory.now.entries)

pub returns : goal.returns
returns c =
    let ids = c.args.ids.now in
    c.loop-at.invariant ∙ ap (λ (xs : List ℕ). memory_only (has_id xs) c.args.memory.now.entries) (take_all c.loop-at.at ids (omega (arith, c.loop-at-test.false)))
