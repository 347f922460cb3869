use Rattle.std.specs.Prelude.{slice_index_or}
use Rattle.std.proofs.Common.{◌≡◌, ◌+◌, ℕ, take, Option, Some, ap, sym, ◌∙◌, subst}
use Rattle.id_memory.specs.Pairs.{IsWith, Pairs, id_of, pair_of}
use Rattle.op_law.specs.Identifiers.{has_id}
use Rattle.pair_parts.specs.Parts.{memory_only}
use Rattle.pair_parts.proofs.CopyLemmas.{has_next, new_pair, not_before, part_still, part_with}
use Rattle.pair_parts.proofs.MemoryLaws.{memory_out}
use Rattle.pair_parts.proofs.memory.copy_entry.Goals as goal

pub put-requires-clause-new_id : goal.put-requires-clause-new_id
put-requires-clause-new_id c =
    let m = c.args.memory.now.entries in
    let ids = c.args.ids.now in
    let at = c.args.at in
    let id = slice_index_or ids at 0 in
    ap (λ (es : Pairs). pair_of es id) (c.reserve.ensures.same ∙ c.requires.made)
    ∙ memory_out (has_id (take at ids)) m id (not_before 0 ids at 0 c.requires.rise c.requires.at)

pub put-requires-clause-new_pair : goal.put-requires-clause-new_pair
put-requires-clause-new_pair c =
    let m = c.args.memory.now.entries in
    let ids = c.args.ids.now in
    let at = c.args.at in
    let id = slice_index_or ids at 0 in
    let found : pair_of m id ≡ Some (c.in-Some.s, c.in-Some.t) = sym c.get.ensures ∙ c.in-Some.is in
    ap (λ (es : Pairs). id_of es c.in-Some.s c.in-Some.t) (c.reserve.ensures.same ∙ c.requires.made)
    ∙ new_pair c.id_of_is_the_other_way.ensures m c.is_one_to_one.ensures.rise c.is_one_to_one.ensures.one (has_id (take at ids)) id c.in-Some.s c.in-Some.t
    (not_before 0 ids at 0 c.requires.rise c.requires.at) found

pub returns-in_ok-reserve : goal.returns-in_ok-reserve
returns-in_ok-reserve c =
    let m = c.args.memory.now.entries in
    let ids = c.args.ids.now in
    let at = c.args.at in
    let id = slice_index_or ids at 0 in
    let found : pair_of m id ≡ Some (c.in-Some.s, c.in-Some.t) = sym c.get.ensures ∙ c.in-Some.is in
    let was = c.reserve.ensures.same ∙ c.requires.made in
    let with : IsWith (memory_only (has_id (take at ids)) m) id (Some (c.in-Some.s, c.in-Some.t)) c.put.new.self.entries =
    subst (λ (es : Pairs). IsWith es id (Some (c.in-Some.s, c.in-Some.t)) c.put.new.self.entries) was c.put.ensures.with in
    part_with c.pairs_are_the_memory.ensures m c.is_one_to_one.ensures.rise (has_id (take at ids)) (has_id (take (at + 1) ids)) id
    (not_before 0 ids at 0 c.requires.rise c.requires.at) (λ q. has_next ids at 0 q c.requires.at) c.put.new.self.entries
    (subst (λ (o : Option (ℕ × ℕ)). IsWith (memory_only (has_id (take at ids)) m) id o c.put.new.self.entries) (sym found) with)

pub returns-in_default : goal.returns-in_default
returns-in_default c =
    let m = c.args.memory.now.entries in
    let ids = c.args.ids.now in
    let at = c.args.at in
    let id = slice_index_or ids at 0 in
    let out = not_before 0 ids at 0 c.requires.rise c.requires.at in
    c.requires.made
    ∙ part_with c.pairs_are_the_memory.ensures m c.is_one_to_one.ensures.rise (has_id (take at ids)) (has_id (take (at + 1) ids)) id out (λ q. has_next ids at 0 q c.requires.at)
    (memory_only (has_id (take at ids)) m) (part_still m c.is_one_to_one.ensures.rise (has_id (take at ids)) id out (sym c.get.ensures ∙ c.in_default.is))
