use Rattle.std.proofs.Common.{◌∙◌, [], filter, subst}
use Rattle.id_memory.specs.Pairs.{Pairs}
use Rattle.pair_rows.specs.Shown.{all_pairs}
use Rattle.outer_entries.specs.inner.Calls.{is_full_pair, is_new_full}
use Rattle.outer_entries.specs.inner.Finding.{pairs_in, AddsPairs}
use Rattle.outer_entries.proofs.FindingLemmas.{finds_all, has_more}
use Rattle.outer_entries.proofs.finding.found_in.Goals as goal

pub returns : goal.returns
returns g c =
    let it = c.args.it.now in
    let kept = filter (is_full_pair it) (pairs_in it.memory.now.entries) in
    let more = filter (is_new_full it) (all_pairs it.new_s.now.rows it.new_t.now.rows) in
    let first = c.none_found-found.result in
    let second = c.add_kept.new.found in
    let adds = subst (λ (es : Pairs). AddsPairs first (filter (is_full_pair it) (pairs_in es)) second) (c.as_slice.ensures ∙ c.in_ok-entries.ensures.all) c.in_ok-add_kept.ensures in
    finds_all it c.add_new.new.found (has_more second c.add_new.new.found kept more (has_more first second [] kept c.none_found-found.ensures adds) c.in_ok-add_new.ensures)
