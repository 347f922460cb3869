use Rattle.std.proofs.Common.{◌≡◌, ℕ, List, Option, ap, sym, ◌∙◌, subst, arith}
use Rattle.id_memory.specs.Pairs.{pair_of}
use Rattle.pair_changes.specs.declared.change.PairChange.{PairChange}
use Rattle.pair_changes.specs.MemoryChanges.{pair_after}
use Rattle.pair_changes.specs.Undo.{PairsLeadBack}
use Rattle.pair_changes.proofs.ChangedLaws.{changed_is}
use Rattle.pair_changes.proofs.DifferLemmas.{rise_of}
use Rattle.pair_changes.proofs.PutLemmas.{after_without, all_out}
use Rattle.pair_changes.proofs.TurnLemmas.{turned_back}
use Rattle.pair_changes.proofs.puts.change_pairs.Goals as goal

pub take_out-requires-clause-old : goal.take_out-requires-clause-old
take_out-requires-clause-old c = c.requires.old.1.difference.fit

pub put_in-requires-clause-can : goal.put_in-requires-clause-can
put_in-requires-clause-can c =
    let before = c.args.memory.now.entries in
    let mid = c.take_out.new.memory.entries in
    let cs = c.args.changes.now in
    let lead = c.requires.old.1 in (
      c.requires.old.0,
      record {
        rises = lead.rises;
        one = lead.one;
        out = all_out 0 before mid cs (rise_of 0 before cs lead.difference.fit) (λ q h. c.take_out.ensures.pairs q);
        pairs = λ q. lead.difference.new q ∙ sym (ap (λ (pair : Option (ℕ × ℕ)). pair_after cs q pair) (c.take_out.ensures.pairs q) ∙ after_without cs q (pair_of before q));
      },
    )

pub put_in-requires-clause-rise : goal.put_in-requires-clause-rise
put_in-requires-clause-rise c = rise_of 0 c.args.memory.now.entries c.args.changes.now c.requires.old.1.difference.fit

pub returns-clause-pairs : goal.returns-clause-pairs
returns-clause-pairs c =
    let before = c.args.memory.now.entries in
    let cs = c.args.changes.now in
    let now = c.put_in.new.memory.entries in
    let pairs : (q : ℕ) → pair_of now q ≡ pair_after cs q (pair_of before q) = λ q. c.put_in.ensures.pairs q ∙ ap (λ (pair : Option (ℕ × ℕ)). pair_after cs q pair) (c.take_out.ensures.pairs q) ∙ after_without cs q (pair_of before q) in
    changed_is c.pairs_are_the_memory.ensures before cs now c.is_one_to_one.ensures.rise (record { rises = c.put_in.ensures.rise; pairs = pairs })

pub returns-clause-back : goal.returns-clause-back
returns-clause-back c =
    let before = c.args.memory.now.entries in
    let cs = c.args.changes.now in
    let now = c.put_in.new.memory.entries in
    let pairs : (q : ℕ) → pair_of now q ≡ pair_after cs q (pair_of before q) = λ q. c.put_in.ensures.pairs q ∙ ap (λ (pair : Option (ℕ × ℕ)). pair_after cs q pair) (c.take_out.ensures.pairs q) ∙ after_without cs q (pair_of before q) in
    subst (λ (l : List PairChange). PairsLeadBack before now c.put_in.new.memory.room l) (sym c.turn_all.ensures)
    (turned_back before now c.args.memory.now.room c.put_in.new.memory.room cs c.is_one_to_one.ensures.rise c.is_one_to_one.ensures.one c.requires.old.1.difference.fit pairs (omega (arith, c.take_out.ensures.room, c.put_in.ensures.room)))
