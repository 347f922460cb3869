use Rattle.std.proofs.Common.{◌∙◌, ℕ, sym, ap, inl, inr}
use Rattle.bidel_script.specs.Tails.{earlier, is_over}
use Rattle.bidel_script.specs.Lengths.{part}
use Rattle.bidel_script.proofs.TokenLaws.{fault_within}
use Rattle.bidel_script.proofs.LengthLemmas.{none_true, fault_token, fault_short}
use Rattle.bidel_script.proofs.front.stop_at.Goals as goal

pub is_long_fault-requires-clause-start : goal.is_long_fault-requires-clause-start
is_long_fault-requires-clause-start c = fault_within c.args.bytes.now c.args.tokens.now (is_over c.args.tail.last) c.args.at c.requires.tokens c.requires.fault

pub returns-then-is_long_fault : goal.returns-then-is_long_fault
returns-then-is_long_fault c =
    let f = c.requires.fault in
    let within = fault_token c.args.bytes.now c.args.tokens.now (is_over c.args.tail.last) c.args.at f in
    part f.token within (none_true c.args.bytes.now c.args.tokens.now (is_over c.args.tail.last) c.args.at c.requires.none f) f.first
    (sym (c.is_long_fault.ensures f.token within f.place) ∙ c.if-is_long_fault.true)

pub returns-else-is_long_fault : goal.returns-else-is_long_fault
returns-else-is_long_fault c =
    let f = c.requires.fault in
    let within = fault_token c.args.bytes.now c.args.tokens.now (is_over c.args.tail.last) c.args.at f in
    record {
      none = c.requires.none;
      short = fault_short c.args.bytes.now c.args.tail c.args.tokens.now f.token within (none_true c.args.bytes.now c.args.tokens.now (is_over c.args.tail.last) c.args.at c.requires.none f) f.first
          (sym (c.is_long_fault.ensures f.token within f.place) ∙ c.if-is_long_fault.false);
      token = f.token;
      within = within;
      first = f.first;
      seen = elim f.within [ inl lt ↦ inl lt | inr k ↦ inr (k.0, inl k.2) ];
      place = c.first_place.ensures ∙ ap (λ (n : ℕ). earlier n c.args.tail.last) f.place;
    }
