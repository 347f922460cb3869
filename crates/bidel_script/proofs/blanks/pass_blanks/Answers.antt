use Rattle.std.proofs.Common.{◌∙◌, ◌≡◌, ◌+◌, Bool, sym, ap, drop, length, get_or, true, false, arith}
use Rattle.bidel_lex.specs.Classes.{is_space}
use Rattle.bidel_script.specs.Tails.{first_byte, begins_comment, is_open_behind}
use Rattle.bidel_script.proofs.BlankLemmas.{bytes_at, inside_goes, inside_opens_on, comment_goes, comment_opens, space_goes, space_opens, byte_stops, byte_shuts, end_stops, end_opens}
use Rattle.bidel_script.proofs.blanks.pass_blanks.Goals as goal
use Rattle.bidel_script.proofs.blanks.pass_blanks.Goals.{then-open, else-open+then-is_comment_next, else-open+else-is_comment_next+else-not-is_space_byte}

pub returns-then-not-is_space_byte-clause-upto : goal.returns-then-not-is_space_byte-clause-upto
returns-then-not-is_space_byte-clause-upto c =
    let bytes = c.args.bytes.now in
    let at = c.loop-at.at in
    let comment : begins_comment (get_or bytes at 0) (drop (at + 1) bytes) ≡ false = sym (c.is_comment_next.ensures (get_or bytes at 0) (drop (at + 1) bytes) (bytes_at bytes at c.loop-at-test.true)) ∙ c.if-is_comment_next.false in
    let space : is_space (get_or bytes at 0) ≡ false = sym c.is_space_byte.ensures ∙ c.if-not-is_space_byte.true in
    sym (byte_stops bytes at c.loop-at-test.true comment space) ∙ ap (λ (b : Bool). first_byte b at (drop at bytes)) (sym c.if-open.false) ∙ c.loop-at.invariant.first

pub returns-then-not-is_space_byte-clause-inside : goal.returns-then-not-is_space_byte-clause-inside
returns-then-not-is_space_byte-clause-inside c =
    let bytes = c.args.bytes.now in
    let at = c.loop-at.at in
    let comment : begins_comment (get_or bytes at 0) (drop (at + 1) bytes) ≡ false = sym (c.is_comment_next.ensures (get_or bytes at 0) (drop (at + 1) bytes) (bytes_at bytes at c.loop-at-test.true)) ∙ c.if-is_comment_next.false in
    let space : is_space (get_or bytes at 0) ≡ false = sym c.is_space_byte.ensures ∙ c.if-not-is_space_byte.true in
    sym (byte_shuts bytes at c.loop-at-test.true comment space) ∙ ap (λ (b : Bool). is_open_behind b (drop at bytes)) (sym c.if-open.false) ∙ c.loop-at.invariant.opens

pub loop-at-preserved : goal.loop-at-preserved
loop-at-preserved c =
    let bytes = c.args.bytes.now in
    let at = c.loop-at.at in
    elim c.if-open.branch [
      | then-open w ↦ record {
        first = rw w.open-is (sym (inside_goes bytes at c.loop-at-test.true) ∙ ap (λ (b : Bool). first_byte b at (drop at bytes)) (sym w.if-open.true) ∙ c.loop-at.invariant.first);
        opens = rw w.open-is (sym (inside_opens_on bytes at c.loop-at-test.true) ∙ ap (λ (b : Bool). is_open_behind b (drop at bytes)) (sym w.if-open.true) ∙ c.loop-at.invariant.opens);
      }
      | else-open+then-is_comment_next w ↦
          let comment : begins_comment (get_or bytes at 0) (drop (at + 1) bytes) ≡ true = sym (w.is_comment_next.ensures (get_or bytes at 0) (drop (at + 1) bytes) (bytes_at bytes at c.loop-at-test.true)) ∙ w.if-is_comment_next.true in
          record {
            first = rw w.open-is (sym (comment_goes bytes at c.loop-at-test.true comment) ∙ ap (λ (b : Bool). first_byte b at (drop at bytes)) (sym w.if-open.false) ∙ c.loop-at.invariant.first);
            opens = rw w.open-is (sym (comment_opens bytes at c.loop-at-test.true comment) ∙ ap (λ (b : Bool). is_open_behind b (drop at bytes)) (sym w.if-open.false) ∙ c.loop-at.invariant.opens);
          }
      | else-open+else-is_comment_next+else-not-is_space_byte w ↦
          let comment : begins_comment (get_or bytes at 0) (drop (at + 1) bytes) ≡ false = sym (w.is_comment_next.ensures (get_or bytes at 0) (drop (at + 1) bytes) (bytes_at bytes at c.loop-at-test.true)) ∙ w.if-is_comment_next.false in
          let space : is_space (get_or bytes at 0) ≡ true = sym w.is_space_byte.ensures ∙ w.if-not-is_space_byte.false in
          record {
            first = rw w.open-is (ap (λ (b : Bool). first_byte b (at + 1) (drop (at + 1) bytes)) w.if-open.false
                ∙ sym (space_goes bytes at c.loop-at-test.true comment space) ∙ ap (λ (b : Bool). first_byte b at (drop at bytes)) (sym w.if-open.false) ∙ c.loop-at.invariant.first);
            opens = rw w.open-is (ap (λ (b : Bool). is_open_behind b (drop (at + 1) bytes)) w.if-open.false
                ∙ sym (space_opens bytes at c.loop-at-test.true comment space) ∙ ap (λ (b : Bool). is_open_behind b (drop at bytes)) (sym w.if-open.false) ∙ c.loop-at.invariant.opens);
          }
    ]

pub returns-clause-upto : goal.returns-clause-upto
returns-clause-upto c = let past : length c.args.bytes.now ≡ c.loop-at.at = omega (arith, c.loop-at-test.false, c.loop-at.auto.at) in past ∙ sym (end_stops c.loop-at.open c.args.bytes.now c.loop-at.at (omega (arith, past))) ∙ c.loop-at.invariant.first

pub returns-clause-inside : goal.returns-clause-inside
returns-clause-inside c = let past : length c.args.bytes.now ≡ c.loop-at.at = omega (arith, c.loop-at-test.false, c.loop-at.auto.at) in sym (end_opens c.loop-at.open c.args.bytes.now c.loop-at.at (omega (arith, past))) ∙ c.loop-at.invariant.opens
