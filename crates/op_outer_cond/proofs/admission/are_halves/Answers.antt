use Rattle.std.proofs.Common.{sym, ◌∙◌, subst}
use Rattle.std.proofs.lemmas.Bool.{false≢true}
use Rattle.id_memory.specs.Pairs.{Pairs}
use Rattle.pair_rows.specs.Halves.{pick_of}
use Rattle.op_outer_cond.specs.inner.Admitted.{other_of, AreOnce}
use Rattle.op_outer_cond.proofs.AdmissionLemmas.{once_alone, alone_once}
use Rattle.op_outer_cond.proofs.admission.are_halves.Goals as goal

pub returns-then-not-are_once : goal.returns-then-not-are_once
returns-then-not-are_once c =
    let pick = pick_of c.args.half in
    let other = other_of c.args.half in
    let m = c.args.memory.now.entries in (
      λ f. absurd (false≢true f),
      λ halves.
          let once = subst (λ (es : Pairs). AreOnce pick other m es) (sym c.requires) (alone_once pick other m halves.alone) in
          absurd (false≢true (sym c.if-not-are_once.true ∙ c.are_once.ensures.1 once)),
    )

pub returns : goal.returns
returns c =
    let pick = pick_of c.args.half in
    let other = other_of c.args.half in
    let m = c.args.memory.now.entries in
    let once = subst (λ (es : Pairs). AreOnce pick other m es) c.requires (c.are_once.ensures.0 c.if-not-are_once.false) in (
      λ yes. record {
        rise = c.is_from_one.ensures.0 c.if-not-is_from_one.false;
        each = c.in_ok-each.ensures.0 yes;
        alone = λ id some. once_alone pick other m m id once some;
      },
      λ halves. c.in_ok-each.ensures.1 halves.each,
    )
