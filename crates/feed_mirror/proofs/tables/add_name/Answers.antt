use Rattle.std.proofs.Common.{List, sym, subst}
use Rattle.feed_mirror.specs.declared.tables.Shown.{Shown}
use Rattle.feed_mirror.specs.Tables.{named}
use Rattle.feed_mirror.specs.Padded.{IsPlace}
use Rattle.feed_mirror.proofs.PadLemmas.{name_there}
use Rattle.feed_mirror.proofs.RoomLemmas.{place_has}
use Rattle.feed_mirror.proofs.tables.add_name.Goals as goal

pub returns-in-Some-clause-ok : goal.returns-in-Some-clause-ok
returns-in-Some-clause-ok c =
    let ts = c.args.tables.now.items in
    let is : IsPlace c.args.name.now ts c.in-Some.field-0 = subst (λ (us : List Shown). IsPlace c.args.name.now us c.in-Some.field-0) c.as_slice.ensures.value c.in-Some.ensures in
    sym (name_there c.args.name.now (named ts) (place_has c.args.name.now ts c.in-Some.field-0 is))
