use Rattle.std.specs.Prelude.{IfOk}
use Rattle.std.proofs.Common.{ℕ, true, false, Option, Some, refl, subst}
use Rattle.op_law.specs.Meaning.{flip}
use Rattle.row_changes.specs.Changed.{TableChanges}
use Rattle.op_cond_join.specs.Joinings.{joining}
use Rattle.op_cond_join.specs.JoinOn.{join_on}
use Rattle.cond_closing.specs.Keyed.{AreKeysOf}
use Rattle.cond_closing.specs.declared.by_keys.ByKeys.{ByKeys}
use Rattle.op_seeks.specs.Places.{condition_place}
use Rattle.op_seeks.specs.Seeking.{ApartOver, FootprintOf}
use Rattle.op_seeks.specs.declared.known.Known.TheVariants.{Entries}
use Rattle.op_seeks.proofs.ConditionLemmas.{flipped_apart, flipped_foot, keyed, shown_apart, shown_foot}
use Rattle.op_seeks.proofs.condition.shown_by.Goals as goal

pub returns-clause-foot : goal.returns-clause-foot
returns-clause-foot g c =
    let j = joining c.args.join.now in
    let it = c.args.it.now in
    let near = c.args.near.now.tables in
    let ids = c.in_ok-ids.ids in
    let k : ByKeys = record { join = c.args.join; x = c.in-Some.x; y = c.in-Some.y; first = it.first; second = it.second } in
    subst (λ (o : Option (ℕ × ℕ)). FootprintOf (join_on j) (condition_place false o) false (Entries it) near ids) c.in-Some.ensures.value
    (shown_foot j (AreKeysOf k) (Some (k.x, k.y)) it (keyed k it refl refl) near ids c.in_ok-ids.ensures.foot)

pub returns-clause-flipped : goal.returns-clause-flipped
returns-clause-flipped g c =
    let j = joining c.args.join.now in
    let it = c.args.it.now in
    let near = c.args.near.now.tables in
    let ids = c.in_ok-ids.ids in
    let k : ByKeys = record { join = c.args.join; x = c.in-Some.x; y = c.in-Some.y; first = it.first; second = it.second } in
    subst (λ (o : Option (ℕ × ℕ)). FootprintOf (flip (join_on j)) (condition_place true o) true (Entries it) near ids) c.in-Some.ensures.value
    (flipped_foot j (AreKeysOf k) (Some (k.x, k.y)) it (keyed k it refl refl) near ids c.in_ok-ids.ensures.foot)

pub returns-clause-apart : goal.returns-clause-apart
returns-clause-apart g c =
    let j = joining c.args.join.now in
    let it = c.args.it.now in
    let near = c.args.near.now.tables in
    let ids = c.in_ok-ids.ids in
    let k : ByKeys = record { join = c.args.join; x = c.in-Some.x; y = c.in-Some.y; first = it.first; second = it.second } in
    subst (λ (o : Option (ℕ × ℕ)). (changes : TableChanges) → ApartOver (join_on j) (condition_place false o) false (Entries it) near changes ids) c.in-Some.ensures.value
    (shown_apart j (AreKeysOf k) (Some (k.x, k.y)) it (keyed k it refl refl) near ids c.in_ok-ids.ensures.apart)

pub returns-clause-flipped_apart : goal.returns-clause-flipped_apart
returns-clause-flipped_apart g c =
    let j = joining c.args.join.now in
    let it = c.args.it.now in
    let near = c.args.near.now.tables in
    let ids = c.in_ok-ids.ids in
    let k : ByKeys = record { join = c.args.join; x = c.in-Some.x; y = c.in-Some.y; first = it.first; second = it.second } in
    subst (λ (o : Option (ℕ × ℕ)). (changes : TableChanges) → ApartOver (flip (join_on j)) (condition_place true o) true (Entries it) near changes ids) c.in-Some.ensures.value
    (flipped_apart j (AreKeysOf k) (Some (k.x, k.y)) it (keyed k it refl refl) near ids c.in_ok-ids.ensures.apart)

pub returns-in_default-clause-apart : goal.returns-in_default-clause-apart
returns-in_default-clause-apart g c =
    let j = joining c.args.join.now in
    let it = c.args.it.now in
    let near = c.args.near.now.tables in
    subst (λ (o : Option (ℕ × ℕ)). IfOk c.shown_by_rows.result (λ ids. (changes : TableChanges) → ApartOver (join_on j) (condition_place false o) false (Entries it) near changes ids)) c.in_default.ensures.value
    c.shown_by_rows.ensures.apart

pub returns-in_default-clause-flipped_apart : goal.returns-in_default-clause-flipped_apart
returns-in_default-clause-flipped_apart g c =
    let j = joining c.args.join.now in
    let it = c.args.it.now in
    let near = c.args.near.now.tables in
    subst (λ (o : Option (ℕ × ℕ)). IfOk c.shown_by_rows.result (λ ids. (changes : TableChanges) → ApartOver (flip (join_on j)) (condition_place true o) true (Entries it) near changes ids)) c.in_default.ensures.value
    c.shown_by_rows.ensures.flipped_apart
