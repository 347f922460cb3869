-- Calls by what isn't known of an operator promise nothing.
use Rattle.std.specs.Prelude.{IfOk, Result, Ok, Err}
use Rattle.std.proofs.Common.{◌≡◌, ℕ, List, Bool, Option, sym, subst}
use Rattle.op_law.specs.Meaning.{Meaning, PairState}
use Rattle.row_changes.specs.Changed.{TableChanges}
use Rattle.fk_closing.specs.Keys.{KeyRows}
use Rattle.op_seeks.specs.Places.{AreKnown, condition_place, key_place}
use Rattle.op_seeks.specs.Seeking.{ApartOver}
use Rattle.op_seeks.specs.declared.known.CondKeys.{CondKeys}
use Rattle.op_seeks.specs.declared.known.Known.{Known}
use Rattle.op_seeks.specs.declared.known.Known.TheVariants.{Keys, Entries}
use Rattle.op_seeks.specs.declared.place.SeekPlace.{SeekPlace}

-- this is known of no pair
abbrev pub Never : Option SeekPlace → Known → Type 0
Never place known = (p : PairState) → AreKnown place p known → ⊥

pub no_keys : (t : Bool) (o : Option (ℕ × ℕ)) (keys : KeyRows) → Never (condition_place t o) (Keys keys)
no_keys t o keys p are = are

pub no_entries : (t : Bool) (place : ℕ) (it : CondKeys) → Never (key_place t place) (Entries it)
no_entries t place it p are = are

-- whatever S and T change by
pub at_changes : {E : Type 0} (r : Result (List ℕ) E) (m : Meaning) (place : Option SeekPlace) (way backward : Bool) (known : Known) (near changes : TableChanges) → backward ≡ way
    → IfOk r (λ ids. (cs : TableChanges) → ApartOver m place way known near cs ids) → IfOk r (ApartOver m place backward known near changes)
at_changes (Ok ids) m place way backward known near changes is apart = subst (λ (b : Bool). ApartOver m place b known near changes ids) (sym is) (apart changes)
at_changes (Err e) m place way backward known near changes is apart = tt
