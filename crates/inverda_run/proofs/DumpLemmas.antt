-- Wherever a run stands it has a dump, and a dump stands for one start.
use Rattle.std.specs.Prelude.{Some, None, nat_le, codes}
use Rattle.std.proofs.Common.{◌≡◌, ℕ, List, [], length, Bool, true, false, refl, sym, ap, subst, ◌∙◌, inl, inr}
use Rattle.std.proofs.lemmas.Bool.{leb-false, leb-true}
use Rattle.serde_json.specs.Data.{Data}
use Rattle.serde_json.specs.Read.{read}
use Rattle.generated_run.specs.Standing.{Standing}
use Rattle.generated_run.specs.Begun.{begun_with}
use Rattle.dump_formats.specs.Laws.{DumpsAreOfOneRun}
use Rattle.dump_formats.specs.Stands.{StandsFor}
use Rattle.generated_run.specs.EngineCoreTexts.{line}
use Rattle.generated_run.specs.Statuses.{limit}
use Rattle.inverda_run.specs.Starts.{dump_of}
use Rattle.inverda_run.specs.Decided.{Behind}
use Rattle.inverda_run.specs.Laws.{EachStateHasADump, LoadsTheDumped, OneStart}

-- it is within the limit, or it isn't
pub each_state_has_a_dump : EachStateHasADump
each_state_has_a_dump None to = ([], refl)
each_state_has_a_dump (Some name) to = by (nat_le (length (dump_of to)) limit) refl
  where
    by : (b : Bool) → nat_le (length (dump_of to)) limit ≡ b → (last : List ℕ) × Behind (Some name) to last
    by true e = ([], inl (leb-true (length (dump_of to)) limit e, refl))
    by false e = (line (codes "too long"), inr (leb-false (length (dump_of to)) limit e, refl))

some_same : {A : Type 0} (a b : A) → Some a ≡ Some b → a ≡ b
some_same a b e = cc

pub one_start : DumpsAreOfOneRun → OneStart
one_start one file max_id s t a b =
    let bytes : a.bytes ≡ b.bytes = sym a.holds ∙ b.holds in
    let same_json : a.dump.0 ≡ b.dump.0 = some_same a.dump.0 b.dump.0 (sym a.dump.1.1 ∙ ap read bytes ∙ b.dump.1.1) in
    let same = one a.dump.0 a.kept b.kept a.dump.2 (subst (λ (d : Data). StandsFor d b.kept) (sym same_json) b.dump.2) (a.limit_is ∙ sym b.limit_is) in
    a.state ∙ (λ i. begun_with (record { database = same.model i; layout = same.layout i }) (same.counts i) (same.pending i)) ∙ sym b.state

pub loads_dumped : OneStart → LoadsTheDumped
loads_dumped one s t text dump within loaded =
    one text s.sessions.laid.database.limit t _ loaded
    (record {
      bytes = text;
      within = within;
      holds = refl;
      kept = dump.kept;
      dump = dump.dump;
      limit_is = sym (ap (λ (k : Standing). k.sessions.laid.database.limit) dump.state);
      state = dump.state;
    })
