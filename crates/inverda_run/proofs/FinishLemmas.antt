-- What dumping leaves.
use Rattle.std.specs.Prelude.{◌≢◌, ◌⊎◌, Bool, true, false, Option, Some, None}
use Rattle.std.specs.Bool.{Decides}
use Rattle.std.specs.Str.{bytes_eq}
use Rattle.std.proofs.Common.{◌≡◌, ℕ, List, codes, refl, sym, ap, subst, ◌∙◌, inl, inr}
use Rattle.std.proofs.lemmas.Bool.{false≢true}
use Rattle.std.proofs.lemmas.Slice.Eq.{bytes_eq-Decides}
use Rattle.outside.specs.Causes.{Rose}
use Rattle.op_any.specs.Operators.{AnyView}
use Rattle.op_any.specs.BuiltOn.{AreBuiltOn}
use Rattle.db_state.specs.declared.parts.Parts.{Parts}
use Rattle.layout_planner.specs.declared.planning.TableCount.{TableCount}
use Rattle.generated_run.specs.EngineCoreKept.{state_of}
use Rattle.generated_run.specs.Standing.{Standing}
use Rattle.generated_run.specs.Begun.{begun_with}
use Rattle.generated_run.specs.SessionsStanding.{Standing as SessionsStanding}
use Rattle.generated_run.specs.EngineCoreTexts.{line}
use Rattle.dump_formats.specs.Formats.{dump_text}
use Rattle.dump_formats.specs.Texts.{AreFromTexts, AreSpelled}
use Rattle.dump_formats.specs.Stands.{IsDumpOf}
use Rattle.dump_formats.specs.declared.loaded.Loaded.{Loaded as Kept}
use Rattle.inverda_run.specs.Starts.{IsDumpText, Told}
use Rattle.inverda_run.specs.Calls.{DumpsTo, EndStays, Finishes, IsLongDump, PutsLast, WritesBut}
use Rattle.inverda_run.specs.declared.end.End.{End}
use Rattle.inverda_run.specs.declared.end.End.TheVariants as end

-- the bytes that are written are the dump of where a run stands that has these sessions
pub is_dumped : (to : Standing) (sessions : SessionsStanding) (kept : Parts AnyView) (found : Parts AnyView) (counts : List TableCount) (pending bytes text : List ℕ) → to.sessions ≡ sessions
    → sessions.laid ≡ state_of kept → found ≡ kept → counts ≡ sessions.counts → pending ≡ sessions.pending → bytes ≡ text
    → text ≡ dump_text (state_of found).database found.layout.operators counts pending
    → (AreFromTexts found.ids.next found.graph.edges → IsDumpOf text (record { database = found; counts = counts; pending = pending }))
    → AreSpelled kept.graph.edges → AreBuiltOn kept.ids.next kept.graph.edges → IsDumpText to bytes
is_dumped to sessions kept found counts pending bytes text there laid same counted left is written stands spelled built =
    let texts : AreFromTexts found.ids.next found.graph.edges = subst (λ (p : Parts AnyView). AreFromTexts p.ids.next p.graph.edges) (sym same) (spelled, built) in
    let here : Kept = record { database = found; counts = counts; pending = pending } in
    let laid_is : to.sessions.laid ≡ state_of found = ap (λ (s : SessionsStanding). s.laid) there ∙ laid ∙ ap state_of (sym same) in
    let counts_are : to.sessions.counts ≡ counts = ap (λ (s : SessionsStanding). s.counts) there ∙ sym counted in
    let pending_is : to.sessions.pending ≡ pending = ap (λ (s : SessionsStanding). s.pending) there ∙ sym left in
    record {
      kept = here;
      state = λ i. begun_with (laid_is i) (counts_are i) (pending_is i);
      written = is ∙ written ∙ (λ i. dump_text (sym laid_is i).database (sym laid_is i).layout (sym counts_are i) (sym pending_is i));
      dump = subst (λ (b : List ℕ). IsDumpOf b here) (sym is) (stands texts);
    }

module _ (to : Standing) (file : Option (Option (List ℕ))) (held held' : Option (List ℕ)) (put put' filed filed' : ℕ) where
  -- it is too long
  pub long_dumped : IsLongDump to → filed' ≡ filed → (e : End) → PutsLast end.LongDump (line (codes "too long")) held held' put put' e → DumpsTo to file held held' put put' filed filed' e
  long_dumped long same e (inl p) = subst (DumpsTo to file held held' put put' filed filed') (sym p.0) (long, p.1, p.2, same)
  long_dumped long same e (inr p) = subst (DumpsTo to file held held' put put' filed filed') (sym p.0) (p.1, inl (long, p.2, same))

  -- the sink failed only where that ends the run
  dump_stays : (e : End) → DumpsTo to file held held' put put' filed filed' e → EndStays put put' e
  dump_stays end.Done h = h.2
  dump_stays end.Memory h = h.1
  dump_stays end.LongDump h = h.2
  dump_stays end.UnwrittenDump h = h.2
  dump_stays end.Unwritten h = tt
  dump_stays end.BadWords h = absurd h
  dump_stays end.Syntax h = absurd h
  dump_stays end.Refused h = absurd h
  dump_stays end.Unread h = absurd h
  dump_stays end.LongScript h = absurd h
  dump_stays end.LongLoad h = absurd h
  dump_stays end.UnreadLoad h = absurd h

pub finish_stays : (to : Standing) (dump : Option (List ℕ)) (told : Told) (held held' : Option (List ℕ)) (put put' filed filed' : ℕ) (e : End)
    → Finishes to dump told held held' put put' filed filed' e → EndStays put put' e
finish_stays to None told held held' put put' filed filed' e f = subst (EndStays put put') (sym f.0) f.2
finish_stays to (Some name) told held held' put put' filed filed' e f = dump_stays to (told name) held held' put put' filed filed' e f

-- ---- files

by_name : (file name : List ℕ) (b : Bool) → Decides b (file ≡ name) → (file ≡ name) ⊎ (file ≢ name)
by_name file name true d = inl (d.0 refl)
by_name file name false d = inr (λ same. false≢true (d.1 same))

-- no other file was written
pub writes_but : (name : List ℕ) (told told' : Told) (filed filed' : ℕ) (e : End) → ((file : List ℕ) → file ≢ name → told' file ≡ told file) → (e ≡ end.Done) ⊎ Rose filed filed'
    → (file : List ℕ) → WritesBut name told told' filed filed' e file
writes_but name told told' filed filed' e others wrote file = elim (by_name file name (bytes_eq file name) (bytes_eq-Decides file name)) [
  | inl same ↦ inr (same, wrote)
  | inr differs ↦ inl (others file differs)
]
