-- How a run ends that carries out the generated script.
use Rattle.std.specs.Prelude.{Option}
use Rattle.std.specs.Io.KnownBytes.{Appends}
use Rattle.std.proofs.Common.{◌≡◌, ℕ, List, take, sym, ap, subst, ◌∙◌, refl, inl, inr}
use Rattle.outside.specs.Causes.{Rose}
use Rattle.watch_laws.specs.SessionLawsSessions.{HasCounts}
use Rattle.generated_run.specs.Standing.{Standing}
use Rattle.watch_laws.specs.ScriptLawsKept.{ScriptsKeepCounts}
use Rattle.script_generator.specs.Generated.{generated_script}
use Rattle.script_generator.specs.Summary.{summary_lines}
use Rattle.generated_run.specs.Summed.{generated_end, generated_summary}
use Rattle.inverda_run.specs.Starts.{Told}
use Rattle.inverda_run.specs.Calls.{EndsGenerated, Finishes}
use Rattle.inverda_run.specs.declared.end.End.{End}
use Rattle.inverda_run.specs.declared.end.End.TheVariants as end

module _ (from : Standing) (n : ℕ) (dump : Option (List ℕ)) (told : Told) (held between held' : Option (List ℕ)) (put was put' filed filed' : ℕ) (text : List ℕ) (text_is : text ≡ summary_lines (generated_summary from n)) where
  -- all of the summary was put
  pub summary_put : (to : Standing) → to ≡ generated_end from n → to.sessions.laid.database.limit ≡ from.sessions.laid.database.limit → was ≡ put → Appends held between text
      → (e : End) → Finishes to dump told between held' was put' filed filed' e → EndsGenerated from n dump told held held' put put' filed filed' e
  summary_put to to_is limit put_is puts e finishes = inr (inr (
    between,
    subst (Appends held between) text_is puts,
    ap (λ (s : Standing). s.sessions.laid.database.limit) (sym to_is) ∙ limit,
    subst (λ (s : Standing). Finishes s dump told between held' put put' filed filed' e) to_is
        (subst (λ (k : ℕ). Finishes to dump told between held' k put' filed filed' e) put_is finishes),
  ))

  -- a front of it was put
  pub front_put : Rose put put' → (k : ℕ) × Appends held held' (take k text) → EndsGenerated from n dump told held held' put put' filed filed end.Unwritten
  front_put rose front = inr (inl (refl, rose, (front.0, subst (λ (t : List ℕ). Appends held held' (take front.0 t)) text_is front.1), refl))

-- what is counted behind a generated script
pub generated_counts : ScriptsKeepCounts → (from to : Standing) (n : ℕ) → to ≡ generated_end from n → HasCounts from.sessions → HasCounts to.sessions
generated_counts law from to n to_is has = subst (λ (s : Standing). HasCounts s.sessions) (sym to_is) (law from (generated_script n) has)
