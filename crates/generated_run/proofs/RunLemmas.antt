-- The statements of the script that were carried out so far.
use Rattle.std.specs.Prelude.{Some, None, Ok, Err, slice_get}
use Rattle.std.proofs.Common.{◌≡◌, ◌+◌, ◌*◌, ◌≤◌, ◌<◌, ◌^◌, ℕ, suc, List, [], ◌∷◌, ◌++◌, true, refl, sym, ap, ◌∙◌, inl, inr, not, map, filter, take, length, arith}
use Rattle.std.proofs.Math.Seq.{take-suc}
use Rattle.std.proofs.lemmas.Option.{get_or_from_slice_get, slice_get_cases, slice_get_within}
use Rattle.std.proofs.lemmas.List.{length-append, length-map, length-take-le, take_all}
use Rattle.std.proofs.lemmas.List.Filters.{length-filter_both}
use Rattle.std.proofs.lemmas.List.FromFn.{length-range_with_len}
use Rattle.par_base.specs.Checked.{Checked}
use Rattle.statements.specs.Views.{StatementView}
use Rattle.op_any.specs.Operators.{AnyView}
use Rattle.db_state.specs.declared.parts.Parts.{Parts}
use Rattle.script_run.specs.Spoken.{TextsCome}
use Rattle.script_run.specs.Answer.{Answer}
use Rattle.script_run.specs.TransactionsStanding.{Standing}
use Rattle.script_run.specs.TransactionsAct.{act}
use Rattle.script_generator.specs.Generated.{below, ending, evolution, generated_script, insert_task, insert_todo, is_fourth}
use Rattle.script_generator.specs.Laws.{IsLikeParsed}
use Rattle.script_run.specs.Kept.{Keeps}
use Rattle.script_run.specs.Replies.{next_state, state_after}
use Rattle.script_run.proofs.SpelledLaws.{stay_spelled}
use Rattle.generated_run.specs.Summed.{refusals, refused_in}
use Rattle.generated_run.specs.Calls.{Tallies}
use Rattle.generated_run.specs.declared.run.Tally.{Tally}

-- one statement more
state_after-more : (s : Standing) (sts : List StatementView) (st : StatementView) → state_after s (sts ++ st ∷ []) ≡ next_state (state_after s sts) (act (state_after s sts) st)
unfolding state_after
state_after-more s [] st = refl
state_after-more s (t ∷ ts) st = state_after-more (next_state s (act s t)) ts st

refused-more : (s : Standing) (sts : List StatementView) (st : StatementView) → refused_in s (sts ++ st ∷ []) ≡ refused_in s sts + refusals (act (state_after s sts) st)
unfolding refused_in state_after
refused-more s [] st = omega arith
refused-more s (t ∷ ts) st = let more = refused-more (next_state s (act s t)) ts st in omega arith

-- no more than there are statements
one_refusal : (m : Checked (Answer × Standing)) → refusals m ≤ 1
one_refusal (Ok a) = omega arith
one_refusal (Err r) = omega arith

pub refused_within : (s : Standing) (sts : List StatementView) → refused_in s sts ≤ length sts
unfolding refused_in
refused_within s [] = omega arith
refused_within s (t ∷ ts) = let one = one_refusal (act s t) in let more = refused_within (next_state s (act s t)) ts in omega arith

taken-more : (script : List StatementView) (k : ℕ) (st : StatementView) → slice_get script k ≡ Some st → take (suc k) script ≡ take k script ++ st ∷ []
taken-more script k st is =
    take-suc script k st (slice_get_within script k st is)
    ∙ ap (λ (x : StatementView). take k script ++ x ∷ []) (get_or_from_slice_get script k st st is)

-- so many first statements brought the state about, of which so many were refused
pub record SoFar (from now : Standing) (script : List StatementView) (tally : Tally) : Type 0 where
  pub within : tally.statements ≤ length script
  pub state : now ≡ state_after from (take tally.statements script)
  pub refused : tally.refused ≡ refused_in from (take tally.statements script)

pub so_far_none : (from : Standing) (script : List StatementView) → SoFar from from script (record { statements = 0; refused = 0 })
unfolding state_after refused_in
so_far_none from script = record { within = omega arith; state = refl; refused = refl }

-- after one more
pub so_far_more : (from now next : Standing) (script : List StatementView) (tally : Tally) (st : StatementView) (count : ℕ) → SoFar from now script tally → slice_get script tally.statements ≡ Some st
    → next ≡ next_state now (act now st) → count ≡ refusals (act now st) → SoFar from next script (record { statements = tally.statements + 1; refused = tally.refused + count })
so_far_more from now next script tally st count so is next_is count_is =
    let k = tally.statements in
    let within = slice_get_within script k st is in
    let up : k + 1 ≡ suc k = omega arith in
    let more : take (k + 1) script ≡ take k script ++ st ∷ [] = ap (λ (n : ℕ). take n script) up ∙ taken-more script k st is in
    let here : refusals (act now st) ≡ refusals (act (state_after from (take k script)) st) = ap (λ (s : Standing). refusals (act s st)) so.state in
    record {
      within = omega arith;
      state = next_is ∙ ap (λ (s : Standing). next_state s (act s st)) so.state ∙ sym (state_after-more from (take k script) st) ∙ ap (state_after from) (sym more);
      refused = omega (arith, so.refused, count_is, here, refused-more from (take k script) st, ap (refused_in from) more);
    }

-- after the last one
pub record AllRun (from now : Standing) (script : List StatementView) (tally : Tally) : Type 0 where
  pub tallies : Tallies from script tally
  pub state : now ≡ state_after from script

pub so_far_all : (from now : Standing) (script : List StatementView) (tally : Tally) → SoFar from now script tally → slice_get script tally.statements ≡ None → AllRun from now script tally
so_far_all from now script tally so is = elim (slice_get_cases script tally.statements).1 [
  | inl some ↦ (let one : slice_get script tally.statements ≡ Some some.0 = some.2 in absurd (let no : ⊥ = cc in no))
  | inr past ↦ (let all : take tally.statements script ≡ script = take_all tally.statements script past.0 in
      let within = so.within in
      let behind = past.0 in
      record {
        tallies = record { statements_are = omega arith; refused_are = so.refused ∙ ap (refused_in from) all };
        state = so.state ∙ ap (state_after from) all;
      })
]

-- the script is short: a statement for each number, one for some, and eight more
pub script_short : (n : ℕ) → length (generated_script n) ≤ 2 * n + 8
unfolding generated_script
script_short n =
    let tasks = length-map (below n) insert_task in
    let todos = length-map (filter is_fourth (below n)) insert_todo in
    let fewer = length-filter_both is_fourth (λ (i : ℕ). not (is_fourth i)) (λ i. refl) (below n) in
    let all = length-range_with_len 0 n in
    omega (arith, length-append (map insert_task (below n)) (evolution ++ (map insert_todo (filter is_fourth (below n)) ++ ending)), length-append (map insert_todo (filter is_fourth (below n))) ending)

-- so both counts fit 64 bits
pub tally_fits : (from now : Standing) (n : ℕ) (tally : Tally) (st : StatementView) → SoFar from now (generated_script n) tally → slice_get (generated_script n) tally.statements ≡ Some st → n < 2 ^ 32
    → (tally.statements + 1 < 2 ^ 64) × (tally.refused + refusals (act now st) < 2 ^ 64)
tally_fits from now n tally st so is small =
    let script = generated_script n in
    let short = script_short n in
    let within = so.within in
    let one = one_refusal (act now st) in
    let taken = length-take-le tally.statements script so.within in
    let fewer = refused_within from (take tally.statements script) in
    let refused = so.refused in
    let fits : tally.statements + 1 < 2 ^ 64 = omega arith in
    let fit : tally.refused + refusals (act now st) < 2 ^ 64 = omega arith in
    (fits, fit)

-- what is kept stays so over a statement that the grammar spells
pub keeps_more : (old mid new : Parts AnyView) (s : StatementView) → Keeps old mid → IsLikeParsed s → TextsCome s mid.graph.edges new.graph.edges → new.ids.limit ≡ mid.ids.limit → Keeps old new
keeps_more old mid new s keeps parsed come limit = record {
  limit = limit ∙ keeps.limit;
  spelled = λ is. stay_spelled true parsed.spelled.0 s (length parsed.spelled.0) mid.graph.edges new.graph.edges parsed.spelled.1 come (keeps.spelled is);
}
