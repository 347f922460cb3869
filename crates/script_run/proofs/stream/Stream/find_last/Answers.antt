use Rattle.std.proofs.Common.{[], ◌∙◌, ap, refl, subst, sym, take, true}
use Rattle.script_stream.specs.declared.input.Input.{Input}
use Rattle.script_stream.specs.Calls.{Refilled}
use Rattle.script_stream.specs.Holding.{IsInput, limit}
use Rattle.script_run.proofs.StreamLemmas.{finds_told, input_told, its_input, last_found}
use Rattle.script_run.proofs.stream.Stream.find_last.Goals as goal

pub next-requires : goal.next-requires
next-requires g c = let s = c.requires.stream in its_input s.0 s.1 s.2 c.args.self.now s.3

pub end-requires-clause-input : goal.end-requires-clause-input
end-requires-clause-input g c =
    let s = c.requires.stream in
    let more = (rw c.in-More.is at c.in_ok-found.ensures.ok) (take limit s.1) s.2 s.3.holds in
    subst IsInput (sym more.0) (its_input s.0 s.1 s.2 c.args.self.now s.3)

pub end-requires-clause-wants : goal.end-requires-clause-wants
end-requires-clause-wants g c =
    let s = c.requires.stream in
    let more = (rw c.in-More.is at c.in_ok-found.ensures.ok) (take limit s.1) s.2 s.3.holds in
    ap (λ (x : Input). x.tail.last) more.0 ∙ more.1.1

pub next-requires-in-More : goal.next-requires-in-More
next-requires-in-More g c =
    let s = c.requires.stream in
    let more = (rw c.in-More.is at c.in_ok-found.ensures.ok) (take limit s.1) s.2 s.3.holds in
    input_told c.args.self.now c.end.new.self c.end.new.self c.requires.ended c.requires.within more.1.1 (subst (λ (x : Input). Refilled x [] true c.end.new.self) more.0 c.in_ok-end-in-More.ensures.ok) s

pub returns-in_ok-end-in-More-clause-finds : goal.returns-in_ok-end-in-More-clause-finds
returns-in_ok-end-in-More-clause-finds g c =
    let s = c.requires.stream in
    let more = (rw c.in-More.is at c.in_ok-found.ensures.ok) (take limit s.1) s.2 s.3.holds in
    last_found c.args.self.now c.end.new.self c.next-in-More.new.self c.requires.ended c.requires.within more.1.1 (subst (λ (x : Input). Refilled x [] true c.end.new.self) more.0 c.in_ok-end-in-More.ensures.ok)
    c.next-in-More.result c.next-in-More.ensures.ok

pub returns-in_default : goal.returns-in_default
returns-in_default g c = record {
  finds = λ from fed answered h. finds_told fed answered from c.args.self.now c.next.new.self c.in_ok-found.found h c.in_default.not-More c.in_ok-found.ensures.same (c.in_ok-found.ensures.ok (take limit fed) answered h.holds);
  same = refl;
}
