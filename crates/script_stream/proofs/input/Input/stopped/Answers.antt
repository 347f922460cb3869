use Rattle.std.proofs.Common.{ℕ, List, ap, arith, length, sym, take, ◌∙◌}
use Rattle.bidel_script.specs.Places.{behind_all}
use Rattle.bidel_script.specs.Calls.{place_view}
use Rattle.script_stream.proofs.HoldLaws.{fault_inside, fed_size, place_near, stands_fault, stands_long, stands_open, stands_over}
use Rattle.script_stream.proofs.input.Input.stopped.Goals as goal

pub place_after-place-requires-clause-within : goal.place_after-place-requires-clause-within
place_after-place-requires-clause-within c =
    let s = c.requires.input in
    omega (arith, fault_inside s.0 s.1 c.args.self.now s.2 c.in-Fault.at (rw c.in-Fault.is at c.requires.behind), ap length c.as_slice.ensures.value)

pub place_after-place-requires-clause-line : goal.place_after-place-requires-clause-line
place_after-place-requires-clause-line c =
    let s = c.requires.input in
    omega (arith, fault_inside s.0 s.1 c.args.self.now s.2 c.in-Fault.at (rw c.in-Fault.is at c.requires.behind), (place_near s.0 s.1 c.args.self.now s.2).0, fed_size s.0 s.1 c.args.self.now s.2, s.3)

pub place_after-place-requires-clause-column : goal.place_after-place-requires-clause-column
place_after-place-requires-clause-column c =
    let s = c.requires.input in
    omega (arith, fault_inside s.0 s.1 c.args.self.now s.2 c.in-Fault.at (rw c.in-Fault.is at c.requires.behind), (place_near s.0 s.1 c.args.self.now s.2).1, fed_size s.0 s.1 c.args.self.now s.2, s.3)

pub returns-in-Over : goal.returns-in-Over
returns-in-Over c = λ fed given h. stands_over fed given c.args.self.now h (rw c.in-Over.is at c.requires.behind)

pub returns-in-Fault : goal.returns-in-Fault
returns-in-Fault c = λ fed given h.
    stands_fault fed given c.args.self.now h c.in-Fault.at c.place_after-place.result.line c.place_after-place.result.column (rw c.in-Fault.is at c.requires.behind)
    (sym (c.place_after-place.ensures ∙ ap (λ (l : List ℕ). behind_all (place_view c.args.self.now.place) (take c.in-Fault.at l)) c.as_slice.ensures.value))

pub returns-in-Long : goal.returns-in-Long
returns-in-Long c = λ fed given h. stands_long fed given c.args.self.now h (rw c.in-Long.is at c.requires.behind)

pub returns-in-Open : goal.returns-in-Open
returns-in-Open c = λ fed given h. stands_open fed given c.args.self.now h (rw c.in-Open.is at c.requires.behind)
