-- What the calls that name versions again ensure.
use Rattle.std.specs.Prelude.{◌≡◌, ℕ, List, [], ◌∷◌, true, Option, Some, None, Result, Ok, Err, ⊤}
use Rattle.par_base.specs.Names.{is_name}
use Rattle.par_base.specs.declared.fault.Fault.{Fault}
use Rattle.par_base.specs.declared.fault.Fault.TheVariants.{Refused, Memory}
use Rattle.version_graph.specs.Edges.{Drawn}
use Rattle.version_graph.specs.Placing.{CanName, with_version}
use Rattle.op_any.specs.Operators.{AnyView}
use Rattle.dump_values.specs.declared.lines.VersionLine.{VersionLine}
use Rattle.dump_graph.specs.declared.refused.DumpRefused.{DumpRefused}

-- the name that a text is, or that it is none
abbrev pub FindsName : List ℕ → Option (List ℕ) → Type 0
FindsName written (Some name) = (name ≡ written) × (is_name written ≡ true)
FindsName written None = is_name written ≡ true → ⊥

-- a version of a line may come next
abbrev pub MayName : Drawn AnyView → VersionLine → Type 0
MayName g line = (is_name line.name ≡ true) × CanName g line.name line.set

-- the graph with the version of a line, or a refusal where it may not come
abbrev pub NamesLine : Drawn AnyView → VersionLine → Result (Unit {0}) (Fault DumpRefused) → Drawn AnyView → Type 0
NamesLine g line (Ok done) new = MayName g line × (new ≡ with_version g line.name line.set)
NamesLine g line (Err (Refused r)) new = MayName g line → ⊥
NamesLine g line (Err (Memory memory)) new = ⊤

-- the graph with the versions of lines, one after the other
abbrev pub AreNamed : Drawn AnyView → List VersionLine → Drawn AnyView → Type 0
AreNamed g [] new = new ≡ g
AreNamed g (line ∷ lines) new = MayName g line × AreNamed (with_version g line.name line.set) lines new

-- what naming lines answers
abbrev pub NamesLines : Drawn AnyView → List VersionLine → Result (Unit {0}) (Fault DumpRefused) → Drawn AnyView → Type 0
NamesLines g lines (Ok done) new = AreNamed g lines new
NamesLines g lines (Err (Refused r)) new = (other : Drawn AnyView) → AreNamed g lines other → ⊥
NamesLines g lines (Err (Memory memory)) new = ⊤
