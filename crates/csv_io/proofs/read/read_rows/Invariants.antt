use Rattle.std.proofs.Common.{◌≡◌, ◌<◌, ℕ, List, Some, true, map}
use Rattle.std.specs.Prelude.{IsUtf8}
use Rattle.csv.specs.Reading.{Reached, Ready, default_config, source_of, strip_bom}
use Rattle.csv.specs.declared.parser.State.TheVariants as st
use Rattle.csv.specs.declared.reader.Trim.TheVariants as trim
use Rattle.csv_io.specs.Fields.{field_value}
use Rattle.csv_io.proofs.TextLemmas.{IsPlain}
use Rattle.csv_io.proofs.read.read_rows.Given as goal

abbrev pub invariant-loop-record : goal.invariant-loop-record
invariant-loop-record l = (l.record-iterator.rdr.trim ≡ trim.None) × Ready l.record-iterator.rdr × (0 < l.record-iterator.left)
    × (l.record-iterator.rdr.config ≡ default_config) × (l.record-iterator.rdr.flexible ≡ true) × IsPlain l.record-iterator.rdr.state
    × (y : List ℕ) × (source_of (λ s. Some s.now) l.record-iterator.rdr ≡ Some y) × IsUtf8 y
    × (records : List (List (List ℕ))) × (l.rows ≡ map (map field_value) records)
    × Reached default_config st.StartRecord (strip_bom l.fn.text) records l.record-iterator.rdr.state y
