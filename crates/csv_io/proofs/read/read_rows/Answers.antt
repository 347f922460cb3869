use Rattle.std.proofs.Common.{Bor, List, ℕ, ◌+◌, ◌∙◌, ◌++◌, ◌∷◌, [], Some, length, map, sym, ap, subst, refl, arith, inl, inr}
use Rattle.std.specs.Prelude.{IsUtf8}
use Rattle.csv.specs.Reading.{Reached, default_config, strip_bom}
use Rattle.csv.specs.Records.{fields_of}
use Rattle.csv.specs.declared.parser.State.TheVariants as st
use Rattle.csv.proofs.ReadFacts.{rows-end, rows-more}
use Rattle.csv_io.specs.Fields.{field_value}
use Rattle.csv_io.specs.Tables.{csv_rows}
use Rattle.csv_io.proofs.RecordLemmas.{records_are}
use Rattle.csv_io.proofs.RowLemmas.{row_more}
use Rattle.csv_io.proofs.TextLemmas.{IsPlain, fails_so, strip_text, text_goes}
use Rattle.csv_io.proofs.read.read_rows.Goals as goal

pub loop-record-init : goal.loop-record-init
unfolding Reached
loop-record-init c =
    let fr = c.from_reader-reader.ensures in
    let same = c.as_bytes.ensures.value ∙ c.as_str.ensures in
    let start = c.into_iter-record-iterator.ensures.into_iter_gives ∙ refl in
    let rdr = c.into_records-record-items.ensures.rdr in
    let left = c.into_records-record-items.ensures.left in
    rw (start, rdr, c.new-rows.ensures) (
      rw (c.flexible.ensures, c.has_headers.ensures) at fr.trim ∙ c.new.ensures.trim,
      inr (inr (rw (c.flexible.ensures, c.has_headers.ensures) at fr.has_headers, fr.headers)),
      left,
      rw (c.flexible.ensures, c.has_headers.ensures) at fr.config ∙ c.new.ensures.config,
      rw c.flexible.ensures at fr.flexible,
      subst IsPlain (sym fr.state) tt,
      strip_bom c.args.text.now,
      rw same at fr.source,
      strip_text c.args.text.now (subst IsUtf8 c.as_str.ensures c.as_str.utf8),
      [],
      refl,
      (sym fr.state, refl),
    )

pub loop-record-preserved : goal.loop-record-preserved
loop-record-preserved c =
    let inv = c.loop-record.invariant in
    let all = rw (c.in-Some.is, c.in-Ok.is) at (c.next.ensures.steps inv.2 inv.0) in
    let s = all.0 inv.1 in
    let m = rows-more (λ (s : Bor (List ℕ)). Some s.now) c.loop-record.record-iterator.rdr c.next.new.self.rdr (fields_of c.in-Ok.fields) default_config st.StartRecord (strip_bom c.args.text.now) inv.6 inv.9 inv.3 inv.7 inv.11 s.0 in
    let goes = text_goes (λ (s : Bor (List ℕ)). Some s.now) c.loop-record.record-iterator.rdr c.next.new.self.rdr (fields_of c.in-Ok.fields) inv.6 m.0 inv.3 inv.7 m.1 inv.5 inv.8 s.0 in
    let rows = row_more inv.9 (fields_of c.in-Ok.fields) c.loop-record.rows c.push.new.self c.in_ok-read_row-in-Ok.field-0 inv.10 c.in_ok-read_row-in-Ok.ensures c.in_ok-push-in-Ok.ensures.ok in
    (s.0.3 ∙ inv.0, inl s.1, s.3, s.0.2 ∙ inv.3, all.3 ∙ inv.4, goes.0, m.0, m.1, goes.1, inv.9 ++ fields_of c.in-Ok.fields ∷ [], rows, m.2)

pub ran_out-requires : goal.ran_out-requires
ran_out-requires c =
    let inv = c.loop-record.invariant in
    let all = rw (c.in-Some.is, c.in-Err.is) at (c.next.ensures.steps inv.2 inv.0) in
    fails_so (λ (s : Bor (List ℕ)). Some s.now) c.loop-record.record-iterator.rdr c.next.new.self.rdr inv.6 c.in-Err.error.kind inv.3 inv.4 inv.7 inv.5 inv.8 (all.0 inv.1)

pub returns : goal.returns
unfolding csv_rows
returns c =
    let inv = c.loop-record.invariant in
    let all = rw c.in-None.is at (c.next.ensures.steps inv.2 inv.0) in
    let none = rows-end (λ (s : Bor (List ℕ)). Some s.now) c.loop-record.record-iterator.rdr c.next.new.self.rdr [] default_config inv.6 inv.3 inv.7 (all.0 inv.1) in
    let are = records_are default_config inv.9 (length (strip_bom c.args.text.now) + 1) st.StartRecord c.loop-record.record-iterator.rdr.state (strip_bom c.args.text.now) inv.6 refl (omega arith) inv.11 none in
    inv.10 ∙ ap (map (map field_value)) are
