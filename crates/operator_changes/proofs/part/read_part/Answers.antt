use Rattle.std.proofs.Common.{ℕ, [], ◌∷◌, ◌++◌, take, length, ◌<◌, ap, sym, ◌∙◌, subst, arith}
use Rattle.row_store.specs.Rows.{Rows, row_of}
use Rattle.op_law.specs.Meaning.{PairState}
use Rattle.op_law.specs.Tables.{Tables, contents}
use Rattle.op_rows.specs.Cells.{table_from}
use Rattle.operator_changes.specs.Pairs.{side_at, table_at}
use Rattle.operator_changes.specs.Parts.{part_of}
use Rattle.operator_changes.proofs.LoopLemmas.{contents_long, contents_more, part_few, part_next}
use Rattle.operator_changes.proofs.part.read_part.Goals as goal

pub loop-which-preserved : goal.loop-which-preserved
loop-which-preserved g c =
    let i = c.loop-which.which in
    let ts = side_at c.args.target (g.V.PairRead.pair c.args.old.now) in
    let made = c.in_ok-read_table.field-0 in
    let before = c.loop-which.invariant in
    record {
      tables = ap contents c.in_ok-push.ensures.ok ∙ contents_more c.loop-which.tables made
          ∙ ap (λ (us : Tables). us ++ made.rows ∷ []) before.tables
          ∙ ap (λ (rows : Rows). part_of c.args.ids.now (take i ts) ++ rows ∷ []) (c.in_ok-read_table.ensures.rows ∙ ap (λ (p : PairState). table_from c.args.ids.now (row_of (table_at (side_at c.args.target p) i))) before.same)
          ∙ sym (part_next c.args.ids.now ts i (subst (λ (k : ℕ). i < k) c.tables-count.ensures.many c.loop-which-test.true));
      same = c.in_ok-read_table.ensures.same ∙ before.same;
    }

pub returns-clause-few : goal.returns-clause-few
returns-clause-few g c =
    let ids = c.args.ids.now in
    let ts = side_at c.args.target (g.V.PairRead.pair c.args.old.now) in
    let many = ap (λ (us : Tables). length us) c.loop-which.invariant.tables in
    omega (arith, contents_long c.loop-which.tables, many, part_few ids ts c.loop-which.which, c.tables-count.ensures.many, c.tables-count.ensures.few)
