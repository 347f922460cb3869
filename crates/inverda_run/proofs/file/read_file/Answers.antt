use Rattle.std.proofs.Common.{rules, ◌∙◌, take}
use Rattle.inverda_run.proofs.FileLemmas.{front_kept}
use Rattle.inverda_run.proofs.file.read_file.Goals as goal

pub loop-piece-preserved : goal.loop-piece-preserved
loop-piece-preserved g c =
    let kept = c.loop-piece.invariant in
    record {
      stays = c.in-Ok.ensures.cause.stays ∙ kept.stays;
      same = λ file. c.read_at.ensures.same file ∙ kept.same file;
      missing = c.in-Ok.ensures.absent.stays ∙ kept.missing;
      front = front_kept (g.F.Files.told c.args.files.now c.args.name.now) (g.F.Files.told c.loop-piece.files c.args.name.now) c.loop-piece.bytes.items (take c.in-Ok.count c.read_at.new.buf) c.extend_from_slice.new.self.items c.len-in-loop-piece.result
          (kept.same c.args.name.now) kept.front (search rules) c.in-Ok.ensures.bytes (search rules);
      room = search rules;
    }
