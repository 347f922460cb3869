use Rattle.std.proofs.Common.{◌≡◌, string_bytes, flat_map, take}
use Rattle.engine_core.specs.Texts.{write_bytes}
use Rattle.engine_core.proofs.reply_lines.committed_text.Given as goal

abbrev pub invariant-loop-reply : goal.invariant-loop-reply
invariant-loop-reply l = string_bytes l.text ≡ flat_map write_bytes (take l.reply-index l.replies)
