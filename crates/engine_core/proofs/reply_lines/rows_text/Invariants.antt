use Rattle.std.proofs.Common.{◌≡◌, ◌++◌, string_bytes, flat_map, take}
use Rattle.engine_core.specs.Texts.{line, header_text, row_text}
use Rattle.engine_core.proofs.reply_lines.rows_text.Given as goal

abbrev pub invariant-loop-row : goal.invariant-loop-row
invariant-loop-row l = string_bytes l.text ≡ line (header_text l.header) ++ flat_map (λ row. line (row_text row)) (take l.row-index l.rows)
