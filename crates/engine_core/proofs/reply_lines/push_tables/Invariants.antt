use Rattle.std.proofs.Common.{◌≡◌, ◌++◌, string_bytes, flat_map, take}
use Rattle.engine_core.specs.Texts.{line, table_text}
use Rattle.engine_core.proofs.reply_lines.push_tables.Given as goal

abbrev pub invariant-loop-table : goal.invariant-loop-table
invariant-loop-table l = string_bytes l.text ≡ string_bytes l.fn.text ++ flat_map (λ table. line (table_text table)) (take l.table-index l.tables)
