use Rattle.std.proofs.Common.{◌≡◌, ◌++◌, string_bytes, flat_map, take, codes, decimal}
use Rattle.engine_core.proofs.reply_lines.inserted_text.Given as goal

abbrev pub invariant-loop-id : goal.invariant-loop-id
invariant-loop-id l = string_bytes l.text ≡ codes "inserted " ++ decimal l.count ++ flat_map (λ id. codes " #" ++ decimal id) (take l.id-index l.ids)
