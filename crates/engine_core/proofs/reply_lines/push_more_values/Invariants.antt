use Rattle.std.proofs.Common.{◌≡◌, ◌++◌, string_bytes, flat_map, take, codes}
use Rattle.par_base.specs.Literals.{literal_of}
use Rattle.engine_core.proofs.reply_lines.push_more_values.Given as goal

abbrev pub invariant-loop-value : goal.invariant-loop-value
invariant-loop-value l = string_bytes l.text ≡ string_bytes l.fn.text ++ flat_map (λ value. codes "|" ++ literal_of value) (take l.value-index l.values)
