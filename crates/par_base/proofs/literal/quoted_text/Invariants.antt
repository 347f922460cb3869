use Rattle.std.proofs.Common.{◌≡◌, ◌∷◌, string_bytes, flat_map}
use Rattle.std.specs.Prelude.{encode_utf8_all}
use Rattle.par_base.specs.Literals.{doubled}
use Rattle.par_base.proofs.literal.quoted_text.Given as goal

abbrev pub invariant-loop-c : goal.invariant-loop-c
invariant-loop-c l = string_bytes l.made ≡ 39 ∷ flat_map doubled (encode_utf8_all l.yielded)
