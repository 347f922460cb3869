use Rattle.std.proofs.Common.{◌∙◌, sym, ap, ℕ, List, drop, arith}
use Rattle.std.proofs.lemmas.List.{drop_more}
use Rattle.std.specs.List.{list_any}
use Rattle.std.specs.Str.{bytes_eq}
use Rattle.par_base.specs.Names.{is_reserved}
use Rattle.par_base.proofs.name.is_reserved_word.Goals as goal

pub returns-in-len1-up : goal.returns-in-len1-up
returns-in-len1-up c =
    let bytes = c.args.bytes.now in
    let first = drop_more bytes 0 0 (omega (arith, c.in-len1-up.len_at_least)) in
    c.is_among.ensures ∙ ap (λ (bs : List ℕ). list_any (λ word. bytes_eq word.now bs) c.reserved_words.result.now) first
    ∙ c.reserved_words.ensures (drop 1 bytes) ∙ sym (ap is_reserved first)
