-- Texts: what one more byte is to them. Their bytes are well-formed UTF-8 with each quote doubled.
use Rattle.std.specs.Prelude.{◌==◌, ◌||◌, ℕ, if◌then◌else◌}
use Rattle.bidel_lex.specs.Classes.{is_between}
use Rattle.bidel_lex.specs.declared.texts.Wanted.{Wanted}
use Rattle.bidel_lex.specs.declared.texts.Wanted.TheVariants.{Character, Last, LastTwo, LastThree, AfterE0, AfterED, AfterF0, AfterF4}
use Rattle.bidel_lex.specs.declared.unfinished.Unfinished.TheVariants.{Text, Quote}
use Rattle.bidel_lex.specs.declared.unfinished.Step.{Step}
use Rattle.bidel_lex.specs.declared.unfinished.Step.TheVariants.{Longer, Over}

-- a byte of a range, after which this is wanted
abbrev pub continuation_step : ℕ → ℕ → Wanted → ℕ → Step
continuation_step low high wanted b = if is_between low high b then Longer (Text wanted) else Over

-- the first byte of a character, or a quote; the first columns of Unicode's table of well-formed byte sequences
abbrev pub lead_step : ℕ → Step
lead_step b =
    if b == 39 then Longer Quote
    else (if is_between 0x00 0x7f b then Longer (Text Character)
    else (if is_between 0xc2 0xdf b then Longer (Text Last)
    else (if b == 0xe0 then Longer (Text AfterE0)
    else (if is_between 0xe1 0xec b || is_between 0xee 0xef b then Longer (Text LastTwo)
    else (if b == 0xed then Longer (Text AfterED)
    else (if b == 0xf0 then Longer (Text AfterF0)
    else (if is_between 0xf1 0xf3 b then Longer (Text LastThree)
    else (if b == 0xf4 then Longer (Text AfterF4)
    else Over))))))))

-- a byte of a text; the further columns of that table
abbrev pub text_step : Wanted → ℕ → Step
text_step Character b = lead_step b
text_step Last b = continuation_step 0x80 0xbf Character b
text_step LastTwo b = continuation_step 0x80 0xbf Last b
text_step LastThree b = continuation_step 0x80 0xbf LastTwo b
text_step AfterE0 b = continuation_step 0xa0 0xbf Last b
text_step AfterED b = continuation_step 0x80 0x9f Last b
text_step AfterF0 b = continuation_step 0x90 0xbf LastTwo b
text_step AfterF4 b = continuation_step 0x80 0x8f LastTwo b

-- the byte after a quote: another quote doubles it
abbrev pub quote_step : ℕ → Step
quote_step b = if b == 39 then Longer (Text Character) else Over
