use Rattle.std.proofs.lemmas.Str.{IsUtf8-string_bytes}
use Rattle.dump_formats.proofs.dumping.text_of.Goals as goal

pub returns-clause-read : goal.returns-clause-read
returns-clause-read c = (IsUtf8-string_bytes c.in_ok-text.text, c.in_ok-text.ensures.reads_back c.requires.shallow)
