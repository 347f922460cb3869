use Rattle.script_stream.proofs.HoldLaws.{its_tokens, used_within}
use Rattle.script_stream.proofs.input.Input.find.Goals as goal

pub find_behind-requires-clause-tokens : goal.find_behind-requires-clause-tokens
find_behind-requires-clause-tokens c = let s = c.requires in rw (c.as_slice-bytes.ensures.value, c.as_slice.ensures.value) (its_tokens s.0 s.1 c.args.self.now s.2)

pub find_behind-requires-clause-fits : goal.find_behind-requires-clause-fits
find_behind-requires-clause-fits c = rw c.as_slice-bytes.ensures.value c.requires.2.fits

pub find_behind-requires-clause-within : goal.find_behind-requires-clause-within
find_behind-requires-clause-within c = let s = c.requires in rw c.as_slice.ensures.value (used_within s.0 s.1 c.args.self.now s.2)
