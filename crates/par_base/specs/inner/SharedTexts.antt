-- The text that a shared one holds, wherever its characters lie.
use Rattle.std.specs.Prelude.{ℕ, List, take}
use Rattle.par_base.specs.declared.inline.InlineText.{InlineText}
use Rattle.par_base.specs.declared.shared.Characters.{Characters}
use Rattle.par_base.specs.declared.shared.Characters.TheVariants.{Inline, Shared}

-- the bytes up to its length
unfoldable pub inline_view : InlineText → List ℕ
inline_view text = take text.length text.bytes

abbrev pub characters_view : Characters → List ℕ
characters_view (Inline text) = inline_view text
characters_view (Shared text) = text.value
