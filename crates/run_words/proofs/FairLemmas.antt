-- Words without `=`.
use Rattle.std.proofs.Common.{◌≡◌, ◌≢◌, ℕ, List, [], ◌∷◌, Some, refl, sym, ap, subst, ◌∙◌}
use Rattle.clap.specs.Lexer.{long_of}
use Rattle.clap.proofs.CutLemmas.{Lacks}
use Rattle.clap.proofs.LexerLemmas.{name_and_value-without}
use Rattle.run_words.specs.inner.Reading.{IsFair, IsFairLong}

-- `--name`
pub bare_is_fair : (word name : List ℕ) → word ≡ 45 ∷ 45 ∷ name → name ≢ [] → Lacks 61 name → IsFair word
bare_is_fair word [] is some lacks = absurd (some refl)
bare_is_fair word (b ∷ bs) is some lacks =
    subst (λ o. IsFairLong word o) (sym (ap long_of is ∙ ap (λ n. Some n) (name_and_value-without (b ∷ bs) lacks))) tt
