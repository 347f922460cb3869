-- The entries that are left between two ends.
use Rattle.std.proofs.Common.{◌≡◌, ◌+◌, ◌<◌, ◌≤◌, List, [], ◌∷◌, ◌++◌, length, refl, sym, ap, ◌∙◌, subst, arith}
use Rattle.std.proofs.lemmas.List.{length-append}
use Rattle.ordered_pages.specs.inner.Pages.{all_entries, Hold}
use Rattle.ordered_pages.proofs.PagesLemmas.{all_append, append_assoc}

behind_none : {A : Type 0} (xs : List A) → xs ++ [] ≡ xs
behind_none [] = refl
behind_none (x ∷ xs) = ap (λ ys. x ∷ ys) (behind_none xs)

pub no_entries : {A : Type 0} (xs : List A) → length xs ≡ 0 → xs ≡ []
no_entries [] none = refl
no_entries (x ∷ xs) none = absurd (omega (arith, none))

module _ {E : Type 0} where
  hold_last : (before : List (List E)) (page : List E) → Hold 1 (before ++ page ∷ []) → Hold 1 before × (1 ≤ length page)
  hold_last [] page hold = (tt, hold.0)
  hold_last (p ∷ ps) page hold = let rest = hold_last ps page hold.2 in ((hold.0, hold.1, rest.0), rest.1)

  -- the last page is not empty, and the others hold their entries
  pub last_holds : (pages before : List (List E)) (page : List E) → pages ≡ before ++ page ∷ [] → Hold 1 pages → Hold 1 before × (1 ≤ length page)
  last_holds pages before page is hold = hold_last before page (subst (Hold 1) is hold)

  -- the entries without the last one of the last page
  pub last_entry : (front page others : List E) (pages before : List (List E)) (entry : E) → pages ≡ before ++ page ∷ [] → page ≡ others ++ entry ∷ []
      → front ++ (all_entries pages ++ []) ≡ (front ++ (all_entries before ++ others)) ++ entry ∷ []
  last_entry front page others pages before entry is own =
      ap (λ (es : List E). front ++ es) (
      behind_none (all_entries pages)
      ∙ ap all_entries is
      ∙ all_append before (page ∷ [])
      ∙ ap (λ (es : List E). all_entries before ++ es) (behind_none page ∙ own)
      ∙ sym (append_assoc (all_entries before) others (entry ∷ []))
      )
      ∙ sym (append_assoc front (all_entries before ++ others) (entry ∷ []))

  pub some_entry : (page read : List E) → read ≡ page → length read ≡ 0 → 1 ≤ length page → ⊥
  some_entry page read is none some = let same : length read ≡ length page = ap length is in absurd (omega (arith, none, some, same))

  pub shorter : (some left : List E) (entry : E) → some ≡ left ++ entry ∷ [] → length left < length some
  shorter some left entry is = let long : length some ≡ length left + 1 = ap length is ∙ length-append left (entry ∷ []) in omega (arith, long)
