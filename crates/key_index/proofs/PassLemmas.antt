-- A pass over changed keys: what its first changes made of the keys, and of what is ready.
use Rattle.std.proofs.Common.{◌≡◌, ℕ, zero, suc, ◌+◌, ◌<◌, ◌≤◌, ◌==◌, List, [], ◌∷◌, Bool, true, false, take, length, get_or, set, Option, Some, None, if◌then◌else◌, refl, sym, ap, ◌∙◌, subst, arith}
use Rattle.std.proofs.lemmas.Bool.Decides.{nat_tests}
use Rattle.std.proofs.lemmas.Bool.{eq-eqb, eqb-true}
use Rattle.par_base.proofs.TestLaws.{swap_tests, apart_below}
use Rattle.par_base.specs.declared.value.Value.{Value}
use Rattle.row_store.specs.declared.change.Change.{Change}
use Rattle.row_store.specs.Rows.{Rows, row_of}
use Rattle.row_store.specs.Changes.{ChangesRise, AreOld, after}
use Rattle.ordered_pages.specs.Entries.{count_of}
use Rattle.key_index.specs.Changes.{news, olds}
use Rattle.key_index.specs.declared.exchange.Way.{Way}
use Rattle.key_index.specs.declared.exchange.Way.TheVariants.{Forth, Back}
use Rattle.key_index.specs.inner.Entries.{count_ready, PutsRow}
use Rattle.key_index.specs.inner.Passes.{told, all_told, IsPassed}

-- what is ready after the first changes: their old keys, and the new ones of the others
abbrev pub mixed : ℕ → List Change → List (Option (List Value))
mixed at [] = []
mixed zero (c ∷ cs) = c.new ∷ news cs
mixed (suc at) (c ∷ cs) = c.old ∷ mixed at cs

pub mixed_none : (cs : List Change) → mixed 0 cs ≡ news cs
mixed_none [] = refl
mixed_none (c ∷ cs) = refl

pub mixed_all : (cs : List Change) → mixed (length cs) cs ≡ olds cs
mixed_all [] = refl
mixed_all (c ∷ cs) = ap (λ (rest : List (Option (List Value))). c.old ∷ rest) (mixed_all cs)

news_length : (cs : List Change) → length (news cs) ≡ length cs
news_length [] = refl
news_length (c ∷ cs) = ap suc (news_length cs)

pub mixed_length : (at : ℕ) (cs : List Change) → length (mixed at cs) ≡ length cs
mixed_length at [] = refl
mixed_length zero (c ∷ cs) = ap suc (news_length cs)
mixed_length (suc at) (c ∷ cs) = ap suc (mixed_length at cs)

-- the key that is ready for a change is its new one
pub mixed_at : (at : ℕ) (cs : List Change) (d : Change) (e : Option (List Value)) → at < length cs → get_or (mixed at cs) at e ≡ (get_or cs at d).new
mixed_at at [] d e h = absurd (omega arith)
mixed_at zero (c ∷ cs) d e h = refl
mixed_at (suc at) (c ∷ cs) d e h = mixed_at at cs d e (omega arith)

pub mixed_next : (at : ℕ) (cs : List Change) (d : Change) → at < length cs → set (mixed at cs) at (get_or cs at d).old ≡ mixed (suc at) cs
mixed_next at [] d h = absurd (omega arith)
mixed_next zero (c ∷ cs) d h = ap (λ (rest : List (Option (List Value))). c.old ∷ rest) (sym (mixed_none cs))
mixed_next (suc at) (c ∷ cs) d h = ap (λ (rest : List (Option (List Value))). c.old ∷ rest) (mixed_next at cs d (omega arith))

-- how many keys are ready
pub count_at : (slots : List (Option (List Value))) (at : ℕ) (e : Option (List Value)) → at < length slots → count_of (get_or slots at e) ≤ count_ready slots
count_at [] at e h = absurd (omega arith)
count_at (slot ∷ slots) zero e h = omega arith
count_at (slot ∷ slots) (suc at) e h = omega (arith, count_at slots at e (omega arith))

pub count_set : (slots : List (Option (List Value))) (at : ℕ) (e new : Option (List Value)) → at < length slots → count_ready (set slots at new) + count_of (get_or slots at e) ≡ count_ready slots + count_of new
count_set [] at e new h = absurd (omega arith)
count_set (slot ∷ slots) zero e new h = omega arith
count_set (slot ∷ slots) (suc at) e new h = omega (arith, count_set slots at e new (omega arith))

count_most : (slot : Option (List Value)) → count_of slot ≤ 1
count_most None = omega arith
count_most (Some key) = omega arith

pub most_ready : (slots : List (Option (List Value))) → count_ready slots ≤ length slots
most_ready [] = omega arith
most_ready (slot ∷ slots) = omega (arith, count_most slot, most_ready slots)

-- identifiers of changes rise
next_above : (n : ℕ) (cs : List Change) (at : ℕ) (d : Change) → ChangesRise n cs → at < length cs → n ≤ (get_or cs at d).id
next_above n [] at d rise h = absurd (omega arith)
next_above n (c ∷ cs) zero d rise h = rise.0
next_above n (c ∷ cs) (suc at) d rise h = omega (arith, rise.0, next_above (c.id + 1) cs at d rise.1 (omega arith))

-- the first changes say nothing of the next one's identifier
not_yet : (n : ℕ) (cs : List Change) (at : ℕ) (d : Change) (row : Option (List Value)) → ChangesRise n cs → at < length cs → after (take at cs) (get_or cs at d).id row ≡ row
not_yet n [] at d row rise h = absurd (omega arith)
not_yet n (c ∷ cs) zero d row rise h = refl
not_yet n (c ∷ cs) (suc at) d row rise h =
    let other = apart_below c.id (get_or cs at d).id (omega (arith, next_above (c.id + 1) cs at d rise.1 (omega arith))) in
    rw other (not_yet (c.id + 1) cs at d row rise.1 (omega arith))

-- one change more
one_more : (n : ℕ) (cs : List Change) (at : ℕ) (d : Change) (q : ℕ) (row : Option (List Value)) → ChangesRise n cs → at < length cs
    → after (take (suc at) cs) q row ≡ (if (get_or cs at d).id == q then (get_or cs at d).new else after (take at cs) q row)
one_more n [] at d q row rise h = absurd (omega arith)
one_more n (c ∷ cs) zero d q row rise h = refl
one_more n (c ∷ cs) (suc at) d q row rise h =
    let above = next_above (c.id + 1) cs at d rise.1 (omega arith) in
    ap (λ (rest : Option (List Value)). if c.id == q then c.new else rest) (one_more (c.id + 1) cs at d q row rise.1 (omega arith))
    ∙ swap_tests (c.id == q) ((get_or cs at d).id == q) c.new (get_or cs at d).new (after (take at cs) q row) (λ e. grind (arith, nat_tests))

old_at : (rows : Rows) (cs : List Change) (at : ℕ) (d : Change) → AreOld rows cs → at < length cs → (get_or cs at d).old ≡ row_of rows (get_or cs at d).id
old_at rows [] at d fit h = absurd (omega arith)
old_at rows (c ∷ cs) zero d fit h = fit.0
old_at rows (c ∷ cs) (suc at) d fit h = old_at rows cs at d fit.1 (omega arith)

-- the old key of the next change is still there
pub own_key : (before now : Rows) (cs : List Change) (at : ℕ) (d : Change) → ChangesRise 0 cs → AreOld before cs → at < length cs → IsPassed (take at cs) before now → (get_or cs at d).old ≡ row_of now (get_or cs at d).id
own_key before now cs at d rise fit h passed =
    old_at before cs at d fit h ∙ sym (passed (get_or cs at d).id ∙ not_yet 0 cs at d (row_of before (get_or cs at d).id) rise h)

pub pass_more : (before now next : Rows) (cs : List Change) (at : ℕ) (d : Change) → ChangesRise 0 cs → at < length cs → IsPassed (take at cs) before now → PutsRow (get_or cs at d).id (get_or cs at d).new now next → IsPassed (take (suc at) cs) before next
pass_more before now next cs at d rise h passed puts = λ q.
    puts q ∙ ap (λ (row : Option (List Value)). if (get_or cs at d).id == q then (get_or cs at d).new else row) (passed q) ∙ sym (one_more 0 cs at d q (row_of before q) rise h)

-- changes that are told either way
pub told_id : (way : Way) (c : Change) → (told way c).id ≡ c.id
told_id Forth c = refl
told_id Back c = refl

pub told_rise : (way : Way) (n : ℕ) (cs : List Change) → ChangesRise n cs → ChangesRise n (all_told way cs)
told_rise way n [] rise = tt
told_rise way n (c ∷ cs) rise =
    let same = told_id way c in
    (omega (arith, rise.0, same), subst (λ (k : ℕ). ChangesRise (k + 1) (all_told way cs)) (sym same) (told_rise way (c.id + 1) cs rise.1))

pub told_length : (way : Way) (cs : List Change) → length (all_told way cs) ≡ length cs
told_length way [] = refl
told_length way (c ∷ cs) = ap suc (told_length way cs)

pub told_at : (way : Way) (cs : List Change) (at : ℕ) (d : Change) → at < length cs → get_or (all_told way cs) at d ≡ told way (get_or cs at d)
told_at way [] at d h = absurd (omega arith)
told_at way (c ∷ cs) zero d h = refl
told_at way (c ∷ cs) (suc at) d h = told_at way cs at d (omega arith)

pub all_forth : (cs : List Change) → all_told Forth cs ≡ cs
all_forth [] = refl
all_forth (c ∷ cs) = ap (λ (rest : List Change). c ∷ rest) (all_forth cs)

pub back_news : (cs : List Change) → news (all_told Back cs) ≡ olds cs
back_news [] = refl
back_news (c ∷ cs) = ap (λ (rest : List (Option (List Value))). c.old ∷ rest) (back_news cs)

pub back_olds : (cs : List Change) → olds (all_told Back cs) ≡ news cs
back_olds [] = refl
back_olds (c ∷ cs) = ap (λ (rest : List (Option (List Value))). c.new ∷ rest) (back_olds cs)

-- after changes each new key is there
new_from : (before now : Rows) (n : ℕ) (cs : List Change) → ChangesRise n cs → ((id : ℕ) → n ≤ id → row_of now id ≡ after cs id (row_of before id)) → AreOld now (all_told Back cs)
new_from before now n [] rise was = tt
new_from before now n (c ∷ cs) rise was =
    let own = eq-eqb c.id c.id refl in
    let new : row_of now c.id ≡ c.new = rw own at (was c.id rise.0) in
    (sym new, new_from before now (c.id + 1) cs rise.1 (λ id h. let other = apart_below c.id id (omega (arith, h)) in rw other at (was id (omega (arith, rise.0, h)))))

pub are_new : (before now : Rows) (cs : List Change) → ChangesRise 0 cs → ((id : ℕ) → row_of now id ≡ after cs id (row_of before id)) → AreOld now (all_told Back cs)
are_new before now cs rise was = new_from before now 0 cs rise (λ id h. was id)

-- the way back leads to what was there before
back_by : (before : Rows) (c : Change) (cs : List Change) (id : ℕ) (t : Bool) → (c.id == id) ≡ t → c.old ≡ row_of before c.id
    → after (all_told Back cs) id (after cs id (row_of before id)) ≡ row_of before id
    → (if t then c.old else after (all_told Back cs) id (if t then c.new else after cs id (row_of before id))) ≡ row_of before id
back_by before c cs id true e fit rest = fit ∙ ap (row_of before) (eqb-true c.id id e)
back_by before c cs id false e fit rest = rest

pub back_again : (before : Rows) (cs : List Change) (id : ℕ) → AreOld before cs → after (all_told Back cs) id (after cs id (row_of before id)) ≡ row_of before id
back_again before [] id fit = refl
back_again before (c ∷ cs) id fit = back_by before c cs id (c.id == id) refl fit.0 (back_again before cs id fit.1)
