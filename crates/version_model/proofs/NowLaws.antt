-- What a write has made so far: the last table under a number counts.
use Rattle.std.proofs.Common.{◌≡◌, if◌then◌else◌, ℕ, ◌+◌, ◌<◌, ◌≤◌, ◌==◌, List, [], ◌∷◌, ◌++◌, Bool, true, false, length, take, drop, get_or, Option, refl, ap, sym, ◌∙◌, arith}
use Rattle.std.proofs.Math.Path.{fun_ext}
use Rattle.std.proofs.lemmas.List.{reverse-append, take_at, take_more, drop_more, map-append, length-map}
use mathlib.Core.List.{reverse}
use Rattle.row_store.specs.Rows.{Rows}
use Rattle.row_store.specs.States.{TableState}
use Rattle.id_memory.specs.Pairs.{Pairs}
use Rattle.id_memory.specs.States.{MemoryState}
use Rattle.op_law.specs.Tables.{Tables, contents}
use Rattle.version_model.specs.Put.{put}
use Rattle.version_model.specs.Kept.{value_of, latest_of, rows_at, rows_now, newer_rows, pairs_at, pairs_now, newer_pairs}
use Rattle.version_model.specs.declared.numbered.Numbered.{Numbered}
use Rattle.version_model.proofs.NumberedLaws.{looked, value_of_first}

pub latest_push : {T : Type 0} (made : List (Numbered T)) (c : Numbered T) (n : ℕ) → latest_of (made ++ c ∷ []) n ≡ looked (n == c.number) c (latest_of made n)
latest_push {T} made c n = ap (λ (l : List (Numbered T)). value_of l n) (reverse-append made (c ∷ [])) ∙ value_of_first c (reverse made) n

pub rows_push : (kept made : List (Numbered TableState)) (c : Numbered TableState) → rows_now kept (made ++ c ∷ []) ≡ put (rows_now kept made) (c.number ∷ []) (c.value.rows ∷ [])
rows_push kept made c = fun_ext (λ n.
    let M : Bool → Type 0 = λ b. newer_rows (looked b c (latest_of made n)) (rows_at kept n) ≡ (if b then c.value.rows else rows_now kept made n) in
    let both : M (n == c.number) = elim (n == c.number) as (λ b. M b) [ true ↦ refl | false ↦ refl ] in
    ap (λ (o : Option TableState). newer_rows o (rows_at kept n)) (latest_push made c n) ∙ both)

-- a memory that is put behind those that were made, over any that were before
pub pairs_push : (old : ℕ → Pairs) (made : List (Numbered MemoryState)) (c : Numbered MemoryState)
    → (λ n. newer_pairs (latest_of (made ++ c ∷ []) n) (old n)) ≡ put (λ n. newer_pairs (latest_of made n) (old n)) (c.number ∷ []) (c.value.entries ∷ [])
pairs_push old made c = fun_ext (λ n.
    let M : Bool → Type 0 = λ b. newer_pairs (looked b c (latest_of made n)) (old n) ≡ (if b then c.value.entries else newer_pairs (latest_of made n) (old n)) in
    let both : M (n == c.number) = elim (n == c.number) as (λ b. M b) [ true ↦ refl | false ↦ refl ] in
    ap (λ (o : Option MemoryState). newer_pairs o (old n)) (latest_push made c n) ∙ both)

-- a table put in front of those that were put
put_front : (f : ℕ → Rows) (k : ℕ) (ks : List ℕ) (v : Rows) (vs : Tables) → put (put f ks vs) (k ∷ []) (v ∷ []) ≡ put f (k ∷ ks) (v ∷ vs)
put_front f k ks v vs = fun_ext (λ n.
    let M : Bool → Type 0 = λ b. (if b then v else put f ks vs n) ≡ (if b then v else put f ks vs n) in
    elim (n == k) as (λ b. M b) [ true ↦ refl | false ↦ refl ])

-- the last of the tables that are left goes before those that were put
pub one_put : (f : ℕ → Rows) (numbers : List ℕ) (side : Tables) (old left : List TableState) (last : TableState) (n : ℕ) → old ≡ left ++ last ∷ [] → contents old ≡ take (length old) side → length old ≤ length side → length side ≡ length numbers → n ≡ get_or numbers (length left) 0
    → (contents left ≡ take (length left) side) × (length left ≤ length side) × (put (put f (drop (length old) numbers) (drop (length old) side)) (n ∷ []) (last.rows ∷ []) ≡ put f (drop (length left) numbers) (drop (length left) side))
one_put f numbers side old left last n is tables within even number =
    let i = length left in
    let count : length old ≡ i + 1 = ap length is ∙ Rattle.std.proofs.lemmas.List.length-append left (last ∷ []) in
    let inside : i < length side = omega (arith, count, within) in
    let inside_numbers : i < length numbers = omega (arith, inside, even) in
    let both : contents left ++ last.rows ∷ [] ≡ take i side ++ get_or side i last.rows ∷ [] =
    sym (map-append (λ (t : TableState). t.rows) left (last ∷ [])) ∙ sym (ap contents is) ∙ tables ∙ ap (λ (m : ℕ). take m side) count ∙ take_more side i last.rows inside in
    let long : length (contents left) ≡ i = length-map left (λ (t : TableState). t.rows) in
    let front : contents left ≡ take i side = sym (take_at (contents left) (last.rows ∷ []) i long) ∙ ap (λ (l : Tables). take i l) both ∙ take_at (take i side) (get_or side i last.rows ∷ []) i (Rattle.std.proofs.lemmas.List.length-take-le i side (omega (arith, inside))) in
    let ends : last.rows ∷ [] ≡ get_or side i last.rows ∷ [] = sym (Rattle.std.proofs.Math.Seq.drop-append_seam (contents left) (last.rows ∷ [])) ∙ ap (λ (l : Tables). drop (length (contents left)) l) both ∙ ap (λ (l : Tables). drop (length l) (take i side ++ get_or side i last.rows ∷ [])) front ∙ Rattle.std.proofs.Math.Seq.drop-append_seam (take i side) (get_or side i last.rows ∷ []) in
    let own : last.rows ≡ get_or side i last.rows = ap (λ (l : Tables). get_or l 0 last.rows) ends in
    let more_numbers : drop i numbers ≡ n ∷ drop (length old) numbers = drop_more numbers i 0 inside_numbers ∙ ap (λ (m : ℕ). m ∷ drop (i + 1) numbers) (sym number) ∙ ap (λ (m : ℕ). n ∷ drop m numbers) (sym count) in
    let more_side : drop i side ≡ last.rows ∷ drop (length old) side = drop_more side i last.rows inside ∙ ap (λ (t : Rows). t ∷ drop (i + 1) side) (sym own) ∙ ap (λ (m : ℕ). last.rows ∷ drop m side) (sym count) in
    (front, omega (arith, inside), put_front f n (drop (length old) numbers) last.rows (drop (length old) side) ∙ sym (ap (λ (ks : List ℕ). put f ks (last.rows ∷ drop (length old) side)) more_numbers) ∙ sym (ap (λ (vs : Tables). put f (drop i numbers) vs) more_side))

pub nothing_left : (f : ℕ → Rows) (numbers : List ℕ) (side : Tables) (old : List TableState) → old ≡ [] → put f (drop (length old) numbers) (drop (length old) side) ≡ put f numbers side
nothing_left f numbers side old is = ap (λ (l : List TableState). put f (drop (length l) numbers) (drop (length l) side)) is

-- nothing was made yet, and then one table
pub first_rows : (kept made new : List (Numbered TableState)) (c : Numbered TableState) → made ≡ [] → new ≡ made ++ c ∷ [] → rows_now kept new ≡ put (rows_at kept) (c.number ∷ []) (c.value.rows ∷ [])
first_rows kept made new c none is =
    ap (λ (l : List (Numbered TableState)). rows_now kept l) is ∙ rows_push kept made c
    ∙ ap (λ (l : List (Numbered TableState)). put (rows_now kept l) (c.number ∷ []) (c.value.rows ∷ [])) none

pub no_pairs : (kept made : List (Numbered MemoryState)) → made ≡ [] → pairs_now kept made ≡ pairs_at kept
no_pairs kept made none = ap (λ (l : List (Numbered MemoryState)). pairs_now kept l) none
