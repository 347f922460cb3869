-- Changes under numbers, and the tables that they make.
use Rattle.std.proofs.Common.{◌≡◌, if◌then◌else◌, ℕ, zero, suc, ◌+◌, ◌<◌, ◌≤◌, List, [], ◌∷◌, ◌++◌, Bool, true, false, map, length, take, drop, get_or, Option, refl, ap, sym, ◌∙◌, subst, arith}
use Rattle.std.specs.Prelude.{◌==◌}
use Rattle.std.specs.Option.{option_map_or}
use Rattle.std.proofs.Math.Path.{fun_ext}
use Rattle.std.proofs.lemmas.Bool.{eqb-true}
use Rattle.std.proofs.lemmas.List.{take_at, take_more, drop_more, length-append, length-take-le}
use Rattle.row_store.specs.declared.change.Change.{Change}
use Rattle.row_store.specs.Changes.{ChangesRise, AreOld}
use Rattle.row_store.specs.Rows.{Rows}
use Rattle.id_memory.specs.Pairs.{Pairs}
use Rattle.op_law.specs.Tables.{Tables}
use Rattle.row_changes.specs.Changed.{TableChanges, AreChangesOf, changed, changed_tables}
use Rattle.row_changes.specs.Differences.{AreDifferences}
use Rattle.operator_changes.specs.Pairs.{table_at}
use Rattle.version_model.specs.Kept.{latest_of}
use Rattle.version_model.specs.Put.{put}
use Rattle.version_model.specs.States.{State}
use Rattle.version_model.specs.declared.numbered.Numbered.{Numbered}
use Rattle.version_model.proofs.NowLaws.{latest_push}
use Rattle.version_model.proofs.NumberedLaws.{looked}
use Rattle.version_model.proofs.PutLaws.{EachAt, put_holds}
use Rattle.changes_walk.specs.Changing.{AreOfState, latest_changes}

-- a side changed table by table
pub changed_map : (f : ℕ → Rows) (g : ℕ → List Change) (ns : List ℕ) → changed_tables (map f ns) (map g ns) ≡ map (λ t. changed (f t) (g t)) ns
changed_map f g [] = refl
changed_map f g (n ∷ ns) = ap (λ (ts : Tables). changed (f n) (g n) ∷ ts) (changed_map f g ns)

pub fits_map : (s : State) (items : List (Numbered (List Change))) (ns : List ℕ) → AreOfState s items → AreChangesOf (map s.tables ns) (map (latest_changes items) ns)
fits_map s items [] fit = tt
fits_map s items (n ∷ ns) fit = (fit n, fits_map s items ns fit)

-- the table at a place of a side
pub table_in : (f : ℕ → Rows) (ns : List ℕ) (i d : ℕ) → i < length ns → table_at (map f ns) i ≡ f (get_or ns i d)
table_in f [] i d h = absurd (omega arith)
table_in f (n ∷ ns) zero d h = refl
table_in f (n ∷ ns) (suc i) d h = table_in f ns i d (omega arith)

pub table_out : (f : ℕ → Rows) (ns : List ℕ) (i : ℕ) → length ns ≤ i → table_at (map f ns) i ≡ []
table_out f [] i h = refl
table_out f (n ∷ ns) zero h = absurd (omega arith)
table_out f (n ∷ ns) (suc i) h = table_out f ns i (omega arith)

-- ---- what is put under numbers

pub changes_push : (items : List (Numbered (List Change))) (c : Numbered (List Change)) → latest_changes (items ++ c ∷ []) ≡ put (latest_changes items) (c.number ∷ []) (c.value ∷ [])
changes_push items c = fun_ext (λ n.
    let M : Bool → Type 0 = λ b. option_map_or (λ (cs : List Change). cs) (looked b c (latest_of items n)) [] ≡ (if b then c.value else latest_changes items n) in
    let both : M (n == c.number) = elim (n == c.number) as (λ b. M b) [ true ↦ refl | false ↦ refl ] in
    ap (λ (o : Option (List Change)). option_map_or (λ (cs : List Change). cs) o []) (latest_push items c n) ∙ both)

put_front : (f : ℕ → List Change) (k : ℕ) (ks : List ℕ) (v : List Change) (vs : TableChanges) → put (put f ks vs) (k ∷ []) (v ∷ []) ≡ put f (k ∷ ks) (v ∷ vs)
put_front f k ks v vs = fun_ext (λ n.
    let M : Bool → Type 0 = λ b. (if b then v else put f ks vs n) ≡ (if b then v else put f ks vs n) in
    elim (n == k) as (λ b. M b) [ true ↦ refl | false ↦ refl ])

-- the last of the changes that are left goes before those that were put
pub one_put : (f : ℕ → List Change) (numbers : List ℕ) (side old left : TableChanges) (last : List Change) (n : ℕ) → old ≡ left ++ last ∷ [] → old ≡ take (length old) side → length old ≤ length side → length side ≡ length numbers → n ≡ get_or numbers (length left) 0
    → (left ≡ take (length left) side) × (length left ≤ length side) × (put (put f (drop (length old) numbers) (drop (length old) side)) (n ∷ []) (last ∷ []) ≡ put f (drop (length left) numbers) (drop (length left) side))
one_put f numbers side old left last n is tables within even number =
    let i = length left in
    let count : length old ≡ i + 1 = ap length is ∙ length-append left (last ∷ []) in
    let inside : i < length side = omega (arith, count, within) in
    let inside_numbers : i < length numbers = omega (arith, inside, even) in
    let both : left ++ last ∷ [] ≡ take i side ++ get_or side i last ∷ [] = sym is ∙ tables ∙ ap (λ (m : ℕ). take m side) count ∙ take_more side i last inside in
    let front : left ≡ take i side = sym (take_at left (last ∷ []) i refl) ∙ ap (λ (l : TableChanges). take i l) both ∙ take_at (take i side) (get_or side i last ∷ []) i (length-take-le i side (omega (arith, inside))) in
    let ends : last ∷ [] ≡ get_or side i last ∷ [] = sym (Rattle.std.proofs.Math.Seq.drop-append_seam left (last ∷ [])) ∙ ap (λ (l : TableChanges). drop (length left) l) both ∙ ap (λ (l : TableChanges). drop (length l) (take i side ++ get_or side i last ∷ [])) front ∙ Rattle.std.proofs.Math.Seq.drop-append_seam (take i side) (get_or side i last ∷ []) in
    let own : last ≡ get_or side i last = ap (λ (l : TableChanges). get_or l 0 last) ends in
    let more_numbers : drop i numbers ≡ n ∷ drop (length old) numbers = drop_more numbers i 0 inside_numbers ∙ ap (λ (m : ℕ). m ∷ drop (i + 1) numbers) (sym number) ∙ ap (λ (m : ℕ). n ∷ drop m numbers) (sym count) in
    let more_side : drop i side ≡ last ∷ drop (length old) side = drop_more side i last inside ∙ ap (λ (t : List Change). t ∷ drop (i + 1) side) (sym own) ∙ ap (λ (m : ℕ). last ∷ drop m side) (sym count) in
    (front, omega (arith, inside), put_front f n (drop (length old) numbers) last (drop (length old) side) ∙ sym (ap (λ (ks : List ℕ). put f ks (last ∷ drop (length old) side)) more_numbers) ∙ sym (ap (λ (vs : TableChanges). put f (drop i numbers) vs) more_side))

-- ---- differences under numbers

if_same : (n k : ℕ) (a b : List Change) (f : ℕ → Rows) (u rest : Rows) (t : Bool) → (n == k) ≡ t → changed (f k) a ≡ u → changed (f n) b ≡ rest → changed (f n) (if t then a else b) ≡ (if t then u else rest)
if_same n k a b f u rest true e h i = ap (λ (x : ℕ). changed (f x) a) (eqb-true n k e) ∙ h
if_same n k a b f u rest false e h i = i

-- the tables that the differences make are those that are put
pub differences_put : (f : ℕ → Rows) (g : ℕ → List Change) (ns : List ℕ) (us : Tables) (cs : TableChanges) → AreDifferences (map f ns) us cs → (n : ℕ) → changed (f n) (put g ns cs n) ≡ put (λ t. changed (f t) (g t)) ns us n
differences_put f g [] us cs d n = refl
differences_put f g (k ∷ ks) [] cs d n = absurd d
differences_put f g (k ∷ ks) (u ∷ us) [] d n = absurd d
differences_put f g (k ∷ ks) (u ∷ us) (c ∷ cs) d n = if_same n k c (put g ks cs n) f u (put (λ t. changed (f t) (g t)) ks us n) (n == k) refl d.0.new (differences_put f g ks us cs d.1 n)

differences_each : (f : ℕ → Rows) (ns : List ℕ) (us : Tables) (cs : TableChanges) → AreDifferences (map f ns) us cs → EachAt (λ t c. ChangesRise 0 c × AreOld (f t) c) ns cs
differences_each f [] us cs d = tt
differences_each f (k ∷ ks) us [] d = tt
differences_each f (k ∷ ks) [] (c ∷ cs) d = absurd d
differences_each f (k ∷ ks) (u ∷ us) (c ∷ cs) d = ((d.0.rise, d.0.old), differences_each f ks us cs d.1)

pub differences_fit : (f : ℕ → Rows) (g h : ℕ → List Change) (ns : List ℕ) (us : Tables) (cs : TableChanges) → AreDifferences (map f ns) us cs → h ≡ put g ns cs → ((t : ℕ) → ChangesRise 0 (g t) × AreOld (f t) (g t)) → (t : ℕ) → ChangesRise 0 (h t) × AreOld (f t) (h t)
differences_fit f g h ns us cs d is fit t =
    subst (λ (c : List Change). ChangesRise 0 c × AreOld (f t) c) (sym (ap (λ (x : ℕ → List Change). x t) is)) (put_holds (λ t c. ChangesRise 0 c × AreOld (f t) c) g ns cs (differences_each f ns us cs d) fit t)

pub differences_many : (f : ℕ → Rows) (ns : List ℕ) (us : Tables) (cs : TableChanges) → AreDifferences (map f ns) us cs → length cs ≡ length ns
differences_many f [] [] [] d = refl
differences_many f [] [] (c ∷ cs) d = absurd d
differences_many f [] (u ∷ us) cs d = absurd d
differences_many f (n ∷ ns) [] cs d = absurd d
differences_many f (n ∷ ns) (u ∷ us) [] d = absurd d
differences_many f (n ∷ ns) (u ∷ us) (c ∷ cs) d = ap suc (differences_many f ns us cs d.1)

-- ---- memories under numbers

-- a memory that is put where it is
pub put_same : (m : ℕ → Pairs) (k : ℕ) (pairs : Pairs) → pairs ≡ m k → put m (k ∷ []) (pairs ∷ []) ≡ m
put_same m k pairs same = fun_ext (λ n.
    let M : Bool → Type 0 = λ b. (n == k) ≡ b → (if b then pairs else m n) ≡ m n in
    let both : M (n == k) = elim (n == k) as (λ b. M b) [ true ↦ λ e. same ∙ ap m (sym (eqb-true n k e)) | false ↦ λ e. refl ] in
    both refl)

-- ---- a side of the pair that is read
