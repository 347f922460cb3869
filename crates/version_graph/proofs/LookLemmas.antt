-- Tables found among those of one edge.
use Rattle.std.proofs.Common.{◌≡◌, ℕ, zero, suc, ◌+◌, ◌<◌, List, [], ◌∷◌, Bool, cond, length, get_or, drop, ap, arith, eq-eqb, add-one}
use Rattle.std.specs.Prelude.{◌==◌, Option, Some, option_map, slice_get}
use Rattle.std.specs.List.{find}
use Rattle.std.proofs.lemmas.Bool.{ne_eqb}
use Rattle.version_graph.specs.Tables.{TableVersion, tables_of}
use Rattle.version_graph.specs.declared.parts.Heading.{Heading}

-- the heading of a table among these
abbrev pub found : ℕ → List ℕ → List Heading → Option Heading
found t ns hs = option_map (λ (v : TableVersion). v.heading) (find (λ (v : TableVersion). t == v.number) (tables_of ns hs))

pub found_here : (t : ℕ) (ns : List ℕ) (hs : List Heading) (i : ℕ) → i < length ns → length ns ≡ length hs → t ≡ get_or ns i 0 → found t (drop i ns) (drop i hs) ≡ slice_get hs i
found_here t [] hs i within same e = absurd (omega arith)
found_here t (n ∷ ns) [] i within same e = absurd (omega arith)
found_here t (n ∷ ns) (h ∷ hs) zero within same e =
    ap (λ (b : Bool). option_map (λ (v : TableVersion). v.heading) (cond b (Some (record { number = n; heading = h })) (find (λ (v : TableVersion). t == v.number) (tables_of ns hs)))) (eq-eqb t n e)
found_here t (n ∷ ns) (h ∷ hs) (suc i) within same e = found_here t ns hs i (omega arith) (omega arith) e

later : (t : ℕ) (ns : List ℕ) (hs : List Heading) (i : ℕ) → i < length ns → length ns ≡ length hs → (t ≡ get_or ns i 0 → ⊥) → found t (drop i ns) (drop i hs) ≡ found t (drop (suc i) ns) (drop (suc i) hs)
later t [] hs i within same e = absurd (omega arith)
later t (n ∷ ns) [] i within same e = absurd (omega arith)
later t (n ∷ ns) (h ∷ hs) zero within same e =
    ap (λ (b : Bool). option_map (λ (v : TableVersion). v.heading) (cond b (Some (record { number = n; heading = h })) (find (λ (v : TableVersion). t == v.number) (tables_of ns hs)))) (ne_eqb t n e)
later t (n ∷ ns) (h ∷ hs) (suc i) within same e = later t ns hs i (omega arith) (omega arith) e

pub found_later : (t : ℕ) (ns : List ℕ) (hs : List Heading) (i : ℕ) → i < length ns → length ns ≡ length hs → (t ≡ get_or ns i 0 → ⊥) → found t (drop i ns) (drop i hs) ≡ found t (drop (i + 1) ns) (drop (i + 1) hs)
found_later t ns hs i within same e = rw add-one (later t ns hs i within same e)
