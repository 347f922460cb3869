-- Entries behind others.
use Rattle.std.specs.Prelude.{◌≤◌, ◌==◌, nat_le, not, is_some, option_and_then, if◌then◌else◌}
use Rattle.std.proofs.Common.{◌≡◌, Bool, true, false, Option, Some, None, refl, sym, ap, ◌∙◌, ℕ, ◌+◌, [], ◌∷◌, ◌++◌, arith}
use Rattle.std.proofs.lemmas.Bool.{and_parts, leb-true}
use Rattle.serde_json.specs.Data.{Data, Items, item}
use Rattle.id_memory.specs.Pairs.{Pairs, RiseFrom, id_of, pair_of}
use Rattle.dump_values.specs.Pairs.{may_follow, pairs_behind, triple_of}
use Rattle.dump_values.specs.inner.Calls.{EndBefore}

pub ends_more : (es : Pairs) (m n : ℕ) → EndBefore es m → m ≤ n → EndBefore es n
ends_more [] m n h less = tt
ends_more (e ∷ es) m n h less = ((let here = h.0 in omega (arith, here, less)), ends_more es m n h.1 less)

pub ends_push : (es : Pairs) (e : ℕ × ℕ × ℕ) → EndBefore es e.0 → EndBefore (es ++ e ∷ []) (e.0 + 1)
ends_push [] e h = (omega arith, tt)
ends_push (x ∷ es) e h = ((let here = h.0 in omega (arith, here)), ends_push es e h.1)

-- entries rise with one behind them
pub rise_push : (es : Pairs) (least : ℕ) (e : ℕ × ℕ × ℕ) → RiseFrom least es → EndBefore es e.0 → least ≤ e.0 → RiseFrom least (es ++ e ∷ [])
rise_push [] least e rise ends less = (less, tt)
rise_push (x ∷ es) least e rise ends less = (rise.0, rise_push es (x.0 + 1) e rise.1 ends.1 (let here = ends.0 in omega (arith, here)))

-- an identifier behind all has no pair
pub none_behind : (es : Pairs) (p : ℕ) → EndBefore es p → pair_of es p ≡ None
none_behind [] p ends = refl
none_behind (e ∷ es) p ends =
    let here = ends.0 in
    let other : (e.0 == p) ≡ false = grind arith in
    ap (λ (b : Bool). if b then Some (e.1, e.2) else pair_of es p) other ∙ none_behind es p ends.1

-- what each identifier has with one entry behind the others
pub pair_behind : (es : Pairs) (e : ℕ × ℕ × ℕ) (q : ℕ) → EndBefore es e.0 → pair_of (es ++ e ∷ []) q ≡ (if e.0 == q then Some (e.1, e.2) else pair_of es q)
pair_behind [] e q ends = refl
pair_behind (x ∷ es) e q ends =
    ap (λ (o : Option (ℕ × ℕ)). if x.0 == q then Some (x.1, x.2) else o) (pair_behind es e q ends.1) ∙ turn (x.0 == q) refl
  where
    turn : (b : Bool) → (x.0 == q) ≡ b → (if b then Some (x.1, x.2) else (if e.0 == q then Some (e.1, e.2) else pair_of es q)) ≡ (if e.0 == q then Some (e.1, e.2) else (if b then Some (x.1, x.2) else pair_of es q))
    turn true is =
        let here = ends.0 in
        let other : (e.0 == q) ≡ false = grind arith in
        ap (λ (c : Bool). if c then Some (e.1, e.2) else Some (x.1, x.2)) (sym other)
    turn false is = refl

-- one entry more was read
pub step : (made : Pairs) (least : ℕ) (e : ℕ × ℕ × ℕ) (d : Data) (ds : Items) → triple_of d ≡ Some e → may_follow made least e ≡ true
    → pairs_behind made least (item d ds) ≡ pairs_behind (made ++ e ∷ []) (e.0 + 1) ds
step made least e d ds is follows =
    ap (λ (o : Option (ℕ × ℕ × ℕ)). option_and_then (λ (x : ℕ × ℕ × ℕ). if may_follow made least x then pairs_behind (made ++ x ∷ []) (x.0 + 1) ds else None) o) is
    ∙ ap (λ (b : Bool). if b then pairs_behind (made ++ e ∷ []) (e.0 + 1) ds else None) follows

-- an entry that may follow isn't below the least
pub follow_least : (made : Pairs) (least : ℕ) (e : ℕ × ℕ × ℕ) → may_follow made least e ≡ true → least ≤ e.0
follow_least made least e follows = leb-true least e.0 (and_parts (nat_le least e.0) (not (is_some (id_of made e.1 e.2))) follows).0
