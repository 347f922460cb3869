-- Names in lower case, and one version after the other.
use Rattle.std.specs.Prelude.{◌<◌, ◌&&◌, not, nat_le, Some, None}
use Rattle.std.specs.List.{list_all}
use Rattle.std.proofs.Common.{◌≡◌, ℕ, ◌+◌, List, [], ◌∷◌, ◌++◌, true, false, drop, get_or, length, map, take, refl, sym, ap, subst, ◌∙◌, arith}
use Rattle.std.proofs.lemmas.Bool.{and_parts}
use Rattle.std.proofs.lemmas.Bool.Decides.{nat_tests}
use Rattle.std.proofs.lemmas.List.{drop_more, take_more}
use Rattle.par_base.specs.Names.{begins_with_digit, folded, is_name, is_name_byte, is_reserved}
use Rattle.version_graph.specs.Edges.{Drawn}
use Rattle.version_graph.specs.Placing.{with_version}
use Rattle.op_any.specs.Operators.{AnyView}
use Rattle.dump_values.specs.declared.lines.VersionLine.{VersionLine}
use Rattle.dump_graph.specs.inner.Naming.{AreNamed, FindsName, MayName}

-- ---- names

folded_byte : (b : ℕ) → is_name_byte b ≡ true → folded b ≡ b
folded_byte b h = grind (arith, nat_tests)

folded_bytes : (bs : List ℕ) → list_all is_name_byte bs ≡ true → map folded bs ≡ bs
folded_bytes [] h = refl
folded_bytes (b ∷ bs) h =
    let p = and_parts (is_name_byte b) (list_all is_name_byte bs) h in
    ap (λ x. x ∷ map folded bs) (folded_byte b p.0) ∙ ap (λ xs. b ∷ xs) (folded_bytes bs p.1)

-- a name is in lower case
folded_name : (bs : List ℕ) → is_name bs ≡ true → map folded bs ≡ bs
unfolding is_name
folded_name bs h =
    let p = and_parts (nat_le 1 (length bs) && nat_le (length bs) 64) (list_all is_name_byte bs && (not (begins_with_digit bs) && not (is_reserved bs))) h in
    folded_bytes bs (and_parts (list_all is_name_byte bs) (not (begins_with_digit bs) && not (is_reserved bs)) p.1).0

-- bytes that are no name in lower case are none
pub none_is_name : (written : List ℕ) → is_name (map folded written) ≡ false → FindsName written None
none_is_name written none is = let clash : true ≡ false = sym is ∙ ap is_name (sym (folded_name written is)) ∙ none in cc

-- nor are bytes that aren't in lower case
pub other_is_no_name : (written name : List ℕ) → name ≡ map folded written → (name ≡ written → ⊥) → FindsName written None
other_is_no_name written name is differs one = differs (is ∙ folded_name written one)

-- a name that the bytes are
pub is_found : (written name : List ℕ) → is_name name ≡ true → name ≡ written → FindsName written (Some name)
is_found written name is same = (same, ap is_name (sym same) ∙ is)

-- ---- lines

named_next : (g : Drawn AnyView) (lines : List VersionLine) (line : VersionLine) (mid : Drawn AnyView)
    → AreNamed g lines mid → MayName mid line → AreNamed g (lines ++ line ∷ []) (with_version mid line.name line.set)
named_next g [] line mid are may = (subst (λ m. MayName m line) are may, ap (λ m. with_version m line.name line.set) are)
named_next g (l ∷ lines) line mid are may = (are.0, named_next (with_version g l.name l.set) lines line mid are.1 may)

-- one line more is named
pub named_so_far : (first g : Drawn AnyView) (lines : List VersionLine) (i : ℕ) (line : VersionLine) → i < length lines → line ≡ get_or lines i line
    → AreNamed first (take i lines) g → MayName g line → AreNamed first (take (i + 1) lines) (with_version g line.name line.set)
named_so_far first g lines i line within here are may =
    subst (λ ls. AreNamed first ls (with_version g line.name line.set)) (sym (take_more lines i line within ∙ ap (λ x. take i lines ++ x ∷ []) (sym here))) (named_next first (take i lines) line g are may)

left_from : (lines : List VersionLine) (i : ℕ) (line : VersionLine) → i < length lines → line ≡ get_or lines i line → drop i lines ≡ line ∷ drop (i + 1) lines
left_from lines i line within here = drop_more lines i line within ∙ ap (λ x. x ∷ drop (i + 1) lines) (sym here)

-- whatever graph all lines make, those that are left make it
pub left_behind : (first g : Drawn AnyView) (lines : List VersionLine) (i : ℕ) (line : VersionLine) → i < length lines → line ≡ get_or lines i line
    → ((new : Drawn AnyView) → AreNamed first lines new → AreNamed g (drop i lines) new)
    → (new : Drawn AnyView) → AreNamed first lines new → AreNamed (with_version g line.name line.set) (drop (i + 1) lines) new
left_behind first g lines i line within here others new are = (subst (λ ls. AreNamed g ls new) (left_from lines i line within here) (others new are)).1

-- where one of them may not be named, all lines make no graph
pub none_left : (first g : Drawn AnyView) (lines : List VersionLine) (i : ℕ) (line : VersionLine) → i < length lines → line ≡ get_or lines i line
    → ((new : Drawn AnyView) → AreNamed first lines new → AreNamed g (drop i lines) new) → (MayName g line → ⊥)
    → (new : Drawn AnyView) → AreNamed first lines new → ⊥
none_left first g lines i line within here others none new are = none (subst (λ ls. AreNamed g ls new) (left_from lines i line within here) (others new are)).0
