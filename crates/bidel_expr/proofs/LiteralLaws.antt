-- Names, literals and lists of them are read as their grammar says.
use Rattle.std.proofs.Common.{◌≡◌, ◌++◌, List, [], true, false, refl, inl, inr}
use Rattle.std.specs.Prelude.{Some, codes, pos, neg_ℤ}
use Rattle.par_base.specs.Names.{is_name, is_reserved}
use Rattle.par_base.specs.declared.value.Value.{Value}
use Rattle.par_base.specs.declared.value.Value.TheVariants.{Null, Int}
use Rattle.phrases.specs.Phrases.{OneOf, Behind}
use Rattle.phrases.specs.Reading.{starts, is, none, or, one_at, behind_at}
use Rattle.phrases.specs.Reads.{Reads}
use Rattle.phrases.proofs.ReadersLaws.{either-reads, one-reads, word as then_word, begins_one, begins_token, known}
use Rattle.phrases.proofs.ListsLaws.{enclosed-reads}
use Rattle.bidel_expr.specs.Lexemes.{Lexeme, word, number, «text», symbol, name_of, negative_of, unsigned_of}
use Rattle.bidel_expr.specs.Literals.{comma_of, open_of, close_of, minus_of, Names, Literal, Tuple, name_at, names_at, literal_at, begins_literal, tuple_at}
use Rattle.bidel_expr.proofs.WordLaws.{by_sign, by_unsigned}

signed-reads : Reads none (Behind minus_of (OneOf negative_of)) (behind_at minus_of (one_at negative_of))
signed-reads = then_word none minus_of (symbol (codes "-")) tt refl (λ _. OneOf negative_of) (λ _. one_at negative_of) (λ _. one-reads none negative_of (number 0) (Int (neg_ℤ (pos 0))) refl)

pub unsigned-reads : Reads none (OneOf unsigned_of) (one_at unsigned_of)
unsigned-reads = one-reads none unsigned_of (word (codes "null")) Null refl

pub literal-reads : Reads none Literal literal_at
literal-reads = either-reads none (is minus_of) (Behind minus_of (OneOf negative_of)) (OneOf unsigned_of) _ _ signed-reads unsigned-reads
    (begins_one (is minus_of) minus_of true _ (known minus_of))
    (λ front us v h clear. begins_token (is minus_of) unsigned_of false (by_unsigned (is minus_of) false refl (λ n. refl) (λ b. refl) (λ n. refl)) front us v h)

begins-literal : (front us : List Lexeme) (v : Value) → Literal front v → starts begins_literal (front ++ us) ≡ true
begins-literal front us v (inl h) = begins_one begins_literal minus_of true _ (by_sign begins_literal true (codes "-") refl) front us v h
begins-literal front us v (inr h) = begins_token begins_literal unsigned_of true (by_unsigned begins_literal true refl (λ n. refl) (λ b. refl) (λ n. refl)) front us v h

-- one name of many
pub name_x : name_of (word (codes "x")) ≡ Some (codes "x")
unfolding is_name is_reserved
name_x = refl

pub name-reads : Reads none (OneOf name_of) name_at
name-reads = one-reads none name_of (word (codes "x")) (codes "x") name_x

pub names-reads : Reads none Names names_at
names-reads = enclosed-reads none comma_of (symbol (codes ",")) tt refl (OneOf name_of) name_at name-reads (λ t h. refl) (is name_of) open_of (symbol (codes "(")) tt refl
    close_of (symbol (codes ")")) tt refl (begins_token (is name_of) name_of true (known name_of)) (by_sign (or (is name_of) (or (is comma_of) none)) false (codes ")") refl)

pub tuple-reads : Reads none Tuple tuple_at
tuple-reads = enclosed-reads none comma_of (symbol (codes ",")) tt refl Literal literal_at literal-reads (λ t h. refl) begins_literal open_of (symbol (codes "(")) tt refl
    close_of (symbol (codes ")")) tt refl begins-literal (by_sign (or begins_literal (or (is comma_of) none)) false (codes ")") refl)
