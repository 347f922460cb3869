-- Keys are read as their grammar says.
use Rattle.std.proofs.Common.{◌≡◌, ◌++◌, ◌∷◌, [], List, Bool, true, false, Ok, Err, refl, ◌∙◌, sym}
use Rattle.std.specs.Prelude.{Some, codes}
use Rattle.par_base.specs.Names.{is_name, is_reserved}
use Rattle.phrases.specs.Phrases.{Nothing, Seq}
use Rattle.phrases.specs.Reading.{starts, is}
use Rattle.phrases.specs.Reads.{Reads}
use Rattle.phrases.specs.Levels.{prefix_at, unary_at}
use Rattle.phrases.proofs.ReadersLaws.{done-reads, either-reads, word as then_word, begins_one, begins_first, known}
use Rattle.phrases.proofs.ListsLaws.{made-reads}
use Rattle.bidel_expr.specs.Lexemes.{Lexeme, word}
use Rattle.bidel_expr.specs.Expressions.{Tree, Expression, expression_goes, expression_at, expr_item, conj_item, neg_item, comp_item, sum_item, product_item, unary_item, primary_item}
use Rattle.bidel_expr.proofs.ExpressionLaws.{expression-reads}
use Rattle.bidel_parser.specs.declared.first_words.KeyWord.{KeyWord}
use Rattle.bidel_parser.specs.declared.first_words.KeyWord.TheVariants as by
use Rattle.bidel_parser.specs.Words.{choice_of, Choice}
use Rattle.statements.specs.Views.{Primary, Foreign, Condition}
use Rattle.bidel_parser.specs.Operators.{key_words, KeyRest, Key}
use Rattle.bidel_parser.specs.inner.OperatorReaders.{key_rest_at, key_at}
use Rattle.bidel_parser.proofs.ChoiceLaws.{◌&◌, by_choice, chosen_of}
use Rattle.bidel_parser.proofs.WordLaws.{then_keyword, then_name}

key-rest-reads : (k : KeyWord) → Reads expression_goes (KeyRest k) (key_rest_at k)
key-rest-reads by.Pk = done-reads expression_goes Primary
key-rest-reads by.Primary = then_keyword expression_goes "key" _ _ (done-reads expression_goes Primary)
key-rest-reads by.Fk = then_name expression_goes _ _ (λ column. done-reads expression_goes (Foreign column))
key-rest-reads by.Foreign = then_keyword expression_goes "key" _ _ (then_name expression_goes _ _ (λ column. done-reads expression_goes (Foreign column)))

-- ---- an expression begins with none of the first words of keys: its reader stops at each

-- what is refused isn't read
refused : (us : List Lexeme) → expression_at us ≡ Err us → (e : Tree) → expression_at us ≡ Ok (e, []) → ⊥
refused us h e k = let clash = sym h ∙ k in cc

-- no such word is read as an expression
refuses_key : (t : Lexeme) (k : KeyWord) → choice_of key_words t ≡ Some k → (us : List Lexeme) → expression_at (t ∷ us) ≡ Err (t ∷ us)
unfolding is_name is_reserved expr_item conj_item neg_item prefix_at comp_item sum_item product_item unary_item unary_at primary_item
refuses_key = by_choice (λ t _. (us : List Lexeme) → expression_at (t ∷ us) ≡ Err (t ∷ us)) key_words ((λ us. refl) & (λ us. refl) & (λ us. refl) & (λ us. refl) & tt)

-- nor are no tokens
refuses_none : expression_at [] ≡ Err []
unfolding expr_item conj_item neg_item prefix_at comp_item sum_item product_item unary_item unary_at primary_item
refuses_none = refl

-- so no expression begins with one
no_key : (front us : List Lexeme) (e : Tree) → Expression front e → starts (is (choice_of key_words)) (front ++ us) ≡ false
no_key [] us e h = absurd (refused [] refuses_none e (expression-reads.reads [] [] e h refl))
no_key (t ∷ front) us e h = by (is (choice_of key_words) t) refl
  where
    by : (b : Bool) → is (choice_of key_words) t ≡ b → b ≡ false
    by true k =
        let c = chosen_of (choice_of key_words t) k in
        absurd (refused (t ∷ (front ++ [])) (refuses_key t c.0 c.1 (front ++ [])) e (expression-reads.reads (t ∷ front) [] e h refl))
    by false k = refl

pub key-reads : Reads expression_goes Key key_at
key-reads = either-reads expression_goes (is (choice_of key_words)) (Choice key_words KeyRest) (Seq Expression λ condition. Nothing (Condition condition)) _ _
    (then_word expression_goes (choice_of key_words) (word (codes "pk")) by.Pk refl KeyRest key_rest_at key-rest-reads)
    (made-reads expression_goes Expression expression_at (λ condition. Condition condition) expression-reads)
    (begins_one (is (choice_of key_words)) (choice_of key_words) true KeyRest (known (choice_of key_words)))
    (λ front us k h clear. begins_first (is (choice_of key_words)) false Expression _ no_key front us k h)
