-- Where the operators of a statement end: operators are known by their first words.
use Rattle.std.proofs.Common.{◌≡◌, ◌++◌, ◌∷◌, [], ℕ, List, Bool, true, refl, ap, ◌∙◌, sym, subst, inl, inr}
use Rattle.std.specs.Prelude.{Some, ◌||◌, codes}
use Rattle.std.proofs.lemmas.Bool.{or_cases}
use Rattle.phrases.specs.Phrases.{Many, Begins}
use Rattle.phrases.specs.Reading.{is}
use Rattle.phrases.specs.Reads.{ReadsLast}
use Rattle.phrases.proofs.ReadersLaws.{known, headed}
use Rattle.phrases.proofs.LastsLaws.{closed-then, made-last}
use Rattle.phrases.proofs.LookaheadLaws.{Begun, by_one, by_two, GoesOn, items-last}
use Rattle.bidel_expr.specs.Lexemes.{Lexeme, word, keyword}
use Rattle.bidel_expr.proofs.WordLaws.{keyword_is}
use Rattle.bidel_parser.specs.declared.first_words.OperatorWord.{OperatorWord}
use Rattle.bidel_parser.specs.declared.first_words.OperatorWord.TheVariants as first
use Rattle.bidel_parser.specs.Words.{choice_of, is_word}
use Rattle.statements.specs.Views.{OpView}
use Rattle.bidel_parser.specs.Operators.{operator_words, kinds, lone_words, shared_words, goes_on_with, DropRest, OperatorRest, Operator, ClosedOperator, ListedOperators, begins_operator}
use Rattle.bidel_parser.specs.inner.OperatorReaders.{closed_operator_at, operators_at, listed_operators_at}
use Rattle.bidel_parser.proofs.ChoiceLaws.{◌&◌, by_choice, chosen_of, begins_then, begins_behind, goes_first, goes_second}
use Rattle.bidel_parser.proofs.OperatorLaws.{create-table-reads, drop-rest-reads, operator-rest-reads, semicolon-reads, closed-operator-reads}

-- a token that alone shows an operator, one that begins statements too, and what shows it behind that
abbrev pub lone : Lexeme → Bool
lone = is (choice_of lone_words)

abbrev pub shared : Lexeme → Bool
shared = is (choice_of shared_words)

abbrev pub both : Lexeme → Lexeme → Bool
both t = goes_on_with (choice_of shared_words t)

-- the first word of an operator
abbrev operator_word : OperatorWord → List ℕ
operator_word first.Create = codes "create"
operator_word first.Drop = codes "drop"
operator_word first.Rename = codes "rename"
operator_word first.Add = codes "add"
operator_word first.Decompose = codes "decompose"
operator_word first.Outer = codes "outer"
operator_word first.Join = codes "join"
operator_word first.Split = codes "split"
operator_word first.Merge = codes "merge"

-- a word that stands for the beginning of an operator is its first word
word_is : (t : Lexeme) (k : OperatorWord) → choice_of operator_words t ≡ Some k → t ≡ word (operator_word k)
word_is = by_choice (λ t k. t ≡ word (operator_word k)) operator_words (refl & refl & refl & refl & refl & refl & refl & refl & refl & tt)

-- how what stands behind the first word shows it
begun_at : (k : OperatorWord) (ts us : List Lexeme) (o : OpView) → OperatorRest k ts o → Begun lone shared both (word (operator_word k) ∷ (ts ++ us))
begun_at first.Create ts us o h =
    by_two (word (codes "create")) (word (codes "table")) (h.right ++ us)
    (ap (λ (l : List Lexeme). word (codes "create") ∷ (l ++ us)) (headed (keyword (codes "table")) (word (codes "table")) _ (keyword_is (codes "table")) ts o h)) refl refl
begun_at first.Drop ts us o h =
    by_two (word (codes "drop")) h.first.0 (h.right ++ us)
    (ap (λ (l : List Lexeme). word (codes "drop") ∷ (l ++ us)) (h.whole ∙ ap (λ (l : List Lexeme). l ++ h.right) h.first.1)) refl (known (choice_of kinds) h.first.0 h.value h.first.2)
begun_at first.Rename ts us o h = by_one (word (codes "rename")) (ts ++ us) refl refl
begun_at first.Add ts us o h = by_one (word (codes "add")) (ts ++ us) refl refl
begun_at first.Decompose ts us o h = by_one (word (codes "decompose")) (ts ++ us) refl refl
begun_at first.Outer ts us o h = by_one (word (codes "outer")) (ts ++ us) refl refl
begun_at first.Join ts us o h = by_one (word (codes "join")) (ts ++ us) refl refl
begun_at first.Split ts us o h = by_one (word (codes "split")) (ts ++ us) refl refl
begun_at first.Merge ts us o h = by_one (word (codes "merge")) (ts ++ us) refl refl

-- how an operator begins
begun : (front : List Lexeme) (o : OpView) → ClosedOperator front o → Begun lone shared both front
begun front o h =
    let c = h.first in
    let head : c.left ≡ word (operator_word c.value) ∷ [] = c.first.1 ∙ ap (λ (t : Lexeme). t ∷ []) (word_is c.first.0 c.value c.first.2) in
    let whole : front ≡ word (operator_word c.value) ∷ (c.right ++ h.right) =
    h.whole ∙ ap (λ (l : List Lexeme). l ++ h.right) (c.whole ∙ ap (λ (l : List Lexeme). l ++ c.right) head) in
    subst (Begun lone shared both) (sym whole) (begun_at c.value c.right h.right h.value c.second)

-- ---- with each word that begins an operator some operator goes on

-- an operator that goes on can be closed
closes : (front : List Lexeme) → Begins Operator front → Begins ClosedOperator front
closes front b = begins_then Operator _ front b (λ o. (semicolon-reads o).some)

-- an operator goes on with its first word
begins_operator_with : (t : Lexeme) (k : OperatorWord) → choice_of operator_words t ≡ Some k → GoesOn closed_operator_at [] t
begins_operator_with t k h = goes_first ClosedOperator closed_operator_at closed-operator-reads t
    (closes (t ∷ []) (begins_behind (choice_of operator_words) OperatorRest t k [] h (operator-rest-reads k).some))

-- and so with each word that shows one
first_goes : (t : Lexeme) → (lone t || shared t) ≡ true → GoesOn closed_operator_at [] t
first_goes t h = elim (or_cases (lone t) (shared t) h) [
  | inl a ↦ (let c = chosen_of (choice_of lone_words t) a in
      begins_operator_with t c.0 (by_choice (λ t k. choice_of operator_words t ≡ Some k) lone_words (refl & refl & refl & refl & refl & refl & refl & tt) t c.0 c.1))
  | inr b ↦ (let c = chosen_of (choice_of shared_words t) b in
      begins_operator_with t c.0 (by_choice (λ t k. choice_of operator_words t ≡ Some k) shared_words (refl & refl & tt) t c.0 c.1))
]

-- CREATE goes on with TABLE
created : (u : Lexeme) → is_word "table" u ≡ true → GoesOn closed_operator_at (word (codes "create") ∷ []) u
created u h =
    let c = chosen_of (keyword (codes "table") u) h in
    goes_second ClosedOperator closed_operator_at closed-operator-reads (word (codes "create")) u
    (closes (word (codes "create") ∷ u ∷ []) (begins_behind (choice_of operator_words) OperatorRest (word (codes "create")) first.Create (u ∷ []) refl
    (begins_behind (keyword (codes "table")) _ u c.0 [] c.1 create-table-reads.some)))

-- DROP goes on with TABLE and with COLUMN
dropped : (u : Lexeme) → is (choice_of kinds) u ≡ true → GoesOn closed_operator_at (word (codes "drop") ∷ []) u
dropped u h =
    let c = chosen_of (choice_of kinds u) h in
    goes_second ClosedOperator closed_operator_at closed-operator-reads (word (codes "drop")) u
    (closes (word (codes "drop") ∷ u ∷ []) (begins_behind (choice_of operator_words) OperatorRest (word (codes "drop")) first.Drop (u ∷ []) refl
    (begins_behind (choice_of kinds) DropRest u c.0 [] c.1 (drop-rest-reads c.0).some)))

-- and so with the word behind one that begins statements too
second_goes : (t u : Lexeme) → shared t ≡ true → both t u ≡ true → GoesOn closed_operator_at (t ∷ []) u
second_goes t u h k =
    let c = chosen_of (choice_of shared_words t) h in
    by_choice (λ t k. goes_on_with (Some k) u ≡ true → GoesOn closed_operator_at (t ∷ []) u) shared_words (created u & dropped u & tt) t c.0 c.1
    (ap (λ (o : _). goes_on_with o u) (sym c.1) ∙ k)

further-last : ReadsLast (λ _. begins_operator) (Many ClosedOperator) operators_at
further-last = items-last lone shared both ClosedOperator closed_operator_at closed-operator-reads begun first_goes second_goes

pub listed-last : ReadsLast (λ _. begins_operator) ListedOperators listed_operators_at
listed-last = closed-then (λ _. begins_operator) ClosedOperator _ closed_operator_at _ closed-operator-reads (λ o.
    made-last (λ _. begins_operator) (λ _. begins_operator) (Many ClosedOperator) operators_at (λ os. o ∷ os) further-last (λ os ended us. refl))
