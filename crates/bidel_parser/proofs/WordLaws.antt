-- One reserved word, one sign or one name, and then a phrase.
use Rattle.std.proofs.Common.{◌≡◌, ◌++◌, ℕ, List, Bool, refl, ap}
use Rattle.std.specs.Prelude.{Some, None, codes, cond}
use Rattle.std.proofs.lemmas.Slice.Eq.{bytes_eq-Decides}
use Prim.Native.String.{String}
use Rattle.phrases.specs.Phrases.{Seq}
use Rattle.phrases.specs.Reading.{Read, starts, and_then}
use Rattle.phrases.specs.Reads.{Reads, ReadsLast}
use Rattle.phrases.proofs.ReadersLaws.{one-reads, word as then_one, begins_one}
use Rattle.phrases.proofs.LastsLaws.{word-last}
use Rattle.bidel_expr.specs.Lexemes.{Lexeme, word, symbol, keyword, sign, name_of}
use Rattle.bidel_expr.specs.Literals.{name_at}
use Rattle.bidel_expr.proofs.WordLaws.{by_keyword, by_sign}
use Rattle.bidel_expr.proofs.LiteralLaws.{name_x}
use Rattle.bidel_parser.specs.Words.{Word, Sign, Name}
use Rattle.bidel_parser.specs.inner.WordReaders.{word_at, sign_at}

-- a word is itself
keyword_known : (w : List ℕ) → keyword w (word w) ≡ Some tt
keyword_known w = ap (λ (b : Bool). cond b (Some tt) None) ((bytes_eq-Decides w w).1 refl)

-- a sign is itself
sign_known : (w : List ℕ) → sign w (symbol w) ≡ Some tt
sign_known w = ap (λ (b : Bool). cond b (Some tt) None) ((bytes_eq-Decides w w).1 refl)

-- one reserved word
pub keyword_reads : (c : Lexeme → Bool) (w : String) → Reads c (Word w) (word_at w)
keyword_reads c w = one-reads c (keyword (codes w)) (word (codes w)) tt (keyword_known (codes w))

pub then_keyword : {B : Type 0} (c : Lexeme → Bool) (w : String) (T : List Lexeme → B → Type 0) (q : List Lexeme → Read Lexeme B) → Reads c T q
    → Reads c (Seq (Word w) λ _. T) (and_then (word_at w) λ _. q)
then_keyword c w T q r = then_one c (keyword (codes w)) (word (codes w)) tt (keyword_known (codes w)) (λ _. T) (λ _. q) (λ _. r)

pub then_sign : {B : Type 0} (c : Lexeme → Bool) (w : String) (T : List Lexeme → B → Type 0) (q : List Lexeme → Read Lexeme B) → Reads c T q
    → Reads c (Seq (Sign w) λ _. T) (and_then (sign_at w) λ _. q)
then_sign c w T q r = then_one c (sign (codes w)) (symbol (codes w)) tt (sign_known (codes w)) (λ _. T) (λ _. q) (λ _. r)

pub then_name : {B : Type 0} (c : Lexeme → Bool) (T : List ℕ → List Lexeme → B → Type 0) (q : List ℕ → List Lexeme → Read Lexeme B) → ((name : List ℕ) → Reads c (T name) (q name))
    → Reads c (Seq Name T) (and_then name_at q)
then_name c T q r = then_one c name_of (word (codes "x")) (codes "x") name_x T q r

-- the same for a phrase whose end hangs on what follows
pub keyword_last : {B : Type 0} (open' : B → Bool → List Lexeme → Bool) (w : String) (T : List Lexeme → B → Type 0) (q : Bool → List Lexeme → Read Lexeme B) → ReadsLast open' T q
    → ReadsLast open' (Seq (Word w) λ _. T) (λ ended. and_then (word_at w) λ _. q ended)
keyword_last open' w T q r = word-last open' (keyword (codes w)) (word (codes w)) tt (keyword_known (codes w)) (λ _. T) (λ ended _. q ended) (λ _. r)

pub name_last : {B : Type 0} (open' : B → Bool → List Lexeme → Bool) (T : List ℕ → List Lexeme → B → Type 0) (q : Bool → List ℕ → List Lexeme → Read Lexeme B)
    → ((name : List ℕ) → ReadsLast open' (T name) (λ ended. q ended name)) → ReadsLast open' (Seq Name T) (λ ended. and_then name_at (q ended))
name_last open' T q r = word-last open' name_of (word (codes "x")) (codes "x") name_x T q r

-- what begins with this word begins as it does
pub keyword_begins : {B : Type 0} (g : Lexeme → Bool) (v : Bool) (w : String) → g (word (codes w)) ≡ v → (T : List Lexeme → B → Type 0) (front us : List Lexeme) (b : B)
    → Seq (Word w) (λ _. T) front b → starts g (front ++ us) ≡ v
keyword_begins g v w h T = begins_one g (keyword (codes w)) v (λ _. T) (by_keyword g v (codes w) h)

pub sign_begins : {B : Type 0} (g : Lexeme → Bool) (v : Bool) (w : String) → g (symbol (codes w)) ≡ v → (T : List Lexeme → B → Type 0) (front us : List Lexeme) (b : B)
    → Seq (Sign w) (λ _. T) front b → starts g (front ++ us) ≡ v
sign_begins g v w h T = begins_one g (sign (codes w)) v (λ _. T) (by_sign g v (codes w) h)
