-- The texts of the script are short, and its integers small.
use Rattle.std.proofs.Common.{◌≤◌, ◌<◌, ◌^◌, ◌%◌, ◌+◌, ℕ, List, [], ◌∷◌, ◌++◌, length, arith}
use Rattle.std.specs.Prelude.{codes, decimal, pos, FitsSigned}
use Rattle.std.specs.Int.{w64}
use Rattle.std.specs.List.{All}
use Rattle.std.proofs.lemmas.Fmt.{length-decimal-le}
use Rattle.std.proofs.lemmas.Int.{fits_signed_from_abs}
use Rattle.std.proofs.lemmas.Str.{IsUtf8-append}
use Rattle.std.proofs.lemmas.List.Elements.{All-nil, All-cons}
use Rattle.par_base.specs.declared.value.Value.{Value}
use Rattle.par_base.specs.declared.value.Value.TheVariants.{Int}
use Rattle.par_base.proofs.LiteralLaws.{id_is_utf8}
use Rattle.expr_lang.specs.Operations.{text_limit}
use Rattle.statements.specs.Texts.{IsTextWithin, ValueTexts, RowTexts, OpTexts, AssignmentTexts, TextsWithin}
use Rattle.script_generator.proofs.StatementLemmas.{byte_utf8}
use Rattle.script_generator.specs.Generated.{lettered, create_task, create_tasky, insert_task, split_task, drop_prio, create_do, decompose_task, rename_author, create_tasky2, insert_todo, delete_tasks, rename_authors}

-- a text of at most so many bytes
abbrev IsShort : List ℕ → Type 0
IsShort = IsTextWithin text_limit

-- a small integer
small : (n : ℕ) → n ≤ 3 → FitsSigned w64 (pos n)
small n h = fits_signed_from_abs w64 (pos n) (omega (arith, h))

-- a list of one item, or of two
one : {A : Type 0} (P : A → Type 0) (a : A) → P a → All P (a ∷ [])
one P a p = All-cons P a [] p (All-nil P)

two : {A : Type 0} (P : A → Type 0) (a b : A) → P a → P b → All P (a ∷ b ∷ [])
two P a b p q = All-cons P a (b ∷ []) p (one P b q)

-- a letter and a number
lettered_short : (c : ℕ) (i : ℕ) → c < 128 → i < 2 ^ 32 → IsShort (c ∷ decimal i)
lettered_short c i h k =
    let digits : length (decimal i) ≤ 10 = length-decimal-le 10 i (omega arith) (omega (arith, k)) (omega (arith, k)) in
    (omega (arith, digits), IsUtf8-append (c ∷ []) (decimal i) (byte_utf8 c h) (id_is_utf8 i (omega (arith, k))))

module _ (i : ℕ) (h : i < 2 ^ 32) where
  abbrev author : Value
  author = lettered (codes "a") (i % 10)

  abbrev name : Value
  name = lettered (codes "t") i

  abbrev prio : Value
  prio = Int (pos (i % 3 + 1))

  pub task_short : TextsWithin text_limit (insert_task i)
  task_short =
      one (RowTexts IsShort) (author ∷ name ∷ prio ∷ []) (All-cons (ValueTexts IsShort) author (name ∷ prio ∷ [])
      (lettered_short 97 (i % 10) (omega arith) (omega arith))
      (two (ValueTexts IsShort) name prio (lettered_short 116 i (omega arith) h) (small (i % 3 + 1) (omega arith))))

  abbrev new_author : Value
  new_author = lettered (codes "b") (i % 8)

  abbrev new_name : Value
  new_name = lettered (codes "u") i

  pub todo_short : TextsWithin text_limit (insert_todo i)
  todo_short =
      one (RowTexts IsShort) (new_author ∷ new_name ∷ []) (two (ValueTexts IsShort) new_author new_name
      (lettered_short 98 (i % 8) (omega arith) (omega arith)) (lettered_short 117 i (omega arith) h))

pub tasky_short : TextsWithin text_limit create_tasky
tasky_short = one (OpTexts IsShort) create_task tt

pub do_short : TextsWithin text_limit create_do
do_short = two (OpTexts IsShort) split_task drop_prio ((tt, small 1 (omega arith)), tt) (small 1 (omega arith))

pub tasky2_short : TextsWithin text_limit create_tasky2
tasky2_short = two (OpTexts IsShort) decompose_task rename_author tt tt

pub delete_short : TextsWithin text_limit delete_tasks
delete_short = (tt, small 2 (omega arith))

-- a text of two bytes
two_bytes : (c d : ℕ) → c < 128 → d < 128 → IsShort (c ∷ d ∷ [])
two_bytes c d h k = (omega arith, IsUtf8-append (c ∷ []) (d ∷ []) (byte_utf8 c h) (byte_utf8 d k))

pub rename_short : TextsWithin text_limit rename_authors
rename_short = (one (AssignmentTexts IsShort) _ (omega arith, byte_utf8 99 (omega arith)), (tt, two_bytes 98 48 (omega arith) (omega arith)))
