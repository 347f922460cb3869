-- A resolved expression is closed where its references are known and its texts fit.
use Rattle.std.proofs.Common.{◌≡◌, ℕ, List, Bool, true, false, cond, Option, Some, None, Result, Ok, Err, IfOk, refl, sym, ◌∙◌, arith}
use Rattle.std.specs.Prelude.{◌||◌, ◌==◌, nat_le}
use Rattle.std.specs.List.{find}
use Rattle.std.specs.Option.{option_or}
use Rattle.std.proofs.lemmas.Bool.{leb-false, eqb-false}
use Rattle.par_base.specs.declared.value.Value.{Value}
use Rattle.par_base.specs.declared.value.Value.TheVariants.{Null, Int, Text, Reference}
use Rattle.expr_lang.specs.declared.tree.UnaryOp.{UnaryOp}
use Rattle.expr_lang.specs.declared.tree.BinaryOp.{BinaryOp}
use Rattle.expr_lang.specs.Terms.{Term, Literal, Column, Unary, Binary, reference_in}
use Rattle.expr_lang.specs.Resolved.{resolved, place_of, column_at, unary_at, binary_at, is_unknown, first_unknown_id}
use Rattle.expr_lang.proofs.ReferencesLaws.{first_unknown_id-both}
use Rattle.op_law.specs.Sound.{IsBelow, ValueSound}
use Rattle.op_law.specs.SoundTerms.{TermSound}
use Rattle.op_any.specs.Texts.{ValueFits, TermFits}

-- a known identifier is below the next one
known_below : (next id : ℕ) (zero upper : Bool) → (id == 0) ≡ zero → nat_le next id ≡ upper → cond (zero || upper) (Some id) None ≡ None → IsBelow next id
known_below next id true upper is over none = absurd (cc)
known_below next id false true is over none = absurd (cc)
known_below next id false false is over none = (omega (arith, eqb-false id 0 is), omega (arith, leb-false next id over))

value_sound : (next : ℕ) (v : Value) → find (is_unknown next) (reference_in v) ≡ None → ValueFits v → ValueSound next v
value_sound next Null known fits = tt
value_sound next (Int number) known fits = fits
value_sound next (Text bytes) known fits = fits
value_sound next (Reference id) known fits = known_below next id (id == 0) (nat_le next id) refl refl known

first_none : (a b : Option ℕ) → option_or a b ≡ None → (a ≡ None) × (b ≡ None)
first_none None b e = (refl, e)
first_none (Some id) b e = absurd (cc)

column_sound : (next : ℕ) (name : List ℕ) (o : Option ℕ) → IfOk (column_at name o) (TermSound next)
column_sound next name (Some place) = tt
column_sound next name None = tt

unary_sound : (next : ℕ) (op : UnaryOp) (r : Result (Term ℕ) (List ℕ)) → IfOk r (TermSound next) → IfOk (unary_at op r) (TermSound next)
unary_sound next op (Ok t) sound = sound
unary_sound next op (Err name) sound = tt

binary_sound : (next : ℕ) (op : BinaryOp) (r s : Result (Term ℕ) (List ℕ)) → IfOk r (TermSound next) → IfOk s (TermSound next) → IfOk (binary_at op r s) (TermSound next)
binary_sound next op (Ok t) (Ok u) left right = (left, right)
binary_sound next op (Ok t) (Err name) left right = tt
binary_sound next op (Err name) s left right = tt

pub resolved_sound : (next : ℕ) (columns : List (List ℕ)) (t : Term (List ℕ)) → first_unknown_id next t ≡ None → TermFits t → IfOk (resolved columns t) (TermSound next)
unfolding resolved first_unknown_id
resolved_sound next columns (Literal v) known fits = value_sound next v known fits
resolved_sound next columns (Column name) known fits = column_sound next name (place_of columns name)
resolved_sound next columns (Unary op t) known fits = unary_sound next op (resolved columns t) (resolved_sound next columns t known fits)
resolved_sound next columns (Binary op t u) known fits =
    let both = first_none (first_unknown_id next t) (first_unknown_id next u) (sym (first_unknown_id-both next t u) ∙ known) in
    binary_sound next op (resolved columns t) (resolved columns u) (resolved_sound next columns t both.0 fits.0) (resolved_sound next columns u both.1 fits.1)
