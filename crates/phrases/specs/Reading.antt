-- Reading tokens from the left: a value and the tokens after it, or the tokens from the first fault on, none where they ran out.
use Rattle.std.specs.Prelude.{◌++◌, ◌∷◌, ◌+◌, ◌||◌, ◌&&◌, not, ℕ, zero, suc, List, [], length, Bool, true, false, Result, Ok, Err, Option, Some, None, cond}

-- what a reader answers
abbrev pub Read : Type 0 → Type 0 → Type 0
Read Tok A = Result (A × List Tok) (List Tok)

infixl 10 ◌>>=◌
-- what follows is read from where the first ends; a fault stays
abbrev pub ◌>>=◌ : {Tok A B : Type 0} → Read Tok A → (A × List Tok → Read Tok B) → Read Tok B
(Ok x) >>= f = f x
(Err e) >>= f = Err e

-- p, and then what f makes of its value
abbrev pub and_then : {Tok A B : Type 0} → (List Tok → Read Tok A) → (A → List Tok → Read Tok B) → List Tok → Read Tok B
and_then p f ts = p ts >>= λ x. f x.0 x.1

-- the token that comes next
abbrev pub next : {Tok : Type 0} → List Tok → Option Tok
next [] = None
next (t ∷ ts) = Some t

-- whether f holds of the token, where there is one
abbrev pub test : {Tok : Type 0} → (Tok → Bool) → Option Tok → Bool
test f None = false
test f (Some t) = f t

-- whether a token of f comes next
abbrev pub starts : {Tok : Type 0} → (Tok → Bool) → List Tok → Bool
starts f ts = test f (next ts)

-- the token t, of which f said what it is
abbrev pub taken : {Tok A : Type 0} → Option A → Tok → List Tok → Read Tok A
taken (Some a) t ts = Ok (a, ts)
taken None t ts = Err (t ∷ ts)

-- one token, of which f says what it is
abbrev pub one_at : {Tok A : Type 0} → (Tok → Option A) → List Tok → Read Tok A
one_at f [] = Err []
one_at f (t ∷ ts) = taken (f t) t ts

-- nothing, with this value
abbrev pub done : {Tok A : Type 0} → A → List Tok → Read Tok A
done a ts = Ok (a, ts)

-- nothing, where none of these tokens comes next
abbrev pub done_unless : {Tok A : Type 0} → (Tok → Bool) → A → List Tok → Read Tok A
done_unless f a ts = cond (starts f ts) (Err ts) (Ok (a, ts))

-- p where one of these tokens comes next, else q
abbrev pub either : {Tok A : Type 0} → (Tok → Bool) → (List Tok → Read Tok A) → (List Tok → Read Tok A) → List Tok → Read Tok A
either f p q ts = cond (starts f ts) (p ts) (q ts)

-- whether there is a value
abbrev pub is_some : {A : Type 0} → Option A → Bool
is_some None = false
is_some (Some a) = true

-- whether f knows the token
abbrev pub is : {Tok A : Type 0} → (Tok → Option A) → Tok → Bool
is f t = is_some (f t)

-- no token
abbrev pub none : {Tok : Type 0} → Tok → Bool
none t = false

-- the tokens of either
abbrev pub or : {Tok : Type 0} → (Tok → Bool) → (Tok → Bool) → Tok → Bool
or f g t = f t || g t

-- items as long as `knows` says that one begins, or may begin as the input goes on; in at most so many turns
unfoldable pub many_at : {Tok A : Type 0} → (Bool → List Tok → Bool) → (List Tok → Read Tok A) → Bool → ℕ → List Tok → Read Tok (List A)
many_at knows item ended zero ts = Ok ([], ts)
many_at knows item ended (suc n) ts =
    cond (knows ended ts) (and_then item (λ a. and_then (many_at knows item ended n) λ as'. done (a ∷ as')) ts) (Ok ([], ts))

-- items as long as a token of g comes: at most as many as there are tokens
abbrev pub rest_at : {Tok A : Type 0} → (Tok → Bool) → (List Tok → Read Tok A) → List Tok → Read Tok (List A)
rest_at g item ts = many_at (λ _. starts g) item true (length ts + 1) ts

-- items behind those already read
abbrev pub with_front : {Tok A : Type 0} → List A → Read Tok (List A) → Read Tok (List A)
with_front front (Ok x) = Ok (front ++ x.0, x.1)
with_front front (Err e) = Err e

-- a token of f, and then p
abbrev pub behind_at : {Tok X A : Type 0} → (Tok → Option X) → (List Tok → Read Tok A) → List Tok → Read Tok A
behind_at f p = and_then (one_at f) λ _. p

-- p where a token of g comes
abbrev pub optional_at : {Tok A : Type 0} → (Tok → Bool) → (List Tok → Read Tok A) → List Tok → Read Tok (Option A)
optional_at g p = either g (and_then p λ a. done (Some a)) (done None)

-- p, and p again behind each token of f
abbrev pub separated_at : {Tok X A : Type 0} → (Tok → Option X) → (List Tok → Read Tok A) → List Tok → Read Tok (List A)
separated_at f p = and_then p λ a. and_then (rest_at (is f) (behind_at f p)) λ as'. done (a ∷ as')

-- such a list between two tokens, with no item where no token of g comes
abbrev pub enclosed_at : {Tok X Y Z A : Type 0} → (Tok → Bool) → (Tok → Option Y) → (Tok → Option X) → (Tok → Option Z) → (List Tok → Read Tok A) → List Tok → Read Tok (List A)
enclosed_at g open' f close p = behind_at open' (and_then (either g (separated_at f p) (done [])) λ as'. and_then (one_at close) λ _. done as')

-- whether an item begins, or may begin as the input goes on: a token of `one` shows it, and a token of `two` with the next one
abbrev pub begins_item : {Tok : Type 0} → (Tok → Bool) → (Tok → Bool) → (Tok → Tok → Bool) → Bool → List Tok → Bool
begins_item one two both ended [] = not ended
begins_item one two both ended (t ∷ []) = one t || (two t && not ended)
begins_item one two both ended (t ∷ u ∷ ts) = one t || (two t && both t u)
