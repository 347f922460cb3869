-- What clap makes of words that are options with their values.
use Rattle.std.specs.Prelude.{◌⊎◌}
use Rattle.std.specs.Str.{bytes_eq}
use Rattle.std.specs.List.{fold}
use Rattle.std.proofs.Common.{◌≡◌, ◌≢◌, Bool, true, false, List, [], ◌∷◌, ◌++◌, append-nil, Option, Some, None, codes, refl, sym, ap, ◌∙◌, inl, inr}
use Rattle.std.specs.Prelude.{◌==◌}
use Rattle.std.proofs.Common.{arith}
use Rattle.std.proofs.lemmas.Bool.Decides.{nat_tests}
use Rattle.std.proofs.lemmas.Slice.Eq.{bytes_eq-Decides}
use Rattle.clap.specs.Walk.{Held, Row, Rule, Text, Walk, arg_by_id, arg_by_long, at_row, has_row, idle, more_values, option, settled, settled_rows, used, walked, without}
use Rattle.clap.specs.Simple.{Shape, built}
use Rattle.clap.specs.Faults.{settle_fault, turn_fault, use_fault, walk_fault}
use Rattle.clap.specs.Kinds.{Kinds, or_else}
use Rattle.clap.specs.Lexer.{long_of, short_of}
use Rattle.clap.specs.declared.parser.matches.ValueSource.TheVariants.{CommandLine}
use Rattle.run_words.specs.Words.{Given, IsOption, IsValue}
use Rattle.run_words.specs.inner.Reading.{program}

-- ---- the built program

abbrev pub shape : Shape
shape = (built program).top

abbrev pub rules : List Rule
rules = shape.rules

-- the rule of an option, as building leaves it
abbrev pub rule : Text → Rule
rule name = record {
  id = name;
  long = Some name;
  aliases = [];
  short = None;
  short_aliases = [];
  index = None;
  action = Some Rattle.clap.specs.declared.builder.action.ArgAction.TheVariants.Set;
  range = Some (record { start_inclusive = 1; end_inclusive = 1 });
  value_names = 0;
  defaults = [];
  missing = [];
  trailing_var_arg = false;
  parser = Some Rattle.clap.specs.declared.builder.value_parser.ValueParser.TheVariants.String;
  ignore_case = false;
  required = false;
  is_simple = true;
  is_free = true;
}

pub by_id : (name : Text) → IsOption name → arg_by_id rules name ≡ Some (rule name)
by_id name (inl is) = rw is refl
by_id name (inr (inl is)) = rw is refl
by_id name (inr (inr (inl is))) = rw is refl
by_id name (inr (inr (inr is))) = rw is refl

pub by_long : (name : Text) → IsOption name → arg_by_long rules name ≡ Some (rule name)
by_long name (inl is) = rw is refl
by_long name (inr (inl is)) = rw is refl
by_long name (inr (inr (inl is))) = rw is refl
by_long name (inr (inr (inr is))) = rw is refl

-- ---- one option

-- what is found for an option with its value
abbrev pub row : Given → Row
row g = record {
  id = g.name;
  values = g.value ∷ [];
  count = None;
  source = Some CommandLine;
  reading = Rattle.clap.specs.Walk.reading_by (rule g.name);
}

-- what is held: rows, and an option whose value isn't used yet
abbrev pub holding : List Row → Option (Text × List Text) → Held
holding rows pending = record { rows = rows; pending = pending; skip = 0 }

abbrev pub standing : Held → Walk
standing h = record { held = h; waiting = idle; position = 1; is_trailing = false; stopped = None }

-- where the walk over the words ends
abbrev pub end : Held → List Text → Held
end h words = (fold (walked rules []) (standing h) words).held

-- the rows at the end
abbrev pub end_rows : Held → List Text → List Row
end_rows h words = (settled rules (end h words)).rows

-- clap finds no fault in the words behind what is held, neither at a word nor at the end
pub record AreFine (h : Held) (words : List Text) : Type 0 where
  pub walks : walk_fault shape [] (standing h) words ≡ []
  pub settles : settle_fault rules false (end h words) ≡ []

-- ---- lists of faults

pub both_none : (a b : Kinds) → or_else a b ≡ [] → (a ≡ []) × (b ≡ [])
both_none [] b e = (refl, e)
both_none (k ∷ ks) b e = cc

pub none_both : (a b : Kinds) → a ≡ [] → b ≡ [] → or_else a b ≡ []
none_both a b first second = rw first second

-- ---- rows

no_row : (name : Text) (r : Row) (rows : List Row) → has_row name (r ∷ rows) ≡ false → (bytes_eq r.id name ≡ false) × (has_row name rows ≡ false)
no_row name r rows none = go (bytes_eq r.id name) refl
  where
    go : (t : Bool) → bytes_eq r.id name ≡ t → (bytes_eq r.id name ≡ false) × (has_row name rows ≡ false)
    go true e = let clash : true ≡ false = rw e at none in cc
    go false e = (e, rw e at none)

-- the rows of an identifier that has none
at_no_row : (name : Text) (change : Row → List Row) (missing rows : List Row) → has_row name rows ≡ false → at_row name change missing rows ≡ rows ++ missing
at_no_row name change missing [] none = refl
at_no_row name change missing (r ∷ rows) none =
    let parts = no_row name r rows none in
    rw parts.0 (ap (λ rs. r ∷ rs) (at_no_row name change missing rows parts.1))

-- a first use of an option adds its row
pub used_first : (name value : Text) (rows : List Row) → has_row name rows ≡ false → used (rule name) (value ∷ []) rows ≡ rows ++ row (record { name = name; value = value }) ∷ []
used_first name value rows none =
    let without_is : without name rows ≡ rows = at_no_row name (λ _. []) [] rows none ∙ append-nil rows in
    rw without_is (at_no_row name (more_values CommandLine (value ∷ [])) (row (record { name = name; value = value }) ∷ []) rows none)

pub first_use : (name value : Text) (rows : List Row) → has_row name rows ≡ false → use_fault false (rule name) (value ∷ []) rows ≡ []
first_use name value rows none = rw none refl

second_use : (name value : Text) (rows : List Row) → has_row name rows ≡ true → use_fault false (rule name) (value ∷ []) rows ≢ []
second_use name value rows has = rw has (λ e. cc)

pub empty_use : (name : Text) (rows : List Row) → use_fault false (rule name) [] rows ≢ []
empty_use name rows e = cc

-- a use without a fault is the first one
pub is_first : (name value : Text) (rows : List Row) → use_fault false (rule name) (value ∷ []) rows ≡ [] → has_row name rows ≡ false
is_first name value rows fine = go (has_row name rows) refl
  where
    go : (t : Bool) → has_row name rows ≡ t → has_row name rows ≡ false
    go true e = absurd (second_use name value rows e fine)
    go false e = e

-- ---- words

pub same_bytes : (a b : Text) → bytes_eq a b ≡ true → a ≡ b
same_bytes a b e = (bytes_eq-Decides a b).0 e

-- a word with a long name isn't `--`
not_dashes : (word : Text) (named : Text × Option Text) → long_of word ≡ Some named → bytes_eq word (45 ∷ 45 ∷ []) ≡ false
not_dashes word named long = go (bytes_eq word (45 ∷ 45 ∷ [])) refl
  where
    go : (t : Bool) → bytes_eq word (45 ∷ 45 ∷ []) ≡ t → bytes_eq word (45 ∷ 45 ∷ []) ≡ false
    go true e = let clash : None ≡ Some named = ap long_of (sym (same_bytes word (45 ∷ 45 ∷ []) e)) ∙ long in cc
    go false e = e

-- `--name=value`: the walk behind it, and its faults
pub joined_walk : (name value word : Text) (rows : List Row) (pending : Option (Text × List Text)) → IsOption name → long_of word ≡ Some (name, Some value)
    → walked rules [] (standing (holding rows pending)) word ≡ standing (holding (used (rule name) (value ∷ []) (settled_rows rules pending rows)) None)
unfolding walked
joined_walk name value word rows pending is long = rw (not_dashes word (name, Some value) long, long, by_long name is) refl

pub joined_fault : (name value word : Text) (rows : List Row) (pending : Option (Text × List Text)) → IsOption name → long_of word ≡ Some (name, Some value)
    → turn_fault shape [] (standing (holding rows pending)) word
    ≡ or_else (or_else (settle_fault rules false (holding rows pending)) (use_fault false (rule name) (value ∷ []) (settled_rows rules pending rows))) []
joined_fault name value word rows pending is long = rw (not_dashes word (name, Some value) long, long, by_long name is) refl

-- where an option waits for its value
abbrev pub waiting : Text → List Row → Walk
waiting name rows = record { held = holding rows (Some (name, [])); waiting = option name; position = 1; is_trailing = false; stopped = None }

-- `--name`
pub apart_walk : (name word : Text) (rows : List Row) (pending : Option (Text × List Text)) → IsOption name → long_of word ≡ Some (name, None)
    → walked rules [] (standing (holding rows pending)) word ≡ waiting name (settled_rows rules pending rows)
unfolding walked
apart_walk name word rows pending is long = rw (not_dashes word (name, None) long, long, by_long name is) refl

pub apart_fault : (name word : Text) (rows : List Row) (pending : Option (Text × List Text)) → IsOption name → long_of word ≡ Some (name, None)
    → turn_fault shape [] (standing (holding rows pending)) word ≡ or_else (settle_fault rules false (holding rows pending)) []
apart_fault name word rows pending is long = rw (not_dashes word (name, None) long, long, by_long name is) refl

-- a value isn't a flag
value_parts : (word : Text) → IsValue word → (bytes_eq word (45 ∷ 45 ∷ []) ≡ false) × (long_of word ≡ None) × (short_of word ≡ None)
value_parts [] is = absurd is
value_parts (b ∷ bs) is =
    let differs : (b == 45) ≡ false = grind (arith, nat_tests) in
    (rw differs refl, rw differs refl, rw differs refl)

-- the value that an option waits for
pub value_walk : (name word : Text) (rows : List Row) → IsOption name → IsValue word
    → walked rules [] (waiting name rows) word ≡ standing (holding rows (Some (name, word ∷ [])))
unfolding walked
value_walk name word rows is value = let p = value_parts word value in rw (p.0, p.1, p.2, by_id name is, name_is name) refl
  where
    name_is : (n : Text) → bytes_eq n n ≡ true
    name_is n = (bytes_eq-Decides n n).1 refl

pub value_fault : (name word : Text) (rows : List Row) → IsOption name → IsValue word → turn_fault shape [] (waiting name rows) word ≡ []
value_fault name word rows is value = let p = value_parts word value in rw (p.0, p.1, p.2) refl

-- a value that no option waits for
pub stray_fault : (word : Text) (rows : List Row) (pending : Option (Text × List Text)) → IsValue word → turn_fault shape [] (standing (holding rows pending)) word ≢ []
stray_fault word rows pending value = let p = value_parts word value in rw (p.0, p.1, p.2) (λ e. cc)

-- an unknown name
pub unknown_fault : (name : Text) (value : Option Text) (word : Text) (rows : List Row) (pending : Option (Text × List Text)) → arg_by_long rules name ≡ None
    → long_of word ≡ Some (name, value) → turn_fault shape [] (standing (holding rows pending)) word ≢ []
unknown_fault name value word rows pending none long = rw (not_dashes word (name, value) long, long, none) (λ e. cc)

pub unknown_waits : (first name : Text) (value : Option Text) (word : Text) (rows : List Row) → arg_by_long rules name ≡ None → long_of word ≡ Some (name, value)
    → turn_fault shape [] (waiting first rows) word ≢ []
unknown_waits first name value word rows none long = rw (not_dashes word (name, value) long, long, none) (λ e. cc)

-- a flag where an option waits for its value
pub flag_fault : (name other : Text) (value : Option Text) (word : Text) (rows : List Row) → IsOption name → IsOption other → long_of word ≡ Some (other, value)
    → turn_fault shape [] (waiting name rows) word ≢ []
flag_fault name other (Some value) word rows is known long = rw (not_dashes word (other, Some value) long, long, by_long other known, by_id name is) (λ e. cc)
flag_fault name other None word rows is known long = rw (not_dashes word (other, None) long, long, by_long other known, by_id name is) (λ e. cc)

-- a name is an option's, or clap knows none of it
pub option_or_none : (name : Text) → IsOption name ⊎ (arg_by_long rules name ≡ None)
option_or_none name =
    go (bytes_eq (codes "load") name) refl (bytes_eq (codes "dump") name) refl (bytes_eq (codes "max-ids") name) refl (bytes_eq (codes "generate") name) refl
  where
    go : (a : Bool) → bytes_eq (codes "load") name ≡ a → (b : Bool) → bytes_eq (codes "dump") name ≡ b → (c : Bool) → bytes_eq (codes "max-ids") name ≡ c
        → (d : Bool) → bytes_eq (codes "generate") name ≡ d → IsOption name ⊎ (arg_by_long rules name ≡ None)
    go true e b f c g d h = inl (inl (sym (same_bytes (codes "load") name e)))
    go false e true f c g d h = inl (inr (inl (sym (same_bytes (codes "dump") name f))))
    go false e false f true g d h = inl (inr (inr (inl (sym (same_bytes (codes "max-ids") name g)))))
    go false e false f false g true h = inl (inr (inr (inr (sym (same_bytes (codes "generate") name h)))))
    go false e false f false g false h = inr (rw (e, f, g, h) refl)
