-- Which bytes spell a name.
use Rattle.std.specs.Prelude.{ℕ, ◌+◌, Bool, false, List, [], ◌∷◌, length, codes, nat_le, ◌==◌, ◌&&◌, ◌||◌, not, if◌then◌else◌}
use Rattle.std.specs.List.{list_all, list_any}
use Rattle.std.specs.Str.{bytes_eq}

-- a letter in lower case
abbrev pub is_small_letter : ℕ → Bool
is_small_letter b = nat_le 97 b && nat_le b 122

-- a letter in upper case
abbrev pub is_capital : ℕ → Bool
is_capital b = nat_le 65 b && nat_le b 90

abbrev pub is_digit : ℕ → Bool
is_digit b = nat_le 48 b && nat_le b 57

-- a byte of a name in lower case: a letter, a digit, `_` or `!`
abbrev pub is_name_byte : ℕ → Bool
is_name_byte b = is_small_letter b || (is_digit b || (b == 95 || b == 33))

-- the letter in lower case, and every other byte as it is
abbrev pub folded : ℕ → ℕ
folded b = if is_capital b then b + 32 else b

abbrev pub begins_with_digit : List ℕ → Bool
begins_with_digit [] = false
begins_with_digit (b ∷ bytes) = is_digit b

-- the words that are no names
abbrev pub reserved_words : List (List ℕ)
reserved_words =
    codes "add" ∷ codes "advise" ∷ codes "and" ∷ codes "as" ∷ codes "begin" ∷ codes "column" ∷ codes "commit" ∷ codes "create" ∷ codes "csv"
    ∷ codes "decompose" ∷ codes "default" ∷ codes "delete" ∷ codes "drop" ∷ codes "fk" ∷ codes "foreign" ∷ codes "from" ∷ codes "import"
    ∷ codes "in" ∷ codes "insert" ∷ codes "into" ∷ codes "is" ∷ codes "join" ∷ codes "key" ∷ codes "layout" ∷ codes "materialize" ∷ codes "merge"
    ∷ codes "not" ∷ codes "null" ∷ codes "on" ∷ codes "or" ∷ codes "outer" ∷ codes "pk" ∷ codes "primary" ∷ codes "rename" ∷ codes "rollback"
    ∷ codes "schema" ∷ codes "select" ∷ codes "session" ∷ codes "set" ∷ codes "show" ∷ codes "split" ∷ codes "step" ∷ codes "steps" ∷ codes "table"
    ∷ codes "to" ∷ codes "tracked" ∷ codes "unwatch" ∷ codes "update" ∷ codes "use" ∷ codes "values" ∷ codes "version" ∷ codes "watch"
    ∷ codes "where" ∷ codes "with" ∷ []

unfoldable pub is_reserved : List ℕ → Bool
is_reserved bytes = list_any (λ word. bytes_eq word bytes) reserved_words

-- 1 to 64 name bytes, of which the first is no digit, and no reserved word
unfoldable pub is_name : List ℕ → Bool
is_name bytes =
    (nat_le 1 (length bytes) && nat_le (length bytes) 64)
    && (list_all is_name_byte bytes && (not (begins_with_digit bytes) && not (is_reserved bytes)))
