-- Texts that are names.
use Rattle.std.specs.Prelude.{◌≡◌, ℕ, true, List, map}
use Rattle.par_base.specs.Names.{folded, is_name}

-- bytes that are a name as they stand
pub record IsName (bytes : List ℕ) : Type 0 where
  pub name : is_name bytes ≡ true
  pub lower : map folded bytes ≡ bytes
