-- Names by their bytes.
use Rattle.std.proofs.Common.{◌≡◌, ℕ, List, true}
use Rattle.std.specs.Str.{bytes_eq}
use Rattle.std.proofs.lemmas.Slice.Eq.{bytes_eq-Decides}

pub same_name : (xs ys : List ℕ) → bytes_eq xs ys ≡ true → xs ≡ ys
same_name xs ys e = (bytes_eq-Decides xs ys).0 e

pub name_is : (xs ys : List ℕ) → xs ≡ ys → bytes_eq xs ys ≡ true
name_is xs ys e = (bytes_eq-Decides xs ys).1 e
