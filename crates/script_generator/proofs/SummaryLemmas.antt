-- Seven pieces, one behind the other.
use Rattle.std.proofs.Common.{◌≡◌, ℕ, List, [], ◌++◌, append_assoc}

pub seven : (a b c d e f g l m n o p q r s : List ℕ) → l ≡ [] → m ≡ l ++ a → n ≡ m ++ b → o ≡ n ++ c → p ≡ o ++ d → q ≡ p ++ e → r ≡ q ++ f → s ≡ r ++ g
    → s ≡ a ++ (b ++ (c ++ (d ++ (e ++ (f ++ g)))))
seven a b c d e f g l m n o p q r s h0 h1 h2 h3 h4 h5 h6 h7 =
    let whole : s ≡ (((((([] ++ a) ++ b) ++ c) ++ d) ++ e) ++ f) ++ g = cc in
    simp append_assoc at whole
