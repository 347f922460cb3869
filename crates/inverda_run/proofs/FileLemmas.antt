-- The bytes of a file, read one piece after the other.
use Rattle.std.specs.Prelude.{Option, Some, None, ⊤}
use Rattle.std.proofs.Common.{◌≡◌, ℕ, List, [], ◌++◌, length, take, sym, ap, subst, ◌∙◌}
use Rattle.std.proofs.Math.Seq.{take-add}
use Rattle.std.proofs.lemmas.List.{length-append}
use Rattle.outside.specs.FileTold.{ReadsFile}

-- the bytes are the first ones of the file, where it is told
abbrev pub IsFront : Option (Option (List ℕ)) → List ℕ → Type 0
IsFront None bytes = ⊤
IsFront (Some None) bytes = bytes ≡ []
IsFront (Some (Some file)) bytes = bytes ≡ take (length bytes) file

-- a piece more
pub more_front : (told : Option (Option (List ℕ))) (bytes piece : List ℕ) → IsFront told bytes → ReadsFile told (length bytes) piece → IsFront told (bytes ++ piece)
more_front None bytes piece front reads = tt
more_front (Some None) bytes piece front reads = absurd reads
more_front (Some (Some file)) bytes piece front reads =
    ap (λ (l : List ℕ). l ++ piece) front ∙ ap (λ (l : List ℕ). take (length bytes) file ++ l) reads.0
    ∙ sym (take-add (length bytes) (length piece) file) ∙ ap (λ (n : ℕ). take n file) (sym (length-append bytes piece))

-- a piece more, by what is told of the file at the call
pub front_kept : (told now : Option (Option (List ℕ))) (bytes piece new : List ℕ) (at : ℕ) → now ≡ told → IsFront told bytes → at ≡ length bytes → ReadsFile now at piece → new ≡ bytes ++ piece → IsFront told new
front_kept told now bytes piece new at same front from reads is =
    let here : ReadsFile told (length bytes) piece = subst (λ (x : Option (Option (List ℕ)) × ℕ). ReadsFile x.0 x.1 piece) (λ i. (same i, from i)) reads in
    subst (λ (l : List ℕ). IsFront told l) (sym is) (more_front told bytes piece front here)
