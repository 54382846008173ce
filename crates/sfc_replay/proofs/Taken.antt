-- Bytes that were taken from a reader.
use Rattle.std.proofs.Common.{◌≡◌, ℕ, ◌≤◌, List, [], ◌++◌, length, take, Option, Some, None, sym, ap, ◌∙◌, arith}
use Rattle.std.proofs.Math.Seq.{take-append_seam}
use Rattle.std.proofs.lemmas.List.{append-nil, append_assoc, length-take, take_all}
use Rattle.std.specs.Io.KnownBytes.{Consumes, IsAtEnd}
use Rattle.sfc_replay.specs.Reading.{TakesAtMost, LosesAtMost, IsFront}

take_front : (n : ℕ) (xs ys : List ℕ) → length xs ≡ n → take n (xs ++ ys) ≡ xs
take_front n xs ys e = ap (λ m. take m (xs ++ ys)) (sym e) ∙ take-append_seam xs ys

-- bytes, and then more of them
pub consumes_more : (old mid new : Option (List ℕ)) (bytes more : List ℕ) → Consumes old mid bytes → Consumes mid new more → Consumes old new (bytes ++ more)
consumes_more None mid new bytes more c d = tt
consumes_more (Some xs) None new bytes more c d = absurd c
consumes_more (Some xs) (Some ys) None bytes more c d = absurd d
consumes_more (Some xs) (Some ys) (Some zs) bytes more c d = c ∙ ap (λ t. bytes ++ t) d ∙ sym (append_assoc bytes more zs)

-- bytes, and then none
consumes_none : (old mid new : Option (List ℕ)) (bytes : List ℕ) → Consumes old mid bytes → Consumes mid new [] → Consumes old new bytes
consumes_none None mid new bytes c d = tt
consumes_none (Some xs) None new bytes c d = absurd c
consumes_none (Some xs) (Some ys) None bytes c d = absurd d
consumes_none (Some xs) (Some ys) (Some zs) bytes c d = c ∙ ap (λ t. bytes ++ t) d

-- as many as are taken at most
pub most_taken : (n : ℕ) (old new : Option (List ℕ)) (bytes : List ℕ) → length bytes ≡ n → Consumes old new bytes → TakesAtMost n (old, new) bytes
most_taken n None new bytes e c = (tt, tt)
most_taken n (Some xs) None bytes e c = absurd c
most_taken n (Some xs) (Some ys) bytes e c = (sym (ap (take n) c ∙ take_front n bytes ys e), c)

-- all that there were
all_front : (n : ℕ) (old mid new : Option (List ℕ)) (bytes : List ℕ) → length bytes ≤ n → Consumes old mid bytes → Consumes mid new [] → IsAtEnd new → IsFront n old bytes
all_front n None mid new bytes l c d e = tt
all_front n (Some xs) None new bytes l c d e = absurd c
all_front n (Some xs) (Some ys) None bytes l c d e = absurd d
all_front n (Some xs) (Some ys) (Some zs) bytes l c d e =
    let whole : xs ≡ bytes = c ∙ ap (λ t. bytes ++ t) (d ∙ e) ∙ append-nil bytes in
    sym (ap (take n) whole ∙ take_all n bytes l)

pub all_taken : (n : ℕ) (old mid new : Option (List ℕ)) (bytes : List ℕ) → length bytes ≤ n → Consumes old mid bytes → Consumes mid new [] → IsAtEnd new → TakesAtMost n (old, new) bytes
all_taken n old mid new bytes l c d e = (all_front n old mid new bytes l c d e, consumes_none old mid new bytes c d)

take_few : (n : ℕ) (xs : List ℕ) → length (take n xs) ≤ n
take_few n xs = omega (arith, length-take n xs)

-- what was taken was lost
pub lost : (n : ℕ) (old new : Option (List ℕ)) (bytes : List ℕ) → TakesAtMost n (old, new) bytes → LosesAtMost n (old, new)
lost n None new bytes taken = (take n [], take_few n [], tt)
lost n (Some xs) new bytes taken = (bytes, few n xs bytes taken.0, taken.1)
  where
    few : (n : ℕ) (xs bytes : List ℕ) → bytes ≡ take n xs → length bytes ≤ n
    few n xs bytes e = let l = take_few n xs in rw e l
