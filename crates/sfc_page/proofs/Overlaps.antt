-- Text that was put in two pieces, which may have bytes in common.
use Rattle.std.proofs.Common.{◌≡◌, ◌<◌, ◌≤◌, ◌+◌, ◌-◌, ℕ, List, ◌++◌, length, take, drop, set, sym, ap, ◌∙◌, append_assoc, length-append, arith}
use Rattle.std.proofs.lemmas.List.{take-append-drop, take_all, take_rest, length-take, length-take-le, set-append_right}
use Rattle.std.proofs.Math.Seq.{take-append_seam, take-add, take-set-lt}

-- fronts of the same length of one list
fronts : (p q r s : List ℕ) → length p ≡ length q → p ++ r ≡ q ++ s → p ≡ q
fronts p q r s len e =
    sym (take-append_seam p r) ∙ ap (λ (l : List ℕ). take (length p) l) e ∙ ap (λ (n : ℕ). take n (q ++ s)) len ∙ take-append_seam q s

-- the same, of a front of what was put
shorter : (old one text : List ℕ) (count j m : ℕ) → count ≤ length old → count + (j + m) ≤ length one → j + m ≤ length text
    → take (count + (j + m)) one ≡ take count old ++ take (j + m) text → take (count + j) one ≡ take count old ++ take j text
shorter old one text count j m within fits le e =
    let split : take (count + j) one ++ take m (drop (count + j) one) ≡ take (count + (j + m)) one =
    sym (take-add (count + j) m one) ∙ ap (λ (n : ℕ). take n one) (omega arith) in
    let parts : take count old ++ take (j + m) text ≡ (take count old ++ take j text) ++ take m (drop j text) =
    ap (λ (l : List ℕ). take count old ++ l) (take-add j m text) ∙ sym (append_assoc (take count old) (take j text) (take m (drop j text))) in
    fronts (take (count + j) one) (take count old ++ take j text) (take m (drop (count + j) one)) (take m (drop j text))
    (length-take-le (count + j) one (omega arith)
    ∙ sym (length-append (take count old) (take j text)
    ∙ (λ i. length-take-le count old within i + length-take-le j text (omega arith) i)))
    (split ∙ e ∙ parts)

-- first k bytes, and then the last k, which are all
pub overlapped : (old one two text : List ℕ) (count k j : ℕ) → count ≤ length old → j + k ≡ length text → j ≤ k → count + k ≤ length one
    → take (count + k) one ≡ take count old ++ take k text → take (count + j + k) two ≡ take (count + j) one ++ take (length text - j) (drop j text)
    → take (count + length text) two ≡ take count old ++ text
overlapped old one two text count k j within whole le fits first last =
    let m = k - j in
    let same : j + m ≡ k = omega arith in
    let front : take (count + j) one ≡ take count old ++ take j text =
    shorter old one text count j m within (omega arith) (omega arith)
    (ap (λ (n : ℕ). take (count + n) one) same ∙ first ∙ ap (λ (n : ℕ). take count old ++ take n text) (sym same)) in
    ap (λ (n : ℕ). take n two) (omega arith) ∙ last ∙ ap (λ (l : List ℕ). take (count + j) one ++ l) (take_rest text j)
    ∙ ap (λ (l : List ℕ). l ++ drop j text) front
    ∙ append_assoc (take count old) (take j text) (drop j text)
    ∙ ap (λ (l : List ℕ). take count old ++ l) (take-append-drop j text)

-- the same of all that was put
pub front_put : (old one text : List ℕ) (count j : ℕ) → count ≤ length old → count + length text ≤ length one → j ≤ length text
    → take (count + length text) one ≡ take count old ++ text → take (count + j) one ≡ take count old ++ take j text
front_put old one text count j within fits le e =
    let m = length text - j in
    let same : j + m ≡ length text = omega arith in
    shorter old one text count j m within (omega (arith, fits, same)) (omega (arith, same))
    (ap (λ (n : ℕ). take (count + n) one) same ∙ e ∙ ap (λ (l : List ℕ). take count old ++ l) (sym (take_all (j + m) text (omega (arith, same)))))

-- one byte of what was put, put anew
pub put_anew : (bytes front text : List ℕ) (n start at byte : ℕ) → take n bytes ≡ front ++ text → length front ≡ start → at < length text
    → take n (set bytes (start + at) byte) ≡ front ++ set text at byte
put_anew bytes front text n start at byte put size lt =
    let all = ap length put ∙ length-append front text in
    let most = length-take n bytes in
    let within : start + at < n = omega (arith, all, most, size, lt) in
    let same : start + at - start ≡ at = omega arith in
    take-set-lt n bytes (start + at) byte within ∙ ap (λ (xs : List ℕ). set xs (start + at) byte) put
    ∙ set-append_right front text start (start + at) byte size (omega arith) ∙ ap (λ (i : ℕ). front ++ set text i byte) same
