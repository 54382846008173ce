-- Work from word to word.
use Rattle.std.proofs.Common.{◌≡◌, ℕ, ◌+◌, ◌≤◌, Bool, false, List, length, arith, ◌∙◌, sym, refl, inl, inr, eq-eqb}
use Rattle.std.specs.Int.{div_ceil}
use Rattle.std.proofs.lemmas.Bool.{cases_eq, cases_lt, ne_eqb}
use Rattle.std.proofs.lemmas.List.{get_or_past, ext_get_or}
use Rattle.sfc_flags.specs.Flags.{flag}
use Rattle.sfc_flags.specs.Words.{word_of, ArePut, AreDone}

module _ {A : Type 0} (rows : ℕ → A) (old : ℕ → A) where
  pub begun : AreDone 0 rows old old
  begun = record { done = λ a lt. absurd (omega arith); rest = λ a le. refl }

  -- one word more, whose rows are given by what the actions had before
  pub more_by : (given mid new : ℕ → A) (k : ℕ) → AreDone k rows old mid → ArePut k given mid new
      → ((a : ℕ) → word_of a ≡ k → given a ≡ rows a) → AreDone (k + 1) rows old new
  more_by given mid new k so_far put same = record {
    done = λ a lt. elim (cases_eq (word_of a) k) [
      | inl e ↦ put a ∙ rw (eq-eqb (word_of a) k e) (same a e)
      | inr d ↦ put a ∙ rw (ne_eqb (word_of a) k d) (so_far.done a (omega arith))
    ];
    rest = λ a le. put a ∙ rw (ne_eqb (word_of a) k (λ e. omega arith)) (so_far.rest a (omega arith));
  }

  pub more : (mid new : ℕ → A) (k : ℕ) → AreDone k rows old mid → ArePut k rows mid new → AreDone (k + 1) rows old new
  more mid new k so_far put = more_by rows mid new k so_far put (λ a e. refl)

  -- all words are done
  pub all_done : (n k : ℕ) (new : ℕ → A) → div_ceil n 64 ≤ k → AreDone k rows old new → ((a : ℕ) → n ≤ a → new a ≡ rows a)
      → (a : ℕ) → new a ≡ rows a
  all_done n k new le so_far past a = elim (cases_lt a n) [
    | inl lt ↦ so_far.done a (omega arith)
    | inr ge ↦ past a ge
  ]

pub past : (n a : ℕ) (flags : List Bool) → length flags ≡ n → n ≤ a → flag flags a ≡ false
past n a flags e le = get_or_past flags a false (omega arith)

pub same_flags : (n : ℕ) (xs ys : List Bool) → length xs ≡ n → length ys ≡ n → ((a : ℕ) → flag xs a ≡ flag ys a) → xs ≡ ys
same_flags n xs ys ex ey each = ext_get_or false xs ys (ex ∙ sym ey) (λ a lt. each a)
