-- What may stand first in a rule and behind it, and whether one token decides.
use Rattle.std.specs.Prelude.{[], ◌∷◌, ◌++◌, Bool, true, false, ◌||◌, ◌&&◌, not, cond}
use Rattle.sfc_base.specs.declared.delimiter.Delimiter.TheVariants as sign
use Rattle.sfc_base.specs.declared.keyword.Keyword.TheVariants as keyword
use Rattle.sfc_base.specs.Case.{same_word}
use Rattle.sfc_tokens.specs.Tokens.{Kinds}
use Rattle.sfc_text.specs.Places.{same_keyword, same_delimiter}
use Rattle.sfc_text.specs.Marks.{Mark, Marks, Word, Sign, AnyName, Named, AnInteger, ABased, AnInt, ADint, ATruth, ADuration, ALocation, is_any}
use Rattle.sfc_text.specs.Sorts.{Sort, AnExpression, AnOperand, Branches}
use Rattle.sfc_text.specs.Rules.{Rule, token, nothing, map, both, either, many, chain, ahead, inner, counted}

-- one of these stands first
abbrev pub begins : Marks → Kinds → Bool
begins ms [] = false
begins ms (t ∷ ts) = is_any ms t

-- whether one token can have both marks
abbrev pub meet : Mark → Mark → Bool
meet (Word k) (Word j) = same_keyword k j
meet (Sign d) (Sign e) = same_delimiter d e
meet AnyName AnyName = true
meet AnyName (Named w) = true
meet (Named w) AnyName = true
meet (Named v) (Named w) = same_word v w
meet AnInteger AnInteger = true
meet ABased ABased = true
meet AnInt AnInt = true
meet ADint ADint = true
meet ATruth ATruth = true
meet ADuration ADuration = true
meet ALocation ALocation = true
meet _ _ = false

abbrev pub meets : Mark → Marks → Bool
meets m [] = false
meets m (n ∷ ns) = meet m n || meets m ns

abbrev pub overlap : Marks → Marks → Bool
overlap [] ns = false
overlap (m ∷ ms) ns = meets m ns || overlap ms ns

-- what may stand first in one of a sort
abbrev pub first_of : Sort → Marks
first_of s = Sign sign.Minus ∷ Word keyword.Not ∷ AnInteger ∷ ABased ∷ AnInt ∷ ADint ∷ ATruth ∷ ADuration ∷ Word keyword.True
    ∷ Word keyword.False ∷ AnyName ∷ Sign sign.Open ∷ []

-- what may stand behind one of a sort and be read as a part of it
abbrev pub more_of : Sort → Marks
more_of AnExpression = Sign sign.Dot ∷ Sign sign.Star ∷ Sign sign.Slash ∷ Word keyword.Mod ∷ Sign sign.Plus ∷ Sign sign.Minus
    ∷ Sign sign.Less ∷ Sign sign.Greater ∷ Sign sign.LessOrEqual ∷ Sign sign.GreaterOrEqual ∷ Sign sign.Equal ∷ Sign sign.NotEqual
    ∷ Word keyword.And ∷ Sign sign.Ampersand ∷ Word keyword.Xor ∷ Word keyword.Or ∷ []
more_of AnOperand = Sign sign.Dot ∷ []
more_of Branches = []

-- whether the rule may take no token at all
abbrev pub empty : {X : Type 0} → Rule X → Bool
empty (token marks value) = false
empty (nothing y) = true
empty (map f a) = empty a
empty (both f a b) = empty a && empty b
empty (either a b) = empty a || empty b
empty (many f a) = true
empty (chain f a s) = empty a
empty (ahead p a b) = empty a || empty b
empty (inner s f) = false
empty (counted count a) = empty a

-- what may stand first
abbrev pub first : {X : Type 0} → Rule X → Marks
first (token marks value) = marks
first (nothing y) = []
first (map f a) = first a
first (both f a b) = first a ++ cond (empty a) (first b) []
first (either a b) = first a ++ first b
first (many f a) = first a
first (chain f a s) = first a ++ cond (empty a) (first s ++ cond (empty s) (first a) []) []
first (ahead p a b) = first a ++ first b
first (inner s f) = first_of s
first (counted count a) = first a

-- what may stand behind it and be read as a part of it
abbrev pub more : {X : Type 0} → Rule X → Marks
more (token marks value) = []
more (nothing y) = []
more (map f a) = more a
more (both f a b) = more b ++ cond (empty b) (more a) []
more (either a b) = cond (empty b) (first a) [] ++ (more a ++ more b)
more (many f a) = more a ++ first a
more (chain f a s) = more a ++ first s
more (ahead p a b) = more a ++ more b
more (inner s f) = more_of s
more (counted count a) = more a

-- one token ahead decides
abbrev pub fine : {X : Type 0} → Rule X → Bool
fine (token marks value) = true
fine (nothing y) = true
fine (map f a) = fine a
fine (both f a b) = fine a && (fine b && not (overlap (more a) (first b)))
fine (either a b) = fine a && (fine b && (not (empty a) && not (overlap (first a) (first b))))
fine (many f a) = fine a && (not (empty a) && not (overlap (more a) (first a)))
fine (chain f a s) =
    fine a && (fine s && (not (empty a) && (not (empty s) && (not (overlap (more s) (first a)) && not (overlap (more a) (first s))))))
fine (ahead p a b) = fine a && fine b
fine (inner s f) = true
fine (counted count a) = fine a
