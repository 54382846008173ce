-- Each reserved word and each delimiter has a place of its own.
use Rattle.std.proofs.Common.{◌≡◌, true, List, [], ◌∷◌, get_or, refl, sym, ap, ◌∙◌}
use Rattle.std.proofs.lemmas.Bool.{eqb-true}
use Rattle.sfc_base.specs.declared.keyword.Keyword.{Keyword}
use Rattle.sfc_base.specs.declared.keyword.Keyword.TheVariants as keyword
use Rattle.sfc_base.specs.declared.delimiter.Delimiter.{Delimiter}
use Rattle.sfc_base.specs.declared.delimiter.Delimiter.TheVariants as sign
use Rattle.sfc_text.specs.Places.{keyword_place, delimiter_place, same_keyword, same_delimiter}

abbrev keywords : List Keyword
keywords = keyword.Action ∷ keyword.And ∷ keyword.At ∷ keyword.Bool ∷ keyword.Configuration ∷ keyword.Dint ∷ keyword.Else ∷ keyword.Elsif ∷ keyword.EndAction ∷ keyword.EndConfiguration ∷ keyword.EndIf ∷ keyword.EndProgram ∷ keyword.EndResource ∷ keyword.EndStep ∷ keyword.EndTransition ∷ keyword.EndVar ∷ keyword.False ∷ keyword.From ∷ keyword.If ∷ keyword.InitialStep ∷ keyword.Int ∷ keyword.Mod ∷ keyword.Not ∷ keyword.On ∷ keyword.Or ∷ keyword.Program ∷ keyword.Resource ∷ keyword.Step ∷ keyword.Task ∷ keyword.Then ∷ keyword.Time ∷ keyword.To ∷ keyword.Transition ∷ keyword.True ∷ keyword.Var ∷ keyword.VarExternal ∷ keyword.VarGlobal ∷ keyword.With ∷ keyword.Xor ∷ []

abbrev delimiters : List Delimiter
delimiters = sign.Assign ∷ sign.LessOrEqual ∷ sign.GreaterOrEqual ∷ sign.NotEqual ∷ sign.Colon ∷ sign.Semicolon ∷ sign.Comma ∷ sign.Open ∷ sign.Close ∷ sign.Dot ∷ sign.Plus ∷ sign.Minus ∷ sign.Star ∷ sign.Slash ∷ sign.Ampersand ∷ sign.Less ∷ sign.Greater ∷ sign.Equal ∷ []

keyword_back : (k : Keyword) → get_or keywords (keyword_place k) keyword.Xor ≡ k
keyword_back keyword.Action = refl
keyword_back keyword.And = refl
keyword_back keyword.At = refl
keyword_back keyword.Bool = refl
keyword_back keyword.Configuration = refl
keyword_back keyword.Dint = refl
keyword_back keyword.Else = refl
keyword_back keyword.Elsif = refl
keyword_back keyword.EndAction = refl
keyword_back keyword.EndConfiguration = refl
keyword_back keyword.EndIf = refl
keyword_back keyword.EndProgram = refl
keyword_back keyword.EndResource = refl
keyword_back keyword.EndStep = refl
keyword_back keyword.EndTransition = refl
keyword_back keyword.EndVar = refl
keyword_back keyword.False = refl
keyword_back keyword.From = refl
keyword_back keyword.If = refl
keyword_back keyword.InitialStep = refl
keyword_back keyword.Int = refl
keyword_back keyword.Mod = refl
keyword_back keyword.Not = refl
keyword_back keyword.On = refl
keyword_back keyword.Or = refl
keyword_back keyword.Program = refl
keyword_back keyword.Resource = refl
keyword_back keyword.Step = refl
keyword_back keyword.Task = refl
keyword_back keyword.Then = refl
keyword_back keyword.Time = refl
keyword_back keyword.To = refl
keyword_back keyword.Transition = refl
keyword_back keyword.True = refl
keyword_back keyword.Var = refl
keyword_back keyword.VarExternal = refl
keyword_back keyword.VarGlobal = refl
keyword_back keyword.With = refl
keyword_back keyword.Xor = refl

delimiter_back : (d : Delimiter) → get_or delimiters (delimiter_place d) sign.Equal ≡ d
delimiter_back sign.Assign = refl
delimiter_back sign.LessOrEqual = refl
delimiter_back sign.GreaterOrEqual = refl
delimiter_back sign.NotEqual = refl
delimiter_back sign.Colon = refl
delimiter_back sign.Semicolon = refl
delimiter_back sign.Comma = refl
delimiter_back sign.Open = refl
delimiter_back sign.Close = refl
delimiter_back sign.Dot = refl
delimiter_back sign.Plus = refl
delimiter_back sign.Minus = refl
delimiter_back sign.Star = refl
delimiter_back sign.Slash = refl
delimiter_back sign.Ampersand = refl
delimiter_back sign.Less = refl
delimiter_back sign.Greater = refl
delimiter_back sign.Equal = refl

pub one_keyword : (k j : Keyword) → same_keyword k j ≡ true → k ≡ j
one_keyword k j e = sym (keyword_back k) ∙ ap (λ n. get_or keywords n keyword.Xor) (eqb-true (keyword_place k) (keyword_place j) e) ∙ keyword_back j

pub one_delimiter : (d e : Delimiter) → same_delimiter d e ≡ true → d ≡ e
one_delimiter d e h = sym (delimiter_back d) ∙ ap (λ n. get_or delimiters n sign.Equal) (eqb-true (delimiter_place d) (delimiter_place e) h) ∙ delimiter_back e
