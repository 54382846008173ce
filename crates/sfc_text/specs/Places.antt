-- Whether two reserved words or two delimiters are one: each has a place in a list.
use Rattle.std.specs.Prelude.{ℕ, Bool, nat_eq}
use Rattle.sfc_base.specs.declared.keyword.Keyword.{Keyword}
use Rattle.sfc_base.specs.declared.keyword.Keyword.TheVariants as keyword
use Rattle.sfc_base.specs.declared.delimiter.Delimiter.{Delimiter}
use Rattle.sfc_base.specs.declared.delimiter.Delimiter.TheVariants as sign

abbrev pub keyword_place : Keyword → ℕ
keyword_place keyword.Action = 0
keyword_place keyword.And = 1
keyword_place keyword.At = 2
keyword_place keyword.Bool = 3
keyword_place keyword.Configuration = 4
keyword_place keyword.Dint = 5
keyword_place keyword.Else = 6
keyword_place keyword.Elsif = 7
keyword_place keyword.EndAction = 8
keyword_place keyword.EndConfiguration = 9
keyword_place keyword.EndIf = 10
keyword_place keyword.EndProgram = 11
keyword_place keyword.EndResource = 12
keyword_place keyword.EndStep = 13
keyword_place keyword.EndTransition = 14
keyword_place keyword.EndVar = 15
keyword_place keyword.False = 16
keyword_place keyword.From = 17
keyword_place keyword.If = 18
keyword_place keyword.InitialStep = 19
keyword_place keyword.Int = 20
keyword_place keyword.Mod = 21
keyword_place keyword.Not = 22
keyword_place keyword.On = 23
keyword_place keyword.Or = 24
keyword_place keyword.Program = 25
keyword_place keyword.Resource = 26
keyword_place keyword.Step = 27
keyword_place keyword.Task = 28
keyword_place keyword.Then = 29
keyword_place keyword.Time = 30
keyword_place keyword.To = 31
keyword_place keyword.Transition = 32
keyword_place keyword.True = 33
keyword_place keyword.Var = 34
keyword_place keyword.VarExternal = 35
keyword_place keyword.VarGlobal = 36
keyword_place keyword.With = 37
keyword_place keyword.Xor = 38

abbrev pub delimiter_place : Delimiter → ℕ
delimiter_place sign.Assign = 0
delimiter_place sign.LessOrEqual = 1
delimiter_place sign.GreaterOrEqual = 2
delimiter_place sign.NotEqual = 3
delimiter_place sign.Colon = 4
delimiter_place sign.Semicolon = 5
delimiter_place sign.Comma = 6
delimiter_place sign.Open = 7
delimiter_place sign.Close = 8
delimiter_place sign.Dot = 9
delimiter_place sign.Plus = 10
delimiter_place sign.Minus = 11
delimiter_place sign.Star = 12
delimiter_place sign.Slash = 13
delimiter_place sign.Ampersand = 14
delimiter_place sign.Less = 15
delimiter_place sign.Greater = 16
delimiter_place sign.Equal = 17

abbrev pub same_keyword : Keyword → Keyword → Bool
same_keyword k j = nat_eq (keyword_place k) (keyword_place j)

abbrev pub same_delimiter : Delimiter → Delimiter → Bool
same_delimiter d e = nat_eq (delimiter_place d) (delimiter_place e)
